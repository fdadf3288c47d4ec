-- What the host does with an answer, and what that does to the flash; what each logical page is then to show, and what it reads as; histories of
-- requests with a host that does as listed. The demands speak in these words.
use Rattle.std.specs.Prelude.{ℕ, suc, ◌+◌, ◌-◌, ◌*◌, ◌/◌, ◌%◌, ◌≤◌, ◌<◌, cond, ◌≡◌, List, [], ◌∷◌, ◌++◌, eqb, length, get_or, set, take, replicate}
use Rattle.std.proofs.lemmas.List.Edits.{sets}
use Rattle.rules.specs.Counting.{tabulate}
use Rattle.rules.specs.Extents.{none, slots_from}
use Rattle.rules.specs.Lent.{Lent, fill_of}
use Rattle.rules.specs.Answers.{Outcome}
use Rattle.rules.specs.Calls.{Call, call}
use Rattle.rules.specs.declared.Head.{Head}
use Rattle.rules.specs.declared.Extent.{Extent}
use Rattle.demands.specs.Flash.{Cell, erased, value, Seen, hole, cell, unread, see}

-- a request and, for a write, what its pages are to hold, in order (0 where the list ends)
pub record Ask : Type 0 where
  pub request : Call
  pub contents : List ℕ

-- ---- what the host does

pub data Op : Type 0 where
  -- page, contents
  program : ℕ → ℕ → Op
  -- from page, to page
  copy : ℕ → ℕ → Op
  -- block
  erase : ℕ → Op

-- the pages of the pieces that an accepted write of lines l, l + 1, .. lists, in order, each with the contents of its line
unfoldable pub programs : ℕ → List ℕ → List Extent → List Op
programs l xs [] = []
programs l xs (e ∷ es) = tabulate e.count (λ i. Op.program (e.physical + i) (get_or xs (e.logical + i - l) 0)) ++ programs l xs es

-- the pages that an accepted reclaim lists, in order, to the pages from `to` on
unfoldable pub copies : ℕ → List ℕ → List Op
copies to [] = []
copies to (p ∷ ps) = Op.copy p to ∷ copies (suc to) ps

-- what the host must do by an accepted answer alone, and by the head that the request was given: the old reserve takes the copies, the new reserve is
-- then erased
unfoldable pub to_do : Call → List ℕ → Head → Outcome Lent → List Op
to_do (Call.write k l n out) xs h o = programs l xs (slots_from o.out 0 (get_or o.counts 0 0))
to_do (Call.trim k l n) xs h o = []
to_do (Call.read l n out) xs h o = []
to_do (Call.reclaim out) xs h o = copies (h.reserve * h.pages) (take (get_or o.counts 0 0) o.out) ++ Op.erase o.after.head.reserve ∷ []
to_do Call.report xs h o = []

unfoldable pub ops : Ask → Lent → List Op
ops a s = let o = call a.request s in cond (eqb o.refusal 0) (to_do a.request a.contents s.head o) []

-- ---- what that does to the flash, with N = n

unfoldable pub does : ℕ → Op → List Cell → List Cell
does n (Op.program p x) f = set f p (value x)
does n (Op.copy p q) f = set f q (get_or f p erased)
does n (Op.erase b) f = sets f (b * n) (replicate n erased)

unfoldable pub doing : ℕ → List Op → List Cell → List Cell
doing n [] f = f
doing n (o ∷ os) f = doing n os (does n o f)

-- how many pages of each block have been programmed since it was last erased
unfoldable pub marks : ℕ → Op → List ℕ → List ℕ
marks n (Op.program p x) m = set m (p / n) (suc (get_or m (p / n) 0))
marks n (Op.copy p q) m = set m (q / n) (suc (get_or m (q / n) 0))
marks n (Op.erase b) m = set m b 0

unfoldable pub marking : ℕ → List Op → List ℕ → List ℕ
marking n [] m = m
marking n (o ∷ os) m = marking n os (marks n o m)

-- page p may be programmed: it is erased, and it is the next of its block: every page before it has been programmed since the last erase, and no page
-- from it on has
pub record May (n p : ℕ) (f : List Cell) (m : List ℕ) : Type 0 where
  pub there : p < length f
  pub blank : get_or f p erased ≡ erased
  pub block : p / n < length m
  pub next : p % n ≡ get_or m (p / n) 0

abbrev pub Allowed : ℕ → Op → List Cell → List ℕ → Type 0
Allowed n (Op.program p x) f m = May n p f m
Allowed n (Op.copy p q) f m = May n q f m
Allowed n (Op.erase b) f m = b < length m

-- each of the host's steps is allowed when it comes
abbrev pub AllAllowed : ℕ → List Op → List Cell → List ℕ → Type 0
AllAllowed n [] f m = Unit {0}
AllAllowed n (o ∷ os) f m = Allowed n o f m × AllAllowed n os (does n o f) (marks n o m)

-- ---- what is to be shown

-- after an accepted request, by the request alone: the contents of a write, holes after a trim
unfoldable pub shown : Call → List ℕ → List Seen → List Seen
shown (Call.write k l n out) xs t = sets t l (tabulate n (λ i. cell (value (get_or xs i 0))))
shown (Call.trim k l n) xs t = sets t l (replicate n hole)
shown (Call.read l n out) xs t = t
shown (Call.reclaim out) xs t = t
shown Call.report xs t = t

-- what logical page l reads as: the answer of a read of this page names its physical page or a hole; a refused read shows nothing
unfoldable pub reads : Lent → List Cell → ℕ → Seen
reads s f l = let o = call (Call.read l 1 (replicate 3 0)) s in cond (eqb o.refusal 0) (see f (get_or o.out 1 none)) (unread o.refusal)

-- ---- histories

pub record World : Type 0 where
  pub state : Lent
  pub flash : List Cell
  -- pages of each block programmed since its last erase
  pub programmed : List ℕ
  -- what each line is to show
  pub table : List Seen

unfoldable pub step : Ask → World → World
step a w =
    let s = w.state in
    let o = call a.request s in
    let n = s.head.pages in
    record {
      state = o.after;
      flash = doing n (ops a s) w.flash;
      programmed = marking n (ops a s) w.programmed;
      table = cond (eqb o.refusal 0) (shown a.request a.contents w.table) w.table;
    }

unfoldable pub run : List Ask → World → World
run [] w = w
run (a ∷ rest) w = run rest (step a w)

-- flash that is erased from each block's fill on
pub record ErasedFromFill (s : Lent) (f : List Cell) : Type 0 where
  pub whole : length f ≡ s.head.blocks * s.head.pages
  pub blank : (b o : ℕ) → b < s.head.blocks → fill_of s b ≤ o → o < s.head.pages → get_or f (b * s.head.pages + o) erased ≡ erased

-- a history begins with a state and a flash; each line shows what it reads as there
unfoldable pub begin : Lent → List Cell → World
begin s f = record {
  state = s;
  flash = f;
  programmed = tabulate s.head.blocks (fill_of s);
  table = tabulate s.head.logical (reads s f);
}

-- in every step of a history the host may do what is listed
abbrev pub Programs : List Ask → World → Type 0
Programs [] w = Unit {0}
Programs (a ∷ rest) w = AllAllowed w.state.head.pages (ops a w.state) w.flash w.programmed × Programs rest (step a w)
