-- A device, its flash and what every line is to show: they agree, and go on agreeing when a call is accepted and the host does what it asks for.
use Rattle.std.specs.Prelude.{ℕ, ◌+◌, ◌≤◌, ◌<◌, ◌≡◌, refl, List, length, get_or, replicate}
use Rattle.std.proofs.Common.{sym, ap, ◌∙◌, arith}
use Rattle.std.proofs.lemmas.List.{length-replicate}
use Rattle.std.proofs.lemmas.List.Edits.{sets}
use Rattle.std.proofs.Math.Seq.{length-sets}
use Rattle.rules.specs.Counting.{tabulate}
use Rattle.rules.specs.Device.{Device, lines, stale, free}
use Rattle.rules.specs.Placement.{targets, puts, places}
use Rattle.rules.specs.Request.{with_table, numbered, written, trimmed}
use Rattle.rules.specs.Reclaim.{victim, reclaimed}
use Rattle.laws.specs.Cells.{length-tabulate, get_or-tabulate, sets_tells, replicate-at}
use Rattle.laws.specs.Device.{SoundDevice}
use Rattle.laws.specs.Order.{length-targets, targets_open, puts-all}
use Rattle.laws.specs.Lines.{trimmed-lines}
use Rattle.laws.specs.Reclaimed.{re_lines}
use Rattle.laws.specs.Gains.{victim-chosen}
use Rattle.demands.specs.Flash.{Cell, value, Seen, hole, cell, contents}
use Rattle.demands.proofs.Shows.{Clean, program, write-shows, trim-clean, trim-shows, trim-keeps, vacate, vacate-clean, vacate-keeps}

pub record Agrees (d : Device) (f : List Cell) (t : List Seen) : Type 0 where
  pub clean : Clean d f
  pub size : length t ≡ lines d
  pub says : (l : ℕ) → contents d f l ≡ get_or t l hole

numbered-clean : (k : ℕ) (d : Device) (f : List Cell) → Clean d f → Clean (numbered k d) f
unfolding numbered with_table
numbered-clean k d f c = record { whole = c.whole; blank = c.blank }

numbered-shows : (k : ℕ) (d : Device) (f : List Cell) (l : ℕ) → contents (numbered k d) f l ≡ contents d f l
unfolding numbered with_table contents
numbered-shows k d f l = refl

numbered-lines : (k : ℕ) (d : Device) → lines (numbered k d) ≡ lines d
unfolding numbered with_table
numbered-lines k d = refl

-- the contents of n pages, 0 where the list ends
abbrev pub filled_up : ℕ → List ℕ → List ℕ
filled_up n xs = tabulate n (λ i. get_or xs i 0)

abbrev pub cells : ℕ → List ℕ → List Seen
cells n xs = tabulate n (λ i. cell (value (get_or xs i 0)))

pub agrees-write : (k l n : ℕ) (xs : List ℕ) (d : Device) (f : List Cell) (t : List Seen) → SoundDevice d → Agrees d f t → l + n ≤ lines d → n ≤ free d
    → Agrees (written k l n d) (program (places l n d) (filled_up n xs) f) (sets t l (cells n xs))
unfolding written puts places
agrees-write k l n xs d f t s a h r =
    let bs = targets l n d in
    let size = length-targets l n d in
    let v = targets_open l n d r in
    let p = puts-all l n d s r h in
    let z = length-tabulate n (λ i. get_or xs i 0) in
    let w = write-shows l bs (filled_up n xs) d f s a.clean v (omega arith) (omega arith) in
    let d' = puts l n d in
    let f' = program (places l n d) (filled_up n xs) f in
    let many = length-tabulate n (λ i. cell (value (get_or xs i 0))) in
    record {
      clean = numbered-clean k d' f' w.clean;
      size = length-sets t l (cells n xs) ∙ a.size ∙ sym p.lines ∙ sym (numbered-lines k d');
      says = λ j. numbered-shows k d' f' j ∙ sets_tells hole (contents d' f') (cells n xs) t l (omega (arith, a.size))
          (λ i j q e. w.shows i j (omega arith) e
          ∙ ap (λ (x : ℕ). cell (value x)) (get_or-tabulate n (λ i. get_or xs i 0) i 0 (omega arith))
          ∙ sym (get_or-tabulate n (λ i. cell (value (get_or xs i 0))) i hole (omega arith)))
          (λ j q. w.keeps j (λ x y. q x (omega arith)) ∙ a.says j) j;
    }

pub agrees-trim : (k l n : ℕ) (d : Device) (f : List Cell) (t : List Seen) → Agrees d f t → l + n ≤ lines d → Agrees (trimmed k l n d) f (sets t l (replicate n hole))
agrees-trim k l n d f t a h =
    let m = length-replicate n hole in
    record {
      clean = trim-clean k l n d f a.clean;
      size = length-sets t l (replicate n hole) ∙ a.size ∙ sym (trimmed-lines k l n d);
      says = sets_tells hole (contents (trimmed k l n d) f) (replicate n hole) t l (omega (arith, a.size))
          (λ i j q e. trim-shows k l n d f h j (omega arith) (omega arith) ∙ sym (replicate-at hole n i))
          (λ j q. trim-keeps k l n d f j (λ x y. q x (omega arith)) ∙ a.says j);
    }

pub agrees-reclaim : (d : Device) (f : List Cell) (t : List Seen) → SoundDevice d → Agrees d f t → 0 < stale d → Agrees (reclaimed d) (vacate (victim d) d f) t
unfolding reclaimed
agrees-reclaim d f t s a h =
    let c = victim-chosen d s h in
    record {
      clean = vacate-clean d s f a.clean (victim d) c.inside c.other;
      size = a.size ∙ sym (re_lines d s (victim d) c.inside c.other);
      says = λ l. vacate-keeps d s f a.clean (victim d) c.inside c.other l ∙ a.says l;
    }
