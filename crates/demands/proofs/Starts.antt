-- Where histories start: any sound state on a flash that is erased from each fill on, and the fresh device on erased flash.
use Rattle.std.specs.Prelude.{ℕ, ◌+◌, ◌*◌, ◌<◌, true, not, ◌&&◌, ◌≡◌, List, get_or, replicate}
use Rattle.std.proofs.Math.Path.{sym, ap}
use Rattle.std.proofs.Common.{◌∙◌, subst, arith, ext_get_or}
use Rattle.std.proofs.Math.Logic.{by_cases}
use Rattle.std.proofs.Math.Decide.{dec_lt}
use Rattle.std.proofs.lemmas.Bool.{not-false}
use Rattle.std.proofs.Math.ListN.{length, get_or-eq_default}
use Rattle.std.proofs.lemmas.List.{length-replicate}
use Rattle.rules.specs.Counting.{tabulate}
use Rattle.rules.specs.Extents.{none}
use Rattle.rules.specs.Lent.{Lent, fill_of}
use Rattle.rules.specs.Shape.{sizes, lengths, shape, shaped}
use Rattle.rules.specs.Sound.{sound}
use Rattle.rules.specs.Device.{blocks, lines, at, extents, device_of, head_of, words_of}
use Rattle.rules.specs.Calls.{fresh_device, from_sizes, fresh}
use Rattle.rules.specs.declared.Refusal.{Refusal}
use Rattle.laws.specs.Bools.{and_split}
use Rattle.laws.specs.Cells.{length-tabulate, get_or-tabulate, replicate-at}
use Rattle.laws.specs.Runs.{runs_holes}
use Rattle.laws.specs.Fresh.{fresh-fill, fresh-blocks, fresh_lines, fresh_at, fresh-sound}
use Rattle.demands.specs.Flash.{Cell, erased, hole, contents}
use Rattle.demands.proofs.Shows.{see-hole, Clean}
use Rattle.laws.specs.Sound.{Sizes, Storable}
use Rattle.laws.specs.Shapes.{sizes-true, pages_fit}
use Rattle.laws.specs.States.{device-lines, device-blocks, device-fill, words-fill}
use Rattle.laws.specs.Refused.{refuse_none}
use Rattle.laws.specs.Kept.{device-storable, device-is}
use Rattle.laws.specs.Makes.{make-leaves, make-sound}
use Rattle.demands.specs.Host.{reads, ErasedFromFill, begin}
use Rattle.demands.specs.Demand2.{begin_fresh}
use Rattle.demands.proofs.Worlds.{Faithful, reads-contents}

-- ---- a sound state

module _ (s : Lent) (z : shaped s ≡ true) (e : sound s ≡ true) where
  module _ (f : List Cell) (c : ErasedFromFill s f) where
    begin-clean : Clean (device_of s) f
    unfolding device_of
    begin-clean = record {
      whole = rw (device-blocks s) c.whole;
      blank = λ b o h k i. let g : b < s.head.blocks = omega (arith, device-blocks s) in c.blank b o g (omega (arith, device-fill s b g)) i;
    }

    begin-reads : (l : ℕ) → l < s.head.logical → reads s f l ≡ contents (device_of s) f l
    begin-reads l h =
        ap (λ (x : Lent). reads x f l) (sym (device-is s z e)) ∙ reads-contents (device_of s) f (device-storable s z e) l (omega (arith, device-lines s))

    begin-says : (l : ℕ) → contents (device_of s) f l ≡ get_or (tabulate s.head.logical (reads s f)) l hole
    unfolding contents
    begin-says l =
        let m = s.head.logical in
        by_cases (dec_lt l m)
        (λ h. sym (get_or-tabulate m (reads s f) l hole h ∙ begin-reads l h))
        (λ h. see-hole f (at (device_of s) l) (get_or-eq_default (device_of s).table none {n = l} (omega (arith, device-lines s)))
        ∙ sym (get_or-eq_default (tabulate m (reads s f)) hole {n = l} (omega (arith, length-tabulate m (reads s f)))))

    begin-is : begin s f ≡ record { state = words_of (device_of s); flash = f; programmed = (device_of s).fills; table = tabulate s.head.logical (reads s f) }
    unfolding begin device_of
    begin-is = ap (λ (x : Lent). record { state = x; flash = f; programmed = tabulate s.head.blocks (fill_of s); table = tabulate s.head.logical (reads s f) }) (sym (device-is s z e))

    pub begin-holds : Faithful s.head.logical (begin s f)
    begin-holds = record {
      device = device_of s;
      flash = f;
      table = tabulate s.head.logical (reads s f);
      is = begin-is;
      storable = device-storable s z e;
      lines = device-lines s;
      agrees = record { clean = begin-clean; size = length-tabulate s.head.logical (reads s f) ∙ sym (device-lines s); says = begin-says };
    }

-- ---- the fresh device

-- flash that is erased, of a state's size
abbrev pub erased_flash : Lent → List Cell
erased_flash s = replicate (s.head.blocks * s.head.pages) erased

pub erased-all : (s : Lent) → ErasedFromFill s (erased_flash s)
erased-all s = record {
  whole = length-replicate (s.head.blocks * s.head.pages) erased;
  blank = λ b o h k i. replicate-at erased (s.head.blocks * s.head.pages) (b * s.head.pages + o);
}

every : {A : Type 0} (n : ℕ) (x : A) (f : ℕ → A) → ((i : ℕ) → i < n → f i ≡ x) → replicate n x ≡ tabulate n f
every n x f h =
    ext_get_or x (replicate n x) (tabulate n f) (length-replicate n x ∙ sym (length-tabulate n f))
    (λ i k. let t : i < n = omega (arith, length-replicate n x) in replicate-at x n i ∙ sym (get_or-tabulate n f i x t ∙ h i t))

module _ (b n l m : ℕ) (z : sizes b n l m ≡ true) where
  is_sized : Sizes b n l m
  is_sized = sizes-true b n l m z

  fresh-storable : Storable (fresh_device b n l m)
  unfolding fresh_device extents
  fresh-storable = record {
    sizes = rw (fresh-blocks b n l m, fresh_lines b n l m) is_sized;
    sound = fresh-sound b n l m is_sized.n-low (omega (arith, is_sized.b-low)) (pages_fit is_sized);
    few = omega (arith, ap length (runs_holes n 0 l));
  }

  -- on erased flash it begins as any state does: no page is programmed, and every line reads as a hole
  fresh-begins : let s = words_of (fresh_device b n l m) in begin_fresh s ≡ begin s (erased_flash s)
  unfolding begin_fresh begin words_of head_of contents
  fresh-begins =
      let d = fresh_device b n l m in
      let s = words_of d in
      let f = erased_flash s in
      λ i. record {
        state = s;
        flash = f;
        programmed = every (blocks d) 0 (fill_of s) (λ c h. words-fill d c ∙ fresh-fill b n l m c) i;
        table = every (lines d) hole (reads s f) (λ k h. reads-contents d f fresh-storable k h ∙ see-hole f (at d k) (fresh_at b n l m k)) i;
      }

-- an accepted fresh leaves the words of that device, whatever was lent
module _ (b n l m : ℕ) (es bs ss : List ℕ) (e : (fresh b n l m es bs ss).refusal ≡ 0) where
  leaves : (sizes b n l m ≡ true) × ((fresh b n l m es bs ss).after ≡ words_of (fresh_device b n l m))
  unfolding fresh shape
  leaves =
      let p = make-leaves (from_sizes b n l m) es bs ss e in
      let size = sizes b n l m in
      let fit = lengths b n m (length es) (length bs) (length ss) in
      ((and_split size fit (not-false (size && fit) (refuse_none (not (size && fit)) Refusal.Shape 0 p.0).0)).0, p.1)

  pub made-storable : Storable (fresh_device b n l m)
  made-storable = fresh-storable b n l m leaves.0

  pub made-begins : let s = (fresh b n l m es bs ss).after in begin_fresh s ≡ begin s (erased_flash s)
  made-begins = subst (λ (s : Lent). begin_fresh s ≡ begin s (erased_flash s)) (sym leaves.1) (fresh-begins b n l m leaves.0)

  -- a sound state
  pub fresh-leaves-sound : (shaped (fresh b n l m es bs ss).after ≡ true) × (sound (fresh b n l m es bs ss).after ≡ true)
  unfolding fresh
  fresh-leaves-sound = make-sound (from_sizes b n l m) es bs ss made-storable e
