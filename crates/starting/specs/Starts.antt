-- Where a write starts: with the first block that has room for all of its pages or, where none has, with the first that has room for one. This is what the
-- callers of `start_of`, `pieces_of` and `place` go by: on a device that placement cannot tell from the words it is the rules' first page and the rules' pieces.
use Rattle.std.specs.Prelude.{ℕ, ◌+◌, ◌*◌, ◌≤◌, ◌<◌, min, ◌≡◌, refl, List, [], ◌∷◌, Bool, false, ◌&&◌, ◌⊎◌, ltb, leb, get_or, drop}
use Rattle.std.specs.Prelude.{Option, None, Some, MatchOption, unwrap_or}
use Rattle.std.specs.Option.{option_or}
use Rattle.std.proofs.Math.Path.{sym, ap}
use Rattle.std.proofs.Common.{◌∙◌, subst}
use Rattle.std.proofs.Math.Logic.{inl, inr, by_cases, ⊎_elim}
use native.Mathlib.Omega.{arith}
use Rattle.std.proofs.Math.Decide.{dec_lt}
use borrow.Author.Tests.{lt-ltb, le-ltb, le-leb, lt-leb, leb-true}
use Rattle.std.proofs.Math.ListN.{length}
use Rattle.rules.specs.Counting.{first}
use Rattle.rules.specs.Blocks.{stride, fill_word}
use Rattle.rules.specs.Extents.{none}
use Rattle.rules.specs.Device.{Device, lines, free}
use Rattle.rules.specs.Placement.{pieces}
use Rattle.rules.specs.declared.Extent.{Extent}
use Rattle.laws.specs.Cells.{length-tabulate, get_or-tabulate}
use Rattle.laws.specs.Bools.{and_split}
use Rattle.laws.specs.Picks.{first_le, first_passes, first-is, first-none}
use Rattle.laws.specs.Device.{SoundDevice}
use Rattle.laws.specs.Spread.{room_at, taken, spread, fitting, start_block}
use Rattle.laws.specs.Order.{spread-pieces, start-inside}
use Rattle.laws.specs.Alike.{Alike, alike-free, alike-pieces}
use Rattle.laws.specs.Growth.{first_place, pieces-begin}
use Rattle.starting.specs.Bare.{fills_of, bare}
use Rattle.starting.specs.Rest.{rest, takes, rest-drop, rest_some}
use Rattle.starting.specs.declared.Start.{Start}

-- the records of blocks of which none is fuller than N, at most as many and as long as 01's numbers have them
pub record Startable (blocks n : ℕ) (blk : List ℕ) : Type 0 where
  pub size : stride * blocks ≤ length blk
  pub blocks-few : blocks ≤ 1024
  pub pages-few : n ≤ 256
  pub full : (b : ℕ) → b < blocks → fill_word blk b ≤ n

-- what `start_of` finds for `want` pages
pub record Starts (n reserve blocks : ℕ) (blk : List ℕ) (want : ℕ) (r : Start) : Type 0 where
  pub block : r.block ≡ start_block n reserve (fills_of blocks blk) want
  pub page : r.block < blocks → r.page ≡ r.block * n + fill_word blk r.block

module _ (n reserve blocks : ℕ) (blk : List ℕ) where
  size : length (fills_of blocks blk) ≡ blocks
  size = length-tabulate blocks (fill_word blk)

  -- the room of block b, by its fill in the words and in the list
  abbrev room_of : ℕ → ℕ
  room_of b = room_at n reserve b (fill_word blk b)

  abbrev room_in : ℕ → ℕ
  room_in b = room_at n reserve b (get_or (fills_of blocks blk) b 0)

  room-same : (b : ℕ) → b < blocks → room_in b ≡ room_of b
  room-same b h = ap (room_at n reserve b) (get_or-tabulate blocks (fill_word blk) b 0 h)

  abbrev test : ℕ → ℕ → Bool
  test m b = ltb 0 m && leb m (room_in b)

  test-false : (m b : ℕ) → b < blocks → (0 < m → room_of b < m) → test m b ≡ false
  test-false m b h r =
      by_cases (dec_lt 0 m)
      (λ s. rw (lt-ltb 0 m s) (lt-leb m (room_in b) (omega (arith, room-same b h, r s))))
      (λ s. rw (le-ltb 0 m (omega arith)) refl)

  fitting-is : (m b : ℕ) → 0 < m → b < blocks → m ≤ room_of b → ((j : ℕ) → j < b → room_of j < m) → fitting n reserve (fills_of blocks blk) m ≡ b
  unfolding fitting
  fitting-is m b s h r t =
      first-is (length (fills_of blocks blk)) (test m) b (omega (arith, size))
      (rw (lt-ltb 0 m s) (le-leb m (room_in b) (omega (arith, room-same b h))))
      (λ j a. test-false m j (omega arith) (λ _. t j a))

  fitting-none : (m : ℕ) → (0 < m → (j : ℕ) → j < blocks → room_of j < m) → fitting n reserve (fills_of blocks blk) m ≡ blocks
  unfolding fitting
  fitting-none m t =
      first-none (length (fills_of blocks blk)) (test m) (λ j a. let h : j < blocks = omega (arith, size) in test-false m j h (λ s. t s j h)) ∙ size

  -- ---- the pass over the records

  -- none before block a takes any
  abbrev Nothing : ℕ → ℕ → Type 0
  Nothing want a = (j : ℕ) → j < a → takes n reserve blocks blk j want ≡ 0

  -- before block b none takes all of `want` pages, and `any` is the first that takes some
  pub record Tried (want b : ℕ) (any : Option ℕ) : Type 0 where
    pub inside : b ≤ blocks
    pub short : 0 < want → (j : ℕ) → j < b → room_of j < want
    pub some : MatchOption any (Nothing want b) (λ a. (a < b) × (0 < takes n reserve blocks blk a want) × Nothing want a)

  module _ (want b : ℕ) where
    module _ (any : Option ℕ) (p : Tried want b any) (h : b < blocks) (m : ℕ) (t : m ≡ takes n reserve blocks blk b want) where
      -- it takes all of them
      pub tried_found : 0 < m → m ≡ want → b ≡ start_block n reserve (fills_of blocks blk) want
      unfolding start_block taken
      tried_found s e =
          let f = fitting-is want b (omega arith) h (omega arith) (p.short (omega arith)) in
          sym (rw f (rw (lt-ltb b (length (fills_of blocks blk)) (omega (arith, size))) refl))

      next-short : (m < want) ⊎ (m ≡ 0) → 0 < want → (j : ℕ) → j < b + 1 → room_of j < want
      unfolding taken
      next-short s o j g =
          by_cases (dec_lt j b)
          (λ a. p.short o j a)
          (λ a. let e : j ≡ b = omega arith in ⊎_elim (λ z. omega (arith, ap room_of e)) (λ z. omega (arith, ap room_of e)) s)

    -- it takes some, which is new where none did before
    pub tried_some : (any : Option ℕ) → Tried want b any → b < blocks → (m : ℕ) → m ≡ takes n reserve blocks blk b want
        → m < want → 0 < m → Tried want (b + 1) (option_or any (Some b))
    tried_some None p h m t s o = record {
      inside = omega arith;
      short = next-short None p h m t (inl s);
      some = (omega arith, omega arith, p.some);
    }
    tried_some (Some a) p h m t s o = record {
      inside = omega arith;
      short = next-short (Some a) p h m t (inl s);
      some = (omega (arith, p.some.0), p.some.1, p.some.2);
    }

    -- it takes none
    pub tried_none : (any : Option ℕ) → Tried want b any → b < blocks → (m : ℕ) → m ≡ takes n reserve blocks blk b want → m ≡ 0 → Tried want (b + 1) any
    tried_none None p h m t o = record {
      inside = omega arith;
      short = next-short None p h m t (inr o);
      some = λ j g. by_cases (dec_lt j b)
          (p.some j)
          (λ d. let e : j ≡ b = omega arith in omega (arith, ap (λ (x : ℕ). takes n reserve blocks blk x want) e));
    }
    tried_none (Some a) p h m t o = record {
      inside = omega arith;
      short = next-short (Some a) p h m t (inr o);
      some = (omega (arith, p.some.0), p.some.1, p.some.2);
    }

    -- none takes all of them
    pub tried_end : (any : Option ℕ) → Tried want b any → blocks ≤ b → unwrap_or any blocks ≡ start_block n reserve (fills_of blocks blk) want
    unfolding start_block taken
    tried_end any p h =
        let none-fits = fitting-none want (λ s j a. p.short s j (omega arith)) in
        sym (rw none-fits (rw (le-ltb blocks (length (fills_of blocks blk)) (omega (arith, size))) (any-is any p.some)))
      where
        any-is : (any : Option ℕ) → MatchOption any (Nothing want b) (λ a. (a < b) × (0 < takes n reserve blocks blk a want) × Nothing want a)
            → fitting n reserve (fills_of blocks blk) (min want 1) ≡ unwrap_or any blocks
        any-is None q = fitting-none (min want 1) (λ s j c. omega (arith, q j (omega arith)))
        any-is (Some a) q = fitting-is (min want 1) a (omega (arith, q.1)) (omega (arith, q.0, p.inside)) (omega (arith, q.1)) (λ j c. omega (arith, q.2 j c, q.1))

  -- ---- the block that is found

  fitting_le : (m : ℕ) → fitting n reserve (fills_of blocks blk) m ≤ blocks
  unfolding fitting
  fitting_le m = omega (arith, first_le (length (fills_of blocks blk)) (test m), size)

  fitting-room : (m : ℕ) → fitting n reserve (fills_of blocks blk) m < blocks → m ≤ room_of (fitting n reserve (fills_of blocks blk) m)
  unfolding fitting
  fitting-room m h =
      let b = first (length (fills_of blocks blk)) (test m) in
      omega (
        arith,
        leb-true m (room_in b) (and_split (ltb 0 m) (leb m (room_in b)) (first_passes (length (fills_of blocks blk)) (test m) (omega (arith, size)))).1,
        room-same b h,
      )

  module _ (want from : ℕ) (is : from ≡ start_block n reserve (fills_of blocks blk) want) where
    -- it is the first with room for all of them or the first with room for one
    abbrev either : ℕ → Type 0
    either m = from ≡ fitting n reserve (fills_of blocks blk) m

    start-either : either want ⊎ either (min want 1)
    unfolding start_block
    start-either =
        let fs = fills_of blocks blk in
        by_cases (dec_lt (fitting n reserve fs want) (length fs))
        (λ h. inl (rw (lt-ltb (fitting n reserve fs want) (length fs) h) at is))
        (λ h. inr (rw (le-ltb (fitting n reserve fs want) (length fs) (omega arith)) at is))

    pub start_le : from ≤ blocks
    start_le = ⊎_elim (λ e. omega (arith, fitting_le want)) (λ e. omega (arith, fitting_le (min want 1))) start-either

    start-takes : from < blocks → 0 < want → 0 < takes n reserve blocks blk from want
    unfolding taken
    start-takes h some =
        ⊎_elim
        (λ e. omega (arith, fitting-room want (omega arith), ap room_of e))
        (λ e. omega (arith, fitting-room (min want 1) (omega arith), ap room_of e))
        start-either

-- ---- the rules' pieces

-- the pieces from the block on that is found are the rules'
pub bare-pieces : (blocks n reserve : ℕ) (blk spare : List ℕ) (l want from : ℕ) → blocks * n ≤ none → 0 < want → want ≤ free (bare blocks n reserve blk spare)
    → from ≡ start_block n reserve (fills_of blocks blk) want → rest n reserve blocks blk from l want ≡ pieces l want (bare blocks n reserve blk spare)
unfolding bare
bare-pieces blocks n reserve blk spare l want from w some f e =
    rest-drop n reserve blocks blk from l want (start_le n reserve blocks blk want from e)
    ∙ ap (λ (s : ℕ). spread n reserve (drop s (fills_of blocks blk)) s l want) e
    ∙ spread-pieces want (bare blocks n reserve blk spare) some l f (rw (length-tabulate blocks (fill_word blk)) w)

-- ---- on a device with these pages, fills, labels and reserve

-- the page of the first piece, or 0 where there is none
unfoldable page_of : List Extent → ℕ
page_of [] = 0
page_of (e ∷ es) = e.physical

module _ (blocks n reserve : ℕ) (blk spare : List ℕ) (d : Device) (a : Alike (bare blocks n reserve blk spare) d) (s : SoundDevice d)
    (l want : ℕ) (some : 0 < want) (f : want ≤ free d) (h : l + want ≤ lines d) where
  pub pieces-on : (from : ℕ) → from ≡ start_block n reserve (fills_of blocks blk) want → rest n reserve blocks blk from l want ≡ pieces l want d
  pieces-on from e =
      let b = bare blocks n reserve blk spare in
      let size : length (fills_of blocks blk) ≡ blocks = length-tabulate blocks (fill_word blk) in
      let w : blocks * n ≤ none = subst (λ (k : ℕ). k * n ≤ none) size (unfold bare in rw (a.fills, a.pages) s.words) in
      bare-pieces blocks n reserve blk spare l want from w some (omega (arith, alike-free b d a)) e
      ∙ alike-pieces l want b d a

  pub first_on : (r : Start) → Starts n reserve blocks blk want r → r.page ≡ first_place l want d
  unfolding page_of bare
  first_on r e =
      let size : length (fills_of blocks blk) ≡ blocks = length-tabulate blocks (fill_word blk) in
      let inside : r.block < blocks = omega (
        arith,
        e.block,
        size,
        start-inside want (bare blocks n reserve blk spare) some (omega (arith, alike-free (bare blocks n reserve blk spare) d a)),
      ) in
      e.page inside
      ∙ sym (ap page_of (rest_some n reserve blocks blk r.block l want inside (start-takes n reserve blocks blk want r.block e.block inside some)))
      ∙ ap page_of (pieces-on r.block e.block ∙ (pieces-begin l want d s f h some).is)
