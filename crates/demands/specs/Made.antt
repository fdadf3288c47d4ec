-- Demand 2, of whatever begins a history: one corollary for every make (rules, Makes). An accepted make of a storable device leaves a sound state; and from there,
-- on flash that is erased from each block's fill on, any sequence of calls meets the demand. Fresh is one, on flash that is all erased.
-- This is the statement; `demand_2_made` (Proved) proves it.
use Rattle.std.specs.Prelude.{ℕ, true, ◌≡◌, List}
use Rattle.rules.specs.Shape.{shaped}
use Rattle.rules.specs.Sound.{sound}
use Rattle.rules.specs.Makes.{Make, make}
use Rattle.demands.specs.Flash.{Cell}
use Rattle.demands.specs.Host.{Ask, ErasedFromFill, begin}
use Rattle.demands.specs.Demand2.{Demand2}

-- what holds of make a, whatever words are lent to it, once it is accepted
pub record Made (a : Make) (extent_words block_words spare : List ℕ) : Type 0 where
  pub shape : shaped (make a extent_words block_words spare).after ≡ true
  pub whole : sound (make a extent_words block_words spare).after ≡ true
  -- each line shows at the beginning what it reads as there
  pub begins : (f : List Cell) → ErasedFromFill (make a extent_words block_words spare).after f → (asks : List Ask)
      → Demand2 (begin (make a extent_words block_words spare).after f) a.device asks
