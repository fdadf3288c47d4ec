-- Extents as a slice of records, laid into flat words: slot i is the words 3i (logical), 3i + 1 (physical) and 3i + 2 (count).
use Rattle.std.specs.Prelude.{ℕ, zero, suc, ◌*◌, ◌≤◌, ◌≡◌, List, [], ◌∷◌, length, take}
use Rattle.rules.specs.declared.Extent.{Extent}

-- slot i is the extent e, where there is such a slot
unfoldable pub put : List ℕ → ℕ → Extent → List ℕ
put [] i e = []
put (a ∷ []) i e = a ∷ []
put (a ∷ b ∷ []) i e = a ∷ b ∷ []
put (a ∷ b ∷ c ∷ ws) zero e = e.logical ∷ e.physical ∷ e.count ∷ ws
put (a ∷ b ∷ c ∷ ws) (suc i) e = a ∷ b ∷ c ∷ put ws i e

-- the slots from i on are the extents es, as far as there are slots
unfoldable pub laid_at : ℕ → List Extent → List ℕ → List ℕ
laid_at i es [] = []
laid_at i es (a ∷ []) = a ∷ []
laid_at i es (a ∷ b ∷ []) = a ∷ b ∷ []
laid_at zero [] (a ∷ b ∷ c ∷ ws) = a ∷ b ∷ c ∷ ws
laid_at zero (e ∷ es) (a ∷ b ∷ c ∷ ws) = e.logical ∷ e.physical ∷ e.count ∷ laid_at zero es ws
laid_at (suc i) es (a ∷ b ∷ c ∷ ws) = a ∷ b ∷ c ∷ laid_at i es ws

-- the first slots are the extents, as far as there are slots, and the rest is as it was
unfoldable pub laid : List Extent → List ℕ → List ℕ
laid es ws = laid_at 0 es ws

-- ext is the words of k extents: the first of the words ws, where k is no more than a state can have slots
pub record First (ws : List ℕ) (k : ℕ) (ext : List ℕ) : Type 0 where
  pub all : length ext ≡ 3 * k
  pub first : k ≤ 8192 → take (3 * k) ws ≡ ext
