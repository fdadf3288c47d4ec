-- Extents: what a list of them says of a logical page, when two are joinable, and the extents of a plain table.
-- A piece of an answer is written as an extent is: (logical, physical, count).
use Rattle.std.specs.Prelude.{ℕ, zero, suc, ◌+◌, ◌-◌, ◌*◌, ◌/◌, Bool, cond, ◌&&◌, List, [], ◌∷◌, eqb, ltb, get_or, set}
use Rattle.rules.specs.declared.Extent.{Extent}

-- 01, Numbers: the word that marks an erased spare entry, and a hole in a read
abbrev pub none : ℕ
none = 4294967295

abbrev pub extent : ℕ → ℕ → ℕ → Extent
extent l p c = record { logical = l; physical = p; count = c }

-- the logical page after the extent's last, as a whole number
abbrev pub end : Extent → ℕ
end e = e.logical + e.count

-- the page that holds logical page l, or `none` where it is a hole. The extents stand in rising order: what lies below the first is in none of them
unfoldable pub lookup : List Extent → ℕ → ℕ
lookup [] l = none
lookup (e ∷ es) l =
    cond (ltb l e.logical) none (cond (ltb l (end e)) (e.physical + (l - e.logical)) (lookup es l))

-- 01, a sound state, rule 2: same block, next logical start = logical start + count, and the same for physical
unfoldable pub joinable : ℕ → Extent → Extent → Bool
joinable n a b =
    eqb (a.physical / n) (b.physical / n)
    && eqb b.logical (a.logical + a.count)
    && eqb b.physical (a.physical + a.count)

-- an extent in front of others, joined with the first of them where rule 2 asks
unfoldable pub join : ℕ → Extent → List Extent → List Extent
join n a [] = a ∷ []
join n a (b ∷ bs) = cond (joinable n a b) (extent a.logical a.physical (a.count + b.count) ∷ bs) (a ∷ b ∷ bs)

-- the extents of a table whose first line is logical page l, with N = n: an extent of one page for each line that is no hole, joined wherever rule 2 asks
unfoldable pub runs : ℕ → ℕ → List ℕ → List Extent
runs n l [] = []
runs n l (p ∷ ps) = cond (eqb p none) (runs n (suc l) ps) (join n (extent l p 1) (runs n (suc l) ps))

-- ---- extents in words: three a slot

abbrev pub slot : List ℕ → ℕ → Extent
slot ws i = extent (get_or ws (3 * i) 0) (get_or ws (3 * i + 1) 0) (get_or ws (3 * i + 2) 0)

-- extent e in the place of slot i
unfoldable pub put_slot : List ℕ → ℕ → Extent → List ℕ
put_slot ws i e = set (set (set ws (3 * i) e.logical) (3 * i + 1) e.physical) (3 * i + 2) e.count

-- u slots from slot i on
unfoldable pub slots_from : List ℕ → ℕ → ℕ → List Extent
slots_from ws i zero = []
slots_from ws i (suc u) = slot ws i ∷ slots_from ws (i + 1) u

unfoldable pub flat : List Extent → List ℕ
flat [] = []
flat (e ∷ es) = e.logical ∷ e.physical ∷ e.count ∷ flat es
