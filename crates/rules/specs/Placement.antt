-- Where a write's pages go, and the device with them put there. The order of the blocks is `targets`, and nothing else knows it.
use Rattle.std.specs.Prelude.{ℕ, zero, suc, ◌+◌, ◌*◌, not, cond, ◌&&◌, List, [], ◌∷◌, eqb, ltb, leb, set, replicate}
use Rattle.rules.specs.Counting.{first}
use Rattle.rules.specs.Extents.{runs}
use Rattle.rules.specs.Device.{Device, blocks, fill}
use Rattle.rules.specs.declared.Extent.{Extent}

-- ---- one page

-- line l goes to the page at the fill of block b: the page's label is l, and the fill is one more
unfoldable pub put_at : ℕ → ℕ → Device → Device
put_at b l d =
    let page = b * d.pages + fill d b in
    record {
      pages = d.pages;
      slots = d.slots;
      table = set d.table l page;
      fills = set d.fills b (suc (fill d b));
      spare = set d.spare page l;
      reserve = d.reserve;
      last = d.last;
    }

-- ---- lines l, l + 1, .., each to the block that the list gives it

unfoldable pub puts_at : ℕ → List ℕ → Device → Device
puts_at l [] d = d
puts_at l (b ∷ bs) d = puts_at (suc l) bs (put_at b l d)

-- the pages that they take
unfoldable pub places_at : ℕ → List ℕ → Device → List ℕ
places_at l [] d = []
places_at l (b ∷ bs) d = (b * d.pages + fill d b) ∷ places_at (suc l) bs (put_at b l d)

-- ---- which block takes which page

-- the lowest-numbered block, not the reserve, that has room for m pages; for one page it is the lowest whose fill is below N
unfoldable pub target : ℕ → Device → ℕ
target m d = first (blocks d) (λ b. not (eqb b d.reserve) && leb (fill d b + m) d.pages)

-- 01, write: pages are taken one at a time from the lowest-numbered block, not the reserve, whose fill is below N
unfoldable pub in_turn : ℕ → ℕ → Device → List ℕ
in_turn l zero d = []
in_turn l (suc n) d = let b = target 1 d in b ∷ in_turn (suc l) n (put_at b l d)

-- the block of each of n pages. 02, T-04: a write goes into the lowest-numbered block outside the reserve that has room for all n pages; only if there
-- is none is 01's order used
unfoldable pub targets : ℕ → ℕ → Device → List ℕ
targets l n d = cond (ltb (target n d) (blocks d)) (replicate n (target n d)) (in_turn l n d)

unfoldable pub puts : ℕ → ℕ → Device → Device
puts l n d = puts_at l (targets l n d) d

unfoldable pub places : ℕ → ℕ → Device → List ℕ
places l n d = places_at l (targets l n d) d

-- 01, write: the answer lists one (l, p, count) per block used, in order, before joining: the new pages by themselves
unfoldable pub pieces : ℕ → ℕ → Device → List Extent
pieces l n d = runs d.pages l (places l n d)
