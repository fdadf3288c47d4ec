-- The block that a reclaim empties, the pages that it copies, and what it leaves. The choice of the victim is `victim`, and nothing else knows it.
use Rattle.std.specs.Prelude.{ℕ, ◌+◌, ◌*◌, ◌/◌, ◌%◌, cond, List, map, eqb, get_or, set, replicate}
use Rattle.std.proofs.lemmas.List.Edits.{sets}
use Rattle.rules.specs.Counting.{count, most, picks}
use Rattle.rules.specs.Extents.{none}
use Rattle.rules.specs.Device.{Device, blocks, named, valid, stale_in}

-- 01, reclaim: the victim is the block with most stale pages, lowest number on a tie
unfoldable pub victim : Device → ℕ
victim d = most (blocks d) (stale_in d)

-- its mapped pages, in physical order
unfoldable pub sources : ℕ → Device → List ℕ
sources v d = map (λ o. v * d.pages + o) (picks d.pages (named d v))

-- where what a line names goes: a hole stays one; a page of block v goes into block r, behind the mapped pages that lie before it in v; any other
-- page stays
unfoldable pub goes : ℕ → ℕ → Device → ℕ → ℕ
goes v r d p = cond (eqb p none) none (cond (eqb (p / d.pages) v) (r * d.pages + count (p % d.pages) (named d v)) p)

-- one cell for each page of the device, its label or its contents: the cells of the pages ps, copied one after the other to page `to` and those after it
unfoldable pub copied : {A : Type 0} → A → ℕ → List ℕ → List A → List A
copied empty to ps cells = sets cells to (map (λ p. get_or cells p empty) ps)

-- such cells when block v is reclaimed: the cells of its mapped pages are copied into the reserve from offset 0, and those of block v are then empty
unfoldable pub moved : {A : Type 0} → A → ℕ → Device → List A → List A
moved empty v d cells = sets (copied empty (d.reserve * d.pages) (sources v d) cells) (v * d.pages) (replicate d.pages empty)

-- block v emptied into the reserve: the copies' labels go along; v has fill 0, its labels are erased, and it becomes the reserve
unfoldable pub reclaimed_at : ℕ → Device → Device
reclaimed_at v d = record {
  pages = d.pages;
  slots = d.slots;
  table = map (goes v d.reserve d) d.table;
  fills = set (set d.fills d.reserve (valid d v)) v 0;
  spare = moved none v d d.spare;
  reserve = v;
  last = d.last;
}

unfoldable pub reclaimed : Device → Device
reclaimed d = reclaimed_at (victim d) d
