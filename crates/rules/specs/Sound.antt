-- Refusal 2: a sound state, rule by rule. Each rule is the paper's sentence; sums are whole numbers.
use Rattle.std.specs.Prelude.{ℕ, suc, ◌+◌, ◌-◌, ◌*◌, Bool, not, cond, ◌&&◌, leb, ltb, eqb, length, get_or}
use Rattle.rules.specs.Counting.{sum, count, all}
use Rattle.rules.specs.Extents.{none, end, joinable}
use Rattle.rules.specs.Lent.{Lent, slot_of, fill_of, valid_of, label_of, block_of, offset_of}

-- 01, a sound state, rule 1: extents in use number at most M and fill the first slots, in rising logical order, each of 1 or more
-- pages, disjoint, ending at or below L. Unused slots are all zero.
unfoldable pub rule1 : Lent → Bool
rule1 s =
    let used = s.head.used in
    leb used s.head.slots
    && all used (λ i. leb 1 (slot_of s i).count)
    && all (used - 1) (λ i. leb (end (slot_of s i)) (slot_of s (suc i)).logical)
    && all used (λ i. leb (end (slot_of s i)) s.head.logical)
    && all (length s.extent_words - 3 * used) (λ k. eqb (get_or s.extent_words (3 * used + k) 0) 0)

-- rule 2: no extent crosses a block: its first page's offset and its count come to at most N. No two neighbours are joinable.
unfoldable pub rule2 : Lent → Bool
rule2 s =
    let used = s.head.used in
    all used (λ i. leb (offset_of s (slot_of s i).physical + (slot_of s i).count) s.head.pages)
    && all (used - 1) (λ i. not (joinable s.head.pages (slot_of s i) (slot_of s (suc i))))

-- rule 3: fill is at most N. Spare entries below a block's fill are less than L; those from the fill on are erased.
unfoldable pub rule3 : Lent → Bool
rule3 s =
    all s.head.blocks (λ b.
    leb (fill_of s b) s.head.pages
    && all s.head.pages (λ o.
    let label = label_of s (b * s.head.pages + o) in
    cond (ltb o (fill_of s b)) (ltb label s.head.logical) (eqb label none)))

-- 01: a page below its block's fill is programmed
abbrev pub programmed : Lent → ℕ → Bool
programmed s p = ltb (offset_of s p) (fill_of s (block_of s p))

-- rule 4: each mapped page lies below B x N and below its block's fill, and its spare entry is its logical page.
unfoldable pub rule4 : Lent → Bool
rule4 s =
    all s.head.used (λ i. all (slot_of s i).count (λ k.
    let page = (slot_of s i).physical + k in
    ltb page (s.head.blocks * s.head.pages)
    && programmed s page
    && eqb (label_of s page) ((slot_of s i).logical + k)))

-- the mapped pages in block b, extent by extent
unfoldable pub mapped_in : Lent → ℕ → ℕ
mapped_in s b = sum s.head.used (λ i. count (slot_of s i).count (λ k. eqb (block_of s ((slot_of s i).physical + k)) b))

-- rule 5: a block's valid count is the number of mapped pages in it.
unfoldable pub rule5 : Lent → Bool
rule5 s = all s.head.blocks (λ b. eqb (valid_of s b) (mapped_in s b))

-- rule 6: the reserve is below B and has fill 0.
unfoldable pub rule6 : Lent → Bool
rule6 s = ltb s.head.reserve s.head.blocks && eqb (fill_of s s.head.reserve) 0

unfoldable pub sound : Lent → Bool
sound s = rule1 s && rule2 s && rule3 s && rule4 s && rule5 s && rule6 s
