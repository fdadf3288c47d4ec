-- The rank of an offset: how many live offsets of the victim lie before it. Marks of one word an offset, and the sums of the marks before each.
use Rattle.std.specs.Prelude.{◌≡◌, ℕ, zero, suc, ◌+◌, ◌-◌, ◌*◌, ◌/◌, ◌%◌, ◌<◌, ◌≤◌}
use Rattle.std.specs.Prelude.{Bool, true, false, cond, ◌||◌, List, [], ◌∷◌, length, set, replicate, ◌==◌, ◌≢◌, nat_lt, slice_index, slice_set, refl}
use Rattle.std.proofs.Math.Bool.{or-false, or-true}
use Rattle.std.proofs.Common.{sym, ◌∙◌, subst, arith, div-add-mod', add-one, eq-eqb, ne_eqb, lt-ltb, le-ltb}
use Rattle.std.proofs.Math.Path.{ap}
use Rattle.std.proofs.Math.Logic.{by_cases}
use Rattle.std.proofs.Math.Decide.{dec_lt, ℕ_discrete}
use borrow.Rule.Slice.PartMut.{mid_of, put_mid}
use Rattle.std.proofs.lemmas.List.{length-replicate, get_or-replicate}
use Rattle.std.proofs.lemmas.List.Edits.{sets}
use Rattle.rules.specs.Counting.{one, sum, count}
use Rattle.rules.specs.Extents.{none, slot, slots_from}
use Rattle.rules.specs.declared.Extent.{Extent}
use Rattle.laws.specs.Bools.{cases}
use Rattle.laws.specs.Sums.{count-sum, sum_same, count_le, count_same, count_rise}
use Rattle.laws.specs.Cells.{sets_in, sets_other}
use Rattle.laws.specs.Slots.{slots-more}
use Rattle.words.specs.Store.{stored, stored_next, stored-read, stored-length}
use Rattle.choosing.specs.Part.{part_filled}
use Rattle.choosing.specs.Covered.{has_page, covered, holds-true, holds-low, holds-high, holds-block, covered_more}
use Rattle.choosing.specs.Over.{Elsewhere}

-- the ranks of the offsets up to n, where live says which are live
pub record Ranks (n : ℕ) (live : ℕ → Bool) (ranks : List ℕ) : Type 0 where
  pub long : n < length ranks
  pub rank : (o : ℕ) → o ≤ n → slice_index ranks o ≡ count o live

-- what it takes to put the pages of block v into block r
pub record Movable (n v r : ℕ) (ranks : List ℕ) : Type 0 where
  pub some : 1 ≤ n
  pub from : v * n + n ≤ none
  pub room : r * n + n ≤ none
  pub long : n < length ranks
  pub low : (o : ℕ) → o < n → slice_index ranks o ≤ o

-- an offset is live where the rank behind it is greater
unfoldable pub rises : List ℕ → ℕ → Bool
rises ranks o = nat_lt (slice_index ranks o) (slice_index ranks (o + 1))

pub rise_true : (ranks : List ℕ) (o : ℕ) → slice_index ranks o < slice_index ranks (o + 1) → rises ranks o ≡ true
unfolding rises
rise_true ranks o h = lt-ltb (slice_index ranks o) (slice_index ranks (o + 1)) h

pub rise_false : (ranks : List ℕ) (o : ℕ) → slice_index ranks (o + 1) ≤ slice_index ranks o → rises ranks o ≡ false
unfolding rises
rise_false ranks o h = le-ltb (slice_index ranks o) (slice_index ranks (o + 1)) h

-- ---- marks: 1 for each live offset

abbrev pub ones : ℕ → List ℕ
ones k = replicate k 1

-- the offsets of an extent marked, where it lies in block v
unfoldable pub marked_in : Extent → ℕ → ℕ → List ℕ → List ℕ
marked_in e n v ms = cond (e.physical / n == v) (sets ms (e.physical % n) (ones e.count)) ms

module _ (e : Extent) (n v : ℕ) (ms : List ℕ) where
  pub marked_here : e.physical / n ≡ v → marked_in e n v ms ≡ sets ms (e.physical % n) (ones e.count)
  unfolding marked_in
  marked_here h = rw (eq-eqb (e.physical / n) v h)

  pub marked_else : (e.physical / n ≢ v) → marked_in e n v ms ≡ ms
  unfolding marked_in
  marked_else h = rw (ne_eqb (e.physical / n) v h)

  -- a mark is put where the extent holds the page
  pub marked-at : e.physical % n + e.count ≤ n → n ≤ length ms → (o : ℕ) → o < n → (b : Bool) → slice_index ms o ≡ one b
      → slice_index (marked_in e n v ms) o ≡ one (b || has_page e (v * n + o))
  marked-at s l o h b eq =
      by_cases (ℕ_discrete (e.physical / n) v)
      (λ here. let p = e.physical in
      let w : length (ones e.count) ≡ e.count = length-replicate e.count 1 in
      let q : p ≡ v * n + p % n = sym (div-add-mod' p n) ∙ ap (λ (x : ℕ). x * n + p % n) here in
      ap (λ (xs : List ℕ). slice_index xs o) (marked_here here)
      ∙ by_cases (dec_lt o (p % n))
      (λ a. sets_other 0 (ones e.count) ms (p % n) o (λ x y. omega arith) ∙ eq
      ∙ ap one (sym (or-false b) ∙ ap (λ (c : Bool). b || c) (sym (holds-low e (v * n + o) (omega arith)))))
      (λ a. by_cases (dec_lt o (p % n + e.count))
      (λ t. sets_in 0 (ones e.count) ms (p % n) o (o - p % n) (omega arith) (omega arith) (omega arith)
      ∙ get_or-replicate e.count (o - p % n) 1 0 (omega arith)
      ∙ ap one (sym (or-true b) ∙ ap (λ (c : Bool). b || c) (sym (holds-true e (v * n + o) (omega arith) (omega arith)))))
      (λ t. sets_other 0 (ones e.count) ms (p % n) o (λ x y. omega arith) ∙ eq
      ∙ ap one (sym (or-false b) ∙ ap (λ (c : Bool). b || c) (sym (holds-high e (v * n + o) (omega arith)))))))
      (λ else. ap (λ (xs : List ℕ). slice_index xs o) (marked_else else) ∙ eq
      ∙ ap one (sym (or-false b) ∙ ap (λ (c : Bool). b || c) (sym (holds-block n v o e h s else))))

-- what the marks say after u slots
abbrev pub Marks : List ℕ → ℕ → ℕ → ℕ → List ℕ → Type 0
Marks ws u n v ms = (o : ℕ) → o < n → slice_index ms o ≡ one (covered (slots_from ws 0 u) n v o)

pub marks-none : (ws : List ℕ) (n v : ℕ) (ms : List ℕ) → ((o : ℕ) → o < n → slice_index ms o ≡ 0) → Marks ws 0 n v ms
unfolding slots_from covered
marks-none ws n v ms h o s = h o s

pub marks-more : (ws : List ℕ) (u n v : ℕ) (ms ms' : List ℕ) → (slot ws u).physical % n + (slot ws u).count ≤ n → n ≤ length ms
    → Marks ws u n v ms → ms' ≡ marked_in (slot ws u) n v ms → Marks ws (u + 1) n v ms'
marks-more ws u n v ms ms' s l m e o h =
    ap (λ (xs : List ℕ). slice_index xs o) e
    ∙ marked-at (slot ws u) n v ms s l o h (covered (slots_from ws 0 u) n v o) (m o h)
    ∙ ap one (sym (covered_more (slots_from ws 0 u) (slot ws u) n v o) ∙ ap (λ (es : List Extent). covered es n v o) (sym (slots-more ws 0 u u (omega arith))))

-- slots that lie elsewhere have no marks
pub marks-over : (ws : List ℕ) (u k n v : ℕ) (ms : List ℕ) → ((j : ℕ) → j < k → (slot ws (u + j)).physical % n + (slot ws (u + j)).count ≤ n) → n ≤ length ms
    → Elsewhere ws u k n v → Marks ws u n v ms → Marks ws (u + k) n v ms
marks-over ws u zero n v ms s l f m = let none : u ≡ u + 0 = omega arith in subst (λ (i : ℕ). Marks ws i n v ms) none m
marks-over ws u (suc k) n v ms s l f m =
    let next : u + k + 1 ≡ u + suc k = omega arith in
    subst (λ (i : ℕ). Marks ws i n v ms) next
    (marks-more ws (u + k) n v ms ms (s k (omega arith)) l (marks-over ws u k n v ms (λ j h. s j (omega arith)) l (λ j h. f j (omega arith)) m)
    (sym (marked_else (slot ws (u + k)) n v ms (f k (omega arith)))))

-- the part of the marks that is an extent's, from its offset o on, comes back filled with ones
pub marked-put : (e : Extent) (n v o : ℕ) (ms ys : List ℕ) → e.physical / n ≡ v → e.physical % n ≡ o → o + e.count ≤ n → n ≤ length ms
    → ys ≡ ones (length (mid_of o (o + e.count - o) ms)) → put_mid o (o + e.count - o) ms ys ≡ marked_in e n v ms
marked-put e n v o ms ys here at s l eq =
    part_filled o e.count ms ys 1 (omega arith) eq ∙ ap (λ (x : ℕ). sets ms x (ones e.count)) (sym at) ∙ sym (marked_here e n v ms here)

-- ---- sums of the marks before each offset

abbrev pub sums : List ℕ → ℕ → ℕ
sums ms o = sum o (λ j. slice_index ms j)

pub sums_none : (ms : List ℕ) → 0 ≡ sums ms 0
unfolding sum
sums_none ms = refl

pub sums_store : (ms ms' : List ℕ) (k o : ℕ) → o < length ms → ms' ≡ stored (sums ms) o ms → k ≡ sums ms o → slice_set ms' o k ≡ stored (sums ms) (o + 1) ms
sums_store ms ms' k o s e h = ap (set ms' o) h ∙ stored_next (sums ms) o ms ms' s e

-- a mark is read before it is overwritten
pub sums-read : (ms ms' : List ℕ) (o : ℕ) → ms' ≡ stored (sums ms) o ms → slice_index ms' o ≡ slice_index ms o
sums-read ms ms' o e = ap (λ (xs : List ℕ). slice_index xs o) e ∙ stored-read (sums ms) o ms o (omega arith)

pub sums-more : (ms ms' : List ℕ) (k o : ℕ) → ms' ≡ stored (sums ms) o ms → k ≡ sums ms o → k + slice_index ms' o ≡ sums ms (o + 1)
unfolding sum
sums-more ms ms' k o e h =
    rw (add-one o) (omega (arith, h, sums-read ms ms' o e))

pub stored_at : (f : ℕ → ℕ) (k : ℕ) (xs : List ℕ) (i : ℕ) → i < k → i < length xs → slice_index (stored f k xs) i ≡ f i
unfolding stored
stored_at f zero xs i h s = absurd (omega arith)
stored_at f (suc k) [] i h s = absurd (omega arith)
stored_at f (suc k) (x ∷ xs) zero h s = refl
stored_at f (suc k) (x ∷ xs) (suc i) h s = stored_at (λ j. f (suc j)) k xs i (omega arith) (omega arith)

pub marks_ranks : (ws : List ℕ) (u n v : ℕ) (ms rs : List ℕ) → n < length ms → Marks ws u n v ms → rs ≡ stored (sums ms) (n + 1) ms
    → Ranks n (covered (slots_from ws 0 u) n v) rs
marks_ranks ws u n v ms rs l m e = record {
  long = omega (arith, ap length e, stored-length (sums ms) (n + 1) ms);
  rank = λ o h. ap (λ (xs : List ℕ). slice_index xs o) e ∙ stored_at (sums ms) (n + 1) ms o (omega arith) (omega arith)
      ∙ sum_same o (λ j. slice_index ms j) (λ j. one (covered (slots_from ws 0 u) n v j)) (λ j s. m j (omega arith))
      ∙ sym (count-sum o (covered (slots_from ws 0 u) n v));
}

-- ---- from ranks back to what is live

module _ (n : ℕ) (live : ℕ → Bool) (ranks : List ℕ) (r : Ranks n live ranks) where
  pub rank_le : (o : ℕ) → o ≤ n → slice_index ranks o ≤ o
  rank_le o h = omega (arith, r.rank o h, count_le o live)

  pub rank-next : (o : ℕ) → o < n → slice_index ranks (o + 1) ≡ slice_index ranks o + one (live o)
  unfolding count
  rank-next o h = omega (arith, r.rank (o + 1) (omega arith), ap (λ (k : ℕ). count k live) (add-one o), r.rank o (omega arith))

  pub rank_below : (o : ℕ) → o < n → live o ≡ true → slice_index ranks o < count n live
  rank_below o h t = omega (arith, r.rank o (omega arith), count_rise o n live h t)

  pub rises-live : (o : ℕ) → o < n → rises ranks o ≡ live o
  rises-live o h =
      cases (live o)
      (λ t. rise_true ranks o (omega (arith, rank-next o h, ap one t)) ∙ sym t)
      (λ t. rise_false ranks o (omega (arith, rank-next o h, ap one t)) ∙ sym t)

  -- a page of block v has its place in block b
  pub ranks_movable : (v b : ℕ) → 1 ≤ n → v * n + n ≤ none → b * n + n ≤ none → Movable n v b ranks
  ranks_movable v b some from room = record { some = some; from = from; room = room; long = r.long; low = λ o h. rank_le o (omega arith) }

  pub ranks_rise : Ranks n (rises ranks) ranks
  ranks_rise = record {
    long = r.long;
    rank = λ o h. r.rank o h ∙ sym (count_same o (rises ranks) live (λ j s. rises-live j (omega arith)));
  }
