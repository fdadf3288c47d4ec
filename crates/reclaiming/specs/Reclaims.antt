-- The parts of a reclaim on a device's words: the sources, and the words of the device that `reclaimed_at` leaves.
use Rattle.std.specs.Prelude.{◌≡◌, ℕ, ◌+◌, ◌-◌, ◌*◌, ◌/◌, ◌%◌, ◌<◌, ◌≤◌, Bool, true, List, [], ◌∷◌, length, take, drop, ◌≢◌, slice_index, slice_index_or}
use Rattle.std.proofs.lemmas.Bool.{false≢true}
use Rattle.std.proofs.Math.Path.{refl, ap}
use Rattle.std.proofs.Common.{sym, ◌∙◌, arith, mod-lt, ext_get_or}
use Rattle.std.proofs.Math.Logic.{by_cases}
use Rattle.std.proofs.Math.Decide.{dec_lt, ℕ_discrete}
use Rattle.std.proofs.Math.ListN.{get_or-append}
use Rattle.std.proofs.Math.Seq.{take-append_seam}
use Rattle.rules.specs.Counting.{count, tabulate}
use Rattle.rules.specs.Extents.{none, extent, end, lookup}
use Rattle.rules.specs.Blocks.{stride, fill_word, valid_word, records}
use Rattle.rules.specs.declared.BlockRecord.{BlockRecord}
use Rattle.rules.specs.Calls.{over}
use Rattle.rules.specs.Device.{Device, blocks, lines, at, fill, named, valid, extents}
use Rattle.rules.specs.Reclaim.{sources, goes, moved, reclaimed_at}
use Rattle.rules.specs.declared.Extent.{Extent}
use Rattle.laws.specs.Bools.{cases, same_test}
use Rattle.laws.specs.Sums.{count_same}
use Rattle.laws.specs.Cells.{block_le, swept, map_same, length-tabulate, get_or-tabulate}
use Rattle.laws.specs.Rows.{Rows, lookup-before, lookup_in, lookup-after}
use Rattle.laws.specs.Unique.{extent_path}
use Rattle.laws.specs.Runs.{runs-rows, runs-lookup}
use Rattle.laws.specs.Norm.{norm, move, moves_to, goes_moves, moves_to_here, moves_to_else}
use Rattle.laws.specs.Device.{SoundDevice, page_lt, none-block}
use Rattle.laws.specs.Live.{stands, among-at}
use Rattle.laws.specs.Reclaimed.{re_blocks, re_fill-victim, re_fill-reserve, re_fill, length-sources, few-sources, source, source-page, nth}
use Rattle.laws.specs.Valid.{re_valid-victim, re_valid-reserve, re_valid}
use Rattle.laws.specs.Records.{records-length, records-fill, records-valid, words-records}
use Rattle.laws.specs.States.{table-lines}
use Rattle.laws.specs.Encoded.{reclaim-extents}
use Rattle.choosing.specs.Covered.{has_page, covered, holds-true, true-holds}
use Rattle.choosing.specs.Ranks.{Ranks, rises, rises-live}
use Rattle.reclaiming.specs.Remapped.{remapped}
use Rattle.choosing.specs.Sources.{live_pages, pages-same, length-below, length_over}
use Rattle.reclaiming.specs.Labels.{Copied}
use Rattle.reclaiming.specs.Emptied.{emptied, emptied-length, victim-block, reserve-block, rest-block}

-- ---- what the extents hold and what they say of a line

-- a page that they hold is that of some line
record Line (es : List Extent) (lo p : ℕ) : Type 0 where
  line : ℕ
  above : lo ≤ line
  is : lookup es line ≡ p

covered-line : (n hi : ℕ) (es : List Extent) (lo q v o : ℕ) → Rows n lo q hi es → covered es n v o ≡ true → Line es lo (v * n + o)
unfolding covered
covered-line n hi [] lo q v o h t = absurd (false≢true t)
covered-line n hi (e ∷ es) lo q v o h t =
    cases (has_page e (v * n + o))
    (λ s. let k = true-holds e (v * n + o) s in
    let l = e.logical + (v * n + o - e.physical) in
    record { line = l; above = omega (arith, h.0.above); is = lookup_in e es l (omega arith) (omega (arith, k.0, k.1)) ∙ omega (arith, k.0) })
    (λ s. let t' : covered es n v o ≡ true = rw s at t in
    let r = covered-line n hi es _ _ v o h.1 t' in
    record { line = r.line; above = omega (arith, r.above, h.0.above); is = lookup-after e es r.line r.above ∙ r.is })

line-covered : (es : List Extent) (l n v o : ℕ) → (v * n + o ≢ none) → lookup es l ≡ v * n + o → covered es n v o ≡ true
unfolding covered lookup
line-covered [] l n v o m e = absurd (m (sym e))
line-covered (x ∷ es) l n v o m e =
    by_cases (dec_lt l x.logical)
    (λ s. absurd (m (sym e ∙ lookup-before x es l s)))
    (λ s. by_cases (dec_lt l (end x))
    (λ t. let g = lookup_in x es l (omega arith) t in
    rw (holds-true x (v * n + o) (omega arith) (omega arith)))
    (λ t. let g : covered es n v o ≡ true = line-covered es l n v o m (sym (lookup-after x es l (omega arith)) ∙ e) in
    cases (has_page x (v * n + o)) (λ s. rw s) (λ s. rw s g)))

-- words are the records of what stands in them
tabulate-same : (fs : List ℕ) → tabulate (length fs) (λ i. slice_index fs i) ≡ fs
tabulate-same fs =
    ext_get_or 0 (tabulate (length fs) (λ i. slice_index fs i)) fs (length-tabulate (length fs) (λ i. slice_index fs i))
    (λ i h. get_or-tabulate (length fs) (λ j. slice_index fs j) i 0 (omega (arith, length-tabulate (length fs) (λ j. slice_index fs j))))

module _ (d : Device) (s : SoundDevice d) where
  pub block_room : (b : ℕ) → b < blocks d → b * d.pages + d.pages ≤ none
  block_room b h = omega (arith, block_le d.pages b (blocks d) h, s.words)

  length-live : (v : ℕ) (t : ℕ → Bool) → length (live_pages d.pages v t) ≡ count d.pages t
  unfolding live_pages
  length-live v t = length-below d.pages v t d.pages

  rows : Rows d.pages 0 none (lines d) (extents d)
  unfolding extents
  rows = runs-rows d.pages s.some d.table 0 (lines d) (table-lines d s) (omega arith)

  says : (l : ℕ) → lookup (extents d) l ≡ at d l
  unfolding extents
  says l = runs-lookup d.pages s.some d.table 0 l l (table-lines d s) (omega arith)

  -- the pages that the extents hold are the mapped ones
  pub covered-named : (v : ℕ) → v < blocks d → (o : ℕ) → o < d.pages → covered (extents d) d.pages v o ≡ named d v o
  unfolding named
  covered-named v a o h =
      let p = v * d.pages + o in
      let m : p ≡ none → ⊥ = λ g. omega (arith, page_lt d s v o a h) in
      same_test (covered (extents d) d.pages v o) (named d v o)
      (λ t. let r = covered-line d.pages (lines d) (extents d) 0 none v o rows t in
      among-at p d.table none r.line (sym (says r.line) ∙ r.is) m)
      (λ t. let r = stands p d.table none t in
      line-covered (extents d) r.line d.pages v o m (says r.line ∙ r.is))

  module _ (v : ℕ) (a : v < blocks d) (e : v ≡ d.reserve → ⊥) where
    -- ---- the map

    moves_same : (r p : ℕ) → moves_to d.pages (covered (extents d) d.pages v) v r p ≡ goes v r d p
    moves_same r p =
        by_cases (ℕ_discrete (p / d.pages) v)
        (λ here. let m : p % d.pages < d.pages = mod-lt p s.some in
        moves_to_here d.pages (covered (extents d) d.pages v) v r p here
        ∙ ap (λ (k : ℕ). r * d.pages + k) (count_same (p % d.pages) (covered (extents d) d.pages v) (named d v) (λ o h. covered-named v a o (omega arith)))
        ∙ sym (goes_moves v r d (none-block d s v a) p ∙ moves_to_here d.pages (named d v) v r p here))
        (λ else. moves_to_else d.pages (covered (extents d) d.pages v) v r p else ∙ sym (goes_moves v r d (none-block d s v a) p ∙ moves_to_else d.pages (named d v) v r p else))

    pub remapped-extents : remapped d.pages v d.reserve (extents d) ≡ extents (reclaimed_at v d)
    unfolding remapped
    remapped-extents =
        let g = moves_to d.pages (covered (extents d) d.pages v) v d.reserve in
        ap (norm d.pages) (map_same (move g) (move (goes v d.reserve d)) (extent 0 0 0) (extents d)
        (λ i h. let x = slice_index_or (extents d) i (extent 0 0 0) in extent_path (move g x) (move (goes v d.reserve d) x) refl (moves_same d.reserve x.physical) refl))
        ∙ reclaim-extents d s v a e

    -- ---- the list of copies

    pub pages-sources : live_pages d.pages v (covered (extents d) d.pages v) ≡ sources v d
    unfolding live_pages sources
    pages-sources = pages-same d.pages v (covered (extents d) d.pages v) (named d v) (λ o h. covered-named v a o h)

    module _ (ranks : List ℕ) (r : Ranks d.pages (covered (extents d) d.pages v) ranks) where
      pub rises-sources : live_pages d.pages v (rises ranks) ≡ sources v d
      rises-sources =
          pages-same d.pages v (rises ranks) (covered (extents d) d.pages v) (rises-live d.pages (covered (extents d) d.pages v) ranks r) ∙ pages-sources

      -- how many: the rank behind the last offset
      pub rank-sources : slice_index_or ranks d.pages 0 ≡ length (sources v d)
      rank-sources = r.rank d.pages (omega arith) ∙ sym (length-live v (covered (extents d) d.pages v)) ∙ ap length pages-sources

      pub count-sources : count d.pages (rises ranks) ≡ length (sources v d)
      count-sources = sym (length-live v (rises ranks)) ∙ ap length rises-sources

    -- ---- the labels

    module _ (out out' : List ℕ) (l : length (sources v d) ≤ length out) (f : out' ≡ over (sources v d) out) where
      pub listed-sources : take (length (sources v d)) out' ≡ sources v d
      unfolding over
      listed-sources = ap (take (length (sources v d))) f ∙ take-append_seam (sources v d) (drop (length (sources v d)) out)

      listed_at : (i : ℕ) → i < length (sources v d) → slice_index out' i ≡ v * d.pages + nth v d i
      unfolding over
      listed_at i h =
          ap (λ (xs : List ℕ). slice_index xs i) f ∙ get_or-append (sources v d) (drop (length (sources v d)) out) 0 i h
          ∙ source-page d s v a e i 0 (omega (arith, length-sources d s v a e))

      pub sources-copied : Copied d.pages d.reserve v out' (length (sources v d)) (length d.spare)
      sources-copied = record {
        listed = omega (arith, ap length f, length_over (sources v d) out l);
        few = few-sources d s v a e;
        other = e;
        to = omega (arith, s.whole, block_le d.pages d.reserve (blocks d) s.kept);
        from = omega (arith, s.whole, block_le d.pages v (blocks d) a);
        low = λ i h. omega (arith, listed_at i h);
        high = λ i h. omega (arith, listed_at i h, (source d s v a e i (omega (arith, length-sources d s v a e))).below);
      }

      pub moved-labels : swept none d.pages d.reserve v (take (length (sources v d)) out') d.spare ≡ (reclaimed_at v d).spare
      unfolding reclaimed_at moved swept
      moved-labels = ap (λ (ps : List ℕ). swept none d.pages d.reserve v ps d.spare) listed-sources

    -- ---- the block records

    -- which of three blocks it is
    block : {C : Type 0} (c : ℕ) → (c ≡ v → C) → (c ≡ d.reserve → C) → ((c ≢ v) → (c ≢ d.reserve) → C) → C
    block c x y z = by_cases (ℕ_discrete c v) x (λ f. by_cases (ℕ_discrete c d.reserve) y (z f))

    pub emptied-records : (ws : List ℕ) → ws ≡ records d.fills 0 (valid d) → emptied d.reserve v ws ≡ records (reclaimed_at v d).fills 0 (valid (reclaimed_at v d))
    emptied-records ws eq =
        let d' = reclaimed_at v d in
        let r = d.reserve in
        let new = emptied d.reserve v ws in
        let fill_in : BlockRecord → ℕ = λ x. x.fill in
        let valid_in : BlockRecord → ℕ = λ x. x.valid in
        let apart : d.reserve ≡ v → ⊥ = λ g. e (sym g) in
        let same : blocks (reclaimed_at v d) ≡ blocks d = re_blocks d s v a e in
        let size : length ws ≡ stride * blocks d = ap length eq ∙ records-length d.fills 0 (valid d) in
        let fills : (c : ℕ) → fill_word ws c ≡ fill d c = λ c. ap (λ (xs : List ℕ). fill_word xs c) eq ∙ records-fill d.fills 0 (valid d) c in
        let valids : (c : ℕ) → c < blocks d → valid_word ws c ≡ valid d c = λ c h. ap (λ (xs : List ℕ). valid_word xs c) eq ∙ records-valid d.fills 0 (valid d) c c h (omega arith) in
        sym (ap (λ (fs : List ℕ). records fs 0 (valid d')) (sym (tabulate-same d'.fills))
        ∙ words-records (blocks d') new 0 (fill d') (valid d') (emptied-length r v ws ∙ size ∙ ap (λ (k : ℕ). stride * k) (sym same))
        (λ c h. block c
        (λ q. ap (fill d') q ∙ re_fill-victim d s v a e ∙ sym (ap (fill_word new) q ∙ ap fill_in (victim-block r v ws (omega arith))))
        (λ q. ap (fill d') q ∙ re_fill-reserve d s v a e ∙ sym (ap (fill_word new) q ∙ ap fill_in (reserve-block r v ws (omega (arith, s.kept)) apart) ∙ valids v a))
        (λ f g. re_fill d s v a e c f g ∙ sym (ap fill_in (rest-block r v ws c f g) ∙ fills c)))
        (λ c j h k. let at : j ≡ c = omega arith in
        ap (valid d') at ∙ block c
        (λ q. ap (valid d') q ∙ re_valid-victim d s v a e ∙ sym (ap (valid_word new) q ∙ ap valid_in (victim-block r v ws (omega arith))))
        (λ q. ap (valid d') q ∙ re_valid-reserve d s v a e ∙ sym (ap (valid_word new) q ∙ ap valid_in (reserve-block r v ws (omega (arith, s.kept)) apart) ∙ valids v a))
        (λ f g. re_valid d s v a e c (omega arith) f g ∙ sym (ap valid_in (rest-block r v ws c f g) ∙ valids c (omega arith)))))
