-- A block reclaimed: its live pages go to the reserve, and it becomes the reserve. Where each line and each cell goes, and that the device is sound again.
use Rattle.std.specs.Prelude.{ℕ, ◌+◌, ◌*◌, ◌/◌, ◌≤◌, ◌<◌, ◌≡◌, List, map, true, length, set}
use Rattle.std.proofs.Math.Path.{refl, sym, ap, subst}
use Rattle.std.proofs.Common.{◌∙◌, arith, eq-eqb, ne_eqb}
use Rattle.std.proofs.Math.Logic.{by_cases}
use Rattle.std.proofs.Math.Decide.{ℕ_discrete}
use Rattle.std.proofs.Math.Arith.{digits_div, digits_mod}
use Rattle.std.proofs.Math.ListN.{get_or, length-set, length-map, get_or-map}
use Rattle.std.proofs.Math.Seq.{get_or-set_same, get_or-set_other}
use Rattle.rules.specs.Counting.{count, picks}
use Rattle.rules.specs.Extents.{none}
use Rattle.rules.specs.Device.{Device, blocks, lines, at, fill, label, named, valid}
use Rattle.rules.specs.Reclaim.{sources, goes, moved, reclaimed_at}
use Rattle.laws.specs.Sums.{count_rise}
use Rattle.laws.specs.Picks.{length-picks, picks_at, Picked, picked}
use Rattle.laws.specs.Cells.{block_le, map_at, swept, length-swept, swept_in, swept-rest, swept_gone, swept-other}
use Rattle.laws.specs.Device.{Home, SoundDevice, Blank, page_lt, offset_lt, none-block, home-block}
use Rattle.laws.specs.Live.{named_by, named-below, count-named}
use Rattle.laws.specs.Balance.{valid-named, valid_le}

-- the offset of the i-th live page of block v
unfoldable pub nth : ℕ → Device → ℕ → ℕ
nth v d i = get_or (picks d.pages (named d v)) i 0

-- line l has a live page in block v
pub record Within (v : ℕ) (d : Device) (l : ℕ) : Type 0 where
  pub offset : ℕ
  pub is : at d l ≡ v * d.pages + offset
  pub below : offset < fill d v
  pub live : named d v offset ≡ true

pub goes-hole : (v r : ℕ) (d : Device) → goes v r d none ≡ none
unfolding goes
goes-hole v r d = refl

pub goes-victim : (v r : ℕ) (d : Device) (o : ℕ) → o < d.pages → (v * d.pages + o ≡ none → ⊥) → goes v r d (v * d.pages + o) ≡ r * d.pages + count o (named d v)
unfolding goes
goes-victim v r d o h m = rw (ne_eqb (v * d.pages + o) none m, eq-eqb ((v * d.pages + o) / d.pages) v (digits_div v h), digits_mod v h)

pub goes_other : (v r : ℕ) (d : Device) (p : ℕ) → (p / d.pages ≡ v → ⊥) → goes v r d p ≡ p
unfolding goes
goes_other v r d p e =
    by_cases (ℕ_discrete p none)
    (λ g. rw g)
    (λ m. rw (ne_eqb p none m, ne_eqb (p / d.pages) v e))

module _ (d : Device) (s : SoundDevice d) (v : ℕ) (a : v < blocks d) (e : v ≡ d.reserve → ⊥) where
  -- ---- what it is made of

  pub re_pages : (reclaimed_at v d).pages ≡ d.pages
  unfolding reclaimed_at
  re_pages = refl

  pub re_reserve : (reclaimed_at v d).reserve ≡ v
  unfolding reclaimed_at
  re_reserve = refl

  pub re_slots : (reclaimed_at v d).slots ≡ d.slots
  unfolding reclaimed_at
  re_slots = refl

  pub re_last : (reclaimed_at v d).last ≡ d.last
  unfolding reclaimed_at
  re_last = refl

  pub re_blocks : blocks (reclaimed_at v d) ≡ blocks d
  unfolding reclaimed_at
  re_blocks = length-set (set d.fills d.reserve (valid d v)) v 0 ∙ length-set d.fills d.reserve (valid d v)

  pub re_lines : lines (reclaimed_at v d) ≡ lines d
  unfolding reclaimed_at
  re_lines = length-map d.table (goes v d.reserve d)

  pub re_at : (l : ℕ) → at (reclaimed_at v d) l ≡ goes v d.reserve d (at d l)
  unfolding reclaimed_at
  re_at l =
      subst (λ (x : ℕ). get_or (map (goes v d.reserve d) d.table) l x ≡ goes v d.reserve d (at d l)) (goes-hole v d.reserve d)
      (get_or-map (goes v d.reserve d) d.table l none)

  pub re_fill-victim : fill (reclaimed_at v d) v ≡ 0
  unfolding reclaimed_at
  re_fill-victim = get_or-set_same (set d.fills d.reserve (valid d v)) v 0 0 (omega (arith, length-set d.fills d.reserve (valid d v)))

  pub re_fill-reserve : fill (reclaimed_at v d) d.reserve ≡ valid d v
  unfolding reclaimed_at
  re_fill-reserve =
      get_or-set_other (set d.fills d.reserve (valid d v)) v d.reserve 0 0 (λ g. e (sym g))
      ∙ get_or-set_same d.fills d.reserve (valid d v) 0 s.kept

  pub re_fill : (c : ℕ) → (c ≡ v → ⊥) → (c ≡ d.reserve → ⊥) → fill (reclaimed_at v d) c ≡ fill d c
  unfolding reclaimed_at
  re_fill c f g =
      get_or-set_other (set d.fills d.reserve (valid d v)) v c 0 0 f
      ∙ get_or-set_other d.fills d.reserve c (valid d v) 0 g

  valid-picks : valid d v ≡ count d.pages (named d v)
  valid-picks = valid-named d s v a ∙ sym (count-named d s v a)

  pub length-sources : length (sources v d) ≡ valid d v
  unfolding sources
  length-sources =
      length-map (picks d.pages (named d v)) (λ o. v * d.pages + o) ∙ length-picks d.pages (named d v) ∙ sym valid-picks

  pub few-sources : length (sources v d) ≤ d.pages
  few-sources = omega (arith, length-sources, valid_le d s v a)

  pub source : (i : ℕ) → i < valid d v → Picked d.pages (named d v) i (nth v d i)
  unfolding nth
  source i h = picked d.pages (named d v) i 0 (omega (arith, valid-picks))

  pub source-page : (i y : ℕ) → i < valid d v → get_or (sources v d) i y ≡ v * d.pages + nth v d i
  unfolding sources nth
  source-page i y h =
      map_at y (λ o. v * d.pages + o) (picks d.pages (named d v)) i 0 (omega (arith, length-picks d.pages (named d v), valid-picks))

  pub source-below : (i : ℕ) → i < valid d v → nth v d i < fill d v
  source-below i h = let k = source i h in named-below d s v a (nth v d i) k.below k.passes

  -- ---- where a line's page goes

  pub within : (l : ℕ) → at d l / d.pages ≡ v → Within v d l
  within l q =
      let m : at d l ≡ none → ⊥ = λ g. none-block d s v a (sym (ap (λ (x : ℕ). x / d.pages) g) ∙ q) in
      let h = s.home l m in
      let z = offset_lt d s l m in
      let same : h.block ≡ v = sym (home-block d s l m) ∙ q in
      let is : at d l ≡ v * d.pages + h.offset = h.is ∙ ap (λ (x : ℕ). x * d.pages + h.offset) same in
      record {
        offset = h.offset;
        is = is;
        below = subst (λ (x : ℕ). h.offset < fill d x) same h.below;
        live = named_by d s v a h.offset l z is;
      }

  pub goes-within : (o : ℕ) → o < d.pages → goes v d.reserve d (v * d.pages + o) ≡ d.reserve * d.pages + count o (named d v)
  goes-within o h = goes-victim v d.reserve d o h (λ g. omega (arith, page_lt d s v o a h))

  pub re_at-within : (l : ℕ) (w : Within v d l) → at (reclaimed_at v d) l ≡ d.reserve * d.pages + count w.offset (named d v)
  re_at-within l w = re_at l ∙ ap (goes v d.reserve d) w.is ∙ goes-within w.offset (omega (arith, w.below, s.full v a))

  pub re_at-other : (l : ℕ) → (at d l / d.pages ≡ v → ⊥) → at (reclaimed_at v d) l ≡ at d l
  re_at-other l q = re_at l ∙ goes_other v d.reserve d (at d l) q

  pub rank_lt : (l : ℕ) (w : Within v d l) → count w.offset (named d v) < valid d v
  rank_lt l w = omega (arith, valid-named d s v a, count_rise w.offset (fill d v) (named d v) w.below w.live)

  pub nth-rank : (l : ℕ) (w : Within v d l) → nth v d (count w.offset (named d v)) ≡ w.offset
  unfolding nth
  nth-rank l w = picks_at d.pages (named d v) w.offset 0 (omega (arith, w.below, s.full v a)) w.live

  pub re_hole : (l : ℕ) → at d l ≡ none → at (reclaimed_at v d) l ≡ none
  re_hole l g = re_at-other l (λ q. none-block d s v a (sym (ap (λ (x : ℕ). x / d.pages) g) ∙ q)) ∙ g

  pub re_some : (l : ℕ) → (at d l ≡ none → ⊥) → at (reclaimed_at v d) l ≡ none → ⊥
  re_some l m g =
      by_cases (ℕ_discrete (at d l / d.pages) v)
      (λ q. let w = within l q in
      let z = rank_lt l w in
      omega (arith, re_at-within l w, page_lt d s d.reserve (count w.offset (named d v)) s.kept (omega (arith, valid_le d s v a))))
      (λ q. m (sym (re_at-other l q) ∙ g))

  -- ---- cells of the device, labels or contents, with the victim's copied and then emptied

  three : {C : Type 0} (c : ℕ) → (c ≡ v → C) → (c ≡ d.reserve → C) → ((c ≡ v → ⊥) → (c ≡ d.reserve → ⊥) → C) → C
  three c x y z = by_cases (ℕ_discrete c v) x (λ f. by_cases (ℕ_discrete c d.reserve) y (z f))

  module _ {A : Type 0} (z : A) (xs : List A) (w : length xs ≡ blocks d * d.pages) where
    pub length_moved : length (moved z v d xs) ≡ length xs
    unfolding moved swept
    length_moved = length-swept z d.pages d.reserve v (sources v d) xs

    fits : (c : ℕ) → c < blocks d → c * d.pages + d.pages ≤ length xs
    fits c h = omega (arith, block_le d.pages c (blocks d) h)

    carried_in : (i : ℕ) → i < valid d v → get_or (moved z v d xs) (d.reserve * d.pages + i) z ≡ get_or xs (v * d.pages + nth v d i) z
    unfolding moved swept
    carried_in i h =
        swept_in z d.pages d.reserve v (sources v d) xs few-sources (fits d.reserve s.kept) (fits v a) e i 0 (omega (arith, length-sources))
        ∙ ap (λ (p : ℕ). get_or xs p z) (source-page i 0 h)

    carried_other : (c o : ℕ) → (c ≡ v → ⊥) → (c ≡ d.reserve → ⊥) → o < d.pages
        → get_or (moved z v d xs) (c * d.pages + o) z ≡ get_or xs (c * d.pages + o) z
    unfolding moved swept
    carried_other c o f g h = swept-other z d.pages d.reserve v (sources v d) xs few-sources (fits d.reserve s.kept) (fits v a) e c o f g h

    -- the cell of a mapped page goes where the page goes
    pub carried-kept : (l : ℕ) → (at d l ≡ none → ⊥) → get_or (moved z v d xs) (at (reclaimed_at v d) l) z ≡ get_or xs (at d l) z
    carried-kept l m =
        let ys = moved z v d xs in
        by_cases (ℕ_discrete (at d l / d.pages) v)
        (λ q. let y = within l q in
        ap (λ (p : ℕ). get_or ys p z) (re_at-within l y)
        ∙ carried_in (count y.offset (named d v)) (rank_lt l y)
        ∙ ap (λ (o : ℕ). get_or xs (v * d.pages + o) z) (nth-rank l y)
        ∙ sym (ap (λ (p : ℕ). get_or xs p z) y.is))
        (λ q. let h = s.home l m in
        ap (λ (p : ℕ). get_or ys p z) (re_at-other l q ∙ h.is)
        ∙ carried_other h.block h.offset (λ g. q (home-block d s l m ∙ g)) (λ g. omega (arith, h.below, s.empty, ap (fill d) g)) (offset_lt d s l m)
        ∙ sym (ap (λ (p : ℕ). get_or xs p z) h.is))

    pub carried-blank : Blank z xs d → Blank z (moved z v d xs) (reclaimed_at v d)
    unfolding moved swept
    carried-blank y c o h k i =
        let h' : c < blocks d = rw re_blocks at h in
        let i' : o < d.pages = rw re_pages at i in
        rw re_pages (three c
        (λ q. rw q (swept_gone z d.pages d.reserve v (sources v d) xs few-sources (fits d.reserve s.kept) (fits v a) e o i'))
        (λ q. let t : valid d v ≤ o = omega (arith, ap (fill (reclaimed_at v d)) q, re_fill-reserve) in
        rw q (swept-rest z d.pages d.reserve v (sources v d) xs few-sources (fits d.reserve s.kept) (fits v a) e o (omega (arith, length-sources)) i'
        ∙ y d.reserve o s.kept (omega (arith, s.empty)) i'))
        (λ f g. carried_other c o f g i' ∙ y c o h' (rw (re_fill c f g) at k) i'))

  -- ---- soundness

  re_label_in : (i : ℕ) → i < valid d v → label (reclaimed_at v d) (d.reserve * d.pages + i) ≡ label d (v * d.pages + nth v d i)
  unfolding reclaimed_at
  re_label_in i h = carried_in none d.spare s.whole i h

  re_label-other : (c o : ℕ) → (c ≡ v → ⊥) → (c ≡ d.reserve → ⊥) → o < d.pages → label (reclaimed_at v d) (c * d.pages + o) ≡ label d (c * d.pages + o)
  unfolding reclaimed_at
  re_label-other c o f g h = carried_other none d.spare s.whole c o f g h

  re_label-kept : (l : ℕ) → (at d l ≡ none → ⊥) → label (reclaimed_at v d) (at (reclaimed_at v d) l) ≡ label d (at d l)
  unfolding reclaimed_at
  re_label-kept l m = carried-kept none d.spare s.whole l m

  re_blank : Blank none (reclaimed_at v d).spare (reclaimed_at v d)
  unfolding reclaimed_at
  re_blank = carried-blank none d.spare s.whole s.blank

  re_home : (l : ℕ) → (at (reclaimed_at v d) l ≡ none → ⊥) → Home (reclaimed_at v d) l (at (reclaimed_at v d) l)
  re_home l m =
      let m' : at d l ≡ none → ⊥ = λ g. m (re_hole l g) in
      let h = s.home l m' in
      let labelled = re_label-kept l m' ∙ h.labelled in
      by_cases (ℕ_discrete (at d l / d.pages) v)
      (λ q. let w = within l q in
      record {
        block = d.reserve;
        offset = count w.offset (named d v);
        is = rw re_pages (re_at-within l w);
        inside = rw re_blocks s.kept;
        below = rw re_fill-reserve (rank_lt l w);
        labelled = labelled;
      })
      (λ q. record {
        block = h.block;
        offset = h.offset;
        is = rw re_pages (re_at-other l q ∙ h.is);
        inside = rw re_blocks h.inside;
        below = rw (re_fill h.block (λ g. q (home-block d s l m' ∙ g)) (λ g. omega (arith, h.below, s.empty, ap (fill d) g))) h.below;
        labelled = labelled;
      })

  re_whole : length (reclaimed_at v d).spare ≡ blocks (reclaimed_at v d) * (reclaimed_at v d).pages
  unfolding reclaimed_at
  re_whole = length_moved none d.spare s.whole ∙ s.whole ∙ sym (ap (λ (x : ℕ). x * d.pages) re_blocks)

  re_full : (c : ℕ) → c < blocks d → fill (reclaimed_at v d) c ≤ d.pages
  re_full c h =
      three c
      (λ q. rw (q, re_fill-victim) (omega arith))
      (λ q. rw (q, re_fill-reserve) (valid_le d s v a))
      (λ f g. rw (re_fill c f g) (s.full c h))

  re_labels : (c o : ℕ) → c < blocks d → o < fill (reclaimed_at v d) c → label (reclaimed_at v d) (c * d.pages + o) < lines d
  re_labels c o h k =
      three c
      (λ q. absurd (omega (arith, ap (fill (reclaimed_at v d)) q, re_fill-victim)))
      (λ q. let i : o < valid d v = omega (arith, ap (fill (reclaimed_at v d)) q, re_fill-reserve) in
      rw (q, re_label_in o i) (s.labels v (nth v d o) a (source-below o i)))
      (λ f g. let i : o < fill d c = rw (re_fill c f g) at k in
      rw (re_label-other c o f g (omega (arith, s.full c h))) (s.labels c o h i))

  pub re_sound : SoundDevice (reclaimed_at v d)
  re_sound = record {
    some = rw re_pages s.some;
    words = rw (re_blocks, re_pages) s.words;
    whole = re_whole;
    full = λ c h. rw re_pages (re_full c (rw re_blocks at h));
    labels = λ c o h k. rw (re_pages, re_lines) (re_labels c o (rw re_blocks at h) k);
    blank = re_blank;
    home = re_home;
    kept = rw (re_blocks, re_reserve) a;
    empty = rw re_reserve re_fill-victim;
  }
