-- The valid counts of the blocks without the pages of a range: each extent takes from its block what it has there.
use Rattle.std.specs.Prelude.{ℕ, zero, suc, ◌+◌, ◌-◌, ◌*◌, ◌/◌, ◌≤◌, ◌<◌, ◌≡◌, refl, List, [], ◌∷◌, eqb, length}
use Rattle.std.proofs.Common.{sym, ◌∙◌, arith, add-one, eq-eqb, ne_eqb}
use Rattle.std.proofs.Math.Path.{ap}
use Rattle.std.proofs.Math.Logic.{by_cases}
use Rattle.std.proofs.Math.Decide.{ℕ_discrete}
use Rattle.rules.specs.Counting.{sum}
use Rattle.rules.specs.Blocks.{fill_word, valid_word, HasBlock, block_at, put_block}
use Rattle.rules.specs.declared.BlockRecord.{BlockRecord}
use Rattle.rules.specs.Extents.{slot, slots_from}
use Rattle.rules.specs.declared.Extent.{Extent}
use Rattle.laws.specs.Bools.{cases}
use Rattle.laws.specs.Records.{put_block-length, put_block_here, put_block_else}
use Rattle.laws.specs.Sums.{sum-zero}
use Rattle.laws.specs.Tallies.{overlap, in_range, overlap-before, overlap-after, total, total-slots}
use Rattle.map.specs.Sound.{SoundMap, sound-order, sound-rising}
use Rattle.map.specs.Halved.{ends_by, ends-first}

-- what the words of the blocks become, for N = n, without the pages of extents from l up to e
pub record Lowered (n l e : ℕ) (es : List Extent) (blk blk' : List ℕ) : Type 0 where
  pub size : length blk' ≡ length blk
  pub fills : (b : ℕ) → fill_word blk' b ≡ fill_word blk b
  pub valids : (b : ℕ) → valid_word blk' b + total (in_range n b l e) es ≡ valid_word blk b

-- each block has what is taken from it
pub record Lowerable (ws : List ℕ) (u n l e : ℕ) (blk : List ℕ) : Type 0 where
  pub within : 3 * u ≤ length ws
  pub sound : SoundMap (slots_from ws 0 u)
  pub some : 0 < n
  pub inside : (i : ℕ) → i < u → HasBlock blk ((slot ws i).physical / n)
  pub enough : (b : ℕ) → total (in_range n b l e) (slots_from ws 0 u) ≤ valid_word blk b

-- ---- one extent

in_block : (n b l e : ℕ) (x : Extent) → x.physical / n ≡ b → in_range n b l e x ≡ overlap x l e
unfolding in_range
in_block n b l e x h = rw (eq-eqb (x.physical / n) b h)

elsewhere : (n b l e : ℕ) (x : Extent) → (x.physical / n ≡ b → ⊥) → in_range n b l e x ≡ 0
unfolding in_range
elsewhere n b l e x h = rw (ne_eqb (x.physical / n) b h)

nothing : (n b l e : ℕ) (x : Extent) → overlap x l e ≡ 0 → in_range n b l e x ≡ 0
nothing n b l e x h = by_cases (ℕ_discrete (x.physical / n) b) (λ g. in_block n b l e x g ∙ h) (λ g. elsewhere n b l e x g)

single : (n b l e : ℕ) (x : Extent) → total (in_range n b l e) (x ∷ []) ≡ in_range n b l e x
unfolding total
single n b l e x = omega arith

-- as the code takes it from the record of its block
pub lowered-set : (n l e b c v : ℕ) (x : Extent) (r : BlockRecord) (blk blk' : List ℕ) → b ≡ x.physical / n → c ≡ overlap x l e → r ≡ block_at blk b
    → HasBlock blk b → c ≤ r.valid → v ≡ r.valid - c → blk' ≡ put_block blk b (record { fill = r.fill; valid = v }) → Lowered n l e (x ∷ []) blk blk'
lowered-set n l e b c v x r blk blk' p q y s h d g =
    let less : BlockRecord = record { fill = r.fill; valid = v } in
    let here : block_at blk' b ≡ less = ap (λ (ws : List ℕ). block_at ws b) g ∙ put_block_here blk b less s in
    let else : (i : ℕ) → (b ≡ i → ⊥) → block_at blk' i ≡ block_at blk i = λ i k. ap (λ (ws : List ℕ). block_at ws i) g ∙ put_block_else blk b less i (λ m. k (sym m)) in
    record {
      size = ap length g ∙ put_block-length blk b less;
      fills = λ i. by_cases (ℕ_discrete b i)
          (λ k. rw (← k) (ap (λ (z : BlockRecord). z.fill) here ∙ ap (λ (z : BlockRecord). z.fill) y))
          (λ k. ap (λ (z : BlockRecord). z.fill) (else i k));
      valids = λ i. by_cases (ℕ_discrete b i)
          (λ k. rw (← k) (omega (
            arith,
            ap (λ (z : BlockRecord). z.valid) here,
            ap (λ (z : BlockRecord). z.valid) y,
            single n b l e x,
            in_block n b l e x (sym p),
          )))
          (λ k. omega (arith, ap (λ (z : BlockRecord). z.valid) (else i k), single n i l e x, elsewhere n i l e x (λ m. k (p ∙ m))));
    }

-- ---- slot by slot

module _ (n l e : ℕ) (ws : List ℕ) where
  one_more : (b i : ℕ) → total (in_range n b l e) (slots_from ws 0 (i + 1)) ≡ total (in_range n b l e) (slots_from ws 0 i) + in_range n b l e (slot ws i)
  unfolding sum
  one_more b i =
      total-slots (in_range n b l e) ws (i + 1) ∙ ap (λ (k : ℕ). sum k (λ j. in_range n b l e (slot ws j))) (add-one i)
      ∙ ap (λ (k : ℕ). k + in_range n b l e (slot ws i)) (sym (total-slots (in_range n b l e) ws i))

  up_to : (b i d : ℕ) → total (in_range n b l e) (slots_from ws 0 i) ≤ total (in_range n b l e) (slots_from ws 0 (i + d))
  up_to b i zero = let k : i ≡ i + 0 = omega arith in rw (← k) (omega arith)
  up_to b i (suc d) = let k : i + suc d ≡ i + d + 1 = omega arith in rw k (omega (arith, up_to b i d, one_more b (i + d)))

  -- the slots before the first that ends after l have nothing to lose
  pub lowered-start : (u k : ℕ) (blk : List ℕ) → SoundMap (slots_from ws 0 u) → k ≡ ends_by l (slots_from ws 0 u) → Lowered n l e (slots_from ws 0 k) blk blk
  lowered-start u k blk s h =
      let f = ends-first ws u l (sound-rising ws u s) k h in
      record {
        size = refl;
        fills = λ b. refl;
        valids = λ b. omega (
          arith,
          total-slots (in_range n b l e) ws k,
          sum-zero k (λ i. in_range n b l e (slot ws i)) (λ i t. nothing n b l e (slot ws i) (overlap-after (slot ws i) l e (f.low i t))),
        );
      }

  pub lowered-more : (i : ℕ) (blk mid blk' : List ℕ) → Lowered n l e (slots_from ws 0 i) blk mid → Lowered n l e (slot ws i ∷ []) mid blk' → Lowered n l e (slots_from ws 0 (i + 1)) blk blk'
  lowered-more i blk mid blk' h g = record {
    size = g.size ∙ h.size;
    fills = λ b. g.fills b ∙ h.fills b;
    valids = λ b. omega (arith, h.valids b, g.valids b, one_more b i, single n b l e (slot ws i));
  }

  -- slot i starts at e or later, and so do d slots behind it
  none_more : (u i : ℕ) → SoundMap (slots_from ws 0 u) → (i < u → e ≤ (slot ws i).logical) → (b d : ℕ) → i + d ≤ u
      → total (in_range n b l e) (slots_from ws 0 (i + d)) ≡ total (in_range n b l e) (slots_from ws 0 i)
  none_more u i s h b zero t = let k : i + 0 ≡ i = omega arith in rw k
  none_more u i s h b (suc d) t =
      let k : i + suc d ≡ i + d + 1 = omega arith in
      rw k (omega (
        arith,
        one_more b (i + d),
        nothing n b l e (slot ws (i + d)) (overlap-before (slot ws (i + d)) l e (later d (omega arith))),
        none_more u i s h b d (omega arith),
      ))
    where
      later : (j : ℕ) → i + j < u → e ≤ (slot ws (i + j)).logical
      later zero q = let z : i + 0 ≡ i = omega arith in rw z (h (omega arith))
      later (suc j) q = omega (arith, h (omega arith), sound-order ws u s i (i + suc j) (omega arith) q)

  pub lowered-end : (u i : ℕ) (blk blk' : List ℕ) → SoundMap (slots_from ws 0 u) → i ≤ u → (i < u → e ≤ (slot ws i).logical) → Lowered n l e (slots_from ws 0 i) blk blk'
      → Lowered n l e (slots_from ws 0 u) blk blk'
  lowered-end u i blk blk' s t h g =
      let k : i + (u - i) ≡ u = omega arith in
      record {
        size = g.size;
        fills = g.fills;
        valids = λ b. omega (arith, g.valids b, rw k at (none_more u i s h b (u - i) (omega arith)));
      }

  -- its block still has what slot i takes
  pub lowered-enough : (u i : ℕ) (blk mid : List ℕ) → Lowerable ws u n l e blk → i < u → Lowered n l e (slots_from ws 0 i) blk mid
      → overlap (slot ws i) l e ≤ valid_word mid ((slot ws i).physical / n)
  lowered-enough u i blk mid p s h =
      let b = (slot ws i).physical / n in
      let k : i + 1 + (u - (i + 1)) ≡ u = omega arith in
      let most : total (in_range n b l e) (slots_from ws 0 (i + 1)) ≤ total (in_range n b l e) (slots_from ws 0 u) = rw k at (up_to b (i + 1) (u - (i + 1))) in
      omega (arith, p.enough b, h.valids b, one_more b i, in_block n b l e (slot ws i) refl)

-- ---- what a block holds is enough for a part of the lines

range_le : (n b l e hi : ℕ) (x : Extent) → e ≤ hi → in_range n b l e x ≤ in_range n b 0 hi x
unfolding in_range overlap
range_le n b l e hi x h = cases (eqb (x.physical / n) b) (λ g. rw g (omega arith)) (λ g. rw g (omega arith))

pub total-enough : (n b l e hi : ℕ) (es : List Extent) → e ≤ hi → total (in_range n b l e) es ≤ total (in_range n b 0 hi) es
unfolding total
total-enough n b l e hi [] h = omega arith
total-enough n b l e hi (x ∷ xs) h = omega (arith, range_le n b l e hi x h, total-enough n b l e hi xs h)
