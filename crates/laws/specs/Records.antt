-- The words of the blocks: a record put in the place of another; the records of fills and valid counts, read word by word; and words that are
-- such records.
use Rattle.std.specs.Prelude.{ℕ, zero, suc, ◌+◌, ◌*◌, ◌<◌, ◌≡◌, refl, List, [], ◌∷◌, length, get_or, set}
use Rattle.std.proofs.Common.{ap, ◌∙◌, arith}
use Rattle.std.proofs.Math.ListN.{length-set}
use Rattle.std.proofs.Math.Seq.{get_or-set_same, get_or-set_other}
use Rattle.std.proofs.lemmas.List.{set-get_or}
use Rattle.rules.specs.Counting.{tabulate}
use Rattle.rules.specs.Blocks.{stride, fill_word, valid_word, HasBlock, block_at, put_block, records}
use Rattle.rules.specs.declared.BlockRecord.{BlockRecord}

-- ---- one record put

pub block_path : (x y : BlockRecord) → x.fill ≡ y.fill → x.valid ≡ y.valid → x ≡ y
block_path x y f v = λ i. record { fill = f i; valid = v i }

module _ (ws : List ℕ) (b : ℕ) (r : BlockRecord) where
  abbrev once : List ℕ
  once = set ws (stride * b) r.fill

  pub put_block-length : length (put_block ws b r) ≡ length ws
  unfolding put_block
  put_block-length = length-set once (stride * b + 1) r.valid ∙ length-set ws (stride * b) r.fill

  -- it is the record there
  pub put_block_here : HasBlock ws b → block_at (put_block ws b r) b ≡ r
  unfolding put_block
  put_block_here h =
      block_path (block_at (put_block ws b r) b) r
      (get_or-set_other once (stride * b + 1) (stride * b) r.valid 0 (omega arith) ∙ get_or-set_same ws (stride * b) r.fill 0 (omega arith))
      (get_or-set_same once (stride * b + 1) r.valid 0 (omega (arith, length-set ws (stride * b) r.fill)))

  -- the other records stay
  pub put_block_else : (c : ℕ) → (c ≡ b → ⊥) → block_at (put_block ws b r) c ≡ block_at ws c
  unfolding put_block
  put_block_else c e =
      block_path (block_at (put_block ws b r) c) (block_at ws c)
      (get_or-set_other once (stride * b + 1) (stride * c) r.valid 0 (omega arith) ∙ get_or-set_other ws (stride * b) (stride * c) r.fill 0 (omega arith))
      (get_or-set_other once (stride * b + 1) (stride * c + 1) r.valid 0 (omega arith) ∙ get_or-set_other ws (stride * b) (stride * c + 1) r.fill 0 (omega arith))

-- the record that is there already
pub put_block-same : (ws : List ℕ) (b : ℕ) → put_block ws b (block_at ws b) ≡ ws
unfolding put_block
put_block-same ws b =
    ap (λ (xs : List ℕ). set xs (stride * b + 1) (valid_word ws b)) (set-get_or ws (stride * b) 0) ∙ set-get_or ws (stride * b + 1) 0

-- ---- all of them

pub records-length : (fs : List ℕ) (b : ℕ) (v : ℕ → ℕ) → length (records fs b v) ≡ stride * length fs
unfolding records
records-length [] b v = refl
records-length (f ∷ fs) b v = omega (arith, records-length fs (b + 1) v)

-- behind one record's words
behind : (x y : ℕ) (ws : List ℕ) (i : ℕ) → (fill_word (x ∷ y ∷ ws) (suc i) ≡ fill_word ws i) × (valid_word (x ∷ y ∷ ws) (suc i) ≡ valid_word ws i)
behind x y ws i =
    let first : stride * suc i ≡ suc (suc (stride * i)) = omega arith in
    let second : stride * suc i + 1 ≡ suc (suc (stride * i + 1)) = omega arith in
    (ap (λ (k : ℕ). get_or (x ∷ y ∷ ws) k 0) first, ap (λ (k : ℕ). get_or (x ∷ y ∷ ws) k 0) second)

pub records-fill : (fs : List ℕ) (b : ℕ) (v : ℕ → ℕ) (i : ℕ) → fill_word (records fs b v) i ≡ get_or fs i 0
unfolding records
records-fill [] b v i = refl
records-fill (f ∷ fs) b v zero = refl
records-fill (f ∷ fs) b v (suc i) = (behind f (v b) (records fs (b + 1) v) i).0 ∙ records-fill fs (b + 1) v i

pub records-valid : (fs : List ℕ) (b : ℕ) (v : ℕ → ℕ) (i j : ℕ) → i < length fs → j ≡ b + i → valid_word (records fs b v) i ≡ v j
unfolding records
records-valid [] b v i j h e = absurd (omega arith)
records-valid (f ∷ fs) b v zero j h e = let at : b ≡ j = omega arith in ap v at
records-valid (f ∷ fs) b v (suc i) j h e = (behind f (v b) (records fs (b + 1) v) i).1 ∙ records-valid fs (b + 1) v i j (omega arith) (omega arith)

-- words are the records of what stands in them
pub words-records : (m : ℕ) (ws : List ℕ) (b : ℕ) (f v : ℕ → ℕ) → length ws ≡ stride * m
    → ((i : ℕ) → i < m → f i ≡ fill_word ws i) → ((i j : ℕ) → i < m → j ≡ b + i → v j ≡ valid_word ws i)
    → records (tabulate m f) b v ≡ ws
unfolding records tabulate
words-records zero [] b f v e p q = refl
words-records zero (x ∷ ws) b f v e p q = absurd (omega arith)
words-records (suc m) [] b f v e p q = absurd (omega arith)
words-records (suc m) (x ∷ []) b f v e p q = absurd (omega arith)
words-records (suc m) (x ∷ y ∷ ws) b f v e p q =
    let rest = words-records m ws (b + 1) (λ i. f (suc i)) v (omega arith)
    (λ i h. p (suc i) (omega arith) ∙ (behind x y ws i).0)
    (λ i j h g. q (suc i) j (omega arith) (omega arith) ∙ (behind x y ws i).1) in
    λ k. p 0 (omega arith) k ∷ q 0 b (omega arith) (omega arith) k ∷ rest k
