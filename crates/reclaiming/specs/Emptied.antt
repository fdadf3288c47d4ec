-- The block records after a reclaim: the old reserve has the victim's valid pages and nothing else, and the victim nothing.
use Rattle.std.specs.Prelude.{◌≡◌, ℕ, List, length, ◌≢◌}
use Rattle.std.proofs.Common.{◌∙◌, arith}
use Rattle.rules.specs.Blocks.{valid_word, HasBlock, block_at, put_block}
use Rattle.rules.specs.declared.BlockRecord.{BlockRecord}
use Rattle.laws.specs.Records.{put_block-length, put_block_here, put_block_else}

-- the record of a block whose pages are k, each of them mapped
abbrev pub full : ℕ → BlockRecord
full k = record { fill = k; valid = k }

unfoldable pub emptied : ℕ → ℕ → List ℕ → List ℕ
emptied r v ws = put_block (put_block ws r (full (valid_word ws v))) v (full 0)

module _ (r v : ℕ) (ws : List ℕ) where
  abbrev filled : List ℕ
  filled = put_block ws r (full (valid_word ws v))

  filled-length : length filled ≡ length ws
  filled-length = put_block-length ws r (full (valid_word ws v))

  pub emptied-length : length (emptied r v ws) ≡ length ws
  unfolding emptied
  emptied-length = put_block-length filled v (full 0) ∙ filled-length

  pub victim-block : HasBlock ws v → block_at (emptied r v ws) v ≡ full 0
  unfolding emptied
  victim-block h = put_block_here filled v (full 0) (omega (arith, filled-length))

  pub reserve-block : HasBlock ws r → (r ≢ v) → block_at (emptied r v ws) r ≡ full (valid_word ws v)
  unfolding emptied
  reserve-block h e = put_block_else filled v (full 0) r e ∙ put_block_here ws r (full (valid_word ws v)) h

  pub rest-block : (c : ℕ) → (c ≢ v) → (c ≢ r) → block_at (emptied r v ws) c ≡ block_at ws c
  unfolding emptied
  rest-block c f g = put_block_else filled v (full 0) c f ∙ put_block_else ws r (full (valid_word ws v)) c g
