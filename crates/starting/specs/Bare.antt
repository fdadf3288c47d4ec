-- The device that placement sees in the words: fills, labels, N and the reserve, and no table.
use Rattle.std.specs.Prelude.{ℕ, ◌≡◌, refl, List, []}
use Rattle.rules.specs.Counting.{tabulate}
use Rattle.rules.specs.Blocks.{fill_word}
use Rattle.rules.specs.Lent.{Lent}
use Rattle.rules.specs.Device.{Device, device_of}
use Rattle.rules.specs.Request.{kept}
use Rattle.laws.specs.Alike.{Alike}

-- the fills of B blocks
abbrev pub fills_of : ℕ → List ℕ → List ℕ
fills_of blocks blk = tabulate blocks (fill_word blk)

unfoldable pub bare : ℕ → ℕ → ℕ → List ℕ → List ℕ → Device
bare blocks n reserve blk spare = record {
  pages = n;
  slots = 0;
  table = [];
  fills = fills_of blocks blk;
  spare = spare;
  reserve = reserve;
  last = kept 0;
}

-- placement cannot tell it from any device with these pages, fills, labels and reserve
pub bare_alike : (blocks n reserve : ℕ) (blk spare : List ℕ) (d : Device) → n ≡ d.pages → fills_of blocks blk ≡ d.fills → spare ≡ d.spare → reserve ≡ d.reserve
    → Alike (bare blocks n reserve blk spare) d
unfolding bare
bare_alike blocks n reserve blk spare d p f s r = record { pages = p; fills = f; spare = s; reserve = r }

-- nor from the device of lent words
pub bare-device : (s : Lent) → Alike (bare s.head.blocks s.head.pages s.head.reserve s.block_words s.spare) (device_of s)
unfolding bare device_of
bare-device s = record { pages = refl; fills = refl; spare = refl; reserve = refl }
