-- Where a write's new extents meet the old ones, and how many extents there are afterwards.
use Rattle.std.specs.Prelude.{ℕ, ◌+◌, ◌≤◌, ◌<◌, Bool, ◌≡◌, length}
use Rattle.std.proofs.Math.Path.{refl}
use Rattle.std.proofs.Common.{ap, ◌∙◌, arith}
use Rattle.rules.specs.Counting.{one}
use Rattle.rules.specs.Extents.{extent}
use Rattle.rules.specs.Lent.{Lent, in_use}
use Rattle.rules.specs.Device.{Device, lines, free, extents, device_of}
use Rattle.rules.specs.Placement.{puts, pieces}
use Rattle.laws.specs.Device.{SoundDevice}
use Rattle.laws.specs.Sound.{Shaped, SoundState}
use Rattle.laws.specs.Counts.{starts_before, ends_after, left_join}
use Rattle.laws.specs.Growth.{first_place, write-grows}
use Rattle.laws.specs.Spread.{start_block}
use Rattle.laws.specs.States.{device-lines, extents-in_use, state-storable}
use Rattle.map.specs.Around.{Beside, few_around, joins_before, joins-before}
use Rattle.starting.specs.Bare.{fills_of, bare-device}
use Rattle.starting.specs.Rest.{rest}
use Rattle.starting.specs.Starts.{Starts, pieces-on, first_on}
use Rattle.starting.specs.declared.Start.{Start}
use Rattle.writable.specs.declared.Meeting.{Meeting}

-- a write that is in range and finds its pages
pub record Writable (l n : ℕ) (s : Lent) : Type 0 where
  pub shape : Shaped s
  pub sound : SoundState s
  pub some : 0 < n
  pub block : n ≤ s.head.pages
  pub inside : l + n ≤ s.head.logical
  pub enough : n ≤ free (device_of s)

abbrev pub pieces_of : ℕ → ℕ → Lent → ℕ
pieces_of l n s = length (pieces l n (device_of s))

abbrev pub nodes_of : ℕ → ℕ → Lent → ℕ
nodes_of l n s = length (extents (puts l n (device_of s)))

pub record Meets (l n : ℕ) (s : Lent) (m : Meeting) : Type 0 where
  pub sides : Beside l (l + n) (in_use s) m.sides
  pub from : m.from ≡ start_block s.head.pages s.head.reserve (fills_of s.head.blocks s.block_words) n
  pub joined : Writable l n s → one m.joined ≡ left_join s.head.pages (extent l (first_place l n (device_of s)) 1) (in_use s)

module _ (l n : ℕ) (s : Lent) (z : Writable l n s) where
  abbrev d : Device
  d = device_of s

  sound : SoundDevice (device_of s)
  sound = (state-storable s z.shape z.sound).sound

  in_lines : l + n ≤ lines (device_of s)
  in_lines = omega (arith, z.inside, device-lines s)

  -- the code's pieces and first page are the rules'
  pub pieces_are : (k from : ℕ) → from ≡ start_block s.head.pages s.head.reserve (fills_of s.head.blocks s.block_words) n
      → k ≡ length (rest s.head.pages s.head.reserve s.head.blocks s.block_words from l n) → k ≡ pieces_of l n s
  pieces_are k from f e =
      e ∙ ap length (pieces-on s.head.blocks s.head.pages s.head.reserve s.block_words s.spare (device_of s) (bare-device s) sound l n z.some z.enough in_lines from f)

  pub first-page-is : (r : Start) → Starts s.head.pages s.head.reserve s.head.blocks s.block_words n r → r.page ≡ first_place l n (device_of s)
  first-page-is r e =
      first_on s.head.blocks s.head.pages s.head.reserve s.block_words s.spare (device_of s) (bare-device s) sound l n z.some z.enough in_lines r e

  pub joined_is : (p b : ℕ) (t : Bool) → p ≡ first_place l n (device_of s) → b ≡ starts_before l (in_use s) → t ≡ joins_before s.head.pages (extent l p 1) b s.extent_words
      → one t ≡ left_join s.head.pages (extent l (first_place l n (device_of s)) 1) (in_use s)
  joined_is p b t e f g =
      ap one (g ∙ ap (λ (x : ℕ). joins_before s.head.pages (extent l x 1) b s.extent_words) e)
      ∙ joins-before s.head.pages s.head.logical (extent l (first_place l n (device_of s)) 1) s.extent_words s.head.used b z.sound.rows f

  pages-same : (device_of s).pages ≡ s.head.pages
  unfolding device_of
  pages-same = refl

  -- before + after + pieces, less one for a join
  pub grows : (m : Meeting) → Meets l n s m → nodes_of l n s + one m.joined ≡ m.sides.before + m.sides.after + pieces_of l n s
  grows m e =
      let g = write-grows l n (device_of s) sound z.some z.enough in_lines in
      let es = extents-in_use s z.shape z.sound in
      let j : left_join (device_of s).pages (extent l (first_place l n (device_of s)) 1) (extents (device_of s)) ≡ left_join s.head.pages (extent l (first_place l n (device_of s)) 1) (in_use s) =
      ap (λ (x : ℕ). left_join x (extent l (first_place l n (device_of s)) 1) (extents (device_of s))) pages-same ∙ ap (left_join s.head.pages (extent l (first_place l n (device_of s)) 1)) es in
      omega (
        arith,
        g,
        j,
        ap (starts_before l) es,
        ap (ends_after (l + n)) es,
        e.sides.before,
        e.sides.after,
        e.joined z,
      )

  -- what a count of the extents afterwards comes to
  pub nodes_are : (m : Meeting) (k r : ℕ) → Meets l n s m → k ≡ pieces_of l n s → r + one m.joined ≡ m.sides.before + m.sides.after + k → r ≡ nodes_of l n s
  nodes_are m k r e f g = omega (arith, grows m e)

pub few_meet : (l n : ℕ) (s : Lent) → Shaped s → SoundState s → (m : Meeting) → Meets l n s m → m.sides.before + m.sides.after ≤ 16384
few_meet l n s h z m e = omega (arith, e.sides.before, e.sides.after, few_around s h z l (l + n))
