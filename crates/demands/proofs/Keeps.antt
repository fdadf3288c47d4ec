-- T-04, proved: a block has room for all pages of a write on the lent words where it has on the plain device, and what the rules place there is one piece.
use Rattle.std.specs.Prelude.{ℕ, suc, ◌+◌, ◌*◌, ◌≤◌, ◌<◌, ◌≡◌}
use Rattle.std.proofs.Math.Path.{refl, ap}
use Rattle.std.proofs.Common.{◌∙◌}
use mathlib.Core.List.{List, [], ◌∷◌, ◌++◌}
use Rattle.std.proofs.Math.Logic.{by_cases}
use native.Mathlib.Omega.{arith}
use Rattle.std.proofs.Math.Decide.{dec_lt}
use Rattle.std.proofs.Math.ListN.{length, get_or, take, drop}
use Rattle.rules.specs.Extents.{none, extent, flat}
use Rattle.rules.specs.Lent.{Lent, fill_of}
use Rattle.rules.specs.Device.{Device, blocks, at, fill, room, valid, extents, device_of, head_of, words_of}
use Rattle.rules.specs.Placement.{places_at, target, targets, puts, places, pieces}
use Rattle.rules.specs.Request.{with_table, written, numbered}
use Rattle.rules.specs.Answers.{Outcome}
use Rattle.rules.specs.Calls.{Call, counts, leaves, lists, over, accepted_on, call}
use Rattle.rules.specs.declared.Extent.{Extent}
use Rattle.laws.specs.Balance.{room-other, room-reserve}
use Rattle.laws.specs.Records.{records-fill}
use Rattle.laws.specs.Sound.{Storable}
use Rattle.laws.specs.Cells.{sets_in}
use Rattle.laws.specs.Placed.{puts-table, puts-pages, puts-reserve}
use Rattle.laws.specs.States.{device-blocks, device-fill, words-device}
use Rattle.laws.specs.Order.{target_room, target_found, target-lowest, length-placed, puts-all, whole-piece}
use Rattle.laws.specs.Rises.{split_lowest, split_rises}
use Rattle.laws.specs.Growth.{pieces-bound, split_pieces}
use Rattle.laws.specs.Kept.{WriteTaken, refusal-taken, keeps, accepted_in, device-storable, device-is}
use Rattle.demands.proofs.Refusals.{answers}
use Rattle.demands.specs.Whole.{HasRoom, KeptWhole}

module _ (k l n : ℕ) (out : List ℕ) (s : Lent) (e : (call (Call.write k l n out) s).refusal ≡ 0) where
  abbrev c : Call
  c = Call.write k l n out

  abbrev d : Device
  d = device_of s

  accepts : call c s ≡ accepted_on c s
  accepts = (answers c s).accepted e

  taken : WriteTaken k l n out (device_of s)
  taken = refusal-taken c (device_of s) (accepted_in c s e).plainly

  storable : Storable (device_of s)
  storable = device-storable s (accepted_in c s e).shape (accepted_in c s e).whole

  -- ---- room on the words and on the device

  room-words : (b : ℕ) → HasRoom n s b → (b < blocks (device_of s)) × (n ≤ room (device_of s) b)
  unfolding device_of
  room-words b r = (omega (arith, device-blocks s, r.0), omega (arith, r.2, room-other (device_of s) b r.1, device-fill s b r.0))

  words-room : (b : ℕ) → b < blocks (device_of s) → n ≤ room (device_of s) b → HasRoom n s b
  unfolding device_of
  words-room b h r =
      let inside : b < s.head.blocks = omega (arith, device-blocks s) in
      let some = taken.range.some in
      let other : b ≡ s.head.reserve → ⊥ = λ q. omega (arith, some, ap (room (device_of s)) q, room-reserve (device_of s)) in
      (inside, other, omega (arith, some, room-other (device_of s) b other, device-fill s b inside))

  unfit : ((b : ℕ) → HasRoom n s b → ⊥) → target n (device_of s) < blocks (device_of s) → ⊥
  unfit h t = h (target n (device_of s)) (words-room (target n (device_of s)) t (target_room n (device_of s) t))

  found : (b : ℕ) → HasRoom n s b → target n (device_of s) < blocks (device_of s)
  found b r = let w = room-words b r in target_found n (device_of s) taken.range.some b w.0 w.1

  lowest : (b : ℕ) → HasRoom n s b → ((c : ℕ) → c < b → HasRoom n s c → ⊥) → target n (device_of s) ≡ b
  lowest b r h =
      let t = target n (device_of s) in
      let f = found b r in
      by_cases (dec_lt t b)
      (λ a. absurd (h t a (words-room t f (target_room n (device_of s) f))))
      (λ a. by_cases (dec_lt b t)
      (λ g. absurd (omega (arith, target-lowest n (device_of s) taken.range.some b g, (room-words b r).1)))
      (λ g. omega arith))

  -- ---- the answer

  one_piece : (b : ℕ) → HasRoom n s b → pieces l n (device_of s)
      ≡ extent l (target n (device_of s) * (device_of s).pages + fill (device_of s) (target n (device_of s))) n ∷ []
  one_piece b r = whole-piece l n (device_of s) storable.sound.words taken.range.some (found b r)

  piece_is : (b : ℕ) → HasRoom n s b → ((c : ℕ) → c < b → HasRoom n s c → ⊥) → pieces l n (device_of s) ≡ extent l (b * s.head.pages + fill_of s b) n ∷ []
  unfolding device_of
  piece_is b r h =
      one_piece b r
      ∙ ap (λ (x : ℕ). extent l (x * s.head.pages + fill (device_of s) x) n ∷ []) (lowest b r h)
      ∙ ap (λ (f : ℕ). extent l (b * s.head.pages + f) n ∷ []) (device-fill s b r.0)

  whole : (b : ℕ) → HasRoom n s b → ((c : ℕ) → c < b → HasRoom n s c → ⊥)
      → ((call c s).counts ≡ 1 ∷ []) × (take 3 (call c s).out ≡ l ∷ (b * s.head.pages + fill_of s b) ∷ n ∷ [])
  unfolding accepted_on counts lists over flat
  whole b r h = (
    ap (λ (o : Outcome Lent). o.counts) accepts ∙ ap (λ (ps : List Extent). length ps ∷ []) (piece_is b r h),
    ap (λ (o : Outcome Lent). take 3 o.out) accepts
        ∙ ap (λ (ps : List Extent). take 3 (flat ps ++ drop (length (flat ps)) out)) (piece_is b r h),
  )

  -- ---- the state

  after-used : (call c s).after.head.used ≡ length (extents (puts l n (device_of s)))
  unfolding leaves written numbered with_table words_of head_of extents
  after-used = ap (λ (t : Lent). t.head.used) (accepted_in c s e).after

  before-used : length (extents (device_of s)) ≡ s.head.used
  unfolding words_of head_of
  before-used = ap (λ (t : Lent). t.head.used) (device-is s (accepted_in c s e).shape (accepted_in c s e).whole)

  few : (b : ℕ) → HasRoom n s b → (call c s).after.head.used ≤ s.head.used + 2
  few b r =
      omega (
        arith,
        after-used,
        before-used,
        pieces-bound l n (device_of s) storable.sound taken.pages taken.range.inside,
        ap length (one_piece b r),
      )

  cut : ((b : ℕ) → HasRoom n s b → ⊥) → 2 ≤ get_or (call c s).counts 0 0
  unfolding accepted_on counts
  cut h =
      omega (
        arith,
        ap (λ (o : Outcome Lent). get_or o.counts 0 0) accepts,
        split_pieces l n (device_of s) storable.sound taken.pages taken.range.inside taken.range.some (unfit h),
      )

  after-fill : (b : ℕ) → fill_of (call c s).after b ≡ fill (puts l n (device_of s)) b
  unfolding leaves written numbered with_table words_of
  after-fill b =
      let left = leaves c (device_of s) in
      ap (λ (t : Lent). fill_of t b) (accepted_in c s e).after ∙ records-fill left.fills 0 (valid left) b

  filled : ((b : ℕ) → HasRoom n s b → ⊥) → (b i : ℕ) → i < b → b < s.head.blocks → (i ≡ s.head.reserve → ⊥) → fill_of s b < fill_of (call c s).after b
      → fill_of (call c s).after i ≡ s.head.pages
  unfolding puts device_of
  filled h b i below inside other rises =
      let after = puts l n (device_of s) in
      let put = puts-all l n (device_of s) storable.sound taken.pages taken.range.inside in
      let full = split_lowest l n (device_of s) taken.pages (unfit h) b i below (omega (arith, device-blocks s)) (omega (arith, after-fill b, device-fill s b inside)) in
      omega (
        arith,
        full,
        after-fill i,
        room-other after i (λ q. other (q ∙ same-reserve)),
        same-pages,
        put.sound.full i (omega (arith, put.blocks, device-blocks s)),
      )
    where
      same-reserve : (puts l n (device_of s)).reserve ≡ s.head.reserve
      same-reserve = puts-reserve l (targets l n (device_of s)) (device_of s)

      same-pages : (puts l n (device_of s)).pages ≡ s.head.pages
      same-pages = puts-pages l (targets l n (device_of s)) (device_of s)

  -- ---- and its lines

  after-at : (i : ℕ) → i < n → at (device_of (call c s).after) (l + i) ≡ get_or (places l n (device_of s)) i none
  unfolding leaves written numbered with_table puts places
  after-at i h =
      let d = device_of s in
      let ps = places_at l (targets l n d) d in
      let size = length-placed l n d in
      let left = words-device (leaves c d) (keeps c d storable (accepted_in c s e).plainly) in
      ap (λ (x : Device). at x (l + i)) (ap device_of (accepted_in c s e).after ∙ left)
      ∙ ap (λ (t : List ℕ). get_or t (l + i) none) (puts-table l (targets l n d) d)
      ∙ sets_in none ps d.table l (l + i) i (omega arith) (omega (arith, taken.range.inside)) refl

  rising : ((b : ℕ) → HasRoom n s b → ⊥) → (i : ℕ) → suc i < n → at (device_of (call c s).after) (l + i) < at (device_of (call c s).after) (l + suc i)
  rising h i below =
      omega (arith, after-at i (omega arith), after-at (suc i) below, split_rises l n (device_of s) taken.pages (unfit h) i below)

  pub keeps-whole : KeptWhole l n s (call c s)
  keeps-whole = record { whole = whole; few = few; cut = cut; filled = filled; rising = rising }
