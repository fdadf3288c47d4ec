-- What `place_in` and `place` ask and promise: one block's part of a write, and the whole of it on the device that placement sees.
use Rattle.std.specs.Prelude.{ℕ, ◌+◌, ◌-◌, ◌*◌, ◌≤◌, ◌<◌, ◌≡◌, List, [], ◌∷◌, ◌++◌, eqb, length, get_or, take, drop}
use Rattle.std.proofs.Common.{sym, ap, ap₂, ◌∙◌, append_assoc, arith, drop-drop}
use Rattle.std.proofs.lemmas.List.Edits.{sets, sets-eq}
use borrow.Rule.Slice.PartMut.{mid_of, put_mid, mid_len}
use Rattle.rules.specs.Counting.{count, tabulate}
use Rattle.rules.specs.Extents.{none, extent, put_slot, flat}
use Rattle.rules.specs.Blocks.{stride, fill_word, valid_word, HasBlock}
use Rattle.rules.specs.Device.{Device, blocks, free}
use Rattle.rules.specs.Placement.{targets, puts, pieces}
use Rattle.rules.specs.Calls.{over}
use Rattle.rules.specs.declared.Extent.{Extent}
use Rattle.laws.specs.Cells.{length-tabulate}
use Rattle.laws.specs.Slots.{put_slot_sets}
use Rattle.laws.specs.Spread.{start_block, with_piece, listed-none, listed-some}
use Rattle.laws.specs.Alike.{Alike, alike-targets, alike-puts, alike-pieces}
use Rattle.starting.specs.Bare.{fills_of, bare}
use Rattle.placing.specs.Blocks.{raised, raised-none}

-- ---- one block

-- m pages of block b from its fill on, for lines l, l + 1, ..
abbrev pub piece_in : List ℕ → ℕ → ℕ → ℕ → ℕ → Extent
piece_in blk b n l m = extent l (b * n + fill_word blk b) m

-- the words have room for m pages of block b and for piece k
pub record RoomFor (blk spare out : List ℕ) (b n l m k : ℕ) : Type 0 where
  pub inside : HasBlock blk b
  pub small : b * n + n ≤ 262144
  pub whole : b * n + n ≤ length spare
  pub below : 0 < m → fill_word blk b + m ≤ n
  pub valid : valid_word blk b ≤ fill_word blk b
  pub lines : l + m ≤ none
  pub few : k ≤ b
  pub block : b < 1024
  pub slot : 0 < m → 3 * k + 3 ≤ length out

pub record PlacedIn (blk spare out blk' spare' out' : List ℕ) (b n l m k r : ℕ) : Type 0 where
  pub many : r ≡ k + length (with_piece (piece_in blk b n l m) [])
  pub records : blk' ≡ raised m b blk
  pub labels : spare' ≡ sets spare (b * n + fill_word blk b) (tabulate m (λ i. l + i))
  pub pieces : out' ≡ sets out (3 * k) (flat (with_piece (piece_in blk b n l m) []))

-- a part comes back with as many words as were lent
pub put-part : (a e : ℕ) (xs ys : List ℕ) → a ≤ e → e ≤ length xs → length ys ≡ e - a → put_mid a (e - a) xs ys ≡ sets xs a ys
put-part a e xs ys h k s =
    sym (sets-eq ys xs a (omega arith)
    ∙ append_assoc (take a xs) ys (drop (a + length ys) xs)
    ∙ ap (λ (r : List ℕ). take a xs ++ (ys ++ r)) (ap (λ (i : ℕ). drop (a + i) xs) s ∙ sym (drop-drop (e - a) a xs)))

pub placed-none : (blk spare out : List ℕ) (b n l m k : ℕ) → m ≡ 0 → PlacedIn blk spare out blk spare out b n l m k k
unfolding tabulate flat
placed-none blk spare out b n l m k e =
    let x = piece_in blk b n l m in
    let none-listed = listed-none x [] e in
    record {
      many = omega (arith, ap length none-listed);
      records = sym (raised-none m b blk e);
      labels = sym (ap (λ (c : ℕ). sets spare (b * n + fill_word blk b) (tabulate c (λ i. l + i))) e);
      pieces = sym (ap (λ (es : List Extent). sets out (3 * k) (flat es)) none-listed);
    }

pub placed-some : (blk spare out blk' ys out' : List ℕ) (b n l m k f : ℕ) → f ≡ fill_word blk b → 0 < m → b * n + f + m ≤ length spare
    → ys ≡ tabulate (length (mid_of (b * n + f) (b * n + f + m - (b * n + f)) spare)) (λ i. l + i)
    → blk' ≡ raised m b blk → out' ≡ put_slot out k (extent l (b * n + f) m)
    → PlacedIn blk spare out blk' (put_mid (b * n + f) (b * n + f + m - (b * n + f)) spare ys) out' b n l m k (k + 1)
unfolding flat
placed-some blk spare out blk' ys out' b n l m k f e s h labels records pieces =
    let p = b * n + f in
    let x = piece_in blk b n l m in
    let one-listed = listed-some x [] s in
    let part : length (mid_of p (p + m - p) spare) ≡ m = mid_len p (p + m) spare h ∙ omega arith in
    let all : ys ≡ tabulate m (λ i. l + i) = labels ∙ ap (λ (c : ℕ). tabulate c (λ i. l + i)) part in
    let size : length ys ≡ p + m - p = ap length all ∙ length-tabulate m (λ i. l + i) ∙ omega arith in
    record {
      many = omega (arith, ap length one-listed);
      records = records;
      labels = put-part p (p + m) spare ys (omega arith) h size ∙ ap₂ (λ (y : ℕ) (vs : List ℕ). sets spare (b * n + y) vs) e all;
      pieces = pieces ∙ put_slot_sets out k (extent l (b * n + f) m)
          ∙ ap (λ (y : ℕ). sets out (3 * k) (flat (extent l (b * n + y) m ∷ []))) e
          ∙ sym (ap (λ (es : List Extent). sets out (3 * k) (flat es)) one-listed);
    }

-- ---- what it comes to

-- what a write has to bring: free pages, and an answer buffer long enough
pub record Placeable (blocks n reserve from l want : ℕ) (blk spare out : List ℕ) : Type 0 where
  pub blk_size : stride * blocks ≤ length blk
  pub spare-size : blocks * n ≤ length spare
  pub blocks-few : blocks ≤ 1024
  pub pages-few : n ≤ 256
  pub valid : (b : ℕ) → b < blocks → valid_word blk b ≤ fill_word blk b
  pub lines : l + want ≤ none
  pub some : 0 < want
  pub start : from ≡ start_block n reserve (fills_of blocks blk) want
  pub room : want ≤ free (bare blocks n reserve blk spare)
  pub slots : 3 * length (pieces l want (bare blocks n reserve blk spare)) ≤ length out

-- what it comes to on a device with the words' pages, fills, labels and reserve
pub record Placed (d : Device) (l want : ℕ) (blk out blk' spare' out' : List ℕ) (r : ℕ) : Type 0 where
  pub many : r ≡ length (pieces l want d)
  pub answer : out' ≡ over (flat (pieces l want d)) out
  pub spare : spare' ≡ (puts l want d).spare
  pub fills : fills_of (blocks d) blk' ≡ (puts l want d).fills
  pub valid : (b : ℕ) → b < blocks d → valid_word blk' b ≡ valid_word blk b + count want (λ i. eqb (get_or (targets l want d) i 0) b)

-- the same on any device with these pages, fills, labels and reserve: the table is not read
pub placed_alike : (d e : Device) (l want : ℕ) (blk out blk' spare' out' : List ℕ) (r : ℕ) → Alike d e → Placed d l want blk out blk' spare' out' r → Placed e l want blk out blk' spare' out' r
placed_alike d e l want blk out blk' spare' out' r a p =
    let same = alike-pieces l want d e a in
    let size : blocks d ≡ blocks e = ap length a.fills in
    record {
      many = p.many ∙ ap length same;
      answer = p.answer ∙ ap (λ (es : List Extent). over (flat es) out) same;
      spare = p.spare ∙ (alike-puts l want d e a).spare;
      fills = ap (λ (k : ℕ). fills_of k blk') (sym size) ∙ p.fills ∙ (alike-puts l want d e a).fills;
      valid = λ b h. p.valid b (omega arith) ∙ ap (λ (bs : List ℕ). valid_word blk b + count want (λ i. eqb (get_or bs i 0) b)) (alike-targets d e a l want);
    }
