-- The order of placement: 02's, the lowest-numbered block with room for all pages of a write, and where there is none 01's, the lowest-numbered open block for
-- each page. This file and Placement.antt of `rules` know it; everything else goes by what is shown here. Each page lands in a block that is open when its
-- page comes (`targets_open`); the order reads the fills, the reserve and N alone (`targets-same`); and page by page gives what the blocks in turn give from the
-- block on that the write starts with, each with what it has room for (Spread).
use Prim.Native.Nat.{ℕ, zero, suc, ◌+◌, ◌*◌, ◌≤◌, ◌<◌, min}
use Rattle.std.specs.Prelude.{◌≡◌, refl, Bool, not, cond, ◌&&◌, eqb, ltb, leb, length, get_or, set, drop, replicate}
use Rattle.std.proofs.Math.Path.{sym, ap}
use Rattle.std.proofs.Common.{ap₂, ◌∙◌, subst, eq-eqb, ne_eqb, lt-ltb, le-ltb, le-leb, leb-true, leb-false, length-set, drop-cons, get_or-set_other}
use mathlib.Core.List.{List, [], ◌∷◌, ◌++◌}
use Rattle.std.proofs.Math.Logic.{by_cases}
use native.Mathlib.Omega.{arith}
use Rattle.std.proofs.Math.Decide.{dec_lt, ℕ_discrete}
use Rattle.std.proofs.lemmas.Bool.{lt-leb}
use Rattle.std.proofs.Math.Arith.{digits_lt}
use Rattle.std.proofs.Math.ListN.{take}
use Rattle.std.proofs.lemmas.List.{length-replicate, set-get_or}
use Rattle.std.proofs.Math.Seq.{set_split, get_or-set_same, set-set}
use Rattle.rules.specs.Counting.{first}
use Rattle.rules.specs.Extents.{none, extent, join, runs}
use Rattle.rules.specs.Device.{Device, blocks, lines, fill, room, free}
use Rattle.rules.specs.Placement.{put_at, puts_at, places_at, target, in_turn, targets, puts, places, pieces}
use Rattle.rules.specs.declared.Extent.{Extent}
use Rattle.laws.specs.Sums.{sum_change, sum-zero}
use Rattle.laws.specs.Picks.{first_passes, first_least, first_found}
use Rattle.laws.specs.Runs.{runs-page}
use Rattle.laws.specs.Device.{SoundDevice}
use Rattle.laws.specs.Balance.{room-other, room-reserve}
use Rattle.laws.specs.Placed.{Open, Opens, Puts, room_open, puts-sound, length-places}
use Rattle.laws.specs.Spread.{room_at, spread, filled, labelled, fitting, start_block, Leads, spread-step, spread_none, spread-whole, filled-step, filled_none, filled-whole}
use Rattle.laws.specs.Spread.{spread_skipped, filled_skipped, labelled-join}

-- ---- the lowest-numbered block with room for m pages

-- the papers' test of a block
abbrev takes : ℕ → Device → ℕ → Bool
takes m d b = not (eqb b d.reserve) && leb (fill d b + m) d.pages

takes-room : (m : ℕ) (d : Device) (b : ℕ) → 0 < m → takes m d b ≡ leb m (room d b)
takes-room m d b h =
    by_cases (ℕ_discrete b d.reserve)
    (λ e. rw (eq-eqb b d.reserve e) (sym (lt-leb m (room d b) (omega (arith, ap (room d) e, room-reserve d)))))
    (λ e. let r = room-other d b e in
    rw (ne_eqb b d.reserve e) (by_cases (dec_lt d.pages (fill d b + m))
    (λ f. lt-leb (fill d b + m) d.pages f ∙ sym (lt-leb m (room d b) (omega arith)))
    (λ f. le-leb (fill d b + m) d.pages (omega arith) ∙ sym (le-leb m (room d b) (omega arith)))))

-- it has room for them
pub target_room : (m : ℕ) (d : Device) → target m d < blocks d → m ≤ room d (target m d)
unfolding target
target_room m d h =
    by_cases (dec_lt 0 m)
    (λ s. let b = first (blocks d) (takes m d) in leb-true m (room d b) (sym (takes-room m d b s) ∙ first_passes (blocks d) (takes m d) h))
    (λ s. omega arith)

-- the blocks before it have not
pub target-lowest : (m : ℕ) (d : Device) → 0 < m → (b : ℕ) → b < target m d → room d b < m
unfolding target
target-lowest m d s b h = leb-false m (room d b) (sym (takes-room m d b s) ∙ first_least (blocks d) (takes m d) b h)

-- where a block has, there is one
pub target_found : (m : ℕ) (d : Device) → 0 < m → (b : ℕ) → b < blocks d → m ≤ room d b → target m d < blocks d
unfolding target
target_found m d s b h r = first_found (blocks d) (takes m d) b h (takes-room m d b s ∙ le-leb m (room d b) r)

-- while pages are free there is an open block
pub target_open : (d : Device) → 0 < free d → Open d (target 1 d)
unfolding free
target_open d h =
    by_cases (dec_lt (target 1 d) (blocks d))
    (λ f. room_open d (target 1 d) f (omega (arith, target_room 1 d f)))
    (λ f. absurd (omega (
      arith,
      sum-zero (blocks d) (room d) (λ c t.
          by_cases (dec_lt 0 (room d c))
          (λ g. absurd (f (target_found 1 d (omega arith) c t (omega arith))))
          (λ g. omega arith)),
    )))

-- ---- one page

room-at : (d : Device) (b : ℕ) → room_at d.pages d.reserve b (fill d b) ≡ room d b
unfolding room_at room
room-at d b = refl

pub blocks-put : (b l : ℕ) (d : Device) → blocks (put_at b l d) ≡ blocks d
unfolding put_at
blocks-put b l d = length-set d.fills b (suc (fill d b))

module _ (d : Device) (b l : ℕ) (v : Open d b) where
  open_fill : fill (put_at b l d) b ≡ suc (fill d b)
  unfolding put_at
  open_fill = get_or-set_same d.fills b (suc (fill d b)) 0 v.inside

  open_room : room (put_at b l d) b + 1 ≡ room d b
  unfolding put_at
  open_room = omega (arith, open_fill, room-other (put_at b l d) b v.other, room-other d b v.other, v.below)

  pub open_free : free (put_at b l d) + 1 ≡ free d
  unfolding free put_at
  open_free =
      let e = put_at b l d in
      rw (length-set d.fills b (suc (fill d b))) (omega (
        arith,
        open_room,
        sum_change (blocks d) (room e) (room d) b v.inside (λ c h f.
            sym (room-at e c) ∙ ap (room_at d.pages d.reserve c) (get_or-set_other d.fills b c (suc (fill d b)) 0 f) ∙ room-at d c),
      ))

  -- its page is one
  open_page_lem : blocks d * d.pages ≤ none → b * d.pages + fill d b ≡ none → ⊥
  open_page_lem w e = omega (arith, digits_lt {q = b} {m = blocks d} {r = fill d b} {c = d.pages} v.inside v.below)

put-words : (b l : ℕ) (d : Device) → blocks d * d.pages ≤ none → blocks (put_at b l d) * (put_at b l d).pages ≤ none
unfolding put_at
put-words b l d w = rw (length-set d.fills b (suc (fill d b))) w

-- ---- n pages

module _ (l n : ℕ) (d : Device) where
  -- 02, T-04: a block has room for all of them, or none has
  pub targets-whole : target n d < blocks d → targets l n d ≡ replicate n (target n d)
  unfolding targets
  targets-whole h = rw (lt-ltb (target n d) (blocks d) h)

  pub targets_split : (target n d < blocks d → ⊥) → targets l n d ≡ in_turn l n d
  unfolding targets
  targets_split h = rw (le-ltb (target n d) (blocks d) (omega arith))

length_turn : (l n : ℕ) (d : Device) → length (in_turn l n d) ≡ n
unfolding in_turn
length_turn l zero d = refl
length_turn l (suc n) d = ap suc (length_turn (suc l) n (put_at (target 1 d) l d))

pub length-targets : (l n : ℕ) (d : Device) → length (targets l n d) ≡ n
length-targets l n d =
    by_cases (dec_lt (target n d) (blocks d))
    (λ h. ap length (targets-whole l n d h) ∙ length-replicate n (target n d))
    (λ h. ap length (targets_split l n d h) ∙ length_turn l n d)

-- a block with room for all of them may take them all
block_open : (b l n : ℕ) (d : Device) → b < blocks d → n ≤ room d b → Opens l (replicate n b) d
block_open b l zero d h r = tt
block_open b l (suc n) d h r =
    let v = room_open d b h (omega arith) in
    (v, block_open b (suc l) n (put_at b l d) (omega (arith, blocks-put b l d)) (omega (arith, open_room d b l v)))

turn_open : (l n : ℕ) (d : Device) → n ≤ free d → Opens l (in_turn l n d) d
unfolding in_turn
turn_open l zero d f = tt
turn_open l (suc n) d f =
    let v = target_open d (omega arith) in
    (v, turn_open (suc l) n (put_at (target 1 d) l d) (omega (arith, open_free d (target 1 d) l v)))

pub targets_open : (l n : ℕ) (d : Device) → n ≤ free d → Opens l (targets l n d) d
targets_open l n d f =
    by_cases (dec_lt (target n d) (blocks d))
    (λ h. rw (targets-whole l n d h) (block_open (target n d) l n d h (target_room n d h)))
    (λ h. rw (targets_split l n d h) (turn_open l n d f))

pub length-placed : (l n : ℕ) (d : Device) → length (places l n d) ≡ n
unfolding places
length-placed l n d = length-places l (targets l n d) d ∙ length-targets l n d

pub puts-all : (l n : ℕ) (d : Device) → SoundDevice d → n ≤ free d → l + n ≤ lines d → Puts d (puts l n d) n
unfolding puts
puts-all l n d s f h =
    let m = length-targets l n d in
    subst (Puts d (puts_at l (targets l n d) d)) m (puts-sound l (targets l n d) d s (targets_open l n d f) (omega arith))

-- the order reads the fills, the reserve and N
target-same : (m : ℕ) (d e : Device) → d.pages ≡ e.pages → d.fills ≡ e.fills → d.reserve ≡ e.reserve → target m d ≡ target m e
unfolding target
target-same m d e p f r = rw (p, f, r)

turn_same : (l n : ℕ) (d e : Device) → d.pages ≡ e.pages → d.fills ≡ e.fills → d.reserve ≡ e.reserve → in_turn l n d ≡ in_turn l n e
unfolding in_turn put_at
turn_same l zero d e p f r = refl
turn_same l (suc n) d e p f r =
    let t = target-same 1 d e p f r in
    ap₂ (λ (b : ℕ) (bs : List ℕ). b ∷ bs) t
    (turn_same (suc l) n (put_at (target 1 d) l d) (put_at (target 1 e) l e) p (ap₂ (λ (fs : List ℕ) (b : ℕ). set fs b (suc (get_or fs b 0))) f t) r)

pub targets-same : (l n : ℕ) (d e : Device) → d.pages ≡ e.pages → d.fills ≡ e.fills → d.reserve ≡ e.reserve → targets l n d ≡ targets l n e
unfolding targets
targets-same l n d e p f r =
    let t = target-same n d e p f r in
    ap₂ (λ (b : ℕ) (fs : List ℕ). cond (ltb b (length fs)) (replicate n b) (in_turn l n d)) t f
    ∙ ap (λ (bs : List ℕ). cond (ltb (target n e) (blocks e)) (replicate n (target n e)) bs) (turn_same l n d e p f r)

-- ---- page by page is block by block: a block with room for all of them

module _ (b : ℕ) where
  block-pieces : (n l : ℕ) (d : Device) → blocks d * d.pages ≤ none → b < blocks d → n ≤ room d b
      → spread d.pages d.reserve (fill d b ∷ []) b l n ≡ runs d.pages l (places_at l (replicate n b) d)
  unfolding places_at runs put_at
  block-pieces zero l d w h r = spread_none d.pages d.reserve (fill d b ∷ []) b l
  block-pieces (suc n) l d w h r =
      let v = room_open d b h (omega arith) in
      let page = b * d.pages + fill d b in
      let z : b + 0 ≡ b = omega arith in
      let leads : Leads d.pages d.reserve (fill d b ∷ []) b 0 = record {
        inside = omega arith;
        before = λ j a. absurd (omega arith);
        some = omega (arith, ap (λ (x : ℕ). room_at d.pages d.reserve x (fill d b)) z, room-at d b);
      } in
      spread-step d.pages d.reserve (fill d b ∷ []) b 0 l n page leads (sym (ap (λ (x : ℕ). x * d.pages + fill d b) z))
      ∙ ap (λ (f : ℕ). join d.pages (extent l page 1) (spread d.pages d.reserve (f ∷ []) b (suc l) n)) (sym (open_fill d b l v))
      ∙ ap (join d.pages (extent l page 1)) (block-pieces n (suc l) (put_at b l d) (put-words b l d w) (omega (arith, blocks-put b l d)) (omega (arith, open_room d b l v)))
      ∙ sym (runs-page d.pages l page (places_at (suc l) (replicate n b) (put_at b l d)) (open_page_lem d b l v w))

  block-fills : (n l : ℕ) (d : Device) → b < blocks d → n ≤ room d b → (puts_at l (replicate n b) d).fills ≡ set d.fills b (fill d b + n)
  unfolding puts_at
  block-fills zero l d h r = let z : fill d b ≡ fill d b + 0 = omega arith in sym (set-get_or d.fills b 0) ∙ ap (set d.fills b) z
  block-fills (suc n) l d h r =
      let v = room_open d b h (omega arith) in
      let z : fill (put_at b l d) b + n ≡ fill d b + suc n = omega (arith, open_fill d b l v) in
      block-fills n (suc l) (put_at b l d) (omega (arith, blocks-put b l d)) (omega (arith, open_room d b l v))
      ∙ ap (set (put_at b l d).fills b) z ∙ (unfold put_at in set-set d.fills b (suc (fill d b)) (fill d b + suc n))

-- 02, T-04: what is kept whole is one piece
pub whole-piece : (l n : ℕ) (d : Device) → blocks d * d.pages ≤ none → 0 < n → target n d < blocks d
    → pieces l n d ≡ extent l (target n d * d.pages + fill d (target n d)) n ∷ []
unfolding pieces places
whole-piece l n d w s h =
    let b = target n d in
    let r = target_room n d h in
    ap (λ (bs : List ℕ). runs d.pages l (places_at l bs d)) (targets-whole l n d h)
    ∙ sym (block-pieces b n l d w h r)
    ∙ spread-whole d.pages d.reserve (fill d b) [] b l n s (omega (arith, room-at d b))

-- ---- and blocks in turn

-- 01's choice of the next block
target_leads : (d : Device) → 0 < free d → Leads d.pages d.reserve d.fills 0 (target 1 d)
target_leads d h =
    let t = target 1 d in
    let v = target_open d h in
    let z : 0 + t ≡ t = omega arith in
    record {
      inside = v.inside;
      before = λ j a. let e : 0 + j ≡ j = omega arith in
          ap (λ (x : ℕ). room_at d.pages d.reserve x (fill d j)) e ∙ room-at d j ∙ omega (arith, target-lowest 1 d (omega arith) j a);
      some = omega (arith, ap (λ (x : ℕ). room_at d.pages d.reserve x (fill d t)) z, room-at d t, room-other d t v.other, v.below);
    }

-- the page that is taken next, and the device with it taken
abbrev open_page : Device → ℕ
open_page d = target 1 d * d.pages + fill d (target 1 d)

abbrev next : ℕ → Device → Device
next l d = put_at (target 1 d) l d

turn_pieces : (n l : ℕ) (d : Device) → blocks d * d.pages ≤ none → n ≤ free d
    → spread d.pages d.reserve d.fills 0 l n ≡ runs d.pages l (places_at l (in_turn l n d) d)
unfolding places_at in_turn runs put_at
turn_pieces zero l d w f = spread_none d.pages d.reserve d.fills 0 l
turn_pieces (suc n) l d w f =
    let h : 0 < free d = omega arith in
    let t = target 1 d in
    let v = target_open d h in
    let z : 0 + t ≡ t = omega arith in
    spread-step d.pages d.reserve d.fills 0 t l n (open_page d) (target_leads d h) (sym (ap (λ (x : ℕ). x * d.pages + fill d t) z))
    ∙ ap (join d.pages (extent l (open_page d) 1)) (turn_pieces n (suc l) (next l d) (put-words t l d w) (omega (arith, open_free d t l v)))
    ∙ sym (runs-page d.pages l (open_page d) (places_at (suc l) (in_turn (suc l) n (next l d)) (next l d)) (open_page_lem d t l v w))

turn_fills : (n l : ℕ) (d : Device) → n ≤ free d → (puts_at l (in_turn l n d) d).fills ≡ filled d.pages d.reserve d.fills 0 n
unfolding puts_at in_turn put_at
turn_fills zero l d f = sym (filled_none d.pages d.reserve d.fills 0)
turn_fills (suc n) l d f =
    let h : 0 < free d = omega arith in
    let t = target 1 d in
    turn_fills n (suc l) (next l d) (omega (arith, open_free d t l (target_open d h)))
    ∙ sym (filled-step d.pages d.reserve d.fills 0 t n (target_leads d h))

-- ---- and both, from the block on that the write starts with

fitting-target : (m : ℕ) (d : Device) → 0 < m → fitting d.pages d.reserve d.fills m ≡ target m d
unfolding fitting target
fitting-target m d s =
    λ i. first (blocks d) (λ b. (ap₂ ◌&&◌ (lt-ltb 0 m s) (ap (leb m) (room-at d b) ∙ sym (takes-room m d b s))) i)

module _ (n : ℕ) (d : Device) (some : 0 < n) where
  abbrev start : ℕ
  start = start_block d.pages d.reserve d.fills n

  start-whole : target n d < blocks d → start ≡ target n d
  unfolding start_block
  start-whole h =
      let e = fitting-target n d some in
      rw e (rw (lt-ltb (target n d) (blocks d) h) refl)

  start_split : (target n d < blocks d → ⊥) → start ≡ target 1 d
  unfolding start_block
  start_split h =
      let e = fitting-target n d some in
      let one : min n 1 ≡ 1 = omega arith in
      rw e (rw (le-ltb (target n d) (blocks d) (omega arith), one) (fitting-target 1 d (omega arith)))

  -- where pages are free, it is one of the device's
  pub start-inside : n ≤ free d → start < blocks d
  start-inside f =
      by_cases (dec_lt (target n d) (blocks d))
      (λ h. rw (start-whole h) h)
      (λ h. rw (start_split h) (target_open d (omega arith)).inside)

  module _ (l : ℕ) (f : n ≤ free d) where
    pub spread-pieces : blocks d * d.pages ≤ none → spread d.pages d.reserve (drop start d.fills) start l n ≡ pieces l n d
    unfolding pieces places
    spread-pieces w =
        by_cases (dec_lt (target n d) (blocks d))
        (λ h. let b = target n d in
        ap (λ (s : ℕ). spread d.pages d.reserve (drop s d.fills) s l n) (start-whole h)
        ∙ ap (λ (fs : List ℕ). spread d.pages d.reserve fs b l n) (drop-cons d.fills b 0 h)
        ∙ spread-whole d.pages d.reserve (fill d b) (drop (suc b) d.fills) b l n some (omega (arith, room-at d b, target_room n d h))
        ∙ sym (whole-piece l n d w some h))
        (λ h. let b = target 1 d in
        let z : 0 + b ≡ b = omega arith in
        ap (λ (s : ℕ). spread d.pages d.reserve (drop s d.fills) s l n) (start_split h)
        ∙ sym (ap (λ (x : ℕ). spread d.pages d.reserve (drop b d.fills) x l n) z)
        ∙ sym (spread_skipped d.pages d.reserve b d.fills 0 l n (target_leads d (omega arith)).before)
        ∙ turn_pieces n l d w f
        ∙ sym (ap (λ (bs : List ℕ). runs d.pages l (places_at l bs d)) (targets_split l n d h)))

    pub puts-filled : (puts l n d).fills ≡ take start d.fills ++ filled d.pages d.reserve (drop start d.fills) start n
    unfolding puts
    puts-filled =
        by_cases (dec_lt (target n d) (blocks d))
        (λ h. let b = target n d in
        let r = target_room n d h in
        ap (λ (bs : List ℕ). (puts_at l bs d).fills) (targets-whole l n d h)
        ∙ block-fills b n l d h r
        ∙ set_split d.fills b (fill d b + n) h
        ∙ sym (ap (λ (s : ℕ). take s d.fills ++ filled d.pages d.reserve (drop s d.fills) s n) (start-whole h)
        ∙ ap (λ (fs : List ℕ). take b d.fills ++ filled d.pages d.reserve fs b n) (drop-cons d.fills b 0 h)
        ∙ ap (λ (fs : List ℕ). take b d.fills ++ fs) (filled-whole d.pages d.reserve (fill d b) (drop (suc b) d.fills) b n (omega (arith, room-at d b)))))
        (λ h. let b = target 1 d in
        let z : 0 + b ≡ b = omega arith in
        ap (λ (bs : List ℕ). (puts_at l bs d).fills) (targets_split l n d h)
        ∙ turn_fills n l d f
        ∙ filled_skipped d.pages d.reserve b d.fills 0 n (target_leads d (omega arith)).before
        ∙ ap (λ (x : ℕ). take b d.fills ++ filled d.pages d.reserve (drop b d.fills) x n) z
        ∙ sym (ap (λ (s : ℕ). take s d.fills ++ filled d.pages d.reserve (drop s d.fills) s n) (start_split h)))

-- ---- the labels of any pages

opens-labelled : (l : ℕ) (bs : List ℕ) (d : Device) → blocks d * d.pages ≤ none → Opens l bs d
    → (puts_at l bs d).spare ≡ labelled (runs d.pages l (places_at l bs d)) d.spare
unfolding puts_at places_at put_at runs labelled
opens-labelled l [] d w v = refl
opens-labelled l (b ∷ bs) d w v =
    let page = b * d.pages + fill d b in
    let rest = places_at (suc l) bs (put_at b l d) in
    opens-labelled (suc l) bs (put_at b l d) (put-words b l d w) v.1
    ∙ sym (ap (λ (es : List Extent). labelled es d.spare) (runs-page d.pages l page rest (open_page_lem d b l v.0 w))
    ∙ labelled-join d.pages l page (runs d.pages (suc l) rest) d.spare)

pub puts-labelled : (n l : ℕ) (d : Device) → blocks d * d.pages ≤ none → n ≤ free d → (puts l n d).spare ≡ labelled (pieces l n d) d.spare
unfolding puts pieces places
puts-labelled n l d w f = opens-labelled l (targets l n d) d w (targets_open l n d f)
