-- How fills rise with a write: each by the pages that its block takes. In 01's order a block is filled before the next takes a page, and pages are taken in
-- rising order.
use Rattle.std.specs.Prelude.{ℕ, zero, suc, ◌+◌, ◌*◌, ◌≤◌, ◌<◌, ◌≡◌, refl, List, [], ◌∷◌, eqb, length, get_or, set}
use Rattle.std.proofs.Common.{sym, ap, arith, eq-eqb, ne_eqb, get_or-set_same, get_or-set_other}
use Rattle.std.proofs.Math.Logic.{by_cases}
use Rattle.std.proofs.Math.Decide.{dec_lt, ℕ_discrete}
use Rattle.rules.specs.Counting.{one, count}
use Rattle.rules.specs.Extents.{none}
use Rattle.rules.specs.Device.{Device, blocks, fill, room, free}
use Rattle.rules.specs.Placement.{put_at, puts_at, places_at, target, in_turn, targets, puts, places}
use Rattle.laws.specs.Sums.{count-first}
use Rattle.laws.specs.Cells.{block_le}
use Rattle.laws.specs.Balance.{room-other}
use Rattle.laws.specs.Placed.{puts-pages, puts-reserve}
use Rattle.laws.specs.Order.{target-lowest, target_open, blocks-put, open_free, targets_split, length-targets}

put-rises : (b l : ℕ) (d : Device) (c : ℕ) → c < blocks d → fill (put_at b l d) c ≡ fill d c + one (eqb b c)
unfolding put_at
put-rises b l d c h =
    by_cases (ℕ_discrete c b)
    (λ e. omega (
      arith,
      ap (λ (x : ℕ). get_or (set d.fills b (suc (fill d b))) x 0) e,
      get_or-set_same d.fills b (suc (fill d b)) 0 (omega arith),
      ap (fill d) e,
      ap one (eq-eqb b c (sym e)),
    ))
    (λ e. omega (arith, get_or-set_other d.fills b c (suc (fill d b)) 0 e, ap one (ne_eqb b c (λ g. e (sym g)))))

rises : (l : ℕ) (bs : List ℕ) (d : Device) (c : ℕ) → c < blocks d → fill (puts_at l bs d) c ≡ fill d c + count (length bs) (λ i. eqb (get_or bs i 0) c)
unfolding puts_at count
rises l [] d c h = omega arith
rises l (b ∷ bs) d c h =
    omega (
      arith,
      rises (suc l) bs (put_at b l d) c (rw (blocks-put b l d) h),
      put-rises b l d c h,
      count-first (length bs) (λ i. eqb (get_or (b ∷ bs) i 0) c),
    )

pub puts_rise : (l n : ℕ) (d : Device) (c : ℕ) → c < blocks d → fill (puts l n d) c ≡ fill d c + count n (λ i. eqb (get_or (targets l n d) i 0) c)
unfolding puts
puts_rise l n d c h =
    omega (arith, rises l (targets l n d) d c h, ap (λ (k : ℕ). count k (λ i. eqb (get_or (targets l n d) i 0) c)) (length-targets l n d))

-- ---- 01's order fills a block before it goes on to the next

room_falls : (l : ℕ) (bs : List ℕ) (d : Device) (c : ℕ) → c < blocks d → room (puts_at l bs d) c ≤ room d c
unfolding room
room_falls l bs d c h =
    by_cases (ℕ_discrete c d.reserve)
    (λ e. rw (puts-reserve l bs d, eq-eqb c d.reserve e) (omega arith))
    (λ e. rw (puts-reserve l bs d, puts-pages l bs d, ne_eqb c d.reserve e) (omega (arith, rises l bs d c h)))

-- where a block has taken pages, those before it have none left
turn_lowest : (l n : ℕ) (d : Device) → n ≤ free d → (b c : ℕ) → c < b → b < blocks d → fill d b < fill (puts_at l (in_turn l n d) d) b
    → room (puts_at l (in_turn l n d) d) c ≡ 0
unfolding puts_at in_turn
turn_lowest l zero d f b c h k r = absurd (omega arith)
turn_lowest l (suc n) d f b c h k r =
    let e = put_at (target 1 d) l d in
    let after = puts_at (suc l) (in_turn (suc l) n e) e in
    let t = target 1 d in
    let v = target_open d (omega arith) in
    let size = blocks-put t l d in
    by_cases (dec_lt (fill e b) (fill after b))
    (λ g. turn_lowest (suc l) n e (omega (arith, open_free d t l v)) b c h (omega (arith, size)) g)
    (λ g. by_cases (ℕ_discrete t b)
    (λ q. omega (
      arith,
      room_falls (suc l) (in_turn (suc l) n e) e c (omega (arith, size)),
      room_falls l (t ∷ []) d c (omega arith),
      target-lowest 1 d (omega arith) c (omega arith),
    ))
    (λ q. absurd (omega (arith, put-rises t l d b k, ap one (ne_eqb t b q)))))

pub split_lowest : (l n : ℕ) (d : Device) → n ≤ free d → (target n d < blocks d → ⊥) → (b c : ℕ) → c < b → b < blocks d → fill d b < fill (puts l n d) b
    → room (puts l n d) c ≡ 0
unfolding puts
split_lowest l n d f h b c s k r =
    rw (targets_split l n d h) (turn_lowest l n d f b c s k (rw (targets_split l n d h) at r))

-- ---- and takes pages in rising order

-- the next page lies behind the one before
next-rises : (l : ℕ) (d : Device) → let e = put_at (target 1 d) l d in 0 < free d → 0 < free e
    → target 1 d * d.pages + fill d (target 1 d) < target 1 e * e.pages + fill e (target 1 e)
unfolding put_at puts_at
next-rises l d f g =
    let t = target 1 d in
    let e = put_at t l d in
    let u = target 1 e in
    let v = target_open d f in
    let w = target_open e g in
    let inside : u < blocks d = omega (arith, w.inside, blocks-put t l d) in
    by_cases (dec_lt u t)
    (λ a. absurd (omega (
      arith,
      target-lowest 1 d (omega arith) u a,
      room_falls l (t ∷ []) d u inside,
      room-other e u w.other,
      w.below,
    )))
    (λ a. by_cases (dec_lt t u)
    (λ b. omega (arith, block_le d.pages t u b, v.below))
    (λ b. let q : u ≡ t = omega arith in
    omega (arith, ap (λ (x : ℕ). x * d.pages + fill e x) q, put-rises t l d t v.inside, ap one (eq-eqb t t refl))))

turn_rises : (l n : ℕ) (d : Device) → n ≤ free d → (i : ℕ) → suc i < n → get_or (places_at l (in_turn l n d) d) i none < get_or (places_at l (in_turn l n d) d) (suc i) none
unfolding places_at in_turn
turn_rises l zero d f i h = absurd (omega arith)
turn_rises l (suc zero) d f i h = absurd (omega arith)
turn_rises l (suc (suc n)) d f zero h = let v = target_open d (omega arith) in next-rises l d (omega arith) (omega (arith, open_free d (target 1 d) l v))
turn_rises l (suc (suc n)) d f (suc i) h =
    let v = target_open d (omega arith) in
    turn_rises (suc l) (suc n) (put_at (target 1 d) l d) (omega (arith, open_free d (target 1 d) l v)) i (omega arith)

pub split_rises : (l n : ℕ) (d : Device) → n ≤ free d → (target n d < blocks d → ⊥) → (i : ℕ) → suc i < n → get_or (places l n d) i none < get_or (places l n d) (suc i) none
unfolding places
split_rises l n d f h i s = rw (targets_split l n d h) (turn_rises l n d f i s)
