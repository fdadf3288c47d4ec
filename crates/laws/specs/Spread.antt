-- Pages spread over blocks: each block in turn takes what it has room for, the reserve none. The pieces, the fills and the labels that this gives, and
-- what one page more changes in them. By fills, the reserve and N alone; that the order of placement gives the same is shown in Order.
use Rattle.std.specs.Prelude.{ℕ, zero, suc, ◌+◌, ◌-◌, ◌*◌, ◌/◌, ◌≤◌, ◌<◌, min, ◌≡◌, refl, List, [], ◌∷◌, ◌++◌, cond, ◌&&◌, eqb, ltb, leb, length, get_or, set, take, drop}
use Rattle.std.proofs.Common.{sym, ◌∙◌, eq-eqb, ne_eqb}
use Rattle.std.proofs.Math.Path.{ap, ap₂}
use Rattle.std.proofs.Math.Logic.{by_cases}
use native.Mathlib.Omega.{arith}
use Rattle.std.proofs.Math.Decide.{dec_lt}
use Rattle.std.proofs.Math.Arith.{digits_div}
use Rattle.std.proofs.lemmas.List.Edits.{sets}
use Rattle.rules.specs.Counting.{first, tabulate}
use Rattle.rules.specs.Extents.{extent, joinable, join}
use Rattle.rules.specs.declared.Extent.{Extent}
use Rattle.laws.specs.Bools.{cases, never}
use Rattle.laws.specs.Runs.{Joined, joinable-true, joined-true, join-joined, join_apart}

-- ---- what a block takes

-- the room of block b, whose fill is f
unfoldable pub room_at : ℕ → ℕ → ℕ → ℕ → ℕ
room_at n reserve b f = cond (eqb b reserve) 0 (n - f)

unfoldable pub taken : ℕ → ℕ → ℕ → ℕ → ℕ → ℕ
taken n reserve b f want = min (room_at n reserve b f) want

-- the first block that has room for m pages, one or more, or the number of blocks where none has
unfoldable pub fitting : ℕ → ℕ → List ℕ → ℕ → ℕ
fitting n reserve fs m = first (length fs) (λ b. ltb 0 m && leb m (room_at n reserve b (get_or fs b 0)))

-- the block that `want` pages start with: the first that has room for all of them or, where none has, the first that has room for one
unfoldable pub start_block : ℕ → ℕ → List ℕ → ℕ → ℕ
start_block n reserve fs want = cond (ltb (fitting n reserve fs want) (length fs)) (fitting n reserve fs want) (fitting n reserve fs (min want 1))

-- an extent in front of others; of no pages it is none
unfoldable pub with_piece : Extent → List Extent → List Extent
with_piece e es = cond (eqb e.count 0) es (e ∷ es)

-- the pieces of `want` pages for lines l, l + 1, .., over blocks b, b + 1, .., whose fills are given
unfoldable pub spread : ℕ → ℕ → List ℕ → ℕ → ℕ → ℕ → List Extent
spread n reserve [] b l want = []
spread n reserve (f ∷ fs) b l want =
    let m = taken n reserve b f want in
    with_piece (extent l (b * n + f) m) (spread n reserve fs (b + 1) (l + m) (want - m))

-- and the fills with what each block takes
unfoldable pub filled : ℕ → ℕ → List ℕ → ℕ → ℕ → List ℕ
filled n reserve [] b want = []
filled n reserve (f ∷ fs) b want =
    let m = taken n reserve b f want in
    (f + m) ∷ filled n reserve fs (b + 1) (want - m)

-- the labels of pieces, stored piece by piece
unfoldable pub labelled : List Extent → List ℕ → List ℕ
labelled [] s = s
labelled (e ∷ es) s = labelled es (sets s e.physical (tabulate e.count (λ i. e.logical + i)))

pub listed-none : (e : Extent) (es : List Extent) → e.count ≡ 0 → with_piece e es ≡ es
unfolding with_piece
listed-none e es h = rw (eq-eqb e.count 0 h)

pub listed-some : (e : Extent) (es : List Extent) → 0 < e.count → with_piece e es ≡ e ∷ es
unfolding with_piece
listed-some e es h = rw (ne_eqb e.count 0 (omega arith))

pub taken_le : (n reserve b f want : ℕ) → taken n reserve b f want ≤ want
unfolding taken
taken_le n reserve b f want = omega arith

pub room_le : (n reserve b f : ℕ) → room_at n reserve b f ≤ n - f
unfolding room_at
room_le n reserve b f = cases (eqb b reserve) (λ e. rw e (omega arith)) (λ e. rw e (omega arith))

-- a block that takes pages has room for them
pub taken-room : (n reserve b f want : ℕ) → 0 < taken n reserve b f want → f + taken n reserve b f want ≤ n
unfolding taken
taken-room n reserve b f want h = omega (arith, room_le n reserve b f)

room-other : (n reserve b f : ℕ) → (b ≡ reserve → ⊥) → room_at n reserve b f ≡ n - f
unfolding room_at
room-other n reserve b f h = rw (ne_eqb b reserve h)

-- what it takes, case by case
module _ (n reserve b f want : ℕ) where
  pub taken-reserve : b ≡ reserve → taken n reserve b f want ≡ 0
  unfolding taken room_at
  taken-reserve e = rw (eq-eqb b reserve e) (omega arith)

  pub taken-full : n ≤ f → taken n reserve b f want ≡ 0
  unfolding taken
  taken-full h = omega (arith, room_le n reserve b f)

  pub taken-part : (b ≡ reserve → ⊥) → n - f < want → taken n reserve b f want ≡ n - f
  unfolding taken
  taken-part e h = omega (arith, room-other n reserve b f e)

  pub taken-all : (b ≡ reserve → ⊥) → want ≤ n - f → taken n reserve b f want ≡ want
  unfolding taken
  taken-all e h = omega (arith, room-other n reserve b f e)

module _ (n reserve f : ℕ) (fs : List ℕ) (b l want : ℕ) where
  pub spread_skip : taken n reserve b f want ≡ 0 → spread n reserve (f ∷ fs) b l want ≡ spread n reserve fs (b + 1) l want
  unfolding spread
  spread_skip e =
      let m = taken n reserve b f want in
      let p : l + m ≡ l = omega arith in
      let q : want - m ≡ want = omega arith in
      listed-none (extent l (b * n + f) m) (spread n reserve fs (b + 1) (l + m) (want - m)) e
      ∙ ap₂ (λ (x y : ℕ). spread n reserve fs (b + 1) x y) p q

  pub spread-some : 0 < taken n reserve b f want → spread n reserve (f ∷ fs) b l want
      ≡ extent l (b * n + f) (taken n reserve b f want) ∷ spread n reserve fs (b + 1) (l + taken n reserve b f want) (want - taken n reserve b f want)
  unfolding spread
  spread-some h =
      let m = taken n reserve b f want in
      listed-some (extent l (b * n + f) m) (spread n reserve fs (b + 1) (l + m) (want - m)) h

-- of no pages there are no pieces
pub spread_none : (n reserve : ℕ) (fs : List ℕ) (b l : ℕ) → spread n reserve fs b l 0 ≡ []
unfolding spread
spread_none n reserve [] b l = refl
spread_none n reserve (f ∷ fs) b l =
    spread_skip n reserve f fs b l 0 (omega (arith, taken_le n reserve b f 0)) ∙ spread_none n reserve fs (b + 1) l

-- a block that has room for all of them takes all of them
pub spread-whole : (n reserve f : ℕ) (fs : List ℕ) (b l want : ℕ) → 0 < want → want ≤ room_at n reserve b f → spread n reserve (f ∷ fs) b l want ≡ extent l (b * n + f) want ∷ []
unfolding taken
spread-whole n reserve f fs b l want h r =
    let m = taken n reserve b f want in
    let e : m ≡ want = omega arith in
    let z : want - want ≡ 0 = omega arith in
    spread-some n reserve f fs b l want (omega arith)
    ∙ ap (λ (x : ℕ). extent l (b * n + f) x ∷ spread n reserve fs (b + 1) (l + x) (want - x)) e
    ∙ ap (λ (x : ℕ). extent l (b * n + f) want ∷ spread n reserve fs (b + 1) (l + want) x) z
    ∙ ap (λ (es : List Extent). extent l (b * n + f) want ∷ es) (spread_none n reserve fs (b + 1) (l + want))

-- how many pieces there are is no matter of the lines
pub spread-length : (n reserve : ℕ) (fs : List ℕ) (b l l' want : ℕ) → length (spread n reserve fs b l want) ≡ length (spread n reserve fs b l' want)
unfolding spread
spread-length n reserve [] b l l' want = refl
spread-length n reserve (f ∷ fs) b l l' want =
    let m = taken n reserve b f want in
    by_cases (dec_lt 0 m)
    (λ h. ap length (spread-some n reserve f fs b l want h)
    ∙ ap suc (spread-length n reserve fs (b + 1) (l + m) (l' + m) (want - m))
    ∙ sym (ap length (spread-some n reserve f fs b l' want h)))
    (λ h. ap length (spread_skip n reserve f fs b l want (omega arith))
    ∙ spread-length n reserve fs (b + 1) l l' want
    ∙ sym (ap length (spread_skip n reserve f fs b l' want (omega arith))))

-- ---- one page

-- pieces from block b on join with nothing in a block before it
spread-apart : (n reserve : ℕ) (fs : List ℕ) (b l want : ℕ) (a : Extent) → a.physical / n < b → join n a (spread n reserve fs b l want) ≡ a ∷ spread n reserve fs b l want
unfolding join spread
spread-apart n reserve [] b l want a h = refl
spread-apart n reserve (f ∷ fs) b l want a h =
    let m = taken n reserve b f want in
    by_cases (dec_lt 0 m)
    (λ s. rw (spread-some n reserve f fs b l want s) (join_apart n a (extent l (b * n + f) m) (spread n reserve fs (b + 1) (l + m) (want - m))
    (never (joinable n a (extent l (b * n + f) m)) (λ e.
    omega (arith, (joinable-true n a (extent l (b * n + f) m) e).block, digits_div b {m = n} {r = f} (omega (arith, taken-room n reserve b f want s)))))))
    (λ s. rw (spread_skip n reserve f fs b l want (omega arith)) (spread-apart n reserve fs (b + 1) l want a (omega arith)))

-- a page less of room
room-suc : (n reserve b f : ℕ) → 0 < room_at n reserve b f → room_at n reserve b (suc f) + 1 ≡ room_at n reserve b f
unfolding room_at
room-suc n reserve b f =
    cases {C = 0 < room_at n reserve b f → room_at n reserve b (suc f) + 1 ≡ room_at n reserve b f} (eqb b reserve)
    (λ e. rw e (λ h. absurd (omega arith)))
    (λ e. rw e (λ h. omega arith))

taken-suc : (n reserve b f w : ℕ) → 0 < room_at n reserve b f → taken n reserve b f (suc w) ≡ suc (taken n reserve b (suc f) w)
unfolding taken
taken-suc n reserve b f w h = omega (arith, room-suc n reserve b f h)

-- the first k blocks have no room
abbrev pub Full : ℕ → ℕ → List ℕ → ℕ → ℕ → Type 0
Full n reserve fs b k = (j : ℕ) → j < k → room_at n reserve (b + j) (get_or fs j 0) ≡ 0

module _ (n reserve f : ℕ) (fs : List ℕ) (b k : ℕ) (t : Full n reserve (f ∷ fs) b (suc k)) where
  full_skip : (want : ℕ) → taken n reserve b f want ≡ 0
  unfolding taken
  full_skip want = let e : b + 0 ≡ b = omega arith in omega (arith, t 0 (omega arith), ap (λ (x : ℕ). room_at n reserve x f) e)

  full-next : Full n reserve fs (b + 1) k
  full-next j h = let e : b + 1 + j ≡ b + suc j = omega arith in ap (λ (x : ℕ). room_at n reserve x (get_or fs j 0)) e ∙ t (suc j) (omega arith)

-- the blocks before the k-th have no room, and the k-th has: it takes the first page
pub record Leads (n reserve : ℕ) (fs : List ℕ) (b k : ℕ) : Type 0 where
  pub inside : k < length fs
  pub before : Full n reserve fs b k
  pub some : 0 < room_at n reserve (b + k) (get_or fs k 0)

leads_here : (n reserve f : ℕ) (fs : List ℕ) (b : ℕ) → Leads n reserve (f ∷ fs) b 0 → 0 < room_at n reserve b f
leads_here n reserve f fs b v = let e : b + 0 ≡ b = omega arith in omega (arith, v.some, ap (λ (x : ℕ). room_at n reserve x f) e)

leads_next : (n reserve f : ℕ) (fs : List ℕ) (b k : ℕ) → Leads n reserve (f ∷ fs) b (suc k) → Leads n reserve fs (b + 1) k
leads_next n reserve f fs b k v = record {
  inside = omega (arith, v.inside);
  before = full-next n reserve f fs b k v.before;
  some = let e : b + 1 + k ≡ b + suc k = omega arith in
      omega (arith, v.some, ap (λ (x : ℕ). room_at n reserve x (get_or fs k 0)) e);
}

step_here : (n reserve f : ℕ) (fs : List ℕ) (b l w : ℕ) → 0 < room_at n reserve b f
    → spread n reserve (f ∷ fs) b l (suc w) ≡ join n (extent l (b * n + f) 1) (spread n reserve (suc f ∷ fs) b (suc l) w)
step_here n reserve f fs b l w h =
    let m = taken n reserve b f (suc w) in
    let m' = taken n reserve b (suc f) w in
    let e = taken-suc n reserve b f w h in
    let page = extent l (b * n + f) 1 in
    let home = digits_div b {m = n} {r = f} (omega (arith, room_le n reserve b f)) in
    spread-some n reserve f fs b l (suc w) (omega arith)
    ∙ by_cases (dec_lt 0 m')
    (λ s. let next = extent (suc l) (b * n + suc f) m' in
    let j : Joined n page next = record {
      block = home ∙ sym (digits_div b {m = n} {r = suc f} (omega (arith, taken-room n reserve b (suc f) w s)));
      logical = omega arith;
      physical = omega arith;
    } in
    let c : m ≡ 1 + m' = omega arith in
    let p : l + m ≡ suc l + m' = omega arith in
    let q : suc w - m ≡ w - m' = omega arith in
    ap₂ (λ (x : Extent) (y : List Extent). x ∷ y) (ap (extent l (b * n + f)) c) (ap₂ (λ (x y : ℕ). spread n reserve fs (b + 1) x y) p q)
    ∙ sym (ap (join n page) (spread-some n reserve (suc f) fs b (suc l) w s)
    ∙ join-joined n page next (spread n reserve fs (b + 1) (suc l + m') (w - m')) (joined-true n page next j)))
    (λ s. let c : m ≡ 1 = omega arith in
    let p : l + m ≡ suc l = omega arith in
    let q : suc w - m ≡ w = omega arith in
    ap₂ (λ (x : Extent) (y : List Extent). x ∷ y) (ap (extent l (b * n + f)) c) (ap₂ (λ (x y : ℕ). spread n reserve fs (b + 1) x y) p q)
    ∙ sym (ap (join n page) (spread_skip n reserve (suc f) fs b (suc l) w (omega arith))
    ∙ spread-apart n reserve fs (b + 1) (suc l) w page (omega arith)))

pub spread-step : (n reserve : ℕ) (fs : List ℕ) (b k l w p : ℕ) → Leads n reserve fs b k → p ≡ (b + k) * n + get_or fs k 0
    → spread n reserve fs b l (suc w) ≡ join n (extent l p 1) (spread n reserve (set fs k (suc (get_or fs k 0))) b (suc l) w)
spread-step n reserve [] b k l w p v e = absurd (omega (arith, v.inside))
spread-step n reserve (f ∷ fs) b zero l w p v e =
    let z : b + 0 ≡ b = omega arith in
    let e' : p ≡ b * n + f = e ∙ ap (λ (x : ℕ). x * n + f) z in
    rw e' (step_here n reserve f fs b l w (leads_here n reserve f fs b v))
spread-step n reserve (f ∷ fs) b (suc k) l w p v e =
    let z : b + suc k ≡ b + 1 + k = omega arith in
    let e' : p ≡ (b + 1 + k) * n + get_or fs k 0 = e ∙ ap (λ (x : ℕ). x * n + get_or fs k 0) z in
    spread_skip n reserve f fs b l (suc w) (full_skip n reserve f fs b k v.before (suc w))
    ∙ spread-step n reserve fs (b + 1) k l w p (leads_next n reserve f fs b k v) e'
    ∙ sym (ap (join n (extent l p 1)) (spread_skip n reserve f (set fs k (suc (get_or fs k 0))) b (suc l) w (full_skip n reserve f fs b k v.before w)))

-- a block that takes nothing keeps its fill
filled_skip : (n reserve f : ℕ) (fs : List ℕ) (b want : ℕ) → taken n reserve b f want ≡ 0 → filled n reserve (f ∷ fs) b want ≡ f ∷ filled n reserve fs (b + 1) want
unfolding filled
filled_skip n reserve f fs b want e =
    let m = taken n reserve b f want in
    let p : f + m ≡ f = omega arith in
    let q : want - m ≡ want = omega arith in
    ap₂ (λ (x y : ℕ). x ∷ filled n reserve fs (b + 1) y) p q

pub filled-step : (n reserve : ℕ) (fs : List ℕ) (b k w : ℕ) → Leads n reserve fs b k → filled n reserve fs b (suc w) ≡ filled n reserve (set fs k (suc (get_or fs k 0))) b w
unfolding filled
filled-step n reserve [] b k w v = refl
filled-step n reserve (f ∷ fs) b zero w v =
    let m = taken n reserve b f (suc w) in
    let m' = taken n reserve b (suc f) w in
    let e = taken-suc n reserve b f w (leads_here n reserve f fs b v) in
    let p : f + m ≡ suc f + m' = omega arith in
    let q : suc w - m ≡ w - m' = omega arith in
    ap₂ (λ (x y : ℕ). x ∷ filled n reserve fs (b + 1) y) p q
filled-step n reserve (f ∷ fs) b (suc k) w v =
    filled_skip n reserve f fs b (suc w) (full_skip n reserve f fs b k v.before (suc w))
    ∙ ap (λ (r : List ℕ). f ∷ r) (filled-step n reserve fs (b + 1) k w (leads_next n reserve f fs b k v))
    ∙ sym (filled_skip n reserve f (set fs k (suc (get_or fs k 0))) b w (full_skip n reserve f fs b k v.before w))

pub filled_none : (n reserve : ℕ) (fs : List ℕ) (b : ℕ) → filled n reserve fs b 0 ≡ fs
unfolding filled
filled_none n reserve [] b = refl
filled_none n reserve (f ∷ fs) b =
    filled_skip n reserve f fs b 0 (omega (arith, taken_le n reserve b f 0)) ∙ ap (λ (r : List ℕ). f ∷ r) (filled_none n reserve fs (b + 1))

pub filled-whole : (n reserve f : ℕ) (fs : List ℕ) (b want : ℕ) → want ≤ room_at n reserve b f → filled n reserve (f ∷ fs) b want ≡ (f + want) ∷ fs
unfolding filled taken
filled-whole n reserve f fs b want r =
    let m = taken n reserve b f want in
    let e : m ≡ want = omega arith in
    let z : want - want ≡ 0 = omega arith in
    ap (λ (x : ℕ). (f + x) ∷ filled n reserve fs (b + 1) (want - x)) e
    ∙ ap (λ (x : ℕ). (f + want) ∷ filled n reserve fs (b + 1) x) z
    ∙ ap (λ (r : List ℕ). (f + want) ∷ r) (filled_none n reserve fs (b + 1))

-- blocks without room are passed over
pub spread_skipped : (n reserve k : ℕ) (fs : List ℕ) (b l want : ℕ) → Full n reserve fs b k
    → spread n reserve fs b l want ≡ spread n reserve (drop k fs) (b + k) l want
unfolding spread
spread_skipped n reserve zero fs b l want t = let z : b ≡ b + 0 = omega arith in ap (λ (x : ℕ). spread n reserve fs x l want) z
spread_skipped n reserve (suc k) [] b l want t = refl
spread_skipped n reserve (suc k) (f ∷ fs) b l want t =
    let z : b + 1 + k ≡ b + suc k = omega arith in
    spread_skip n reserve f fs b l want (full_skip n reserve f fs b k t want)
    ∙ spread_skipped n reserve k fs (b + 1) l want (full-next n reserve f fs b k t)
    ∙ ap (λ (x : ℕ). spread n reserve (drop k fs) x l want) z

pub filled_skipped : (n reserve k : ℕ) (fs : List ℕ) (b want : ℕ) → Full n reserve fs b k
    → filled n reserve fs b want ≡ take k fs ++ filled n reserve (drop k fs) (b + k) want
unfolding filled
filled_skipped n reserve zero fs b want t = let z : b ≡ b + 0 = omega arith in ap (λ (x : ℕ). filled n reserve fs x want) z
filled_skipped n reserve (suc k) [] b want t = refl
filled_skipped n reserve (suc k) (f ∷ fs) b want t =
    let z : b + 1 + k ≡ b + suc k = omega arith in
    filled_skip n reserve f fs b want (full_skip n reserve f fs b k t want)
    ∙ ap (λ (r : List ℕ). f ∷ r) (filled_skipped n reserve k fs (b + 1) want (full-next n reserve f fs b k t)
    ∙ ap (λ (x : ℕ). take k fs ++ filled n reserve (drop k fs) x want) z)

-- ---- labels

pub tabulate-each : (n : ℕ) (f g : ℕ → ℕ) → ((i : ℕ) → f i ≡ g i) → tabulate n f ≡ tabulate n g
unfolding tabulate
tabulate-each zero f g h = refl
tabulate-each (suc n) f g h = ap₂ (λ (x : ℕ) (r : List ℕ). x ∷ r) (h 0) (tabulate-each n (λ i. f (suc i)) (λ i. g (suc i)) (λ i. h (suc i)))

pub labelled-join : (n l p : ℕ) (es : List Extent) (s : List ℕ) → labelled (join n (extent l p 1) es) s ≡ labelled es (set s p l)
unfolding labelled join tabulate
labelled-join n l p [] s = let e : l + 0 ≡ l = omega arith in ap (set s p) e
labelled-join n l p (x ∷ xs) s =
    let a = extent l p 1 in
    let e : l + 0 ≡ l = omega arith in
    cases (joinable n a x)
    (λ f. let j = joinable-true n a x f in
    let c : 1 + x.count ≡ suc x.count = omega arith in
    let q : suc p ≡ x.physical = omega (arith, j.physical) in
    ap (λ (ys : List Extent). labelled ys s) (join-joined n a x xs f)
    ∙ ap (λ (k : ℕ). labelled xs (sets s p (tabulate k (λ i. l + i)))) c
    ∙ ap (λ (k : ℕ). labelled xs (sets (set s p k) (suc p) (tabulate x.count (λ i. l + suc i)))) e
    ∙ ap₂ (λ (k : ℕ) (r : List ℕ). labelled xs (sets (set s p l) k r)) q
    (tabulate-each x.count (λ i. l + suc i) (λ i. x.logical + i) (λ i. omega (arith, j.logical))))
    (λ f. ap (λ (ys : List Extent). labelled ys s) (join_apart n a x xs f) ∙ ap (λ (k : ℕ). labelled (x ∷ xs) (set s p k)) e)
