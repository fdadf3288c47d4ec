-- Windows of eight labels under a mask.
use Rattle.std.specs.Prelude.{ℕ, ◌+◌, ◌-◌, ◌^◌, ◌≤◌, ◌<◌, Bool, true, false, not, ◌||◌, ◌≡◌, refl, List, eqb, ltb, length, get_or, take, drop}
use Rattle.std.proofs.Common.{sym, ap, ◌∙◌, arith, mod-eq_of_lt, lt-ltb, le-ltb, eqb-true, eq-eqb}
use Rattle.std.proofs.Math.Logic.{by_cases}
use Rattle.std.proofs.Math.Decide.{dec_lt}
use Rattle.std.specs.Int.Bits.{bit_and, bit_or, bit_xor, and_zero_r}
use Rattle.std.proofs.lemmas.Nat.{xor_lt, and_mask}
use Rattle.rules.specs.Counting.{all}
use Rattle.rules.specs.Extents.{none}
use Rattle.words.specs.Says.{Says, says_for, says_all, says-no, told-no, told-yes}
use Rattle.words.specs.Scan.{scan-none, scan_or, scan-end, same_bits}
use Rattle.words.specs.Scans.{Part, part-mid, part-front, rise_says, word_at}

-- ---- masks

-- ones in the first m of eight words, zeros in the others
pub record Mask (mask : List ℕ) (m : ℕ) : Type 0 where
  pub ones : (k : ℕ) → k < 8 → k < m → get_or mask k 0 ≡ none
  pub zeros : (k : ℕ) → k < 8 → m ≤ k → get_or mask k 0 ≡ 0

-- eight ones, eight zeros
pub record Table (table : List ℕ) : Type 0 where
  pub long : length table ≡ 16
  pub ones : (k : ℕ) → k < 8 → get_or table k 0 ≡ none
  pub zeros : (k : ℕ) → 8 ≤ k → k < 16 → get_or table k 0 ≡ 0

-- the window of the table that begins 8 - m words in
table_mask : {table ys : List ℕ} {r : ℕ} → Table table → Part ys table r 8 → (m : ℕ) → r ≡ 8 - m → m ≤ 8 → Mask ys m
table_mask {table} {ys} {r} t p m e h = record {
  ones = λ k s u. p.at k s ∙ t.ones (r + k) (omega arith);
  zeros = λ k s u. p.at k s ∙ t.zeros (r + k) (omega arith) (omega arith);
}

pub mask_all : {table : List ℕ} → Table table → Mask (take 8 table) 8
mask_all {table} t = table_mask t (part-front 8 table (omega (arith, t.long))) 8 refl (omega arith)

pub mask_some : {table : List ℕ} (m : ℕ) → Table table → m ≤ 8 → Mask (take (8 - m + 8 - (8 - m)) (drop (8 - m) table)) m
mask_some {table} m t h = table_mask t (part-mid (8 - m) (8 - m + 8) 8 table refl (omega (arith, t.long))) m refl h

-- ---- one window

-- what a window's test says, whatever part of it the mask takes
pub record Masked (ws mask : List ℕ) (e : ℕ) (r : Bool) : Type 0 where
  pub said : (m : ℕ) → Mask mask m → Says r ((k : ℕ) → k < 8 → k < m → get_or ws k 0 ≡ e - (8 - k))

-- the test of word k under a mask of m ones
unfoldable pub under : List ℕ → ℕ → ℕ → ℕ → Bool
under ws e m k = not (ltb k m) || eqb (get_or ws k 0) (e - (8 - k))

module _ (ws : List ℕ) (e m k : ℕ) where
  under_in : k < m → under ws e m k ≡ eqb (get_or ws k 0) (e - (8 - k))
  unfolding under
  under_in h = rw (lt-ltb k m h)

  under-out : m ≤ k → under ws e m k ≡ true
  unfolding under
  under-out h = rw (le-ltb k m h)

-- what the loop over a window has found before word n
pub record Compared (ws mask : List ℕ) (e off n : ℕ) : Type 0 where
  pub within : n ≤ 8
  pub found : (m : ℕ) → Mask mask m → eqb off 0 ≡ all n (under ws e m)

pub compared_start : (ws mask : List ℕ) (e : ℕ) → Compared ws mask e 0 0
compared_start ws mask e = record { within = omega arith; found = λ m g. scan-none (under ws e m) }

-- under ones the bits are those in which the word differs, under zeros there are none
kept_bits : (w y : ℕ) → w < 2 ^ 32 → y < 2 ^ 32 → eqb w y ≡ eqb (bit_and (bit_xor w y) none) 0
kept_bits w y a b = sym (ap (λ (x : ℕ). eqb x 0) (and_mask (bit_xor w y) 32 ∙ mod-eq_of_lt (xor_lt 32 w y a b)) ∙ same_bits w y)

masked_bits : (ws : List ℕ) {mask : List ℕ} (e m n : ℕ) → Mask mask m → n < 8 → get_or ws n 0 < 2 ^ 32 → e < 2 ^ 32
    → under ws e m n ≡ eqb (bit_and (bit_xor (get_or ws n 0) (e - (8 - n))) (get_or mask n 0)) 0
masked_bits ws {mask} e m n g s a b =
    let x = bit_xor (get_or ws n 0) (e - (8 - n)) in
    by_cases (dec_lt n m)
    (λ u. under_in ws e m n u ∙ kept_bits (get_or ws n 0) (e - (8 - n)) a (omega arith) ∙ sym (ap (λ (y : ℕ). eqb (bit_and x y) 0) (g.ones n s u)))
    (λ u. under-out ws e m n (omega arith) ∙ sym (eq-eqb (bit_and x (get_or mask n 0)) 0 (ap (bit_and x) (g.zeros n s (omega arith)) ∙ and_zero_r x)))

pub compared_step : {ws mask : List ℕ} {e off n : ℕ} → Compared ws mask e off n → n < 8 → get_or ws n 0 < 2 ^ 32 → e < 2 ^ 32
    → Compared ws mask e (bit_or off (bit_and (bit_xor (get_or ws n 0) (e - (8 - n))) (get_or mask n 0))) (n + 1)
compared_step {ws} {mask} {e} {off} {n} h s a b = record {
  within = omega arith;
  found = λ m g. scan_or n (under ws e m) off _ (h.found m g) (masked_bits ws e m n g s a b);
}

pub compared_end : {ws mask : List ℕ} {e off n : ℕ} → Compared ws mask e off n → 8 ≤ n → Masked ws mask e (eqb off 0)
compared_end {ws} {mask} {e} {off} {n} h s = record {
  said = λ m g. says_all (eqb off 0) 8 (under ws e m) (λ k. k < m → get_or ws k 0 ≡ e - (8 - k))
      (scan-end n 8 (under ws e m) (eqb off 0) (h.found m g) (omega (arith, h.within)))
      (λ k u t v. eqb-true (get_or ws k 0) (e - (8 - k)) (sym (under_in ws e m k v) ∙ t))
      (λ k u f. by_cases (dec_lt k m) (λ v. under_in ws e m k v ∙ eq-eqb (get_or ws k 0) (e - (8 - k)) (f v)) (λ v. under-out ws e m k (omega arith)));
}

-- a window from a up to b of which the first m words count
window-says : {mask : List ℕ} (ws : List ℕ) (a b l e m : ℕ) (r : Bool) → b ≡ a + 8 → b ≤ length ws → e ≡ l + 8 → Mask mask m → m ≤ 8
    → Masked (take (b - a) (drop a ws)) mask e r → Says r ((k : ℕ) → k < m → get_or ws (a + k) 0 ≡ l + k)
window-says ws a b l e m r to h i g few s =
    let p = part-mid a b 8 ws to h in
    let at : (k : ℕ) → k < 8 → e - (8 - k) ≡ l + k = λ k u. omega arith in
    says_for (s.said m g)
    (λ w k u. sym (p.at k (omega arith)) ∙ w k (omega arith) u ∙ at k (omega arith))
    (λ w k u v. p.at k u ∙ w k v ∙ sym (at k u))

-- ---- windows one after the other

pub record Windowed (ws : List ℕ) (l : ℕ) (table : List ℕ) : Type 0 where
  pub more : 8 < length ws
  pub low : l + length ws + 8 ≤ none
  pub table_is : Table table

-- the windows before k are right
pub record Going (ws : List ℕ) (l k : ℕ) : Type 0 where
  pub within : k < length ws
  pub done : (j : ℕ) → j < k → get_or ws j 0 ≡ l + j

module _ {ws table : List ℕ} {l k : ℕ} (g : Windowed ws l table) (h : Going ws l k) where
  abbrev c : ℕ
  c = length ws

  window-at : (a b d : ℕ) (r : Bool) → b ≡ a + 8 → b ≤ c → d ≡ l + a + 8 → Masked (take (b - a) (drop a ws)) (take 8 table) d r
      → Says r ((j : ℕ) → j < 8 → get_or ws (a + j) 0 ≡ l + a + j)
  window-at a b d r to u i s = window-says ws a b (l + a) d 8 r to u i (mask_all g.table_is) (omega arith) s

  -- a window's words and those before k, among which it may begin
  joined : (a : ℕ) → a ≤ k → ((j : ℕ) → j < 8 → get_or ws (a + j) 0 ≡ l + a + j) → (j : ℕ) → j < a + 8 → get_or ws j 0 ≡ l + j
  joined a i w j s =
      by_cases (dec_lt j k) (h.done j)
      (λ u.
      let at : a + (j - a) ≡ j = omega arith in
      let to : l + a + (j - a) ≡ l + j = omega arith in
      sym (ap (λ (x : ℕ). get_or ws x 0) at) ∙ w (j - a) (omega arith) ∙ to)

  parted : (a : ℕ) → a + 8 ≤ c → ((j : ℕ) → j < c → get_or ws j 0 ≡ l + j) → (j : ℕ) → j < 8 → get_or ws (a + j) 0 ≡ l + a + j
  parted a i w j s = let to : l + (a + j) ≡ l + a + j = omega arith in w (a + j) (omega arith) ∙ to

  pub going_no : (r : Bool) → k + 8 < c → not r ≡ true → Masked (take (k + 8 - k) (drop k ws)) (take 8 table) (l + (k + 8)) r
      → Says false ((j : ℕ) → j < c → get_or ws j 0 ≡ l + j)
  going_no r s n w = says-no (λ v. told-no r (window-at k (k + 8) (l + (k + 8)) r refl (omega arith) (omega arith) w) n (parted k (omega arith) v))

  pub going_step : (r : Bool) → k + 8 < c → not r ≡ false → Masked (take (k + 8 - k) (drop k ws)) (take 8 table) (l + (k + 8)) r → Going ws l (k + 8)
  going_step r s n w = record {
    within = s;
    done = joined k (omega arith) (told-yes r (window-at k (k + 8) (l + (k + 8)) r refl (omega arith) (omega arith) w) n);
  }

  pub going_end : (r : Bool) → c ≤ k + 8 → Masked (take (c - (c - 8)) (drop (c - 8) ws)) (take 8 table) (l + c) r → Says r ((j : ℕ) → j < c → get_or ws j 0 ≡ l + j)
  going_end r s w =
      let more = g.more in
      says_for (window-at (c - 8) c (l + c) r (omega arith) (omega arith) (omega arith) w)
      (λ v j u. joined (c - 8) (omega arith) v j (omega arith)) (λ v. parted (c - 8) (omega arith) v)

-- ---- the labels of a slot, in each of three ways

-- the pages from p on, c of them, are there and carry the logical pages from l on
pub record Labelled (spare : List ℕ) (l p c : ℕ) : Type 0 where
  pub ends : p + c ≤ length spare
  pub each : (k : ℕ) → k < c → get_or spare (p + k) none ≡ l + k

-- from a page before `near` on there are n pages, and a window
pub record Reach (near n pages : ℕ) : Type 0 where
  pub slot : (p : ℕ) → p < near → p + n ≤ pages
  pub window : (p : ℕ) → p < near → p + 8 ≤ pages

-- what they are tested on: a slot of at most n pages
pub record HomeGiven (spare : List ℕ) (near : ℕ) (table : List ℕ) (l c : ℕ) : Type 0 where
  pub n : ℕ
  pub few : c ≤ n
  pub low : l < 2147483648
  pub reach : Reach near n (length spare)
  pub high : length spare ≤ 262144
  pub table_is : Table table

-- the labels themselves, as they are lent
abbrev labels_of : List ℕ → ℕ → ℕ → List ℕ
labels_of spare p c = take (p + c - p) (drop p spare)

module _ {spare table : List ℕ} {near l p c : ℕ} (h : HomeGiven spare near table l c) where
  -- the labels read as the code reads them
  labels-said : (r : Bool) → p + c ≤ length spare → Says r ((k : ℕ) → k < c → get_or spare (p + k) 0 ≡ l + k) → Says r (Labelled spare l p c)
  labels-said r u s =
      says_for s
      (λ w. record { ends = u; each = λ k v. word_at spare (p + k) none 0 (omega arith) ∙ w k v })
      (λ w k v. word_at spare (p + k) 0 none (omega arith) ∙ w.each k v)

  own-part : p + c ≤ length spare → Part (labels_of spare p c) spare p c
  own-part u = part-mid p (p + c) c spare refl u

  pub home-last : (r : Bool) → p + c ≤ length spare → r ≡ all (length (labels_of spare p c)) (λ k. eqb (get_or (labels_of spare p c) k 0) (l + k)) → Says r (Labelled spare l p c)
  home-last r u s = labels-said r u (rise_says (own-part u) r l 0 s)

  pub home-many : (r : Bool) → p < near → Says r ((k : ℕ) → k < length (labels_of spare p c) → get_or (labels_of spare p c) k 0 ≡ l + k) → Says r (Labelled spare l p c)
  home-many r u s =
      let ends : p + c ≤ length spare = omega (arith, h.reach.slot p u, h.few) in
      let q = own-part ends in
      labels-said r ends
      (says_for s (λ w k v. sym (q.at k v) ∙ w k (omega (arith, q.long))) (λ w k v. let i : k < c = omega (arith, q.long) in q.at k i ∙ w k i))

  pub home-few : (r : Bool) → p < near → c ≤ 8 → Masked (take (p + 8 - p) (drop p spare)) (take (8 - c + 8 - (8 - c)) (drop (8 - c) table)) (l + 8) r → Says r (Labelled spare l p c)
  home-few r u v s =
      labels-said r (omega (arith, h.reach.window p u))
      (window-says spare p (p + 8) l (l + 8) c r refl (omega (arith, h.reach.window p u)) refl (mask_some c h.table_is v) v s)

  -- a long slot's labels may be compared in windows
  pub home_windowed : p < near → 8 < c → Windowed (labels_of spare p c) l table
  home_windowed u v =
      let ends : p + c ≤ length spare = omega (arith, h.reach.slot p u, h.few) in
      let q = own-part ends in
      record { more = omega (arith, q.long); low = omega (arith, q.long, h.low, h.high); table_is = h.table_is }
