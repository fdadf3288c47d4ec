-- Any list of extents in order, joined; and pages moved, as a reclaim moves them.
use Rattle.std.specs.Prelude.{ℕ, zero, suc, ◌+◌, ◌-◌, ◌*◌, ◌/◌, ◌%◌, ◌≤◌, ◌<◌, ◌≡◌, refl, List, [], ◌∷◌, map, Bool, true, cond, eqb, length, get_or}
use Rattle.std.proofs.Common.{sym, ap, ◌∙◌, subst, arith, eq-eqb, ne_eqb}
use Rattle.std.proofs.Math.Logic.{by_cases}
use Rattle.std.proofs.Math.Decide.{dec_lt, ℕ_discrete}
use Rattle.std.proofs.Math.Arith.{digits_mod}
use Rattle.std.proofs.lemmas.List.{length-map}
use Rattle.std.proofs.Math.ListN.{get_or-map}
use Rattle.rules.specs.Counting.{one, count}
use Rattle.rules.specs.Extents.{none, extent, lookup, join, runs}
use Rattle.rules.specs.Device.{Device, named}
use Rattle.rules.specs.Reclaim.{goes}
use Rattle.rules.specs.declared.Extent.{Extent}
use Rattle.laws.specs.Sums.{count_le}
use Rattle.laws.specs.Rows.{Row, Rows, lookup-before, lookup_in, lookup-after, lookup_cons, lookup-low, lookup-word, mod_shift, div_shift}
use Rattle.laws.specs.Runs.{join-rows, join-lookup, join-length, runs-rows, runs-lookup, WordLines, encode}

-- extents in order, each in its block, joinable or not
pub record Fits (n lo : ℕ) (e : Extent) : Type 0 where
  pub above : lo ≤ e.logical
  pub some : 0 < e.count
  pub inside : e.physical % n + e.count ≤ n
  pub small : e.physical + e.count ≤ none

abbrev pub Loose : ℕ → ℕ → ℕ → List Extent → Type 0
Loose n lo hi [] = lo ≤ hi
Loose n lo hi (e ∷ es) = Fits n lo e × Loose n (e.logical + e.count) hi es

-- joined wherever rule 2 asks
unfoldable pub norm : ℕ → List Extent → List Extent
norm n [] = []
norm n (x ∷ es) = join n x (norm n es)

pub norm-rows : (n hi : ℕ) (es : List Extent) (lo : ℕ) → Loose n lo hi es → Rows n lo none hi (norm n es)
unfolding norm
norm-rows n hi [] lo h = h
norm-rows n hi (x ∷ es) lo h =
    join-rows n hi x (norm n es) lo none
    (record { above = h.0.above; some = h.0.some; inside = h.0.inside; small = h.0.small; apart = λ eq f. absurd (omega arith) })
    (norm-rows n hi es _ h.1)

pub norm-lookup : (n : ℕ) (es : List Extent) (l : ℕ) → lookup (norm n es) l ≡ lookup es l
unfolding norm
norm-lookup n [] l = refl
norm-lookup n (x ∷ es) l = join-lookup n x (norm n es) l ∙ lookup_cons x (norm n es) es l (norm-lookup n es l)

pub norm-length : (n : ℕ) (es : List Extent) → length (norm n es) ≤ length es
unfolding norm
norm-length n [] = omega arith
norm-length n (x ∷ es) = omega (arith, join-length n x (norm n es), norm-length n es)

-- ---- pages moved by a function g on words

-- an extent whose first page has moved; `Steady` says that the others have gone along
abbrev pub move : (ℕ → ℕ) → Extent → Extent
move g e = extent e.logical (g e.physical) e.count

pub record Steady (n : ℕ) (g : ℕ → ℕ) (e : Extent) : Type 0 where
  pub along : (i : ℕ) → i < e.count → g (e.physical + i) ≡ g e.physical + i
  pub inside : g e.physical % n + e.count ≤ n
  pub small : g e.physical + e.count ≤ none

abbrev pub Steadies : ℕ → (ℕ → ℕ) → List Extent → Type 0
Steadies n g [] = Unit {0}
Steadies n g (e ∷ es) = Steady n g e × Steadies n g es

pub move_loose : (n hi : ℕ) (g : ℕ → ℕ) (es : List Extent) (lo q : ℕ) → Rows n lo q hi es → Steadies n g es → Loose n lo hi (map (move g) es)
move_loose n hi g [] lo q h s = h
move_loose n hi g (e ∷ es) lo q h s =
    (record { above = h.0.above; some = h.0.some; inside = s.0.inside; small = s.0.small }, move_loose n hi g es _ _ h.1 s.1)

pub move-lookup : (n : ℕ) (g : ℕ → ℕ) → g none ≡ none → (es : List Extent) (l : ℕ) → Steadies n g es → lookup (map (move g) es) l ≡ g (lookup es l)
unfolding lookup
move-lookup n g z [] l s = sym z
move-lookup n g z (e ∷ es) l s =
    by_cases (dec_lt l e.logical)
    (λ a. lookup-before (move g e) (map (move g) es) l a ∙ sym z ∙ ap g (sym (lookup-before e es l a)))
    (λ a. by_cases (dec_lt l (e.logical + e.count))
    (λ b. lookup_in (move g e) (map (move g) es) l (omega arith) b ∙ sym (s.0.along (l - e.logical) (omega arith)) ∙ ap g (sym (lookup_in e es l (omega arith) b)))
    (λ b. lookup-after (move g e) (map (move g) es) l (omega arith) ∙ move-lookup n g z es l s.1 ∙ ap g (sym (lookup-after e es l (omega arith)))))

pub move-runs : (n : ℕ) → 0 < n → (g : ℕ → ℕ) → g none ≡ none → (t : List ℕ) → WordLines t → Steadies n g (runs n 0 t)
    → norm n (map (move g) (runs n 0 t)) ≡ runs n 0 (map g t)
move-runs n z g eq t w s =
    encode n z (map g t) ys words (rw length-map sound) (λ l h. says l)
  where
    ys : List Extent
    ys = norm n (map (move g) (runs n 0 t))

    sound : Rows n 0 none (length t) ys
    sound = norm-rows n (length t) (map (move g) (runs n 0 t)) 0 (move_loose n (length t) g (runs n 0 t) 0 none (runs-rows n z t 0 (length t) w (omega arith)) s)

    says : (l : ℕ) → lookup ys l ≡ get_or (map g t) l none
    says l =
        norm-lookup n (map (move g) (runs n 0 t)) l ∙ move-lookup n g eq (runs n 0 t) l s ∙ ap g (runs-lookup n z t 0 l l w (omega arith))
        ∙ sym (get_or-map g t l none) ∙ ap (get_or (map g t) l) eq

    words : WordLines (map g t)
    words i = omega (arith, says i, lookup-word n (length t) ys 0 none i sound)

-- ---- the move of a reclaim: the live pages of block v, in physical order, to block r

-- where page p goes; live says which offsets of v are live
unfoldable pub moves_to : ℕ → (ℕ → Bool) → ℕ → ℕ → ℕ → ℕ
moves_to n live v r p = cond (eqb (p / n) v) (r * n + count (p % n) live) p

count-along : (live : ℕ → Bool) (m i j : ℕ) → ((h : ℕ) → h < i → live (m + h) ≡ true) → j ≡ m + i → count j live ≡ count m live + i
unfolding count
count-along live m zero j h eq = let at : j ≡ m = omega arith in ap (λ (x : ℕ). count x live) at ∙ omega arith
count-along live m (suc i) zero h eq = absurd (omega arith)
count-along live m (suc i) (suc j) h eq =
    let at : j ≡ m + i = omega arith in
    omega (arith, ap one (ap live at ∙ h i (omega arith)), count-along live m i j (λ h' s. h h' (omega arith)) (omega arith))

module _ (n : ℕ) (live : ℕ → Bool) (v r p : ℕ) where
  pub moves_to_here : p / n ≡ v → moves_to n live v r p ≡ r * n + count (p % n) live
  unfolding moves_to
  moves_to_here eq = rw (eq-eqb (p / n) v eq)

  pub moves_to_else : (p / n ≡ v → ⊥) → moves_to n live v r p ≡ p
  unfolding moves_to
  moves_to_else eq = rw (ne_eqb (p / n) v eq)

-- this is `goes`, apart from the device, where no block v holds what marks a hole
pub goes_moves : (v r : ℕ) (d : Device) → (none / d.pages ≡ v → ⊥) → (p : ℕ) → goes v r d p ≡ moves_to d.pages (named d v) v r p
unfolding goes moves_to
goes_moves v r d h p =
    by_cases (ℕ_discrete p none)
    (λ g. rw (g, ne_eqb (none / d.pages) v h))
    (λ m. rw (ne_eqb p none m))

pub moves_to_steady : (n : ℕ) → 0 < n → (live : ℕ → Bool) (v r : ℕ) (e : Extent) (lo q : ℕ) → suc r * n ≤ none → Row n lo q e
    → ((i : ℕ) → i < e.count → (e.physical + i) / n ≡ v → live ((e.physical + i) % n) ≡ true) → Steady n (moves_to n live v r) e
moves_to_steady n z live v r e lo q b h s =
    by_cases (ℕ_discrete (e.physical / n) v)
    (λ eq. let p = e.physical in
    let here = moves_to_here n live v r p eq in
    let le = count_le (p % n) live in
    record {
      along = λ i t.
          let sh = mod_shift n p i (omega arith) in
          let there = moves_to_here n live v r (p + i) (div_shift n p i (omega arith) ∙ eq) in
          let ra = count-along live (p % n) i ((p + i) % n)
          (λ j u. ap live (sym (mod_shift n p j (omega arith))) ∙ s j (omega arith) (div_shift n p j (omega arith) ∙ eq)) sh in
          omega arith;
      inside = rw (here, digits_mod r {m = n} {r = count (p % n) live} (omega arith)) (omega arith);
      small = omega arith;
    })
    (λ eq. record {
      along = λ i t. moves_to_else n live v r (e.physical + i) (λ f. eq (sym (div_shift n e.physical i (omega arith)) ∙ f)) ∙ ap (λ (y : ℕ). y + i) (sym (moves_to_else n live v r e.physical eq));
      inside = rw (moves_to_else n live v r e.physical eq) h.inside;
      small = rw (moves_to_else n live v r e.physical eq) h.small;
    })

-- all extents, where every page that they name in v is live
pub moves_to_steadies : (n : ℕ) → 0 < n → (live : ℕ → Bool) (v r hi : ℕ) (es : List Extent) (lo q : ℕ) → suc r * n ≤ none → Rows n lo q hi es
    → ((l : ℕ) → (lookup es l ≡ none → ⊥) → lookup es l / n ≡ v → live (lookup es l % n) ≡ true) → Steadies n (moves_to n live v r) es
moves_to_steadies n z live v r hi [] lo q b h s = tt
moves_to_steadies n z live v r hi (e ∷ es) lo q b h s = (
  moves_to_steady n z live v r e lo q b h.0
      (λ i t eq. let at : lookup (e ∷ es) (e.logical + i) ≡ e.physical + i =
      lookup_in e es (e.logical + i) (omega arith) (omega arith) ∙ omega arith in
      subst (λ (x : ℕ). live (x % n) ≡ true) at (s (e.logical + i) (λ g. omega (arith, h.0.small)) (ap (λ (x : ℕ). x / n) at ∙ eq))),
  moves_to_steadies n z live v r hi es _ _ b h.1
      (λ l m. by_cases (dec_lt l (e.logical + e.count))
      (λ t eq. absurd (m (lookup-low n hi es _ _ l h.1 t)))
      (λ t. let at = lookup-after e es l (omega arith) in
      subst (λ (x : ℕ). (x ≡ none → ⊥) → x / n ≡ v → live (x % n) ≡ true) at (s l) m)),
)
