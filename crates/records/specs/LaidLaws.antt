-- How `put` and `laid` compute along the slots, and that enough slots hold the extents' flat words.
use Rattle.std.specs.Prelude.{ℕ, zero, suc, ◌+◌, ◌*◌, ◌≤◌, ◌<◌, ◌≡◌, refl, List, [], ◌∷◌, length, get_or, take, drop}
use Rattle.std.proofs.Common.{arith, ap, ◌∙◌}
use Rattle.rules.specs.declared.Extent.{Extent}
use Rattle.rules.specs.Extents.{put_slot, flat}
use Rattle.laws.specs.Slots.{blank, flat-length}
use Rattle.records.specs.Laid.{put, laid_at, laid, First}

-- storing the slot puts the extent
pub put-set : (ws : List ℕ) (i : ℕ) (e : Extent) → 3 * i + 2 < length ws → put_slot ws i e ≡ put ws i e
unfolding put put_slot
put-set [] i e l = absurd (omega (arith, l))
put-set (a ∷ []) i e l = absurd (omega (arith, l))
put-set (a ∷ b ∷ []) i e l = absurd (omega (arith, l))
put-set (a ∷ b ∷ c ∷ ws) zero e l = refl
put-set (a ∷ b ∷ c ∷ ws) (suc i) e l =
    let h : 3 * suc i ≡ suc (suc (suc (3 * i))) = omega arith in
    let h₁ : 3 * suc i + 1 ≡ suc (suc (suc (3 * i + 1))) = omega arith in
    let h₂ : 3 * suc i + 2 ≡ suc (suc (suc (3 * i + 2))) = omega arith in
    rw h₂ (rw h₁ (rw h (ap (λ (t : List ℕ). a ∷ b ∷ c ∷ t) (put-set ws i e (omega (arith, l))))))

-- where there is no such slot, nothing is put
pub put-none : (ws : List ℕ) (i : ℕ) (e : Extent) → length ws ≤ 3 * i + 2 → put ws i e ≡ ws
unfolding put
put-none [] i e l = refl
put-none (a ∷ []) i e l = refl
put-none (a ∷ b ∷ []) i e l = refl
put-none (a ∷ b ∷ c ∷ ws) zero e l = absurd (omega (arith, l))
put-none (a ∷ b ∷ c ∷ ws) (suc i) e l = ap (λ (t : List ℕ). a ∷ b ∷ c ∷ t) (put-none ws i e (omega (arith, l)))

-- the next record is put, and the others from the next slot on
pub laid_next : (i : ℕ) (e : Extent) (es : List Extent) (ws : List ℕ) → laid_at i (e ∷ es) ws ≡ laid_at (suc i) es (put ws i e)
unfolding put laid_at
laid_next i e es [] = refl
laid_next i e es (a ∷ []) = refl
laid_next i e es (a ∷ b ∷ []) = refl
laid_next zero e es (a ∷ b ∷ c ∷ ws) = refl
laid_next (suc i) e es (a ∷ b ∷ c ∷ ws) = ap (λ (t : List ℕ). a ∷ b ∷ c ∷ t) (laid_next i e es ws)

-- no record is left
pub laid_done : (i : ℕ) (ws : List ℕ) → laid_at i [] ws ≡ ws
unfolding laid_at
laid_done i [] = refl
laid_done i (a ∷ []) = refl
laid_done i (a ∷ b ∷ []) = refl
laid_done zero (a ∷ b ∷ c ∷ ws) = refl
laid_done (suc i) (a ∷ b ∷ c ∷ ws) = ap (λ (t : List ℕ). a ∷ b ∷ c ∷ t) (laid_done i ws)

drop-next : (es : List Extent) (i : ℕ) → i < length es → drop i es ≡ get_or es i blank ∷ drop (suc i) es
drop-next [] i l = absurd (omega (arith, l))
drop-next (e ∷ es) zero l = refl
drop-next (e ∷ es) (suc i) l = drop-next es i (omega (arith, l))

drop_all : (es : List Extent) → drop (length es) es ≡ []
drop_all [] = refl
drop_all (e ∷ es) = drop_all es

-- the loop of `flatten`: i records are in their slots, and zs are the words
pub laid-step : (es : List Extent) (i : ℕ) (zs : List ℕ) → i < length es → laid_at i (drop i es) zs ≡ laid_at (suc i) (drop (suc i) es) (put zs i (get_or es i blank))
laid-step es i zs l = ap (λ (t : List Extent). laid_at i t zs) (drop-next es i l) ∙ laid_next i (get_or es i blank) (drop (suc i) es) zs

pub laid_end : (es : List Extent) (zs : List ℕ) → laid_at (length es) (drop (length es) es) zs ≡ zs
laid_end es zs = ap (λ (t : List Extent). laid_at (length es) t zs) (drop_all es) ∙ laid_done (length es) zs

-- slots enough: the first words are the records' numbers
pub laid-take : (es : List Extent) (ws : List ℕ) → 3 * length es ≤ length ws → take (3 * length es) (laid es ws) ≡ flat es
unfolding laid laid_at flat
laid-take [] ws l = refl
laid-take (e ∷ es) [] l = absurd (omega (arith, l))
laid-take (e ∷ es) (a ∷ []) l = absurd (omega (arith, l))
laid-take (e ∷ es) (a ∷ b ∷ []) l = absurd (omega (arith, l))
laid-take (e ∷ es) (a ∷ b ∷ c ∷ ws) l =
    let h : 3 * suc (length es) ≡ suc (suc (suc (3 * length es))) = omega arith in
    rw h (ap (λ (t : List ℕ). e.logical ∷ e.physical ∷ e.count ∷ t) (laid-take es ws (omega (arith, l))))

-- 24,576 words are slots enough
pub laid-first : (es : List Extent) (ws : List ℕ) → 3 * 8192 ≤ length ws → First (laid es ws) (length es) (flat es)
laid-first es ws h = record { all = flat-length es; first = λ few. laid-take es ws (omega (arith, h, few)) }
