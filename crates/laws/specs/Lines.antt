-- The device that an accepted write or trim leaves: its lines, its counts, and that it is sound.
use Rattle.std.specs.Prelude.{ℕ, ◌+◌, ◌-◌, ◌*◌, ◌≤◌, ◌<◌, ◌≡◌, refl, List, not, eqb, length, get_or, replicate}
use Rattle.std.proofs.Common.{ap, ◌∙◌, arith}
use Rattle.std.proofs.Math.Logic.{by_cases}
use Rattle.std.proofs.Math.Decide.{dec_lt}
use Rattle.std.proofs.lemmas.List.{length-replicate}
use Rattle.std.proofs.lemmas.List.Edits.{sets}
use Rattle.std.proofs.Math.Seq.{length-sets}
use Rattle.rules.specs.Counting.{count}
use Rattle.rules.specs.Extents.{none}
use Rattle.rules.specs.Device.{Device, blocks, lines, at, label, room, mapped, live, free}
use Rattle.rules.specs.Placement.{puts}
use Rattle.rules.specs.Request.{with_table, numbered, written, trimmed}
use Rattle.laws.specs.Cells.{sets_in, sets_other, replicate-at, count_wiped}
use Rattle.laws.specs.Device.{SoundDevice}
use Rattle.laws.specs.Order.{puts-all}

-- lines may become holes
pub fewer-sound : (t : List ℕ) (k : ℕ) (d : Device) → SoundDevice d → length t ≡ lines d
    → ((l : ℕ) → (get_or t l none ≡ none → ⊥) → get_or t l none ≡ at d l) → SoundDevice (with_table t k d)
unfolding with_table
fewer-sound t k d s e same = record {
  some = s.some;
  words = s.words;
  whole = s.whole;
  full = s.full;
  labels = λ b o h i. rw e (s.labels b o h i);
  blank = s.blank;
  home = λ l m. let h = s.home l (λ g. m (same l m ∙ g)) in
      record { block = h.block; offset = h.offset; is = same l m ∙ h.is; inside = h.inside; below = h.below; labelled = ap (label d) (same l m) ∙ h.labelled };
  kept = s.kept;
  empty = s.empty;
}

pub fewer-free : (t : List ℕ) (k : ℕ) (d : Device) → free (with_table t k d) ≡ free d
unfolding with_table free room
fewer-free t k d = refl

pub numbered-sound : (k : ℕ) (d : Device) → SoundDevice d → SoundDevice (numbered k d)
unfolding numbered
numbered-sound k d s = fewer-sound d.table k d s refl (λ l m. refl)

pub written-sound : (k l n : ℕ) (d : Device) → SoundDevice d → n ≤ free d → l + n ≤ lines d → SoundDevice (written k l n d)
unfolding written
written-sound k l n d s f h = numbered-sound k (puts l n d) (puts-all l n d s f h).sound

pub trimmed_in : (k l n : ℕ) (d : Device) → l + n ≤ lines d → (j : ℕ) → l ≤ j → j < l + n → at (trimmed k l n d) j ≡ none
unfolding trimmed with_table
trimmed_in k l n d f j p q =
    let z = length-replicate n none in
    sets_in none (replicate n none) d.table l j (j - l) (omega arith) (omega arith) (omega arith)
    ∙ replicate-at none n (j - l)

pub trimmed-other : (k l n : ℕ) (d : Device) (j : ℕ) → (l ≤ j → j < l + n → ⊥) → at (trimmed k l n d) j ≡ at d j
unfolding trimmed with_table
trimmed-other k l n d j h = sets_other none (replicate n none) d.table l j (λ p q. h p (omega (arith, length-replicate n none)))

pub trimmed-lines : (k l n : ℕ) (d : Device) → lines (trimmed k l n d) ≡ lines d
unfolding trimmed with_table
trimmed-lines k l n d = length-sets d.table l (replicate n none)

pub trimmed-free : (k l n : ℕ) (d : Device) → free (trimmed k l n d) ≡ free d
unfolding trimmed
trimmed-free k l n d = fewer-free (sets d.table l (replicate n none)) k d

pub trimmed-sound : (k l n : ℕ) (d : Device) → SoundDevice d → l + n ≤ lines d → SoundDevice (trimmed k l n d)
unfolding trimmed with_table
trimmed-sound k l n d s f =
    fewer-sound (sets d.table l (replicate n none)) k d s (length-sets d.table l (replicate n none))
    (λ j m. by_cases (dec_lt j l)
    (λ p. trimmed-other k l n d j (λ a b. omega arith))
    (λ p. by_cases (dec_lt j (l + n))
    (λ q. absurd (m (trimmed_in k l n d f j (omega arith) q)))
    (λ q. trimmed-other k l n d j (λ a b. omega arith))))

-- ---- counts

trimmed-size : (k l n : ℕ) (d : Device) → blocks (trimmed k l n d) * (trimmed k l n d).pages ≡ blocks d * d.pages
unfolding trimmed with_table
trimmed-size k l n d = refl

trimmed-pages : (k l n : ℕ) (d : Device) → (trimmed k l n d).pages ≡ d.pages
unfolding trimmed with_table
trimmed-pages k l n d = refl

pub trimmed-live : (k l n : ℕ) (d : Device) → l + n ≤ lines d → live (trimmed k l n d) + count n (λ i. mapped d (l + i)) ≡ live d
unfolding trimmed with_table live mapped
trimmed-live k l n d h = count_wiped none (λ p. not (eqb p none)) refl n d.table l h
