-- A write's verdict, from the tests that the code makes.
use Rattle.std.specs.Prelude.{ℕ, ◌+◌, ◌*◌, ◌/◌, Bool, true, false, not, ◌&&◌, ◌||◌, ◌≡◌, eqb, leb, Result, Ok, Err}
use Rattle.std.proofs.Math.Path.{refl, sym, ap, ap₂}
use Rattle.std.proofs.Common.{◌∙◌, arith, ltb-false}
use Rattle.std.proofs.Math.Dec.{ltb}
use Rattle.std.proofs.lemmas.List.{length-replicate}
use Rattle.rules.specs.Lent.{Lent}
use Rattle.rules.specs.Device.{free, device_of}
use Rattle.rules.specs.Placement.{puts}
use Rattle.rules.specs.Answers.{number, refuse}
use Rattle.rules.specs.Calls.{outside, too_many, write_refusal}
use Rattle.rules.specs.declared.Refusal.{Refusal}
use Rattle.laws.specs.Bools.{or_split}
use Rattle.laws.specs.Sound.{Shaped, SoundState}
use Rattle.laws.specs.Placed.{puts-slots}
use Rattle.refusals.specs.Refusals.{told, roomed, over-not, stops, lets_pass, goes_on}
use Rattle.refusals.specs.Numbered.{number_refusal, asked-refuses, asked-passes, asked-inside}
use Rattle.refusals.specs.Ranges.{is-outside, inside-words, short-words}
use Rattle.writable.specs.Meeting.{Writable, pieces_of, nodes_of}

not-both : (a b : Bool) → not (a && b) ≡ (not a || not b)
not-both true b = refl
not-both false b = refl

module _ (s : Lent) (h : Shaped s) (z : SoundState s) (l n : ℕ) where
  -- 3
  abbrev pub out_or_long : Bool
  out_or_long = outside l n (device_of s) || ltb (device_of s).pages n

  pages-same : (device_of s).pages ≡ s.head.pages
  unfolding device_of
  pages-same = refl

  pub is-out_or_long : (t u : Bool) → not t ≡ (eqb n 0 || ltb s.head.logical (l + n)) → u ≡ (t && leb n s.head.pages) → not u ≡ out_or_long
  is-out_or_long t u e i =
      ap not i ∙ not-both t (leb n s.head.pages)
      ∙ ap₂ ◌||◌ (is-outside s l n t e) (over-not n s.head.pages ∙ ap (λ (m : ℕ). ltb m n) (sym pages-same))

module _ (s : Lent) (h : Shaped s) (z : SoundState s) (k l n room : ℕ) (v : Result (Unit {0}) Refusal)
    (a : told v ≡ refuse (out_or_long s h z l n) Refusal.Range (number_refusal s.head k)) where
  pub write-asked : (r : Refusal) → v ≡ Err r → number r ≡ write_refusal k l n (roomed room) (device_of s)
  unfolding write_refusal
  write-asked r g = asked-refuses s k (out_or_long s h z l n) v a r _ g

  module _ (x : Unit {0}) (g : v ≡ Ok x) where
    -- the tests from 7 back to 5
    abbrev seven : ℕ
    seven = refuse (ltb room (3 * pieces_of l n s)) Refusal.OutShort 0

    abbrev six : ℕ
    six = refuse (too_many (puts l n (device_of s))) Refusal.NoNodes seven

    from_five : write_refusal k l n (roomed room) (device_of s) ≡ refuse (ltb (free (device_of s)) n) Refusal.NoPages six
    unfolding write_refusal
    from_five =
        asked-passes s k (out_or_long s h z l n) v a x g _
        ∙ ap (λ (m : ℕ). refuse (ltb (free (device_of s)) n) Refusal.NoPages (refuse (too_many (puts l n (device_of s))) Refusal.NoNodes (refuse (ltb m (3 * pieces_of l n s)) Refusal.OutShort 0)))
        (length-replicate {A = ℕ} room 0)

    module _ (free-pages : ℕ) (e : free-pages ≡ free (device_of s)) (y : Result (Unit {0}) Refusal) (b : told y ≡ refuse (not (leb n free-pages)) Refusal.NoPages 0) where
      five : not (leb n free-pages) ≡ ltb (free (device_of s)) n
      five = over-not n free-pages ∙ ap (λ (m : ℕ). ltb m n) e

      pub write-pages : (r : Refusal) → y ≡ Err r → number r ≡ write_refusal k l n (roomed room) (device_of s)
      write-pages r f = stops y (not (leb n free-pages)) Refusal.NoPages b r f six ∙ ap (λ (t : Bool). refuse t Refusal.NoPages six) five ∙ sym from_five

      module _ (u : Unit {0}) (f : y ≡ Ok u) where
        pub writable : Writable l n s
        writable =
            let o = or_split (outside l n (device_of s)) (ltb (device_of s).pages n) (asked-inside s k (out_or_long s h z l n) v a x g) in
            let r = inside-words s l n o.0 in
            record {
              shape = h;
              sound = z;
              some = r.0;
              block = omega (arith, ltb-false (device_of s).pages n o.1, pages-same s h z l n);
              inside = r.1;
              enough = ltb-false (free (device_of s)) n (sym five ∙ lets_pass y (not (leb n free-pages)) Refusal.NoPages b u f);
            }

        from-six : six ≡ write_refusal k l n (roomed room) (device_of s)
        from-six = sym (goes_on y (not (leb n free-pages)) Refusal.NoPages b u f six) ∙ ap (λ (t : Bool). refuse t Refusal.NoPages six) five ∙ sym from_five

        slots_same : (puts l n (device_of s)).slots ≡ s.head.slots
        unfolding puts device_of
        slots_same = puts-slots l _ (device_of s)

        -- 6, then 7
        module _ (i : ℕ) (p : i ≡ nodes_of l n s) (w : Result (Unit {0}) Refusal) (c : told w ≡ refuse (not (leb i s.head.slots)) Refusal.NoNodes 0) where
          nodes : not (leb i s.head.slots) ≡ too_many (puts l n (device_of s))
          unfolding too_many
          nodes = over-not i s.head.slots ∙ ap₂ ltb (sym slots_same) p

          pub write-nodes : (r : Refusal) → w ≡ Err r → number r ≡ write_refusal k l n (roomed room) (device_of s)
          write-nodes r q = stops w (not (leb i s.head.slots)) Refusal.NoNodes c r q seven ∙ ap (λ (t : Bool). refuse t Refusal.NoNodes seven) nodes ∙ from-six

          pub write-short : (d : Unit {0}) → w ≡ Ok d → (j : ℕ) (t : Result (Unit {0}) Refusal) → j ≡ pieces_of l n s
              → told t ≡ refuse (not (leb j (room / 3))) Refusal.OutShort 0 → told t ≡ write_refusal k l n (roomed room) (device_of s)
          write-short d q j t o m =
              m ∙ ap (λ (t : Bool). refuse t Refusal.OutShort 0) (short-words room j ∙ ap (λ (x : ℕ). ltb room (3 * x)) o)
              ∙ sym (goes_on w (not (leb i s.head.slots)) Refusal.NoNodes c d q seven) ∙ ap (λ (t : Bool). refuse t Refusal.NoNodes seven) nodes ∙ from-six
