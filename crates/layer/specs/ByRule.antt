-- The law behind the promises of every call: a contract that is one equality with a rule's outcome allows one result, and one that demand 1 allows.
use Rattle.std.specs.Prelude.{◌≡◌}
use Rattle.std.proofs.Common.{sym, ap, ◌∙◌}
use Rattle.std.proofs.Math.Path.{subst}
use Rattle.rules.specs.Lent.{Lent}
use Rattle.rules.specs.Answers.{Outcome, Said}
use Rattle.layer.specs.Promises.{Words, leaving, Same, Promises}

-- what an outcome says
said_of : Outcome Lent → Said
said_of o = record { refusal = o.refusal; counts = o.counts; head = o.after.head }

-- what an answer says tells it apart
module _ {A S : Type 0} (Post : A → S → Type 0) (say : A → Said) (at : Words S) (Right : Outcome Lent → Type 0) (rule : Outcome Lent) (right : Right rule)
    (is : (r : A) (s : S) → Post r s → leaving say at r s ≡ rule) where
  both : (r r' : A) (s s' : S) → Post r s → Post r' s' → leaving say at r s ≡ leaving say at r' s'
  both r r' s s' p q = is r s p ∙ sym (is r' s' q)

  same-words : (r r' : A) (s s' : S) → Post r s → Post r' s' → Same at s s'
  same-words r r' s s' p q =
      let e = both r r' s s' p q in
      record {
        extent_words = ap (λ (o : Outcome Lent). o.after.extent_words) e;
        block_words = ap (λ (o : Outcome Lent). o.after.block_words) e;
        spare = ap (λ (o : Outcome Lent). o.after.spare) e;
        answer = ap (λ (o : Outcome Lent). o.out) e;
      }

  pub by_rule : ((r r' : A) (s s' : S) → Post r s → Post r' s' → say r ≡ say r' → r ≡ r') → Promises (Unit {0}) Post say at Right
  unfolding said_of
  by_rule tells = record {
    asks = tt;
    answers = λ r s p. subst Right (sym (is r s p)) right;
    answer = λ r r' s s' p q. tells r r' s s' p q (ap said_of (both r r' s s' p q));
    words = same-words;
  }
