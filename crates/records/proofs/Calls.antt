-- Reading over records asks nothing, answers as demand 1 says of the read over the records' flat words, and its contract allows one result. `asks-is` and
-- `contract_is` say that the contract to which the function is held asks nothing, and is in every model the plain fact `Post`. Of the arguments a, and of the
-- parameters at exit s, `.0` is the first and `.1` the others.
use mathlib.Core.Path.{◌≡◌, refl}
use base.Logic.{emp}
use contract.Monad.{fact}
use contract.Lifetimes.{Lfts}
use denote.Triple.Entry.{Args}
use denote.Triple.Clauses.{AtExit}
use borrow.Fn.World.{World}
use Rattle.rules.specs.Extents.{flat}
use Rattle.rules.specs.Lent.{Lent, lent}
use Rattle.rules.specs.Answers.{listed}
use Rattle.rules.specs.Calls.{Call, call}
use Rattle.rules.specs.declared.Refusal.{Refusal}
use Rattle.rules.specs.declared.Listed.{Listed}
use Rattle.std.specs.Prelude.{Result}
use Rattle.demands.specs.Demand1.{Answers}
use Rattle.demands.proofs.Proved.{demand_1}
use Rattle.layer.specs.Told.{listed-one}
use Rattle.layer.specs.Promises.{Words, leaving, Promises}
use Rattle.layer.specs.ByRule.{by_rule}
use Rattle.records.specs.contracts.read_records as over-records

-- h, recs, blk, spare, l, n, out; the state is only read
module _ (κs : Lfts 4) (a : Args over-records.signature κs) where
  abbrev pub record_words : Words (AtExit over-records.ended κs)
  record_words = record {
    extent_words = λ s. flat a.1.0.now;
    block_words = λ s. a.1.1.0.now;
    spare = λ s. a.1.1.1.0.now;
    answer = λ s. s.1.1.1.1.1.1.0.now;
  }

  abbrev pub reads-records : Call
  reads-records = Call.read a.1.1.1.1.0 a.1.1.1.1.1.0 a.1.1.1.1.1.1.0.now

  abbrev pub records-from : Lent
  records-from = lent a.0 (flat a.1.0.now) a.1.1.0.now a.1.1.1.0.now

  abbrev Post : Result Listed Refusal → AtExit over-records.ended κs → Type 0
  Post r s = leaving (listed a.0) record_words r s ≡ call reads-records records-from

  module _ (w : World) where
    pub asks-is : (over-records.clauses w.𝓛 w.𝓜.mem w.𝓡.run κs a).requires tt ≡ emp w.𝓤
    asks-is = refl

    pub contract_is : (r : Result Listed Refusal) (s : AtExit over-records.ended κs)
        → (over-records.clauses w.𝓛 w.𝓜.mem w.𝓡.run κs a).ensures tt r s ≡ fact w.𝓤 (Post r s)
    contract_is r s = refl

  pub read-records_promises : Promises (Unit {0}) Post (listed a.0) record_words (Answers reads-records records-from)
  read-records_promises =
      by_rule Post (listed a.0) record_words (Answers reads-records records-from) (call reads-records records-from) (demand_1.calls reads-records records-from)
      (λ r s p. p) (λ r r' s s' p q. listed-one _ r r')
