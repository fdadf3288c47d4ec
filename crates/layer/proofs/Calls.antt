-- Each of the six calls: it asks nothing, answers as demand 1 says, and its contract allows one result. What is said here is said of what the checker asks of
-- a caller (`Asked`) and of a body (`Post`), so a contract that says less is refused here. Of the arguments a, and of the parameters at exit s, `.0` is the
-- first and `.1` the others, in the order of the call's signature.
use mathlib.Core.List.{[]}
use contract.Lifetimes.{Lfts}
use denote.Triple.Clauses.{AtExit}
use borrow.Fn.Kinds.{Dens, ended_of}
use Rattle.rules.specs.Lent.{Lent, lent}
use Rattle.rules.specs.Answers.{Outcome, done, listed, counted}
use Rattle.rules.specs.Calls.{Call, call, sizes_only, fresh}
use Rattle.rules.specs.declared.Head.{Head}
use Rattle.demands.specs.Demand1.{Answers, FreshAnswers}
use Rattle.demands.proofs.Proved.{demand_1}
use Rattle.layer.specs.Told.{done-one, listed-one, counted-one}
use Rattle.layer.specs.Promises.{Words, Promises}
use Rattle.layer.specs.ByRule.{by_rule}
use Rattle.layer.proofs.fresh.Kinds as Fresh
use Rattle.layer.proofs.fresh.Reads as fresh-contract
use Rattle.layer.proofs.write.Kinds as Write
use Rattle.layer.proofs.write.Reads as write-contract
use Rattle.layer.proofs.trim.Kinds as Trim
use Rattle.layer.proofs.trim.Reads as trim-contract
use Rattle.layer.proofs.read.Kinds as Read
use Rattle.layer.proofs.read.Reads as read-contract
use Rattle.layer.proofs.reclaim.Kinds as Reclaim
use Rattle.layer.proofs.reclaim.Reads as reclaim-contract
use Rattle.layer.proofs.report.Kinds as Report
use Rattle.layer.proofs.report.Reads as report-contract

-- blocks, pages, logical, slots, ext, blk, spare
module _ (κs : Lfts 3) (a : Dens κs Fresh.ps) where
  abbrev pub fresh-words : Words (AtExit (ended_of 3 Fresh.ps Fresh.r) κs)
  fresh-words = record {
    extent_words = λ s. s.1.1.1.1.0.now;
    block_words = λ s. s.1.1.1.1.1.0.now;
    spare = λ s. s.1.1.1.1.1.1.0.now;
    answer = λ s. [];
  }

  -- the head of a refusal: the sizes that were given
  abbrev pub fresh-head : Head
  fresh-head = sizes_only a.0 a.1.0 a.1.1.0 a.1.1.1.0

  abbrev pub FreshRight : Outcome Lent → Type 0
  FreshRight = FreshAnswers a.0 a.1.0 a.1.1.0 a.1.1.1.0 a.1.1.1.1.0.now a.1.1.1.1.1.0.now a.1.1.1.1.1.1.0.now

  abbrev pub freshly : Outcome Lent
  freshly = fresh a.0 a.1.0 a.1.1.0 a.1.1.1.0 a.1.1.1.1.0.now a.1.1.1.1.1.0.now a.1.1.1.1.1.1.0.now

  pub fresh-right : FreshRight freshly
  fresh-right = demand_1.freshes a.0 a.1.0 a.1.1.0 a.1.1.1.0 a.1.1.1.1.0.now a.1.1.1.1.1.0.now a.1.1.1.1.1.1.0.now

  pub fresh_promises : Promises (fresh-contract.Asked κs a) (fresh-contract.Post κs a) (done fresh-head) fresh-words FreshRight
  fresh_promises =
      by_rule (fresh-contract.Post κs a) (done fresh-head) fresh-words FreshRight freshly fresh-right (λ r s p. p) (λ r r' s s' p q. done-one _ r r')

-- h, ext, blk, spare, number, l, n, out
module _ (κs : Lfts 4) (a : Dens κs Write.ps) where
  abbrev pub write-words : Words (AtExit (ended_of 4 Write.ps Write.r) κs)
  write-words = record {
    extent_words = λ s. s.1.0.now;
    block_words = λ s. s.1.1.0.now;
    spare = λ s. s.1.1.1.0.now;
    answer = λ s. s.1.1.1.1.1.1.1.0.now;
  }

  abbrev pub writes : Call
  writes = Call.write a.1.1.1.1.0 a.1.1.1.1.1.0 a.1.1.1.1.1.1.0 a.1.1.1.1.1.1.1.0.now

  abbrev pub writes-to : Lent
  writes-to = lent a.0 a.1.0.now a.1.1.0.now a.1.1.1.0.now

  pub write_promises : Promises (write-contract.Asked κs a) (write-contract.Post κs a) (listed a.0) write-words (Answers writes writes-to)
  write_promises =
      by_rule (write-contract.Post κs a) (listed a.0) write-words (Answers writes writes-to) (call writes writes-to) (demand_1.calls writes writes-to)
      (λ r s p. p) (λ r r' s s' p q. listed-one _ r r')

-- h, ext, blk, spare, number, l, n; spare is only read
module _ (κs : Lfts 3) (a : Dens κs Trim.ps) where
  abbrev pub trim-words : Words (AtExit (ended_of 3 Trim.ps Trim.r) κs)
  trim-words = record { extent_words = λ s. s.1.0.now; block_words = λ s. s.1.1.0.now; spare = λ s. a.1.1.1.0.now; answer = λ s. [] }

  abbrev pub trims : Call
  trims = Call.trim a.1.1.1.1.0 a.1.1.1.1.1.0 a.1.1.1.1.1.1.0

  abbrev pub trims-to : Lent
  trims-to = lent a.0 a.1.0.now a.1.1.0.now a.1.1.1.0.now

  pub trim_promises : Promises (trim-contract.Asked κs a) (trim-contract.Post κs a) (done a.0) trim-words (Answers trims trims-to)
  trim_promises =
      by_rule (trim-contract.Post κs a) (done a.0) trim-words (Answers trims trims-to) (call trims trims-to) (demand_1.calls trims trims-to)
      (λ r s p. p) (λ r r' s s' p q. done-one _ r r')

-- h, ext, blk, spare, l, n, out; the state is only read
module _ (κs : Lfts 4) (a : Dens κs Read.ps) where
  abbrev pub read-words : Words (AtExit (ended_of 4 Read.ps Read.r) κs)
  read-words = record {
    extent_words = λ s. a.1.0.now;
    block_words = λ s. a.1.1.0.now;
    spare = λ s. a.1.1.1.0.now;
    answer = λ s. s.1.1.1.1.1.1.0.now;
  }

  abbrev pub reads : Call
  reads = Call.read a.1.1.1.1.0 a.1.1.1.1.1.0 a.1.1.1.1.1.1.0.now

  abbrev pub reads-from : Lent
  reads-from = lent a.0 a.1.0.now a.1.1.0.now a.1.1.1.0.now

  pub read_promises : Promises (read-contract.Asked κs a) (read-contract.Post κs a) (listed a.0) read-words (Answers reads reads-from)
  read_promises =
      by_rule (read-contract.Post κs a) (listed a.0) read-words (Answers reads reads-from) (call reads reads-from) (demand_1.calls reads reads-from)
      (λ r s p. p) (λ r r' s s' p q. listed-one _ r r')

-- h, ext, blk, spare, out
module _ (κs : Lfts 4) (a : Dens κs Reclaim.ps) where
  abbrev pub reclaim-words : Words (AtExit (ended_of 4 Reclaim.ps Reclaim.r) κs)
  reclaim-words = record {
    extent_words = λ s. s.1.0.now;
    block_words = λ s. s.1.1.0.now;
    spare = λ s. s.1.1.1.0.now;
    answer = λ s. s.1.1.1.1.0.now;
  }

  abbrev pub reclaims : Call
  reclaims = Call.reclaim a.1.1.1.1.0.now

  abbrev pub reclaims_in : Lent
  reclaims_in = lent a.0 a.1.0.now a.1.1.0.now a.1.1.1.0.now

  pub reclaim_promises : Promises (reclaim-contract.Asked κs a) (reclaim-contract.Post κs a) (listed a.0) reclaim-words (Answers reclaims reclaims_in)
  reclaim_promises =
      by_rule (reclaim-contract.Post κs a) (listed a.0) reclaim-words (Answers reclaims reclaims_in) (call reclaims reclaims_in) (demand_1.calls reclaims reclaims_in)
      (λ r s p. p) (λ r r' s s' p q. listed-one _ r r')

-- h, ext, blk, spare; the state is only read
module _ (κs : Lfts 3) (a : Dens κs Report.ps) where
  abbrev pub report-words : Words (AtExit (ended_of 3 Report.ps Report.r) κs)
  report-words = record { extent_words = λ s. a.1.0.now; block_words = λ s. a.1.1.0.now; spare = λ s. a.1.1.1.0.now; answer = λ s. [] }

  abbrev pub reports-on : Lent
  reports-on = lent a.0 a.1.0.now a.1.1.0.now a.1.1.1.0.now

  pub report_promises : Promises (report-contract.Asked κs a) (report-contract.Post κs a) (counted a.0) report-words (Answers Call.report reports-on)
  report_promises =
      by_rule (report-contract.Post κs a) (counted a.0) report-words (Answers Call.report reports-on) (call Call.report reports-on) (demand_1.calls Call.report reports-on)
      (λ r s p. p) (λ r r' s s' p q. counted-one _ r r')
