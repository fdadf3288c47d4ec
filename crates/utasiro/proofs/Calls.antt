-- Each call that C and Rust make: it asks nothing, answers as demand 1 says, and its contract allows one result. What is said here is said of what the checker
-- asks of a caller (`Asked`) and of a body (`Post`). What is lent and where its words are left is as for the layer's calls, which have the same parameters.
use mathlib.Core.Path.{◌≡◌, refl, sym, ◌∙◌}
use base.Logic.{emp}
use contract.Monad.{fact}
use contract.Lifetimes.{Lfts}
use denote.Triple.Entry.{Args}
use denote.Triple.Clauses.{AtExit}
use borrow.Fn.World.{World}
use borrow.Fn.Kinds.{Dens}
use Rattle.rules.specs.Calls.{Call, call}
use Rattle.demands.specs.Demand1.{Answers}
use Rattle.demands.proofs.Proved.{demand_1}
use Rattle.layer.specs.Promises.{leaving, Promises}
use Rattle.layer.specs.ByRule.{by_rule}
use Rattle.layer.proofs.Calls.{fresh-words, FreshRight, freshly, fresh-right, write-words, writes, writes-to}
use Rattle.layer.proofs.Calls.{trim-words, trims, trims-to, read-words, reads, reads-from, reclaim-words, reclaims, reclaims_in, report-words, reports-on}
use Rattle.records.proofs.Calls.{record_words, reads-records, records-from}
use Rattle.answers.specs.declared.Outcome.{Outcome}
use Rattle.answers.specs.Said.{of_done, of_listed, of_counts}
use Rattle.answers.specs.Told.{of_done-one, of_listed-one, counts-one}
use Rattle.utasiro.proofs.utasiro_fresh.Kinds as Fresh
use Rattle.utasiro.proofs.utasiro_fresh.Reads as fresh-contract
use Rattle.utasiro.proofs.utasiro_write.Kinds as Write
use Rattle.utasiro.proofs.utasiro_write.Reads as write-contract
use Rattle.utasiro.proofs.utasiro_trim.Kinds as Trim
use Rattle.utasiro.proofs.utasiro_trim.Reads as trim-contract
use Rattle.utasiro.proofs.utasiro_read.Kinds as Read
use Rattle.utasiro.proofs.utasiro_read.Reads as read-contract
use Rattle.utasiro.proofs.utasiro_reclaim.Kinds as Reclaim
use Rattle.utasiro.proofs.utasiro_reclaim.Reads as reclaim-contract
use Rattle.utasiro.proofs.utasiro_report.Kinds as Report
use Rattle.utasiro.proofs.utasiro_report.Reads as report-contract
use Rattle.utasiro.specs.contracts.utasiro_read_records as over-records

pub fresh_promises : (κs : Lfts 3) (a : Dens κs Fresh.ps) → Promises (fresh-contract.Asked κs a) (fresh-contract.Post κs a) of_done (fresh-words κs a) (FreshRight κs a)
fresh_promises κs a =
    by_rule (fresh-contract.Post κs a) of_done (fresh-words κs a) (FreshRight κs a) (freshly κs a) (fresh-right κs a)
    (λ r s p. p.0) (λ r r' s s' p q e. of_done-one r r' e (p.1 ∙ sym q.1))

pub write_promises : (κs : Lfts 4) (a : Dens κs Write.ps)
    → Promises (write-contract.Asked κs a) (write-contract.Post κs a) of_listed (write-words κs a) (Answers (writes κs a) (writes-to κs a))
write_promises κs a =
    by_rule (write-contract.Post κs a) of_listed (write-words κs a) _ _ (demand_1.calls (writes κs a) (writes-to κs a))
    (λ r s p. p) (λ r r' s s' p q. of_listed-one r r')

pub trim_promises : (κs : Lfts 3) (a : Dens κs Trim.ps)
    → Promises (trim-contract.Asked κs a) (trim-contract.Post κs a) of_done (trim-words κs a) (Answers (trims κs a) (trims-to κs a))
trim_promises κs a =
    by_rule (trim-contract.Post κs a) of_done (trim-words κs a) _ _ (demand_1.calls (trims κs a) (trims-to κs a))
    (λ r s p. p.0) (λ r r' s s' p q e. of_done-one r r' e (p.1 ∙ sym q.1))

pub read_promises : (κs : Lfts 4) (a : Dens κs Read.ps)
    → Promises (read-contract.Asked κs a) (read-contract.Post κs a) of_listed (read-words κs a) (Answers (reads κs a) (reads-from κs a))
read_promises κs a =
    by_rule (read-contract.Post κs a) of_listed (read-words κs a) _ _ (demand_1.calls (reads κs a) (reads-from κs a))
    (λ r s p. p) (λ r r' s s' p q. of_listed-one r r')

pub reclaim_promises : (κs : Lfts 4) (a : Dens κs Reclaim.ps)
    → Promises (reclaim-contract.Asked κs a) (reclaim-contract.Post κs a) of_listed (reclaim-words κs a) (Answers (reclaims κs a) (reclaims_in κs a))
reclaim_promises κs a =
    by_rule (reclaim-contract.Post κs a) of_listed (reclaim-words κs a) _ _ (demand_1.calls (reclaims κs a) (reclaims_in κs a))
    (λ r s p. p) (λ r r' s s' p q. of_listed-one r r')

pub report_promises : (κs : Lfts 3) (a : Dens κs Report.ps)
    → Promises (report-contract.Asked κs a) (report-contract.Post κs a) of_counts (report-words κs a) (Answers Call.report (reports-on κs a))
report_promises κs a =
    by_rule (report-contract.Post κs a) of_counts (report-words κs a) _ _ (demand_1.calls Call.report (reports-on κs a))
    (λ r s p. p) (λ r r' s s' p q. counts-one r r')

-- the read over records: in every model its contract is the plain fact that `RecordsPost` is, and asks nothing, as that of `read_records` (`records`, Calls)
module _ (κs : Lfts 4) (a : Args over-records.signature κs) where
  abbrev RecordsPost : Outcome → AtExit over-records.ended κs → Type 0
  RecordsPost r s = leaving of_listed (record_words κs a) r s ≡ call (reads-records κs a) (records-from κs a)

  module _ (w : World) where
    pub asks-is : (over-records.clauses w.𝓛 w.𝓜.mem w.𝓡.run κs a).requires tt ≡ emp w.𝓤
    asks-is = refl

    pub contract_is : (r : Outcome) (s : AtExit over-records.ended κs)
        → (over-records.clauses w.𝓛 w.𝓜.mem w.𝓡.run κs a).ensures tt r s ≡ fact w.𝓤 (RecordsPost r s)
    contract_is r s = refl

  pub read-records_promises : Promises (Unit {0}) RecordsPost of_listed (record_words κs a) (Answers (reads-records κs a) (records-from κs a))
  read-records_promises =
      by_rule RecordsPost of_listed (record_words κs a) _ _ (demand_1.calls (reads-records κs a) (records-from κs a))
      (λ r s p. p) (λ r r' s s' p q. of_listed-one r r')
