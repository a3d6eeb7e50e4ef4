use Rattle.std.proofs.Common.{◌≡◌, Result, Ok, IfOk, subst}
use Rattle.shared_house.specs.declared.certifying.CertifyFault.{CertifyFault}
use Rattle.shared_house.specs.declared.ended.Ended.{Ended}
use Rattle.shared_house.proofs.StandLemmas.{if_ok}
use Rattle.shared_house.proofs.house.locks.House.finish.Goals as goal

-- what is so of all that is certified is so of what the house ends with
of_certified : {F : Type 0} (result : Result Ended F) (certified : Result Ended CertifyFault) (P : Ended → Type 0) → IfOk result (λ ended. certified ≡ Ok ended) → IfOk certified P → IfOk result P
of_certified result certified P same is = if_ok result (λ ended. certified ≡ Ok ended) P (λ ended e. subst (λ (r : Result Ended CertifyFault). IfOk r P) e is) same

pub returns-clause-calls : goal.returns-clause-calls
returns-clause-calls g c = of_certified c.finished.result c.certified.result _ c.finished.ensures.ok c.certified.ensures.calls

pub returns-clause-ok : goal.returns-clause-ok
returns-clause-ok g c = of_certified c.finished.result c.certified.result _ c.finished.ensures.ok c.certified.ensures.ok

pub returns-clause-torn : goal.returns-clause-torn
returns-clause-torn g c = λ entry is. c.certified.ensures.torn entry (c.finished.ensures.torn entry is)
