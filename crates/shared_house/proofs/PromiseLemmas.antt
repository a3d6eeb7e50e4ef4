-- One history keeps what legal lists keep.
use Rattle.std.proofs.Common.{List, subst}
use Rattle.plain_house.specs.declared.event.Event.{Event}
use Rattle.plain_house.specs.Legal.{IsLegal}
use Rattle.plain_house.specs.LegalLists.{LegalCdrsAreCharged, LegalCreditsAreTakenBack, LegalListsKeepLimits, LegalPositionsBalance}
use Rattle.shared_house.specs.Promises.{HistoriesKeepPromises}

pub keep_promises : LegalListsKeepLimits → LegalCdrsAreCharged → LegalCreditsAreTakenBack → LegalPositionsBalance → HistoriesKeepPromises
keep_promises limits charged taken_back balanced config events passes history = record {
  limits = λ before later same. limits config before later (subst (λ (l : List Event). IsLegal config l) same history.legal);
  charged = λ before later cdr cost same. charged config before later cdr cost (subst (λ (l : List Event). IsLegal config l) same history.legal);
  taken_back = λ before later credit amount same. taken_back config before later credit amount (subst (λ (l : List Event). IsLegal config l) same history.legal);
  balanced = λ period currency operators providers. balanced config events period currency operators providers history.legal;
}
