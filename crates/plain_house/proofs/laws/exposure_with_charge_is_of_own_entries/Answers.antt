use Rattle.plain_house.proofs.OwnExposure.{exposure_with_charge_of_own}
use Rattle.plain_house.proofs.laws.exposure_with_charge_is_of_own_entries.Goals as goal

pub returns : goal.returns
returns c = exposure_with_charge_of_own c.legal_cdrs_are_charged.ensures c.legal_credits_are_taken_back.ensures
