use Rattle.shared_house.proofs.PromiseLemmas.{keep_promises}
use Rattle.shared_house.proofs.certifying.laws.histories_keep_promises.Goals as goal

pub returns : goal.returns
returns c =
    keep_promises c.legal_lists_keep_limits.ensures c.legal_cdrs_are_charged.ensures c.legal_credits_are_taken_back.ensures
    c.legal_positions_balance.ensures
