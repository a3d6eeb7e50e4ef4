use Rattle.std.proofs.Common.{subst}
use Rattle.plain_house.specs.Legal.{IsLegal}
use Rattle.house_core.proofs.laws.legal_lists_keep_rules.Goals as goal

pub returns : goal.returns
returns c = λ config events distinct legal. record {
  charged = λ before later cdr cost split. c.legal_cdrs_are_charged.ensures config before later cdr cost (subst (IsLegal config) split legal);
  taken_back = λ before later credit amount split. c.legal_credits_are_taken_back.ensures config before later credit amount (subst (IsLegal config) split legal);
  balanced = λ period currency. c.legal_positions_balance.ensures config events period currency distinct.operators distinct.providers legal;
  limits = λ before later split. c.legal_lists_keep_limits.ensures config before later (subst (IsLegal config) split legal);
}
