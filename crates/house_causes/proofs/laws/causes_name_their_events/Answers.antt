use Rattle.house_causes.proofs.NamedLemmas.{authorisation_named, settlement_named, tariff_named}
use Rattle.house_causes.proofs.NamesLemmas.{close_none, exposure_none, find_none, post_named, registered_named, statement_none, token_none}
use Rattle.house_causes.proofs.ReleaseLemmas.{release_named}
use Rattle.house_causes.proofs.laws.causes_name_their_events.Goals as goal

pub returns : goal.returns
returns c =
    let tariffs = c.tariffs_without_difference_are_same.ensures in
    let equal = c.same_tariffs_are_equal_folded.ensures in
    let cdrs = c.legal_cdrs_are_charged.ensures in
    let credits = c.legal_credits_are_taken_back.ensures in
    record {
      tariff = tariff_named;
      token = token_none;
      authorisation = authorisation_named;
      release = λ base config events release legal small. release_named config events release base legal small;
      post = λ base config events checked legal cause at. post_named tariffs equal cdrs credits base config events checked legal cause at;
      registered_otherwise = λ base config events checked legal cause at.
          registered_named tariffs equal cdrs credits base config events checked legal cause at;
      close = close_none;
      settlement = λ base config events settlement legal. settlement_named base config events settlement legal;
      exposure = exposure_none;
      find = find_none;
      statement = statement_none;
    }
