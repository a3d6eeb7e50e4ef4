use Rattle.std.proofs.Common.{◌≡◌, take, reverse, flat_map}
use Rattle.plain_house.specs.Tokens.{is_token}
use Rattle.plain_house.specs.Inner.Scanned.{token_of_event}
use Rattle.plain_house.proofs.TokensLemmas.{found_valid}
use Rattle.plain_house.proofs.tokens.last_validity.Given as goal

abbrev pub invariant-loop-event : goal.invariant-loop-event
invariant-loop-event l =
    l.found ≡ found_valid (is_token l.provider l.uid l.kind) (reverse (flat_map token_of_event (take l.event-index l.events)))
