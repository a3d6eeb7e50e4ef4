use Rattle.std.proofs.Common.{◌≡◌, find, flat_map, length}
use Rattle.plain_house.specs.Tariffs.{same_version}
use Rattle.plain_house.specs.Inner.Scanned.{version_of_event}
use Rattle.plain_house.proofs.tariffs.first_stored.Given as goal

abbrev pub invariant-loop-event : goal.invariant-loop-event
invariant-loop-event l =
    find (λ tariff. same_version tariff l.version) (flat_map version_of_event l.rest)
    ≡ find (λ tariff. same_version tariff l.version) (flat_map version_of_event l.events)

abbrev pub decreases-loop-event : goal.decreases-loop-event
decreases-loop-event l = length l.rest
