-- What an event does, by the entries that the house keeps of it. No rule here depends on a period, so these entries have period 0.
use Rattle.std.specs.Prelude.{ℕ, List, Bool, ◌&&◌}
use Rattle.std.specs.List.{list_any}
use Rattle.ocpi_json.specs.Folded.{same_folded}
use Rattle.ocpi_types.specs.declared.party.Party.{Party}
use Rattle.ocpi_types.specs.declared.tariff.Tariff.{Tariff}
use Rattle.ocpi_types.specs.Party.{same_party}
use Rattle.cdr_checks.specs.declared.request.Authorize.{Authorize}
use Rattle.cdr_checks.specs.declared.request.Release.{Release}
use Rattle.cdr_checks.specs.declared.request.Settlement.{Settlement}
use Rattle.plain_house.specs.declared.event.Event.{Event}
use Rattle.plain_house.specs.declared.event.Hold.{Hold}
use Rattle.plain_house.specs.Booked.{booked, credits, has_id}
use Rattle.plain_house.specs.Entries.{account_entry, book_entry}
use Rattle.plain_house.specs.Exposure.{ends_hold, open_holds}
use Rattle.plain_house.specs.Settlements.{settles_same}
use Rattle.plain_house.specs.Tariffs.{is_registered, same_version, tariff_versions}
use Rattle.plain_house.specs.Tokens.{has_uid, tokens}

-- ---- books

-- the event books a CDR or Credit CDR of that operator and id
abbrev pub books : Party → List ℕ → Event → Bool
books operator id event = list_any (has_id operator id) (booked (book_entry event 0))

-- the event books a CDR or Credit CDR that credits the CDR of that operator and id
abbrev pub takes_back : Party → List ℕ → Event → Bool
takes_back operator id event = list_any (credits operator id) (booked (book_entry event 0))

-- the event stores a version of the tariff's operator, id and `last_updated`
abbrev pub stores : Tariff → Event → Bool
stores tariff event = list_any (λ stored. same_version stored tariff) (tariff_versions (book_entry event 0))

-- the event stores a version of the operator with the content of the tariff
abbrev pub registers : Party → Tariff → Event → Bool
registers operator tariff event = is_registered operator (book_entry event 0) tariff

-- ---- accounts

-- the event opens a hold of the release's provider and reference, with any operator
abbrev pub gives : Release → Event → Bool
gives release event =
    list_any (λ hold. same_party hold.provider release.provider && same_folded hold.reference release.reference) (open_holds (account_entry event 0))

-- the event ends the hold
abbrev pub ends : Hold → Event → Bool
ends hold event = list_any (ends_hold hold) (account_entry event 0)

-- the event settles that period of the provider in the currency
abbrev pub settles : Settlement → Event → Bool
settles settlement event = list_any (settles_same settlement) (account_entry event 0)

-- the event puts a token of the provider and uid that are asked for, of whatever type
abbrev pub puts : Authorize → Event → Bool
puts ask event = list_any (has_uid ask.provider ask.uid) (tokens (account_entry event 0))
