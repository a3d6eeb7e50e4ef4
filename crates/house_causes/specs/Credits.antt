-- Why a Credit CDR takes nothing back.
use Rattle.std.specs.Prelude.{ℕ, neg_ℤ, Option, None, Some, List, option_map, position}
use Rattle.ocpi_json.specs.declared.name.Name.TheVariants as name
use Rattle.ocpi_types.specs.declared.cdr.Cdr.{Cdr}
use Rattle.ocpi_types.specs.declared.config.Config.{Config}
use Rattle.cdr_checks.specs.Place.{declared_cost, inside}
use Rattle.cdr_checks.specs.declared.place.Place.{Place}
use Rattle.plain_house.specs.Booked.{Booked, booked_as}
use Rattle.plain_house.specs.Entries.{book_entries}
use Rattle.plain_house.specs.Happened.{books, takes_back}
use Rattle.plain_house.specs.Posting.{credit_difference}
use Rattle.plain_house.specs.declared.event.Event.{Event}
use Rattle.plain_house.specs.declared.event.Event.TheVariants as event
use Rattle.plain_house.specs.declared.posting.CreditDifference.{CreditDifference}
use Rattle.plain_house.specs.declared.posting.CreditDifference.TheVariants.{Provider, Currency, AboveZero, Cost}
use Rattle.house_causes.specs.First.{◌>>=◌, first_that}
use Rattle.house_causes.specs.HouseCause.{cause_at}
use Rattle.house_causes.specs.declared.house_cause.HouseCause.{HouseCause}
use Rattle.house_causes.specs.declared.house_cause.HouseReason.TheVariants as reason

-- where a Credit CDR names the CDR that it credits
abbrev pub reference_place : Place
reference_place = inside name.Cdr name.CreditReferenceId

abbrev pub no_original : Cdr → Option HouseCause
no_original credit = option_map (λ id. cause_at reference_place (reason.NoOriginal id)) credit.credit

-- by the event that books the Credit CDR that is named
abbrev pub of_credit : List Event → Cdr → Option HouseCause
of_credit events credit = do
  id ← credit.credit
  Some (record { place = Some reference_place; reason = reason.OfCredit id; event = position (books credit.operator id) events })

-- the CDR or Credit CDR that an event books
abbrev pub cdr_of : Event → Option Cdr
cdr_of (event.Tariff tariff) = None
cdr_of (event.Token token) = None
cdr_of (event.Authorised hold) = None
cdr_of (event.Released release) = None
cdr_of (event.Cdr cdr cost) = Some cdr
cdr_of (event.Credit cdr amount) = Some cdr
cdr_of (event.Settled settlement) = None
cdr_of (event.Closed period) = None

-- by the first event that credits the CDR that is named
unfoldable pub credited_already : List Event → Cdr → Option HouseCause
credited_already events credit = do
  id ← credit.credit
  found ← first_that (takes_back credit.operator id) events
  earlier ← cdr_of found.event
  Some (record { place = Some reference_place; reason = reason.CreditedAlready id earlier.id; event = Some found.at })

abbrev pub too_late : ℕ → ℕ → HouseCause
too_late original current = cause_at reference_place (reason.BeforeWindow original current)

-- ---- what the original asks for

abbrev pub difference_cause : Cdr → Booked → CreditDifference → HouseCause
difference_cause credit original Provider =
    cause_at (inside name.Cdr name.CdrToken) (reason.OtherProvider credit.cdr_token.provider original.cdr.cdr_token.provider)
difference_cause credit original Currency =
    cause_at (inside name.Cdr name.Currency) (reason.OtherCurrency credit.currency original.cdr.currency)
difference_cause credit original AboveZero = cause_at declared_cost (reason.AboveZero credit.total_cost)
difference_cause credit original Cost =
    cause_at declared_cost (reason.FarFromNegated credit.total_cost (neg_ℤ original.amount))

-- the first difference, by the event that books the original
unfoldable pub credit_differs : Config → List Event → Cdr → Option HouseCause
credit_differs config events credit = do
  id ← credit.credit
  original ← booked_as credit.operator id (book_entries events)
  difference ← credit_difference config credit original
  Some (record (difference_cause credit original difference) { event = position (books credit.operator id) events })
