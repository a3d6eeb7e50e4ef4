-- The cause of a refusal says that refusal.
use Rattle.std.proofs.Common.{◌≡◌, ℕ, List, Bool, true, false, if◌then◌else◌, Option, Some, None, refl, subst, option_map}
use Rattle.std.specs.Prelude.{nat_lt, slice_get, position, not}
use Rattle.std.specs.List.{list_any}
use Rattle.ocpi_json.specs.declared.name.Name.{Name}
use Rattle.ocpi_types.specs.declared.cdr.Cdr.{Cdr}
use Rattle.ocpi_types.specs.declared.config.Config.{Config}
use Rattle.ocpi_types.specs.declared.refusal.Refusal.{Refusal}
use Rattle.ocpi_types.specs.declared.refusal.Refusal.TheVariants as refusal
use Rattle.ocpi_types.specs.declared.tariff.Tariff.{Tariff}
use Rattle.ocpi_types.specs.ContentDifference.{difference_of_cdrs}
use Rattle.ocpi_types.specs.Party.{same_party}
use Rattle.cdr_checks.specs.declared.request.Command.{Command}
use Rattle.cdr_checks.specs.declared.request.Command.TheVariants as command
use Rattle.cdr_checks.specs.declared.request.Authorize.{Authorize}
use Rattle.cdr_checks.specs.declared.request.Release.{Release}
use Rattle.plain_house.specs.Booked.{Booked, booked_as}
use Rattle.plain_house.specs.Entries.{book_entries}
use Rattle.plain_house.specs.Happened.{ends, gives, puts, registers, takes_back}
use Rattle.plain_house.specs.Posting.{credit_difference}
use Rattle.plain_house.specs.declared.event.Event.{Event}
use Rattle.plain_house.specs.declared.event.Event.TheVariants as event
use Rattle.plain_house.specs.declared.event.Hold.{Hold}
use Rattle.plain_house.specs.declared.posting.CreditDifference.{CreditDifference}
use Rattle.plain_house.specs.declared.posting.CreditDifference.TheVariants.{Provider, Currency, AboveZero, Cost}
use Rattle.house_causes.specs.First.{◌>>=◌, Numbered, first_after, first_that}
use Rattle.house_causes.specs.Bookings.{booking_conflict}
use Rattle.house_causes.specs.Causes.{authorize_in, cdr_in, conflict, find_in, period_in, refused, release_in, settlement_in}
use Rattle.house_causes.specs.Credits.{cdr_of, credit_differs, credited_already, difference_cause, of_credit}
use Rattle.house_causes.specs.Holds.{by_event, ended, hold_of, unknown_hold, why_ended, why_no_hold}
use Rattle.house_causes.specs.HouseCause.{cause_at, refusal_by}
use Rattle.house_causes.specs.Laws.{CausesSayTheirRefusals}
use Rattle.house_causes.specs.Periods.{not_current}
use Rattle.house_causes.specs.Tokens.{token_of, unknown_token, why_unknown}
use Rattle.house_causes.specs.Versions.{not_registered, not_stored, stored_difference, tariff_at, version_conflict, why_unregistered}
use Rattle.house_causes.specs.declared.house_cause.HouseCause.{HouseCause}
use Rattle.house_causes.specs.declared.house_cause.HouseReason.TheVariants as reason

-- the cause, if there is one, says the refusal
abbrev Says : Refusal → Option HouseCause → Type 0
Says refusal None = Unit {0}
Says refusal (Some cause) = refusal_by cause.reason ≡ Some refusal

-- ---- in general

says_then : {A : Type 0} (refusal : Refusal) (o : Option A) (f : A → Option HouseCause) → ((x : A) → Says refusal (f x)) → Says refusal (o >>= f)
says_then refusal None f each = tt
says_then refusal (Some x) f each = each x

says_of : {A : Type 0} (refusal : Refusal) (o : Option A) (f : A → HouseCause) → ((x : A) → refusal_by (f x).reason ≡ Some refusal)
    → Says refusal (option_map f o)
says_of refusal None f each = tt
says_of refusal (Some x) f each = each x

says_either : (refusal : Refusal) (b : Bool) (one other : HouseCause) → refusal_by one.reason ≡ Some refusal → refusal_by other.reason ≡ Some refusal
    → refusal_by (if b then one else other).reason ≡ Some refusal
says_either refusal true one other h k = h
says_either refusal false one other h k = k

-- ---- tariffs

conflict_of_versions : (events : List Event) (tariff : Tariff) → Says refusal.Conflict (version_conflict events tariff)
unfolding version_conflict
conflict_of_versions events tariff = says_then refusal.Conflict (stored_difference events tariff) _ (λ found. refl)

unregistered : (events : List Event) (cdr : Cdr) (number : ℕ) (tariff : Tariff) → refusal_by (why_unregistered events cdr number tariff).reason ≡ Some refusal.TariffNotRegistered
unregistered events cdr number tariff =
    says_either refusal.TariffNotRegistered (same_party tariff.operator cdr.operator)
    (not_stored number tariff (stored_difference events tariff)) (cause_at (tariff_at number) (reason.OfAnotherOperator tariff.operator cdr.operator))
    (stored (stored_difference events tariff)) refl
  where
    stored : (difference : Option (Name × ℕ)) → refusal_by (not_stored number tariff difference).reason ≡ Some refusal.TariffNotRegistered
    stored None = refl
    stored (Some found) = refl

unregistered_tariff : (events : List Event) (cdr : Cdr) → Says refusal.TariffNotRegistered (not_registered events cdr)
unfolding not_registered
unregistered_tariff events cdr =
    says_then refusal.TariffNotRegistered (position (λ tariff. not (list_any (registers cdr.operator tariff) events)) cdr.tariffs) _
    (λ number. says_then refusal.TariffNotRegistered (slice_get cdr.tariffs number) _ (λ tariff. unregistered events cdr number tariff))

-- ---- tokens and holds

unknown_tokens : (events : List Event) (ask : Authorize) → Says refusal.UnknownToken (unknown_token events ask)
unfolding unknown_token
unknown_tokens events ask = by (first_that (puts ask) events)
  where
    by : (found : Option Numbered) → Says refusal.UnknownToken (why_unknown ask found)
    by None = refl
    by (Some put) = says_then refusal.UnknownToken (token_of put.event) _ (λ token. refl)

ended_holds : (events : List Event) (release : Release) (number : ℕ) (hold : Hold) → Says refusal.UnknownHold (ended events release number hold)
ended_holds events release number hold =
    says_then refusal.UnknownHold (first_after number (ends hold) events) _ (λ found. by found.at found.event)
  where
    by : (at : ℕ) (e : Event) → Says refusal.UnknownHold (why_ended release.reference e >>= λ why. Some (by_event why at))
    by at (event.Tariff tariff) = tt
    by at (event.Token token) = tt
    by at (event.Authorised another) = tt
    by at (event.Released other) = refl
    by at (event.Cdr cdr cost) = refl
    by at (event.Credit cdr amount) = tt
    by at (event.Settled settlement) = tt
    by at (event.Closed period) = tt

unknown_holds : (events : List Event) (release : Release) → Says refusal.UnknownHold (unknown_hold events release)
unfolding unknown_hold
unknown_holds events release = by (first_that (gives release) events)
  where
    not_open : (same : Bool) (at : ℕ) (hold : Hold)
        → Says refusal.UnknownHold (if same then ended events release at hold else Some (by_event (reason.GivenToAnother release.reference hold.operator) at))
    not_open true at hold = ended_holds events release at hold
    not_open false at hold = refl

    by : (found : Option Numbered) → Says refusal.UnknownHold (why_no_hold events release found)
    by None = refl
    by (Some given) = says_then refusal.UnknownHold (hold_of given.event) _ (λ hold. not_open (same_party hold.operator release.operator) given.at hold)

-- ---- CDRs and Credit CDRs

conflict_of_cdrs : (events : List Event) (cdr : Cdr) → Says refusal.Conflict (booking_conflict events cdr)
unfolding booking_conflict
conflict_of_cdrs events cdr =
    says_then refusal.Conflict (booked_as cdr.operator cdr.id (book_entries events)) _
    (λ found. says_then refusal.Conflict (difference_of_cdrs found.cdr cdr) _ (λ differing. refl))

conflicts : (events : List Event) (asked : Command) → Says refusal.Conflict (conflict events asked)
conflicts events (command.PutTariff tariff) = conflict_of_versions events tariff
conflicts events (command.PutToken token) = tt
conflicts events (command.Authorize ask) = tt
conflicts events (command.Release release) = tt
conflicts events (command.Post checked) = conflict_of_cdrs events checked.cdr
conflicts events (command.Close close) = tt
conflicts events (command.Settle settlement) = tt
conflicts events (command.Exposure ask) = tt
conflicts events (command.Find find) = tt
conflicts events (command.Statement ask) = tt

of_credits : (events : List Event) (credit : Cdr) → Says refusal.CreditOfCredit (of_credit events credit)
of_credits events credit = says_then refusal.CreditOfCredit credit.credit _ (λ id. refl)

credited : (events : List Event) (credit : Cdr) → Says refusal.AlreadyCredited (credited_already events credit)
unfolding credited_already
credited events credit =
    says_then refusal.AlreadyCredited credit.credit _
    (λ id. says_then refusal.AlreadyCredited (first_that (takes_back credit.operator id) events) _
    (λ found. says_then refusal.AlreadyCredited (cdr_of found.event) _ (λ earlier. refl)))

differs : (credit : Cdr) (original : Booked) (difference : CreditDifference) → refusal_by (difference_cause credit original difference).reason ≡ Some refusal.CreditDiffers
differs credit original Provider = refl
differs credit original Currency = refl
differs credit original AboveZero = refl
differs credit original Cost = refl

credit_differences : (config : Config) (events : List Event) (credit : Cdr) → Says refusal.CreditDiffers (credit_differs config events credit)
unfolding credit_differs
credit_differences config events credit =
    says_then refusal.CreditDiffers credit.credit _
    (λ id. says_then refusal.CreditDiffers (booked_as credit.operator id (book_entries events)) _
    (λ original. says_then refusal.CreditDiffers (credit_difference config credit original) _ (λ difference. differs credit original difference)))

-- ---- periods

not_the_current : (period current : ℕ) → refusal_by (not_current period current).reason ≡ Some (refusal.NotCurrent current)
not_the_current period current = by (nat_lt period current)
  where
    by : (b : Bool) → refusal_by (if b then reason.ClosedAlready period current else reason.NotCurrentYet period current) ≡ Some (refusal.NotCurrent current)
    by true = refl
    by false = refl

-- ---- all refusals

said : (config : Config) (events : List Event) (asked : Command) (refused_so : Refusal) → Says refused_so (refused config events asked refused_so)
said config events asked refusal.Syntax = tt
said config events asked (refusal.Field called) = tt
said config events asked refusal.UnknownParty = tt
said config events asked refusal.NotYours = tt
said config events asked refusal.WrongCurrency = tt
said config events asked refusal.BadDates = tt
said config events asked refusal.TariffNotGiven = tt
said config events asked refusal.UnsupportedRestriction = tt
said config events asked refusal.Reservation = tt
said config events asked refusal.EnergyMismatch = tt
said config events asked refusal.AmountTooLarge = tt
said config events asked (refusal.CostMismatch rated) = tt
said config events asked refusal.Conflict = conflicts events asked
said config events asked refusal.TariffNotRegistered =
    says_then refusal.TariffNotRegistered (cdr_in asked) _ (λ cdr. unregistered_tariff events cdr)
said config events asked refusal.UnknownToken = says_then refusal.UnknownToken (authorize_in asked) _ (λ ask. unknown_tokens events ask)
said config events asked refusal.UnknownHold = says_then refusal.UnknownHold (release_in asked) _ (λ release. unknown_holds events release)
said config events asked refusal.UnknownOriginal =
    says_then refusal.UnknownOriginal (cdr_in asked) _ (λ credit. says_of refusal.UnknownOriginal credit.credit _ (λ id. refl))
said config events asked refusal.CreditOfCredit = says_then refusal.CreditOfCredit (cdr_in asked) _ (λ credit. of_credits events credit)
said config events asked refusal.AlreadyCredited = says_then refusal.AlreadyCredited (cdr_in asked) _ (λ credit. credited events credit)
said config events asked refusal.CreditDiffers =
    says_then refusal.CreditDiffers (cdr_in asked) _ (λ credit. credit_differences config events credit)
said config events asked (refusal.NotCurrent current) =
    says_of (refusal.NotCurrent current) (period_in asked) _ (λ period. not_the_current period current)
said config events asked refusal.PeriodOpen = says_of refusal.PeriodOpen (period_in asked) _ (λ period. refl)
said config events asked refusal.AlreadySettled = says_of refusal.AlreadySettled (settlement_in asked) _ (λ settlement. refl)
said config events asked refusal.UnknownCdr = says_of refusal.UnknownCdr (find_in asked) _ (λ find. refl)
said config events asked (refusal.Full what) = refl
said config events asked (refusal.OverLimit exposure limit pair) = refl
said config events asked (refusal.TooLate original current) = refl
said config events asked refusal.NoMemory = tt

pub causes_say : CausesSayTheirRefusals
causes_say config events asked refused_so cause h = subst (Says refused_so) h (said config events asked refused_so)
