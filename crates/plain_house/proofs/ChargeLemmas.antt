-- What holds of the CDRs and Credit CDRs that commands book.
use Rattle.std.proofs.Common.{◌≡◌, ℕ, ℤ, false, refl, subst, Option, Some, None, Ok}
use Rattle.ocpi_types.specs.declared.cdr.Cdr.{Cdr}
use Rattle.ocpi_types.specs.declared.config.Config.{Config}
use Rattle.cdr_checks.specs.Admission.{IsAdmitted}
use Rattle.cdr_checks.specs.declared.request.Command.{Command}
use Rattle.cdr_checks.specs.declared.request.Command.TheVariants as command
use Rattle.cdr_checks.specs.Checked.{Checked, IsCostOf}
use Rattle.cdr_checks.specs.Law.{PostsAreChecked}
use Rattle.plain_house.specs.declared.event.Event.{Event}
use Rattle.plain_house.specs.declared.event.Event.TheVariants as event
use Rattle.plain_house.specs.Booked.{booked_as}
use Rattle.plain_house.specs.Known.{Known, known}
use Rattle.plain_house.specs.Tariffs.{lacks_registered}
use Rattle.plain_house.specs.Legal.{IsGivenBy, IsLegal}
use Rattle.plain_house.specs.LegalLists.{IsCharged, IsTakenBack, LegalCdrsAreCharged, LegalCreditsAreTakenBack}
use Rattle.plain_house.specs.Posting.{credited_amount}
use Rattle.plain_house.proofs.BookingLemmas.{taken_from}
use Rattle.plain_house.proofs.EventLemmas.{Gives, GivesPost, event_has}

module _ (config : Config) (known : Known) where
  -- what is so of an event that is booked
  abbrev pub IsRight : Event → Type 0
  IsRight (event.Tariff tariff) = Unit {0}
  IsRight (event.Token token) = Unit {0}
  IsRight (event.Authorised hold) = Unit {0}
  IsRight (event.Released release) = Unit {0}
  IsRight (event.Cdr cdr cost) = IsCharged config known.book cdr cost
  IsRight (event.Credit cdr amount) = IsTakenBack config known.book known.period cdr amount
  IsRight (event.Settled settlement) = Unit {0}
  IsRight (event.Closed period) = Unit {0}

  charged : PostsAreChecked → (checked : Checked) (cost : ℕ) → IsAdmitted config (command.Post checked) → checked.cost ≡ Some cost
      → booked_as checked.cdr.operator checked.cdr.id known.book ≡ None → lacks_registered checked.cdr known.book ≡ false → IsCharged config known.book checked.cdr cost
  charged law checked cost admitted is unknown registered =
      let has = law config checked admitted in
      let is_cost : IsCostOf (Some cost) checked.cdr checked.zone = subst (λ (o : Option ℕ). IsCostOf o checked.cdr checked.zone) is has.at_cost in
      record {
        operator = has.operator;
        configured = has.has_operator;
        priced = subst (λ zone. IsCostOf (Some cost) checked.cdr zone) has.in_zone is_cost;
        registered = registered;
        unknown = unknown;
      }

  taken_back_by : (cdr : Cdr) (amount : ℤ) → booked_as cdr.operator cdr.id known.book ≡ None → credited_amount config known.period cdr known.book ≡ Ok amount
      → IsTakenBack config known.book known.period cdr amount
  taken_back_by cdr amount unknown taken =
      let found = taken_from config known.period cdr known.book amount taken in
      record {
        original = found.0;
        named = found.1;
        negated = found.2.negated;
        no_credit = found.2.no_credit;
        once = found.2.once;
        in_window = found.2.in_window;
        same = found.2.same;
        unknown = unknown;
      }

  given : PostsAreChecked → (told : Command) → IsAdmitted config told → Gives config known IsRight told
  given law (command.PutTariff tariff) admitted = λ room. tt
  given law (command.PutToken token) admitted = λ room. tt
  given law (command.Authorize ask) admitted = λ room covered. tt
  given law (command.Release release) admitted = λ room. tt
  given law (command.Post checked) admitted = by checked.cost refl
    where
      by : (cost : Option ℕ) → checked.cost ≡ cost → GivesPost config known IsRight checked.cdr cost
      by None is = λ amount unknown taken room account. taken_back_by checked.cdr amount unknown taken
      by (Some cost) is = λ unknown registered room account within. charged law checked cost admitted is unknown registered
  given law (command.Close close) admitted = λ current. tt
  given law (command.Settle settlement) admitted = λ room. tt
  given law (command.Exposure ask) admitted = tt
  given law (command.Find find) admitted = tt
  given law (command.Statement ask) admitted = tt

  pub is_right : PostsAreChecked → (e : Event) → IsGivenBy config known e → IsRight e
  is_right law e added = event_has config known IsRight e added.0 (given law added.0 added.1) added.2

pub cdrs_are_charged : PostsAreChecked → LegalCdrsAreCharged
unfolding IsLegal
cdrs_are_charged law config before later cdr cost legal =
    is_right config (known before) law (event.Cdr cdr cost) (legal before (event.Cdr cdr cost) later refl)

pub credits_are_taken_back : PostsAreChecked → LegalCreditsAreTakenBack
unfolding IsLegal
credits_are_taken_back law config before later credit amount legal =
    is_right config (known before) law (event.Credit credit amount) (legal before (event.Credit credit amount) later refl)
