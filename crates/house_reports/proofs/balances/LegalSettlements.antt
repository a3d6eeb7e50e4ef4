-- A settlement of a legal list is of a closed period, and the first of its provider, currency and period.
use Rattle.std.proofs.Common.{◌≡◌, ◌<◌, ℕ, pos, List, [], ◌∷◌, ◌++◌, Bool, true, false, if◌then◌else◌, refl, subst, nat_lt, Option, None, Some, Err}
use Rattle.std.proofs.lemmas.Bool.{ltb-true}
use Rattle.ocpi_types.specs.declared.config.Config.{Config}
use Rattle.ocpi_types.specs.declared.refusal.Refusal.TheVariants as refusal
use Rattle.cdr_checks.specs.declared.request.Command.{Command}
use Rattle.cdr_checks.specs.declared.request.Command.TheVariants as command
use Rattle.cdr_checks.specs.declared.request.Settlement.{Settlement}
use Rattle.plain_house.specs.declared.answer.Answer.TheVariants as answer
use Rattle.plain_house.specs.declared.event.Event.{Event}
use Rattle.plain_house.specs.declared.event.Event.TheVariants as event
use Rattle.plain_house.specs.House.{full_for, unless_open, unless_settled, verdict}
use Rattle.plain_house.specs.Known.{Known, known}
use Rattle.plain_house.specs.Legal.{IsGivenBy, IsLegal}
use Rattle.plain_house.specs.Settlements.{is_settled, settled_debt}
use Rattle.plain_house.specs.Verdict.{Case, accepts}
use Rattle.plain_house.proofs.EventLemmas.{GivesPost, event_has}
use Rattle.plain_house.proofs.VerdictLemmas.{unless_event}

-- so by what is known
pub record IsFirst (known : Known) (settlement : Settlement) : Type 0 where
  pub unsettled : is_settled settlement known.account ≡ false
  pub closed : settlement.period < known.period

abbrev IsRight : Known → Event → Type 0
IsRight known (event.Tariff tariff) = Unit {0}
IsRight known (event.Token token) = Unit {0}
IsRight known (event.Authorised hold) = Unit {0}
IsRight known (event.Released release) = Unit {0}
IsRight known (event.Cdr cdr cost) = Unit {0}
IsRight known (event.Credit cdr amount) = Unit {0}
IsRight known (event.Settled settlement) = IsFirst known settlement
IsRight known (event.Closed period) = Unit {0}

not_settled : (is : Bool) → unless_settled is ≡ None → is ≡ false
not_settled true h = absurd (cc)
not_settled false h = refl

abbrev open_case : Bool → Case
open_case is_closed = if is_closed then None else Some (Err refusal.PeriodOpen)

is_closed : (period current : ℕ) → unless_open period current ≡ None → period < current
is_closed period current h = by (nat_lt period current) refl h
  where
    by : (b : Bool) → nat_lt period current ≡ b → open_case b ≡ None → period < current
    by true less h = ltb-true period current less
    by false less h = absurd (cc)

module _ (config : Config) (known : Known) (e : Event) where
  right_settled : (settlement : Settlement) → (verdict config known (command.Settle settlement)).event ≡ Some e → IsRight known e
  right_settled settlement h =
      let found =
      unless_event
      (unless_open settlement.period known.period ∷ unless_settled (is_settled settlement known.account) ∷ full_for config known settlement.provider ∷ [])
      (accepts (answer.Settled (pos (settled_debt settlement known.account))) (event.Settled settlement)) e h in
      let same : event.Settled settlement ≡ e = cc (found.1) in
      subst (IsRight known) same
      (record {
        unsettled = not_settled (is_settled settlement known.account) found.0.1.0;
        closed = is_closed settlement.period known.period found.0.0;
      })

  right : (told : Command) → (verdict config known told).event ≡ Some e → IsRight known e
  right (command.PutTariff tariff) h = event_has config known (IsRight known) e (command.PutTariff tariff) (λ room. tt) h
  right (command.PutToken token) h = event_has config known (IsRight known) e (command.PutToken token) (λ room. tt) h
  right (command.Authorize ask) h = event_has config known (IsRight known) e (command.Authorize ask) (λ room covered. tt) h
  right (command.Release release) h = event_has config known (IsRight known) e (command.Release release) (λ room. tt) h
  right (command.Post checked) h = event_has config known (IsRight known) e (command.Post checked) (by checked.cost) h
    where
      by : (cost : Option ℕ) → GivesPost config known (IsRight known) checked.cdr cost
      by None = λ amount unknown taken room account. tt
      by (Some cost) = λ unknown registered room account within. tt
  right (command.Close close) h = event_has config known (IsRight known) e (command.Close close) (λ current. tt) h
  right (command.Settle settlement) h = right_settled settlement h
  right (command.Exposure ask) h = event_has config known (IsRight known) e (command.Exposure ask) tt h
  right (command.Find find) h = event_has config known (IsRight known) e (command.Find find) tt h
  right (command.Statement ask) h = event_has config known (IsRight known) e (command.Statement ask) tt h

pub is_first : (config : Config) (before later : List Event) (settlement : Settlement) → IsLegal config (before ++ event.Settled settlement ∷ later) → IsFirst (known before) settlement
unfolding IsLegal
is_first config before later settlement legal =
    let given : IsGivenBy config (known before) (event.Settled settlement) = legal before (event.Settled settlement) later refl in
    right config (known before) (event.Settled settlement) given.0 given.2
