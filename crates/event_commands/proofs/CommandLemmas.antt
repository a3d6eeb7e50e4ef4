-- The command of an event.
use Rattle.std.proofs.Common.{ℕ, refl, Option, None, Some}
use Rattle.ocpi_types.specs.declared.config.Config.{Config}
use Rattle.cdr_checks.specs.declared.request.Command.{Command}
use Rattle.cdr_checks.specs.declared.request.Command.TheVariants as command
use Rattle.plain_house.specs.declared.event.Event.{Event}
use Rattle.plain_house.specs.Known.{Known}
use Rattle.plain_house.proofs.EventLemmas.{Gives, GivesPost, event_has}
use Rattle.event_commands.specs.EventCommands.{CommandsAreDetermined, IsCommandOf}

abbrev IsOf : Command → Event → Type 0
IsOf done e = IsCommandOf e done

adds_its : (config : Config) (known : Known) (done : Command) → Gives config known (IsOf done) done
adds_its config known (command.PutTariff tariff) = λ room. refl
adds_its config known (command.PutToken token) = λ room. refl
adds_its config known (command.Authorize asked) = λ room covered. record { ask = asked; is_it = refl; operator = refl; provider = refl; currency = refl }
adds_its config known (command.Release release) = λ room. refl
adds_its config known (command.Post checked) = by checked.cost
  where
    by : (cost : Option ℕ) → GivesPost config known (IsOf (command.Post checked)) checked.cdr cost
    by None = λ amount unknown taken room account. record { checked = checked; is_it = refl; cdr_is = refl }
    by (Some cost) = λ unknown registered room account within. record { checked = checked; is_it = refl; cdr_is = refl }
adds_its config known (command.Close close) = λ current. refl
adds_its config known (command.Settle settlement) = λ room. refl
adds_its config known (command.Exposure asked) = tt
adds_its config known (command.Find find) = tt
adds_its config known (command.Statement asked) = tt

pub of_event : CommandsAreDetermined
of_event config known done e h = event_has config known (IsOf done) e done (adds_its config known done) h
