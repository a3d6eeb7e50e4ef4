-- What holds between two steps.
use Rattle.std.specs.Prelude.{◌≡◌, ◌≤◌, ℕ, false, List, length, map, Some, None, option_map, slice_get}
use Rattle.ocpi_types.specs.declared.config.Config.{Config}
use Rattle.cdr_checks.specs.declared.request.Command.{Command}
use Rattle.cdr_checks.specs.Admission.{IsAdmitted}
use Rattle.cdr_checks.specs.Parties.{operator_of_command, provider_of_command}
use Rattle.plain_house.specs.declared.event.Event.{Event}
use Rattle.plain_house.specs.Replies.{stamped}
use Rattle.period_order.specs.Kept.{Keeps}
use Rattle.period_order.specs.Places.{operator_number, provider_number}
use Rattle.house_core.specs.declared.running_call.RunningCall.{RunningCall}
use Rattle.house_core.specs.declared.stage.Stage.{Stage}
use Rattle.house_core.specs.declared.stage.Stage.TheVariants as stage
use Rattle.house_core.specs.Calls.{held_account, held_book}
use Rattle.house_core.specs.Events.{whole_account, whole_book}
use Rattle.house_core.specs.Holders.{Agree}
use Rattle.house_core.specs.Inner.Collecting.{IsNetting, IsStating}
use Rattle.house_core.specs.OneHouse.{IsAnswered}
use Rattle.house_core.specs.World.{PlainWorld}

-- ---- calls

-- what is known of a call at its stage, at the events so far
abbrev pub IsAt : Config → List Event → Command → ℕ → Stage → Type 0
IsAt config events command begin (stage.Waiting own) = own ≡ command
IsAt config events command begin (stage.Begun own) = (own ≡ command) × (begin ≤ length events)
IsAt config events command begin (stage.Ordered carried) =
    IsAnswered config events command begin (length events) carried.point (stamped carried.point carried.reply)
IsAt config events command begin (stage.Netting netting) = IsNetting config events command begin netting
IsAt config events command begin (stage.Stating stating) = IsStating config events command begin stating
IsAt config events command begin stage.Ended = Unit {0}

-- it is the call of an admitted command, with that command's book and account
pub record IsRunningCall (config : Config) (events : List Event) (command : Command) (call : RunningCall) : Type 0 where
  pub admitted : IsAdmitted config command
  pub book : call.book ≡ option_map (operator_number config) (operator_of_command command)
  pub account : call.account ≡ option_map (provider_number config) (provider_of_command command)
  pub bookless : call.book ≡ None → call.has_book ≡ false
  pub accountless : call.account ≡ None → call.has_account ≡ false
  pub at : IsAt config events command call.begin call.stage

-- with what calls still have to put, books, accounts and order are those of the events; and each call is where it is
pub record Holds (config : Config) (commands : List Command) (events : List Event) (world : PlainWorld) : Type 0 where
  pub config_is : world.config ≡ config
  pub kept : Keeps config (map (whole_book world.calls) world.books) (map (whole_account world.calls) world.accounts) world.order events
  pub books : Agree held_book world.books world.calls
  pub accounts : Agree held_account world.accounts world.calls
  pub calls : (number : ℕ) (call : RunningCall) → slice_get world.calls number ≡ Some call → (command : Command) × (slice_get commands number ≡ Some command) × IsRunningCall config events command call
