-- The house before any step.
use Rattle.std.specs.Prelude.{false, List, [], None, map}
use Rattle.ocpi_types.specs.declared.config.Config.{Config}
use Rattle.cdr_checks.specs.declared.request.Command.{Command}
use Rattle.period_order.specs.Kept.{account_number, book_number}
use Rattle.house_core.specs.declared.running_call.RunningCall.{RunningCall}
use Rattle.house_core.specs.declared.stage.Stage.TheVariants as stage
use Rattle.house_core.specs.World.{PlainWorld}

-- a call that has not begun
abbrev pub call_of : Config → Command → RunningCall
call_of config command = record {
  book = book_number config command;
  account = account_number config command;
  has_book = false;
  has_account = false;
  begin = 0;
  stage = stage.Waiting command;
}

-- an empty book for each operator and an empty account for each provider, no events, and no call has begun
abbrev pub start : Config → List Command → PlainWorld
start config commands = record {
  config = config;
  books = map (λ operator. record { holder = None; entries = [] }) config.operators;
  accounts = map (λ provider. record { holder = None; entries = [] }) config.providers;
  order = [];
  calls = map (call_of config) commands;
}
