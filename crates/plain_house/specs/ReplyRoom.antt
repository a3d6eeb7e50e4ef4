-- How much room a reply takes.
use Rattle.std.specs.Prelude.{ℕ, ◌≤◌, List, Ok, Err}
use Rattle.ocpi_types.specs.declared.config.Config.{Config}
use Rattle.cdr_checks.specs.declared.request.Command.{Command}
use Rattle.plain_house.specs.declared.event.Event.{Event}
use Rattle.plain_house.specs.Entries.{book_entries}
use Rattle.plain_house.specs.House.{Does}
use Rattle.plain_house.specs.Laws.{most_rows, rows_in}
use Rattle.plain_house.specs.LegalLists.{CanBeNetted}
use Rattle.plain_house.specs.Replies.{Reply}

-- the reply has at most so many rows
abbrev pub FitsIn : ℕ → Reply → Type 0
FitsIn most (Ok replied) = rows_in replied.answer ≤ most
FitsIn most (Err refused) = Unit {0}

-- what a house replies fits where there is a row for each currency and party, if what its list obliges to can be netted
abbrev pub RepliesFit : Type 0
RepliesFit =
    (config : Config) (events : List Event) (command : Command) (reply : Reply) (now : List Event) (most : ℕ) → most_rows config ≤ most →
    CanBeNetted config (book_entries events) → Does config events command reply now → FitsIn most reply
