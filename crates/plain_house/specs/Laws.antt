-- What follows from the definitions of verdicts.
use Rattle.std.specs.Prelude.{◌≡◌, ◌≤◌, ◌*◌, ℕ, Bool, true, false, is_some, length, Result, Ok, Err}
use Rattle.ocpi_types.specs.declared.config.Config.{Config}
use Rattle.ocpi_types.specs.declared.refusal.Refusal.{Refusal}
use Rattle.cdr_checks.specs.declared.request.Command.{Command}
use Rattle.netting_positions.specs.Netting.{parties}
use Rattle.plain_house.specs.declared.answer.Answer.{Answer}
use Rattle.plain_house.specs.declared.answer.Answer.TheVariants as answer
use Rattle.plain_house.specs.House.{verdict}
use Rattle.plain_house.specs.Known.{Known}
use Rattle.plain_house.specs.LegalLists.{CanBeNetted}
use Rattle.plain_house.specs.Replies.{IsTold, Reply}

-- no verdict is want of memory
abbrev pub VerdictsAreTold : Type 0
VerdictsAreTold = (config : Config) (known : Known) (command : Command) → IsTold (verdict config known command).reply

-- what is answered where an event is added
abbrev pub is_of_event : Answer → Bool
is_of_event answer.Stored = true
is_of_event answer.Unchanged = false
is_of_event (answer.Allowed reference) = true
is_of_event answer.Blocked = false
is_of_event (answer.NoCredit over) = false
is_of_event (answer.Released amount) = true
is_of_event (answer.Accepted amount period) = true
is_of_event (answer.Repeated amount period) = false
is_of_event (answer.Closed period positions) = true
is_of_event (answer.Settled amount) = true
is_of_event (answer.Exposure holds debts limit) = false
is_of_event (answer.Found amount period credited) = false
is_of_event (answer.Statement rows) = false

-- the reply tells of an event, as its answer does; a refusal tells of none
abbrev pub adds_event : Reply → Bool
adds_event (Ok replied) = is_of_event replied.answer
adds_event (Err refused) = false

abbrev pub tells_event : Result Answer Refusal → Bool
tells_event (Ok told) = is_of_event told
tells_event (Err refusal) = false

-- a reply tells whether an event is added; where a command is refused, none is
abbrev pub RepliesTellEvents : Type 0
RepliesTellEvents =
    (config : Config) (known : Known) (command : Command) → is_some (verdict config known command).event ≡ tells_event (verdict config known command).reply

-- how many rows an answer has
abbrev pub rows_in : Answer → ℕ
rows_in answer.Stored = 0
rows_in answer.Unchanged = 0
rows_in (answer.Allowed reference) = 0
rows_in answer.Blocked = 0
rows_in (answer.NoCredit over) = 0
rows_in (answer.Released amount) = 0
rows_in (answer.Accepted amount period) = 0
rows_in (answer.Repeated amount period) = 0
rows_in (answer.Closed period positions) = length positions
rows_in (answer.Settled amount) = 0
rows_in (answer.Exposure holds debts limit) = 0
rows_in (answer.Found amount period credited) = 0
rows_in (answer.Statement rows) = length rows

abbrev pub rows_of : Result Answer Refusal → ℕ
rows_of (Ok told) = rows_in told
rows_of (Err refusal) = 0

-- one for each currency and party
abbrev pub most_rows : Config → ℕ
most_rows config = length config.currencies * length (parties config)

-- a reply has no more, where what the book obliges to can be netted
abbrev pub RepliesAreShort : Type 0
RepliesAreShort =
    (config : Config) (known : Known) (command : Command) → CanBeNetted config known.book →
    rows_of (verdict config known command).reply ≤ most_rows config
