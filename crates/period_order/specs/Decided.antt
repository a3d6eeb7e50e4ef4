-- What a command comes to at its place in the order.
use Rattle.std.specs.Prelude.{◌≡◌, ◌≤◌, ◌^◌, ◌+◌, ℕ, Bool, true, false, List, [], ◌∷◌, ◌++◌, count_by, length, Option, Some, None, option_map, Result, Ok, Err}
use Rattle.ocpi_json.specs.Folded.{same_folded}
use Rattle.ocpi_types.specs.declared.config.Config.{Config}
use Rattle.ocpi_types.specs.declared.refusal.Refusal.{Refusal}
use Rattle.cdr_checks.specs.declared.request.Command.{Command}
use Rattle.cdr_checks.specs.declared.request.Command.TheVariants as command
use Rattle.cdr_checks.specs.declared.request.StatementOf.{StatementOf}
use Rattle.netting_positions.specs.Statement.{statement_rows}
use Rattle.operator_book.specs.State.{PlainBook}
use Rattle.provider_account.specs.State.{PlainAccount}
use Rattle.plain_house.specs.declared.answer.Answer.{Answer}
use Rattle.plain_house.specs.declared.answer.Answer.TheVariants as answer
use Rattle.plain_house.specs.declared.entry.AccountEntry.{AccountEntry}
use Rattle.plain_house.specs.declared.entry.AccountEntry.TheVariants as account
use Rattle.plain_house.specs.declared.entry.BookEntry.{BookEntry}
use Rattle.plain_house.specs.declared.event.Event.{Event}
use Rattle.plain_house.specs.declared.event.Event.TheVariants as event
use Rattle.plain_house.specs.Entries.{charge_of}
use Rattle.plain_house.specs.Exposure.{exposure_of, of_provider}
use Rattle.plain_house.specs.House.{is_hold_of, positions_in, reference_text, verdict}
use Rattle.plain_house.specs.Known.{Known}
use Rattle.plain_house.specs.Obligations.{obligations}
use Rattle.plain_house.specs.Tariffs.{stored_version}
use Rattle.plain_house.specs.Verdict.{Verdict, accepts, replies}
use Rattle.period_order.specs.declared.decided.Outcome.{Outcome}
use Rattle.period_order.specs.declared.decided.Outcome.TheVariants as outcome
use Rattle.period_order.specs.declared.order_entry.OrderEntry.{OrderEntry}
use Rattle.period_order.specs.Order.{PlainOrder, current_of, point_of}
use Rattle.period_order.specs.Places.{order_entry}

-- ---- what is known at the order

abbrev pub seen : List BookEntry → List AccountEntry → PlainOrder → Known
seen book account order = record { book = book; account = account; point = point_of order; period = current_of order }

-- these are the book's entries; where no book is given, they may be any
abbrev pub AreOfBook : Option PlainBook → List BookEntry → Type 0
AreOfBook None entries = Unit {0}
AreOfBook (Some book) entries = entries ≡ book.entries

-- the same of an account
abbrev pub AreOfAccount : Option PlainAccount → List AccountEntry → Type 0
AreOfAccount None entries = Unit {0}
AreOfAccount (Some account) entries = entries ≡ account.entries

-- ---- outcomes

-- nothing is left to be collected
abbrev pub replied_by : Verdict → Outcome
replied_by verdict = outcome.Replied verdict.reply verdict.event

-- net positions are left to be collected, where the period is closed
abbrev pub closed_by : ℕ → Result Answer Refusal → Outcome
closed_by period (Ok answer) = outcome.Closed period
closed_by period (Err refusal) = outcome.Replied (Err refusal) None

-- rows are left to be collected, where the statement is given
abbrev pub stated_by : StatementOf → Result Answer Refusal → Outcome
stated_by ask (Ok answer) = outcome.Stated ask
stated_by ask (Err refusal) = outcome.Replied (Err refusal) None

-- what a command comes to, by its verdict
abbrev pub outcome_of : Command → Verdict → Outcome
outcome_of (command.PutTariff tariff) verdict = replied_by verdict
outcome_of (command.PutToken token) verdict = replied_by verdict
outcome_of (command.Authorize ask) verdict = replied_by verdict
outcome_of (command.Release release) verdict = replied_by verdict
outcome_of (command.Post checked) verdict = replied_by verdict
outcome_of (command.Close close) verdict = closed_by close.period verdict.reply
outcome_of (command.Settle settlement) verdict = replied_by verdict
outcome_of (command.Exposure ask) verdict = replied_by verdict
outcome_of (command.Find find) verdict = replied_by verdict
outcome_of (command.Statement ask) verdict = stated_by ask verdict.reply

-- the verdict, once what is to be collected from books of these entries has been
abbrev pub verdict_with : Config → List BookEntry → Outcome → Verdict
verdict_with config entries (outcome.Replied reply event) = record { reply = reply; event = event }
verdict_with config entries (outcome.Closed period) =
    accepts (answer.Closed period (positions_in config entries period)) (event.Closed period)
verdict_with config entries (outcome.Stated ask) =
    replies (Ok (answer.Statement (statement_rows ask.party (obligations ask.period entries))))

abbrev pub event_of : Outcome → Option Event
event_of (outcome.Replied reply event) = event
event_of (outcome.Closed period) = Some (event.Closed period)
event_of (outcome.Stated ask) = None

-- the order with what it keeps of the event, if there is one
abbrev pub with_entry : PlainOrder → Option OrderEntry → PlainOrder
with_entry order None = order
with_entry order (Some entry) = record { entries = order.entries ++ entry ∷ []; has_room = false }

-- how many entries the book has, and the account
abbrev pub book_length : Option PlainBook → ℕ
book_length None = 0
book_length (Some book) = length book.entries

abbrev pub account_length : Option PlainAccount → ℕ
account_length None = 0
account_length (Some account) = length account.entries

-- ---- what can be put

-- a book with these entries takes the event's: no tariff version is stored twice
abbrev pub BookTakes : List BookEntry → Event → Type 0
BookTakes entries (event.Tariff tariff) = stored_version tariff entries ≡ None
BookTakes entries (event.Token token) = Unit {0}
BookTakes entries (event.Authorised hold) = Unit {0}
BookTakes entries (event.Released release) = Unit {0}
BookTakes entries (event.Cdr cdr cost) = Unit {0}
BookTakes entries (event.Credit cdr amount) = Unit {0}
BookTakes entries (event.Settled settlement) = Unit {0}
BookTakes entries (event.Closed period) = Unit {0}

-- an account with these entries takes the event's, in a period: a hold has the provider's next number, and no exposure passes
-- what a credit limit can be
abbrev pub AccountTakes : List AccountEntry → ℕ → Event → Type 0
AccountTakes entries period (event.Tariff tariff) = Unit {0}
AccountTakes entries period (event.Token token) = Unit {0}
AccountTakes entries period (event.Authorised hold) =
    (same_folded hold.reference (reference_text hold.provider (count_by (is_hold_of hold.provider) entries + 1)) ≡ true)
    × (exposure_of (of_provider hold.provider hold.currency) entries + hold.amount ≤ 10 ^ 15)
AccountTakes entries period (event.Released release) = Unit {0}
AccountTakes entries period (event.Cdr cdr cost) =
    exposure_of (of_provider cdr.cdr_token.provider cdr.currency) (entries ++ account.Charge (charge_of cdr cost period) ∷ []) ≤ 10 ^ 15
AccountTakes entries period (event.Credit cdr amount) = Unit {0}
AccountTakes entries period (event.Settled settlement) = Unit {0}
AccountTakes entries period (event.Closed closed) = Unit {0}

abbrev pub BookTakesAny : Option PlainBook → Option Event → Type 0
BookTakesAny None event = Unit {0}
BookTakesAny (Some book) None = Unit {0}
BookTakesAny (Some book) (Some event) = BookTakes book.entries event

abbrev pub AccountTakesAny : Option PlainAccount → ℕ → Option Event → Type 0
AccountTakesAny None period event = Unit {0}
AccountTakesAny (Some account) period None = Unit {0}
AccountTakesAny (Some account) period (Some event) = AccountTakes account.entries period event

-- ---- the decision

abbrev pub is_close_command : Command → Bool
is_close_command (command.PutTariff tariff) = false
is_close_command (command.PutToken token) = false
is_close_command (command.Authorize ask) = false
is_close_command (command.Release release) = false
is_close_command (command.Post checked) = false
is_close_command (command.Close close) = true
is_close_command (command.Settle settlement) = false
is_close_command (command.Exposure ask) = false
is_close_command (command.Find find) = false
is_close_command (command.Statement ask) = false

abbrev pub is_statement_command : Command → Bool
is_statement_command (command.PutTariff tariff) = false
is_statement_command (command.PutToken token) = false
is_statement_command (command.Authorize ask) = false
is_statement_command (command.Release release) = false
is_statement_command (command.Post checked) = false
is_statement_command (command.Close close) = false
is_statement_command (command.Settle settlement) = false
is_statement_command (command.Exposure ask) = false
is_statement_command (command.Find find) = false
is_statement_command (command.Statement ask) = true

-- books are collected for a close or a statement alone
abbrev pub Collects : Command → Outcome → Type 0
Collects command (outcome.Replied reply event) = Unit {0}
Collects command (outcome.Closed period) = is_close_command command ≡ true
Collects command (outcome.Stated ask) = is_statement_command command ≡ true

-- with what is collected from books of these entries, what a command comes to is its verdict
abbrev pub OutcomesAreVerdicts : Type 0
OutcomesAreVerdicts =
    (config : Config) (known : Known) (command : Command) →
    verdict_with config known.book (outcome_of command (verdict config known command)) ≡ verdict config known command

-- the outcome is that of the verdict, and the book and the account take its event
pub record Decides (config : Config) (book : Option PlainBook) (account : Option PlainAccount) (order : PlainOrder) (command : Command) (outcome : Outcome) : Type 0 where
  pub outcome_is : (entries : List BookEntry) (others : List AccountEntry) → AreOfBook book entries → AreOfAccount account others → outcome ≡ outcome_of command (verdict config (seen entries others order) command)
  pub collects : Collects command outcome
  pub in_book : BookTakesAny book (event_of outcome)
  pub in_account : AccountTakesAny account (current_of order) (event_of outcome)

-- the order with the event's entry
abbrev pub order_with : Config → Option PlainBook → Option PlainAccount → PlainOrder → Outcome → PlainOrder
order_with config book account order outcome =
    with_entry order (option_map (order_entry config (book_length book) (account_length account)) (event_of outcome))
