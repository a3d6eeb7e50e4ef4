-- What an authorisation that asks for a hold results in.
use Rattle.std.specs.Prelude.{◌≡◌, ◌≢◌, ℕ, ◌==◌, Bool, true, false, List, Some, Result, Ok, Err}
use Rattle.ocpi_types.specs.declared.config.Config.{Config}
use Rattle.ocpi_types.specs.declared.refusal.Refusal.{Refusal}
use Rattle.ocpi_types.specs.declared.refusal.Refusal.TheVariants as refusal
use Rattle.ocpi_types.specs.declared.token.TokenKind.{TokenKind}
use Rattle.ocpi_types.specs.Refusal.{refusal_number}
use Rattle.cdr_checks.specs.declared.request.Command.{Command}
use Rattle.plain_house.specs.declared.answer.Answer.{Answer}
use Rattle.plain_house.specs.declared.answer.Answer.TheVariants as answer
use Rattle.plain_house.specs.declared.event.Event.{Event}
use Rattle.plain_house.specs.declared.event.Event.TheVariants as event
use Rattle.plain_house.specs.declared.event.Hold.{Hold}
use Rattle.plain_house.specs.Entries.{account_entries}
use Rattle.plain_house.specs.House.{events_after, verdict}
use Rattle.plain_house.specs.Known.{known}
use Rattle.plain_house.specs.Replies.{Reply}
use Rattle.plain_house.specs.Tokens.{validity}
use Rattle.event_commands.specs.AskedAgain.{IsHeldAgain}
use Rattle.new_configuration.specs.Inner.Added.{IsAdded}
use Rattle.new_configuration.specs.declared.holds.Attempt.{Attempt}
use Rattle.new_configuration.specs.declared.holds.Attempt.TheVariants as attempt

-- ---- replies

abbrev pub is_blocked : Answer → Bool
is_blocked answer.Stored = false
is_blocked answer.Unchanged = false
is_blocked (answer.Allowed reference) = false
is_blocked answer.Blocked = true
is_blocked (answer.NoCredit over) = false
is_blocked (answer.Released amount) = false
is_blocked (answer.Accepted amount period) = false
is_blocked (answer.Repeated amount period) = false
is_blocked (answer.Closed period positions) = false
is_blocked (answer.Settled amount) = false
is_blocked (answer.Exposure holds debts limit) = false
is_blocked (answer.Found amount period credited) = false
is_blocked (answer.Statement rows) = false

-- the token is unknown or not valid
abbrev pub is_of_invalid : Result Answer Refusal → Bool
is_of_invalid (Ok given) = is_blocked given
is_of_invalid (Err why) = refusal_number why == refusal_number refusal.UnknownToken

abbrev pub rejects_token : Reply → Bool
rejects_token (Ok replied) = is_of_invalid (Ok replied.answer)
rejects_token (Err refused) = is_of_invalid (Err refused.refusal)

-- ---- attempts

-- the command was to add the event
abbrev pub EndsIn : Config → List Event → Command → Event → List Event → Attempt → Type 0
EndsIn config events done event now attempt.Added =
    ((verdict config (known events) done).event ≡ Some event) × (now ≡ events_after config events done)
EndsIn config events done event now attempt.Otherwise =
    ((verdict config (known events) done).event ≢ Some event) × (is_of_invalid (verdict config (known events) done).reply ≡ false)
EndsIn config events done event now attempt.InvalidToken =
    (is_of_invalid (verdict config (known events) done).reply ≡ true) × (now ≡ events)

-- the authorisation of the token was to add the hold
abbrev pub TokenEndsIn : Config → List Event → Hold → List ℕ → TokenKind → List Event → Attempt → Type 0
TokenEndsIn config events hold uid kind now attempt.Added = IsAdded config events (event.Authorised hold) now
TokenEndsIn config events hold uid kind now attempt.Otherwise = IsHeldAgain config (known events) hold → ⊥
TokenEndsIn config events hold uid kind now attempt.InvalidToken =
    (validity hold.provider uid kind (account_entries events) ≢ Some true) × (now ≡ events)
