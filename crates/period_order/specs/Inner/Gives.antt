-- The events that commands add, by the entries of their account.
use Rattle.std.specs.Prelude.{◌≡◌, ℕ, false, List, Option, Some, None, slice_get}
use Rattle.ocpi_types.specs.declared.config.Config.{Config}
use Rattle.ocpi_types.specs.declared.token.TokenKind.TheVariants as kind
use Rattle.cdr_checks.specs.declared.request.Authorize.{Authorize}
use Rattle.plain_house.specs.declared.entry.AccountEntry.{AccountEntry}
use Rattle.plain_house.specs.declared.event.Event.{Event}
use Rattle.plain_house.specs.declared.event.Event.TheVariants as event
use Rattle.plain_house.specs.declared.event.Hold.{Hold}
use Rattle.plain_house.specs.Entries.{charge_of}
use Rattle.plain_house.specs.House.{hold_for, over_credit}
use Rattle.plain_house.specs.Posting.{over_limit}
use Rattle.provider_account.specs.State.{PlainAccount}

-- an authorisation that the hold could be of; its token does not count
abbrev pub ask_of : Hold → Authorize
ask_of hold = record {
  operator = hold.operator;
  provider = hold.provider;
  uid = hold.reference;
  kind = kind.Other;
  currency = hold.currency;
}

-- an account with these entries gives the event, in a period: a hold is that of an authorisation for which there is credit, and
-- a CDR passes no limit
abbrev pub AccountGives : Config → List AccountEntry → ℕ → Event → Type 0
AccountGives config entries period (event.Tariff tariff) = Unit {0}
AccountGives config entries period (event.Token token) = Unit {0}
AccountGives config entries period (event.Authorised hold) =
    (over_credit config (ask_of hold) entries ≡ None) × (hold ≡ hold_for config (ask_of hold) entries)
AccountGives config entries period (event.Released release) = Unit {0}
AccountGives config entries period (event.Cdr cdr cost) = over_limit config (charge_of cdr cost period) entries ≡ None
AccountGives config entries period (event.Credit cdr amount) = Unit {0}
AccountGives config entries period (event.Settled settlement) = Unit {0}
AccountGives config entries period (event.Closed closed) = Unit {0}

-- the account of that number gives it
abbrev pub AccountGivesAt : Config → List PlainAccount → Option ℕ → ℕ → Event → Type 0
AccountGivesAt config accounts None period event = Unit {0}
AccountGivesAt config accounts (Some number) period event =
    (account : PlainAccount) → slice_get accounts number ≡ Some account → AccountGives config account.entries period event
