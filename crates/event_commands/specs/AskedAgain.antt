-- The request that adds an event again.
use Rattle.std.specs.Prelude.{◌≡◌, ℕ, Bool, true, List, Option, Some, None, Ok}
use Rattle.ocpi_types.specs.declared.config.Config.{Config}
use Rattle.ocpi_types.specs.declared.token.TokenKind.{TokenKind}
use Rattle.ocpi_types.specs.Config.{is_hub, may_act_for}
use Rattle.cdr_checks.specs.Admission.{admission}
use Rattle.cdr_checks.specs.declared.request.Ask.{Ask}
use Rattle.cdr_checks.specs.declared.request.Ask.TheVariants as ask
use Rattle.cdr_checks.specs.declared.request.Command.{Command}
use Rattle.plain_house.specs.declared.event.Event.{Event}
use Rattle.plain_house.specs.declared.event.Event.TheVariants as event
use Rattle.plain_house.specs.declared.event.Hold.{Hold}
use Rattle.plain_house.specs.House.{verdict}
use Rattle.plain_house.specs.Known.{Known}
use Rattle.plain_house.specs.Legal.{IsGivenBy}
use Rattle.plain_house.specs.Tokens.{validity}

-- the platform has the right to ask for this under the configuration: it acts for the party, or is a hub
abbrev pub has_right : Config → Ask → List ℕ → Bool
has_right config (ask.PutTariff tariff) platform = may_act_for config platform tariff.operator
has_right config (ask.PutToken token) platform = may_act_for config platform token.provider
has_right config (ask.Authorize authorize) platform = may_act_for config platform authorize.operator
has_right config (ask.Release release) platform = may_act_for config platform release.operator
has_right config (ask.Post cdr) platform = may_act_for config platform cdr.operator
has_right config (ask.Close close) platform = is_hub config platform
has_right config (ask.Settle settlement) platform = is_hub config platform
has_right config (ask.Exposure exposure) platform = may_act_for config platform exposure.provider
has_right config (ask.Find find) platform = may_act_for config platform find.operator
has_right config (ask.Statement statement) platform = may_act_for config platform statement.party

-- what a request asks for to add the event; a hold alone does not say, since it does not name its token
abbrev pub ask_again : Event → Option Ask
ask_again (event.Tariff tariff) = Some (ask.PutTariff tariff)
ask_again (event.Token token) = Some (ask.PutToken token)
ask_again (event.Authorised hold) = None
ask_again (event.Released release) = Some (ask.Release release)
ask_again (event.Cdr cdr cost) = Some (ask.Post cdr)
ask_again (event.Credit cdr amount) = Some (ask.Post cdr)
ask_again (event.Settled settlement) = Some (ask.Settle settlement)
ask_again (event.Closed period) = Some (ask.Close (record { period = period }))

-- the platform's request is admitted, and its command adds the event
pub record IsAskedBy (config : Config) (known : Known) (event : Event) (asked : Ask) (platform : List ℕ) : Type 0 where
  pub command : Command
  pub admitted : admission config (record { platform = platform; ask = asked }) ≡ Ok command
  pub adds : (verdict config known command).event ≡ Some event

-- the request adds the event from each platform that has the right, and some platform has it
pub record IsAskedAgain (config : Config) (known : Known) (event : Event) (asked : Ask) : Type 0 where
  pub some_platform : List ℕ
  pub its_right : has_right config asked some_platform ≡ true
  pub by_each : (platform : List ℕ) → has_right config asked platform ≡ true → IsAskedBy config known event asked platform

-- if any admitted command adds the event, the request of `ask_again` does
abbrev pub AskedAgainIsGiven : Type 0
AskedAgainIsGiven =
    (config : Config) (known : Known) (event : Event) (asked : Ask) → ask_again event ≡ Some asked → IsGivenBy config known event →
    IsAskedAgain config known event asked

-- ---- holds

-- an authorisation of the token that asks for such a hold
abbrev pub hold_ask : Hold → List ℕ → TokenKind → Ask
hold_ask hold uid kind =
    ask.Authorize (record { operator = hold.operator; provider = hold.provider; uid = uid; kind = kind; currency = hold.currency })

-- the token of the hold's provider is stored, and valid
abbrev pub IsOfValid : Known → Hold → List ℕ → TokenKind → Type 0
IsOfValid known hold uid kind = validity hold.provider uid kind known.account ≡ Some true

-- an authorisation of each valid token of the provider adds the hold, from each platform that has the right; some token of the
-- provider is valid, and some platform has the right
pub record IsHeldAgain (config : Config) (known : Known) (hold : Hold) : Type 0 where
  pub some_uid : List ℕ
  pub some_kind : TokenKind
  pub its_token : IsOfValid known hold some_uid some_kind
  pub some_platform : List ℕ
  pub its_right : has_right config (hold_ask hold some_uid some_kind) some_platform ≡ true
  pub by_each : (uid : List ℕ) (kind : TokenKind) (platform : List ℕ) → IsOfValid known hold uid kind → has_right config (hold_ask hold uid kind) platform ≡ true → IsAskedBy config known (event.Authorised hold) (hold_ask hold uid kind) platform

-- if any admitted command adds the hold, these authorisations do
abbrev pub HoldsAreAskedAgain : Type 0
HoldsAreAskedAgain =
    (config : Config) (known : Known) (hold : Hold) → IsGivenBy config known (event.Authorised hold) → IsHeldAgain config known hold
