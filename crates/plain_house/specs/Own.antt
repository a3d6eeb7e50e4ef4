-- A house answers a command by the entries of the command's own operator and provider: what is asked of all entries is said
-- by the operator's own book, or the provider's own account.
use Rattle.std.specs.Prelude.{◌≡◌, ℕ, List, [], ◌∷◌, ◌++◌, Bool, true, Option, Some, None, filter}
use Rattle.ocpi_types.specs.declared.cdr.Cdr.{Cdr}
use Rattle.ocpi_types.specs.declared.config.Config.{Config}
use Rattle.ocpi_types.specs.declared.party.Party.{Party}
use Rattle.ocpi_types.specs.declared.tariff.Tariff.{Tariff}
use Rattle.ocpi_types.specs.declared.token.TokenKind.{TokenKind}
use Rattle.ocpi_types.specs.Party.{same_party}
use Rattle.cdr_checks.specs.declared.request.Authorize.{Authorize}
use Rattle.cdr_checks.specs.declared.request.ExposureOf.{ExposureOf}
use Rattle.cdr_checks.specs.declared.request.Release.{Release}
use Rattle.cdr_checks.specs.declared.request.Settlement.{Settlement}
use Rattle.cdr_checks.specs.declared.request.Command.{Command}
use Rattle.cdr_checks.specs.Parties.{operator_of_command, provider_of_command}
use Rattle.plain_house.specs.declared.event.Event.{Event}
use Rattle.plain_house.specs.declared.event.Event.TheVariants as event
use Rattle.plain_house.specs.declared.scope.Scope.{Scope}
use Rattle.plain_house.specs.declared.entry.AccountEntry.{AccountEntry}
use Rattle.plain_house.specs.declared.entry.AccountEntry.TheVariants as account
use Rattle.plain_house.specs.declared.entry.BookEntry.{BookEntry}
use Rattle.plain_house.specs.declared.entry.BookEntry.TheVariants as book
use Rattle.plain_house.specs.Booked.{booked_as, is_credited}
use Rattle.plain_house.specs.Entries.{account_entries, book_entries, charge_of, period_of}
use Rattle.plain_house.specs.Exposure.{debts_of, exposure_of, holds_of, released_hold}
use Rattle.plain_house.specs.House.{exposed, hold_for, over_credit, verdict}
use Rattle.plain_house.specs.Known.{Known, known}
use Rattle.plain_house.specs.Legal.{IsLegal}
use Rattle.plain_house.specs.Posting.{credited_amount, judged_cdr, judged_credit, over_limit}
use Rattle.plain_house.specs.Full.{are_cdrs_full, are_versions_full, is_account_full, own_entries}
use Rattle.plain_house.specs.Settlements.{is_settled, settled_debt}
use Rattle.plain_house.specs.Tariffs.{lacks_registered, stored_version}
use Rattle.plain_house.specs.Tokens.{validity}

-- ---- books

-- an entry of the operator's book: a tariff version, CDR or Credit CDR of it
abbrev pub is_in_book_of : Party → BookEntry → Bool
is_in_book_of operator (book.Tariff tariff) = same_party tariff.operator operator
is_in_book_of operator (book.Cdr cdr cost period) = same_party cdr.operator operator
is_in_book_of operator (book.Credit cdr amount period) = same_party cdr.operator operator

-- the entries of the operator's book
abbrev pub own_book : Party → List BookEntry → List BookEntry
own_book operator entries = filter (is_in_book_of operator) entries

-- what the entries say of the operator is what its own book says, and the book is the same in another spelling of the operator
pub record IsOfOwnBook (operator : Party) (entries : List BookEntry) : Type 0 where
  pub booked : (id : List ℕ) → booked_as operator id (own_book operator entries) ≡ booked_as operator id entries
  pub credited : (id : List ℕ) → is_credited operator id (own_book operator entries) ≡ is_credited operator id entries
  pub version : (tariff : Tariff) → same_party tariff.operator operator ≡ true → stored_version tariff (own_book operator entries) ≡ stored_version tariff entries
  pub registered : (cdr : Cdr) → same_party cdr.operator operator ≡ true → lacks_registered cdr (own_book operator entries) ≡ lacks_registered cdr entries
  pub cdrs_full : (config : Config) → are_cdrs_full config operator (own_book operator entries) ≡ are_cdrs_full config operator entries
  pub versions_full : (config : Config) → are_versions_full config operator (own_book operator entries) ≡ are_versions_full config operator entries
  pub cdr : (cdr : Cdr) → same_party cdr.operator operator ≡ true → judged_cdr cdr (own_book operator entries) ≡ judged_cdr cdr entries
  pub credit : (config : Config) (period : ℕ) (credit : Cdr) → same_party credit.operator operator ≡ true → judged_credit config period credit (own_book operator entries) ≡ judged_credit config period credit entries
  pub taken : (config : Config) (period : ℕ) (credit : Cdr) → same_party credit.operator operator ≡ true → credited_amount config period credit (own_book operator entries) ≡ credited_amount config period credit entries
  pub spelling : (party : Party) → same_party party operator ≡ true → own_book party entries ≡ own_book operator entries

-- so it is with each list of entries
abbrev pub BooksAreOfOwnEntries : Type 0
BooksAreOfOwnEntries = (operator : Party) (entries : List BookEntry) → IsOfOwnBook operator entries

-- ---- accounts

-- the entries of the provider's account
abbrev pub own_account : Party → List Event → List AccountEntry
own_account provider events = own_entries provider (account_entries events)

-- what the entries say of the provider is what its own account says, in each spelling of the provider; a charge is that of a
-- CDR whose id is not booked
pub record IsOfOwnAccount (config : Config) (events : List Event) (provider : Party) : Type 0 where
  pub valid : (party : Party) (uid : List ℕ) (kind : TokenKind) → same_party party provider ≡ true → validity party uid kind (own_account provider events) ≡ validity party uid kind (account_entries events)
  pub full : (party : Party) → same_party party provider ≡ true → is_account_full config party (own_account provider events) ≡ is_account_full config party (account_entries events)
  pub credit : (ask : Authorize) → same_party ask.provider provider ≡ true → over_credit config ask (own_account provider events) ≡ over_credit config ask (account_entries events)
  pub hold : (ask : Authorize) → same_party ask.provider provider ≡ true → hold_for config ask (own_account provider events) ≡ hold_for config ask (account_entries events)
  pub released : (release : Release) → same_party release.provider provider ≡ true → released_hold (own_account provider events) release ≡ released_hold (account_entries events) release
  pub settled : (settlement : Settlement) → same_party settlement.provider provider ≡ true → is_settled settlement (own_account provider events) ≡ is_settled settlement (account_entries events)
  pub debt : (settlement : Settlement) → same_party settlement.provider provider ≡ true → settled_debt settlement (own_account provider events) ≡ settled_debt settlement (account_entries events)
  pub exposure : (ask : ExposureOf) → same_party ask.provider provider ≡ true → exposed config ask (own_account provider events) ≡ exposed config ask (account_entries events)
  pub charge : (cdr : Cdr) (cost : ℕ) → same_party cdr.cdr_token.provider provider ≡ true → booked_as cdr.operator cdr.id (book_entries events) ≡ None → over_limit config (charge_of cdr cost (period_of events)) (own_account provider events) ≡ over_limit config (charge_of cdr cost (period_of events)) (account_entries events)

-- so it is on a legal list
abbrev pub AccountsAreOfOwnEntries : Type 0
AccountsAreOfOwnEntries =
    (config : Config) (events : List Event) (provider : Party) → IsLegal config events → IsOfOwnAccount config events provider

-- ---- exposures

-- the exposure, its holds and its debts, are those of the entries of the provider's own account
pub record IsOfOwnEntries (scope : Scope) (entries : List AccountEntry) : Type 0 where
  pub holds : holds_of scope (own_entries scope.provider entries) ≡ holds_of scope entries
  pub debts : debts_of scope (own_entries scope.provider entries) ≡ debts_of scope entries
  pub exposure : exposure_of scope (own_entries scope.provider entries) ≡ exposure_of scope entries

-- so they are on a legal list
abbrev pub ExposureIsOfOwnEntries : Type 0
ExposureIsOfOwnEntries =
    (config : Config) (events : List Event) (scope : Scope) → IsLegal config events → IsOfOwnEntries scope (account_entries events)

-- and with the charge added of a CDR whose id is not booked
abbrev pub ExposureWithChargeIsOfOwnEntries : Type 0
ExposureWithChargeIsOfOwnEntries =
    (config : Config) (events : List Event) (scope : Scope) (cdr : Cdr) (cost : ℕ) → IsLegal config events →
    booked_as cdr.operator cdr.id (book_entries events) ≡ None →
    IsOfOwnEntries scope (account_entries events ++ account.Charge (charge_of cdr cost (period_of events)) ∷ [])

-- ---- verdicts

-- the entries of an operator's book, or all where none is named
abbrev pub of_operator : Option Party → List BookEntry → List BookEntry
of_operator None entries = entries
of_operator (Some operator) entries = own_book operator entries

-- the entries of a provider's account, or all where none is named
abbrev pub of_account : Option Party → List AccountEntry → List AccountEntry
of_account None entries = entries
of_account (Some provider) entries = own_entries provider entries

-- what is known, less the entries of others than the command's operator and provider
abbrev pub own_known : Command → Known → Known
own_known command known = record {
  book = of_operator (operator_of_command command) known.book;
  account = of_account (provider_of_command command) known.account;
  point = known.point;
  period = known.period;
}

-- on a legal list a verdict is decided by the entries of the command's own operator and provider
abbrev pub VerdictsAreOfOwnEntries : Type 0
VerdictsAreOfOwnEntries =
    (config : Config) (events : List Event) (command : Command) → IsLegal config events →
    verdict config (own_known command (known events)) command ≡ verdict config (known events) command

-- ---- events

-- the event is of the book and of the account that the command looks into, and of no other
abbrev pub IsOfCommand : Command → Event → Type 0
IsOfCommand command (event.Tariff tariff) = (operator_of_command command ≡ Some tariff.operator) × (provider_of_command command ≡ None)
IsOfCommand command (event.Token token) = (operator_of_command command ≡ None) × (provider_of_command command ≡ Some token.provider)
IsOfCommand command (event.Authorised hold) = (operator_of_command command ≡ None) × (provider_of_command command ≡ Some hold.provider)
IsOfCommand command (event.Released release) = (operator_of_command command ≡ None) × (provider_of_command command ≡ Some release.provider)
IsOfCommand command (event.Cdr cdr cost) = (operator_of_command command ≡ Some cdr.operator) × (provider_of_command command ≡ Some cdr.cdr_token.provider)
IsOfCommand command (event.Credit cdr amount) = (operator_of_command command ≡ Some cdr.operator) × (provider_of_command command ≡ Some cdr.cdr_token.provider)
IsOfCommand command (event.Settled settlement) = (operator_of_command command ≡ None) × (provider_of_command command ≡ Some settlement.provider)
IsOfCommand command (event.Closed period) = (operator_of_command command ≡ None) × (provider_of_command command ≡ None)

-- so is the event that a command adds
abbrev pub EventsAreOfTheirCommand : Type 0
EventsAreOfTheirCommand =
    (config : Config) (known : Known) (command : Command) (event : Event) → (verdict config known command).event ≡ Some event →
    IsOfCommand command event
