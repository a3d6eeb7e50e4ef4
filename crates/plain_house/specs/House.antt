-- The reply to a command by what is known, and the event that it adds.
use Rattle.std.specs.Prelude.{ℕ, ℤ, ◌+◌, ◌==◌, pos, Bool, true, false, List, [], ◌∷◌, ◌++◌, nat_lt, count_by, length, if◌then◌else◌, Option, Some, None, unwrap_or, option_map, codes, decimal, Result, Ok, Err}
use Rattle.std.specs.Option.{option_or}
use Rattle.ocpi_types.specs.declared.cdr.Cdr.{Cdr}
use Rattle.ocpi_types.specs.declared.config.Config.{Config}
use Rattle.ocpi_types.specs.declared.party.Party.{Party}
use Rattle.ocpi_types.specs.declared.refusal.Refusal.{Refusal}
use Rattle.ocpi_types.specs.declared.refusal.Refusal.TheVariants as refusal
use Rattle.ocpi_types.specs.declared.refusal.Store.TheVariants as store
use Rattle.ocpi_types.specs.declared.tariff.Tariff.{Tariff}
use Rattle.ocpi_types.specs.declared.token.Token.{Token}
use Rattle.ocpi_types.specs.Party.{same_party}
use Rattle.ocpi_types.specs.Config.{provider_of, limit_of, hold_of, pair_limit_of}
use Rattle.ocpi_types.specs.SameTariff.{same_tariff}
use Rattle.cdr_checks.specs.declared.request.Authorize.{Authorize}
use Rattle.cdr_checks.specs.declared.request.Close.{Close}
use Rattle.cdr_checks.specs.declared.request.ExposureOf.{ExposureOf}
use Rattle.cdr_checks.specs.declared.request.Find.{Find}
use Rattle.cdr_checks.specs.declared.request.Release.{Release}
use Rattle.cdr_checks.specs.declared.request.Settlement.{Settlement}
use Rattle.cdr_checks.specs.declared.request.StatementOf.{StatementOf}
use Rattle.cdr_checks.specs.declared.request.Command.{Command}
use Rattle.cdr_checks.specs.declared.request.Command.TheVariants as command
use Rattle.netting_positions.specs.declared.positions.NetPosition.{NetPosition}
use Rattle.netting_positions.specs.Netting.{net_positions, parties}
use Rattle.netting_positions.specs.Statement.{statement_rows}
use Rattle.plain_house.specs.declared.event.Hold.{Hold}
use Rattle.plain_house.specs.declared.event.Event.{Event}
use Rattle.plain_house.specs.declared.event.Event.TheVariants as event
use Rattle.plain_house.specs.declared.answer.Answer.{Answer}
use Rattle.plain_house.specs.declared.answer.Answer.TheVariants as answer
use Rattle.plain_house.specs.declared.over_limit.OverLimit.{OverLimit}
use Rattle.plain_house.specs.declared.entry.AccountEntry.{AccountEntry}
use Rattle.plain_house.specs.declared.entry.AccountEntry.TheVariants as account
use Rattle.plain_house.specs.declared.entry.BookEntry.{BookEntry}
use Rattle.plain_house.specs.Booked.{Booked, booked_as, is_credited}
use Rattle.plain_house.specs.Entries.{charge_of}
use Rattle.plain_house.specs.Exposure.{of_provider, of_pair, released_hold, holds_of, debts_of, exposure_of}
use Rattle.plain_house.specs.Known.{Known, known}
use Rattle.plain_house.specs.Obligations.{obligations}
use Rattle.plain_house.specs.OverLimit.{over, over_if_any}
use Rattle.plain_house.specs.Posting.{booked_already, credited_amount, over_limit, unless_registered}
use Rattle.plain_house.specs.Replies.{Reply, Follows, stamped, with_event}
use Rattle.plain_house.specs.Full.{are_cdrs_full, are_periods_full, are_versions_full, is_account_full, is_order_full, first_full}
use Rattle.plain_house.specs.Settlements.{is_settled, settled_debt}
use Rattle.plain_house.specs.Tariffs.{lacks_registered, stored_version}
use Rattle.plain_house.specs.Tokens.{validity}
use Rattle.plain_house.specs.Verdict.{Verdict, Case, replies, accepts, refused_at, refused_for, unless}

-- ---- put_tariff

abbrev pub stored_already : Tariff → Option Tariff → Case
stored_already tariff None = None
stored_already tariff (Some stored) =
    Some (if same_tariff stored tariff then Ok answer.Unchanged else Err refusal.Conflict)

abbrev pub tariff_put : Config → Known → Tariff → Verdict
tariff_put config known tariff =
    unless
    (stored_already tariff (stored_version tariff known.book)
    ∷ refused_at (first_full ((store.Tariffs, are_versions_full config tariff.operator known.book) ∷ (store.Order, is_order_full config known.point) ∷ []))
    ∷ []) (accepts answer.Stored (event.Tariff tariff))

-- ---- put_token

-- refused where an entry of the provider's account finds no room
abbrev pub full_for : Config → Known → Party → Case
full_for config known provider =
    refused_at (first_full ((store.Account, is_account_full config provider known.account) ∷ (store.Order, is_order_full config known.point) ∷ []))

abbrev pub token_put : Config → Known → Token → Verdict
token_put config known token =
    unless (full_for config known token.provider ∷ []) (accepts answer.Stored (event.Token token))

-- ---- authorize

abbrev pub is_hold_of : Party → AccountEntry → Bool
is_hold_of provider (account.Token token) = false
is_hold_of provider (account.Hold hold) = same_party hold.provider provider
is_hold_of provider (account.Release release) = false
is_hold_of provider (account.Charge charge) = false
is_hold_of provider (account.Credit credit) = false
is_hold_of provider (account.Settlement settlement) = false

-- a provider as it is configured
abbrev pub provider_as_configured : Config → Party → Party
provider_as_configured config party = unwrap_or (option_map (λ provider. provider.party) (provider_of config party)) party

abbrev pub reference_text : Party → ℕ → List ℕ
reference_text party number = party.country_code ++ (party.party_id ++ (codes "-" ++ decimal number))

-- the reference of the provider's next authorisation: its codes and the count of its authorisations so far plus 1
abbrev pub next_reference : Config → Party → List AccountEntry → List ℕ
next_reference config provider entries =
    reference_text (provider_as_configured config provider) (count_by (is_hold_of provider) entries + 1)

-- with the hold of an authorisation, the exposure would be above the provider's limit, or its limit with the operator
abbrev pub over_credit : Config → Authorize → List AccountEntry → Option OverLimit
over_credit config ask entries =
    option_or
    (over (limit_of config ask.provider ask.currency) (exposure_of (of_provider ask.provider ask.currency) entries + hold_of config ask.provider ask.currency) false)
    (over_if_any (pair_limit_of config ask.operator ask.provider ask.currency) (exposure_of (of_pair ask.operator ask.provider ask.currency) entries + hold_of config ask.provider ask.currency))

abbrev pub hold_for : Config → Authorize → List AccountEntry → Hold
hold_for config ask entries = record {
  operator = ask.operator;
  provider = ask.provider;
  currency = ask.currency;
  amount = hold_of config ask.provider ask.currency;
  reference = next_reference config ask.provider entries;
}

-- by whether the token is known, and valid
abbrev pub unless_valid : Option Bool → Case
unless_valid None = Some (Err refusal.UnknownToken)
unless_valid (Some false) = Some (Ok answer.Blocked)
unless_valid (Some true) = None

-- by the limit that it would pass, if there is one
abbrev pub unless_covered : Option OverLimit → Case
unless_covered None = None
unless_covered (Some over) = Some (Ok (answer.NoCredit over))

abbrev pub allows : Hold → Verdict
allows hold = accepts (answer.Allowed hold.reference) (event.Authorised hold)

abbrev pub authorized : Config → Known → Authorize → Verdict
authorized config known ask =
    unless
    (unless_valid (validity ask.provider ask.uid ask.kind known.account) ∷ full_for config known ask.provider
    ∷ unless_covered (over_credit config ask known.account) ∷ [])
    (allows (hold_for config ask known.account))

-- ---- release

-- by the open hold that the release ends
abbrev pub release_of : Config → Known → Release → Option Hold → Verdict
release_of config known release None = replies (Err refusal.UnknownHold)
release_of config known release (Some hold) =
    unless (full_for config known release.provider ∷ [])
    (accepts (answer.Released (pos hold.amount)) (event.Released release))

-- ---- post

-- refused where a CDR finds no room in its operator's book, its provider's account or the order
abbrev pub full_for_cdr : Config → Known → Cdr → Case
full_for_cdr config known cdr =
    refused_at (first_full ((store.Cdrs, are_cdrs_full config cdr.operator known.book) ∷ (store.Account, is_account_full config cdr.cdr_token.provider known.account) ∷ (store.Order, is_order_full config known.point) ∷ []))

abbrev pub cdr_posted : Config → Known → Cdr → ℕ → Verdict
cdr_posted config known cdr cost =
    unless
    (booked_already cdr (booked_as cdr.operator cdr.id known.book) ∷ unless_registered (lacks_registered cdr known.book)
    ∷ full_for_cdr config known cdr ∷ refused_for (over_limit config (charge_of cdr cost known.period) known.account) ∷ [])
    (accepts (answer.Accepted (pos cost) known.period) (event.Cdr cdr cost))

-- by the amount that a Credit CDR takes back, or why it takes none; it passes no limit
abbrev pub credit_taken : Config → Known → Cdr → Result ℤ Refusal → Verdict
credit_taken config known credit (Err refusal) = replies (Err refusal)
credit_taken config known credit (Ok amount) =
    unless (full_for_cdr config known credit ∷ [])
    (accepts (answer.Accepted amount known.period) (event.Credit credit amount))

abbrev pub credit_posted : Config → Known → Cdr → Verdict
credit_posted config known credit =
    unless (booked_already credit (booked_as credit.operator credit.id known.book) ∷ [])
    (credit_taken config known credit (credited_amount config known.period credit known.book))

-- by what its session costs, which a Credit CDR has not
abbrev pub post_of : Config → Known → Cdr → Option ℕ → Verdict
post_of config known cdr None = credit_posted config known cdr
post_of config known cdr (Some cost) = cdr_posted config known cdr cost

-- ---- close

-- only the current period can be closed
abbrev pub unless_current : ℕ → ℕ → Case
unless_current period current = if period == current then None else Some (Err (refusal.NotCurrent current))

-- the net positions of all parties in a period
abbrev pub positions_in : Config → List BookEntry → ℕ → List NetPosition
positions_in config entries period =
    net_positions (parties config) config.currencies (obligations period entries)

abbrev pub closed : Config → Known → Close → Verdict
closed config known close =
    unless
    (unless_current close.period known.period
    ∷ refused_at (first_full ((store.Order, is_order_full config known.point) ∷ (store.Periods, are_periods_full config known.period) ∷ []))
    ∷ []) (accepts (answer.Closed close.period (positions_in config known.book close.period)) (event.Closed close.period))

-- ---- settle

-- the period has to be closed
abbrev pub unless_open : ℕ → ℕ → Case
unless_open period current = if nat_lt period current then None else Some (Err refusal.PeriodOpen)

abbrev pub unless_settled : Bool → Case
unless_settled true = Some (Err refusal.AlreadySettled)
unless_settled false = None

abbrev pub settled : Config → Known → Settlement → Verdict
settled config known settlement =
    unless
    (unless_open settlement.period known.period ∷ unless_settled (is_settled settlement known.account)
    ∷ full_for config known settlement.provider ∷ [])
    (accepts (answer.Settled (pos (settled_debt settlement known.account))) (event.Settled settlement))

-- ---- exposure, find and statement

abbrev pub exposed : Config → ExposureOf → List AccountEntry → Answer
exposed config ask entries =
    answer.Exposure (pos (holds_of (of_provider ask.provider ask.currency) entries))
    (pos (debts_of (of_provider ask.provider ask.currency) entries)) (pos (limit_of config ask.provider ask.currency))

-- by the CDR of that operator and id
abbrev pub found_of : Find → List BookEntry → Option Booked → Verdict
found_of find entries None = replies (Err refusal.UnknownCdr)
found_of find entries (Some found) =
    replies (Ok (answer.Found found.amount found.period (is_credited find.operator find.id entries)))

abbrev pub stated : Known → StatementOf → Verdict
stated known ask =
    unless (unless_open ask.period known.period ∷ [])
    (replies (Ok (answer.Statement (statement_rows ask.party (obligations ask.period known.book)))))

-- ---- commands

abbrev pub verdict : Config → Known → Command → Verdict
verdict config known (command.PutTariff tariff) = tariff_put config known tariff
verdict config known (command.PutToken token) = token_put config known token
verdict config known (command.Authorize ask) = authorized config known ask
verdict config known (command.Release release) =
    release_of config known release (released_hold known.account release)
verdict config known (command.Post checked) = post_of config known checked.cdr checked.cost
verdict config known (command.Close close) = closed config known close
verdict config known (command.Settle settlement) = settled config known settlement
verdict config known (command.Exposure ask) = replies (Ok (exposed config ask known.account))
verdict config known (command.Find find) =
    found_of find known.book (booked_as find.operator find.id known.book)
verdict config known (command.Statement ask) = stated known ask

abbrev pub reply_of : Config → List Event → Command → Reply
reply_of config events command = stamped (length events) (verdict config (known events) command).reply

-- the list after the command
abbrev pub events_after : Config → List Event → Command → List Event
events_after config events command = with_event events (verdict config (known events) command).event

-- the reply and the list after a command
abbrev pub Does : Config → List Event → Command → Reply → List Event → Type 0
Does config events command reply now = Follows (verdict config (known events) command) events reply now
