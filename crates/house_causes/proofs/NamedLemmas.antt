-- The event of a cause gives it: without the event the command is not refused for this reason, and with it, it is.
use Rattle.std.proofs.Common.{◌≡◌, ◌∙◌, ◌==◌, ℕ, ◌+◌, pos, List, [], ◌∷◌, ◌++◌, Bool, true, false, ◌&&◌, if◌then◌else◌, Option, Some, None, Result, Ok, Err, refl, sym, ap, subst, eqb-true, find, flat_map, option_map, reverse, take, drop, length}
use Rattle.std.specs.List.{position}
use Rattle.std.specs.Option.{option_or}
use Rattle.std.specs.Prelude.{nat_lt}
use Rattle.std.proofs.lemmas.Iterator.Adapters.{position_from-zero}
use Rattle.std.proofs.lemmas.List.{reverse-append}
use Rattle.std.proofs.lemmas.List.Concat.{flat_map-append}
use Rattle.std.proofs.lemmas.List.Folds.{find-append}
use Rattle.ocpi_json.specs.declared.name.Name.TheVariants as name
use Rattle.ocpi_json.specs.declared.name.Name.{Name}
use Rattle.ocpi_types.specs.ContentDifference.{difference_of_tariffs}
use Rattle.ocpi_types.specs.Currency.{same_currency}
use Rattle.ocpi_types.specs.Party.{same_party}
use Rattle.ocpi_types.specs.SameTariff.{same_tariff}
use Rattle.ocpi_types.specs.declared.config.Config.{Config}
use Rattle.ocpi_types.specs.declared.refusal.Refusal.{Refusal}
use Rattle.ocpi_types.specs.declared.refusal.Refusal.TheVariants as refusal
use Rattle.ocpi_types.specs.declared.refusal.Store.{Store}
use Rattle.ocpi_types.specs.declared.refusal.Store.TheVariants as store
use Rattle.ocpi_types.specs.declared.tariff.Tariff.{Tariff}
use Rattle.ocpi_types.specs.declared.token.Token.{Token}
use Rattle.ocpi_types.specs.declared.token.TokenKind.{TokenKind}
use Rattle.cdr_checks.specs.Place.{at, inside}
use Rattle.cdr_checks.specs.declared.request.Authorize.{Authorize}
use Rattle.cdr_checks.specs.declared.request.Command.{Command}
use Rattle.cdr_checks.specs.declared.request.Command.TheVariants as command
use Rattle.cdr_checks.specs.declared.request.Settlement.{Settlement}
use Rattle.plain_house.specs.Entries.{account_entries, book_entries, period_of}
use Rattle.plain_house.specs.Full.{are_versions_full, first_full, is_order_full}
use Rattle.plain_house.specs.Happened.{puts, settles, stores}
use Rattle.plain_house.specs.House.{allows, full_for, hold_for, over_credit, stored_already, unless_covered, unless_open, unless_settled, unless_valid, verdict}
use Rattle.plain_house.specs.Inner.Scanned.{token_of_event, version_of_event}
use Rattle.plain_house.specs.Known.{Known, known}
use Rattle.plain_house.specs.Legal.{IsGiven, IsGivenBy, IsLegal}
use Rattle.plain_house.specs.Settlements.{is_settled, settled_debt}
use Rattle.plain_house.specs.Tariffs.{same_version, stored_version}
use Rattle.plain_house.specs.Tokens.{is_token, tokens, validity}
use Rattle.plain_house.specs.Verdict.{Case, Verdict, accepts, refused_at, unless}
use Rattle.plain_house.specs.declared.answer.Answer.TheVariants as answer
use Rattle.plain_house.specs.declared.event.Event.{Event}
use Rattle.plain_house.specs.declared.event.Event.TheVariants as event
use Rattle.plain_house.specs.declared.over_limit.OverLimit.{OverLimit}
use Rattle.plain_house.proofs.DatedLemmas.{period_of-push}
use Rattle.plain_house.proofs.EntriesLemmas.{settled_in_events, tokens_in_events, versions_in_events}
use Rattle.plain_house.proofs.EventLemmas.{Gives, GivesPost, event_has}
use Rattle.plain_house.proofs.SameScope.{both_are}
use Rattle.plain_house.proofs.VerdictLemmas.{unless_event}
use Rattle.operator_book.proofs.FoundLemmas.{found, none_found}
use Rattle.operator_book.proofs.KeyLemmas.{or_false}
use Rattle.house_causes.specs.Causes.{cause_of, not_covered}
use Rattle.house_causes.specs.First.{◌>>=◌, Numbered, first_that}
use Rattle.house_causes.specs.HouseCause.{cause_at, refusal_by}
use Rattle.house_causes.specs.Laws.{IsGivenByEvent, NamesItsEvent, said_by_house}
use Rattle.house_causes.specs.Periods.{not_closed, settled_already}
use Rattle.house_causes.specs.Stores.{full}
use Rattle.house_causes.specs.Tokens.{blocked, token_of, unknown_token, why_unknown}
use Rattle.house_causes.specs.Versions.{tariff_of, version_conflict}
use Rattle.house_causes.specs.declared.house_cause.HouseCause.{HouseCause}
use Rattle.house_causes.specs.declared.house_cause.HouseReason.TheVariants as reason
use Rattle.house_causes.proofs.DifferenceLemmas.{difference_by, difference_from, version_test}
use Rattle.house_causes.proofs.FirstLemmas.{first_at}
use Rattle.house_causes.proofs.PrefixLemmas.{any_first, first_before, first_parts, first_upto, no_first, none_first, same_first}
use Rattle.house_causes.proofs.ReplyLemmas.{not_for_this, refused_so}

-- a cause by no event
pub no_event : (found cause : HouseCause) (at : ℕ) → found ≡ cause → found.event ≡ None → cause.event ≡ Some at → ⊥
no_event found cause at same none named =
    let e : None ≡ Some at = sym none ∙ (ap (λ (c : HouseCause). c.event) same ∙ named) in
    absurd (cc)

-- ---- settlements

abbrev IsSettleOf : Command → Event → Type 0
IsSettleOf done (event.Tariff tariff) = Unit {0}
IsSettleOf done (event.Token token) = Unit {0}
IsSettleOf done (event.Authorised hold) = Unit {0}
IsSettleOf done (event.Released release) = Unit {0}
IsSettleOf done (event.Cdr cdr cost) = Unit {0}
IsSettleOf done (event.Credit cdr amount) = Unit {0}
IsSettleOf done (event.Settled settlement) = done ≡ command.Settle settlement
IsSettleOf done (event.Closed period) = Unit {0}

settle_of : (config : Config) (known : Known) (done : Command) → Gives config known (IsSettleOf done) done
settle_of config known (command.PutTariff tariff) = λ room. tt
settle_of config known (command.PutToken token) = λ room. tt
settle_of config known (command.Authorize ask) = λ room covered. tt
settle_of config known (command.Release release) = λ room. tt
settle_of config known (command.Post checked) = by checked.cost
  where
    by : (cost : Option ℕ) → GivesPost config known (IsSettleOf (command.Post checked)) checked.cdr cost
    by None = λ amount unknown taken room account. tt
    by (Some cost) = λ unknown registered room account within. tt
settle_of config known (command.Close close) = λ current. tt
settle_of config known (command.Settle settlement) = λ room. refl
settle_of config known (command.Exposure ask) = tt
settle_of config known (command.Find find) = tt
settle_of config known (command.Statement ask) = tt

abbrev open_case : Bool → Case
open_case closed = if closed then None else Some (Err refusal.PeriodOpen)

is_closed : (b : Bool) → open_case b ≡ None → b ≡ true
is_closed true h = refl
is_closed false h = absurd (cc)

-- the period of a settlement was closed before
closed_before : (config : Config) (known : Known) (settlement : Settlement) → IsGivenBy config known (event.Settled settlement)
    → nat_lt settlement.period known.period ≡ true
closed_before config known settlement (done, admitted, adds) =
    let is : done ≡ command.Settle settlement = event_has config known (IsSettleOf done) (event.Settled settlement) done (settle_of config known done) adds in
    let added = ap (λ (it : Command). (verdict config known it).event) (sym is) ∙ adds in
    is_closed (nat_lt settlement.period known.period) (unless_event
    (unless_open settlement.period known.period ∷ unless_settled (is_settled settlement known.account) ∷ full_for config known settlement.provider ∷ [])
    (accepts (answer.Settled (pos (settled_debt settlement known.account))) (event.Settled settlement)) (event.Settled settlement) added).0.0

pub given_there : (base : Config) (before later : List Event) (e : Event) (events : List Event) → IsLegal base events → events ≡ before ++ e ∷ later → IsGiven base before e
unfolding IsLegal
given_there base before later e events legal whole = legal before e later whole

-- with an event that settles it the period is closed
closed_with : (base : Config) (settlement : Settlement) (before : List Event) (e : Event) → IsGiven base before e → settles settlement e ≡ true
    → nat_lt settlement.period (period_of (before ++ e ∷ [])) ≡ true
closed_with base settlement before (event.Tariff tariff) given h = absurd (cc)
closed_with base settlement before (event.Token token) given h = absurd (cc)
closed_with base settlement before (event.Authorised hold) given h = absurd (cc)
closed_with base settlement before (event.Released release) given h = absurd (cc)
closed_with base settlement before (event.Cdr cdr cost) given h = absurd (cc)
closed_with base settlement before (event.Credit cdr amount) given h = absurd (cc)
closed_with base settlement before (event.Settled other) given h =
    let keys = both_are (same_party other.provider settlement.provider && same_currency other.currency settlement.currency) (other.period == settlement.period)
    (sym (or_false (same_party other.provider settlement.provider && same_currency other.currency settlement.currency && (other.period == settlement.period))) ∙ h) in
    let same : other.period ≡ settlement.period = eqb-true other.period settlement.period keys.1 in
    ap (λ n. nat_lt settlement.period n) (sym (period_of-push before (event.Settled other)))
    ∙ ap (λ n. nat_lt n (period_of before)) (sym same) ∙ closed_before base (known before) other given
closed_with base settlement before (event.Closed period) given h = absurd (cc)

module _ (base config : Config) (events : List Event) (settlement : Settlement) (legal : IsLegal base events) where
  abbrev settled_case : Bool → Bool → Case → Verdict → Verdict
  settled_case closed settled room otherwise =
      unless (open_case closed ∷ unless_settled settled ∷ room ∷ []) otherwise

  abbrev settled_at : Option ℕ → HouseCause
  settled_at place = record { place = Some (at name.Period); reason = reason.SettledAlready settlement.period; event = place }

  module _ (place : ℕ) (first : position (settles settlement) events ≡ Some place) where
    none_before : said_by_house config (take place events) (command.Settle settlement) ≡ Err refusal.AlreadySettled → ⊥
    none_before h =
        let before = take place events in
        let none : is_settled settlement (account_entries before) ≡ false = settled_in_events settlement before ∙ (first_parts (settles settlement) events place first).none in
        by (nat_lt settlement.period (period_of before)) (is_settled settlement (account_entries before)) none
        _ h
      where
        by : (closed settled : Bool) → settled ≡ false → (room : Option Store)
            → (settled_case closed settled (refused_at room) (accepts (answer.Settled (pos (settled_debt settlement (account_entries (take place events))))) (event.Settled settlement))).reply ≡ Err refusal.AlreadySettled → ⊥
        by false settled none room e = absurd (cc)
        by true true none room e = absurd (cc)
        by true false none None e = absurd (cc)
        by true false none (Some what) e = absurd (cc)

    settled_with : said_by_house config (take (place + 1) events) (command.Settle settlement) ≡ Err refusal.AlreadySettled
    settled_with =
        let upto = take (place + 1) events in
        let it = first_parts (settles settlement) events place first in
        let closed : nat_lt settlement.period (period_of upto) ≡ true =
        ap (λ (l : List Event). nat_lt settlement.period (period_of l)) it.parts.upto
        ∙ closed_with base settlement (take place events) it.parts.item (given_there base (take place events) (drop (place + 1) events) it.parts.item events legal it.parts.whole) it.passes in
        let settled : is_settled settlement (account_entries upto) ≡ true =
        settled_in_events settlement upto ∙ any_first (settles settlement) upto place (first_upto (settles settlement) events place first) in
        let room = full_for config (known upto) settlement.provider in
        let otherwise = accepts (answer.Settled (pos (settled_debt settlement (account_entries upto)))) (event.Settled settlement) in
        ap (λ b. (settled_case b (is_settled settlement (account_entries upto)) room otherwise).reply) closed
        ∙ ap (λ b. (settled_case true b room otherwise).reply) settled

  settled_named : (cause : HouseCause) (place : ℕ) → settled_already events settlement ≡ cause → cause.event ≡ Some place
      → IsGivenByEvent config events (command.Settle settlement) cause place
  settled_named cause place same named =
      let first : position (settles settlement) events ≡ Some place = ap (λ (c : HouseCause). c.event) same ∙ named in
      let says : refusal_by cause.reason ≡ Some refusal.AlreadySettled = ap (λ (c : HouseCause). refusal_by c.reason) (sym same) in
      record {
        before = λ other. not_for_this config (take place events) (command.Settle settlement) cause other refusal.AlreadySettled says (none_before place first);
        with_it = ap (cause_of config (take (place + 1) events) (command.Settle settlement)) (settled_with place first)
            ∙ ap (λ (o : Option ℕ). Some (settled_at o)) (first_upto (settles settlement) events place first ∙ sym first)
            ∙ ap (λ (c : HouseCause). Some c) same;
      }

  pub settlement_named : NamesItsEvent config events (command.Settle settlement)
  settlement_named cause place h named =
      by (nat_lt settlement.period (period_of events)) (is_settled settlement (account_entries events)) _ h
    where
      by : (closed settled : Bool) (room : Option Store)
          → cause_of config events (command.Settle settlement)
          (settled_case closed settled (refused_at room) (accepts (answer.Settled (pos (settled_debt settlement (account_entries events)))) (event.Settled settlement))).reply ≡ Some cause
          → IsGivenByEvent config events (command.Settle settlement) cause place
      by false settled room e =
          let same : not_closed events settlement.period ≡ cause = cc in absurd (no_event (not_closed events settlement.period) cause place same refl named)
      by true true room e = let same : settled_already events settlement ≡ cause = cc in settled_named cause place same named
      by true false None e = absurd (cc)
      by true false (Some what) e = let same : full config (command.Settle settlement) what ≡ cause = cc in absurd (no_event (full config (command.Settle settlement) what) cause place same refl named)

-- ---- authorisations

-- a token that is not valid on all events is not valid on the first of them
no_token : (p : Token → Bool) (before later : List Event) → find p (reverse (tokens (account_entries (before ++ later)))) ≡ None
    → find p (reverse (tokens (account_entries before))) ≡ None
no_token p before later h =
    let all : tokens (account_entries (before ++ later)) ≡ flat_map token_of_event before ++ flat_map token_of_event later =
    tokens_in_events (before ++ later) ∙ flat_map-append token_of_event before later in
    let split : find p (reverse (tokens (account_entries (before ++ later))))
    ≡ option_or (find p (reverse (flat_map token_of_event later))) (find p (reverse (flat_map token_of_event before))) =
    ap (λ (l : List Token). find p (reverse l)) all
    ∙ ap (find p) (reverse-append (flat_map token_of_event before) (flat_map token_of_event later))
    ∙ find-append p (reverse (flat_map token_of_event later)) (reverse (flat_map token_of_event before)) in
    ap (λ (l : List Token). find p (reverse l)) (tokens_in_events before)
    ∙ by (find p (reverse (flat_map token_of_event later))) (find p (reverse (flat_map token_of_event before))) (sym split ∙ h)
  where
    by : (one other : Option Token) → option_or one other ≡ None → other ≡ None
    by None other e = e
    by (Some token) other e = absurd (cc)

module _ (config : Config) (events : List Event) (ask : Authorize) where
  abbrev valid_token : Token → Bool
  valid_token = is_token ask.provider ask.uid ask.kind

  none_valid : (found : Option Token) → option_map (λ token. token.valid) found ≡ None → found ≡ None
  none_valid None h = refl
  none_valid (Some token) h = absurd (cc)

  -- the token is put, as of another type
  record IsOtherType (cause : HouseCause) (number : ℕ) : Type 0 where
    named : cause.event ≡ Some number
    put : TokenKind
    reason_is : cause.reason ≡ reason.OfAnotherType ask.kind put

  other_type : (it : Numbered) (cause : HouseCause) → why_unknown ask (Some it) ≡ Some cause → IsOtherType cause it.at
  other_type it cause h = by (token_of it.event) h
    where
      by : (token : Option Token)
          → (token >>= λ found. Some (record { place = Some (at name.Type); reason = reason.OfAnotherType ask.kind found.kind; event = Some it.at })) ≡ Some cause
          → IsOtherType cause it.at
      by None e = absurd (cc)
      by (Some token) e =
          let one : HouseCause = record { place = Some (at name.Type); reason = reason.OfAnotherType ask.kind token.kind; event = Some it.at } in
          let same : one ≡ cause = cc in
          record {
            named = ap (λ (c : HouseCause). c.event) (sym same);
            put = token.kind;
            reason_is = ap (λ (c : HouseCause). c.reason) (sym same);
          }

  module _ (unknown : validity ask.provider ask.uid ask.kind (account_entries events) ≡ None) (cause : HouseCause) (place : ℕ)
      (first : position (puts ask) events ≡ Some place) (is : why_unknown ask (first_that (puts ask) events) ≡ Some cause) (its : IsOtherType cause place) where
    abbrev upto : List Event
    upto = take (place + 1) events

    unknown_upto : validity ask.provider ask.uid ask.kind (account_entries upto) ≡ None
    unknown_upto =
        let split : events ≡ upto ++ drop (place + 1) events = (first_parts (puts ask) events place first).parts.split in
        let all : find valid_token (reverse (tokens (account_entries (upto ++ drop (place + 1) events)))) ≡ None =
        ap (λ (l : List Event). find valid_token (reverse (tokens (account_entries l)))) (sym split)
        ∙ none_valid (find valid_token (reverse (tokens (account_entries events)))) unknown in
        ap (option_map (λ (token : Token). token.valid)) (no_token valid_token upto (drop (place + 1) events) all)

    other_named : IsGivenByEvent config events (command.Authorize ask) cause place
    unfolding unknown_token
    other_named =
        let says : refusal_by cause.reason ≡ Some refusal.UnknownToken = ap refusal_by its.reason_is in
        let entries = account_entries upto in
        record {
          before = λ other h same.
              let found = refused_so config (take place events) (command.Authorize ask) cause other refusal.UnknownToken says h same in
              let none : why_unknown ask (first_that (puts ask) (take place events)) ≡ why_unknown ask None = ap (why_unknown ask) (first_before (puts ask) events place first) in
              let one : cause_at (at name.Uid) (reason.NotPut ask.uid) ≡ other = not_put_is other (sym none ∙ found) in
              let clash : reason.NotPut ask.uid ≡ reason.OfAnotherType ask.kind its.put = ap (λ (c : HouseCause). c.reason) one ∙ same ∙ its.reason_is in
              absurd (cc);
          with_it = ap (λ (o : Option Bool). cause_of config upto (command.Authorize ask)
              (unless (unless_valid o ∷ full_for config (known upto) ask.provider ∷ unless_covered (over_credit config ask entries) ∷ []) (allows (hold_for config ask entries))).reply) unknown_upto
              ∙ ap (why_unknown ask) (same_first (puts ask) events place first) ∙ is;
        }
      where
        not_put_is : (other : HouseCause) → why_unknown ask None ≡ Some other → cause_at (at name.Uid) (reason.NotPut ask.uid) ≡ other
        not_put_is other e = cc

  unknown_named : validity ask.provider ask.uid ask.kind (account_entries events) ≡ None → (cause : HouseCause) (place : ℕ)
      → unknown_token events ask ≡ Some cause → cause.event ≡ Some place → IsGivenByEvent config events (command.Authorize ask) cause place
  unfolding unknown_token
  unknown_named unknown cause place h named = by (position (puts ask) events) refl
    where
      by : (found : Option ℕ) → position (puts ask) events ≡ found → IsGivenByEvent config events (command.Authorize ask) cause place
      by None is =
          let none : why_unknown ask (first_that (puts ask) events) ≡ why_unknown ask None = ap (why_unknown ask) (no_first (puts ask) events is) in
          let one : Some (cause_at (at name.Uid) (reason.NotPut ask.uid)) ≡ Some cause = sym none ∙ h in
          let same : cause_at (at name.Uid) (reason.NotPut ask.uid) ≡ cause = cc in
          absurd (no_event (cause_at (at name.Uid) (reason.NotPut ask.uid)) cause place same refl named)
      by (Some number) is =
          let it = (first_parts (puts ask) events number is).parts in
          let found : Numbered = record { at = number; event = it.item } in
          let its = other_type found cause (sym (ap (why_unknown ask) (first_at (puts ask) events number it.item is it.stands)) ∙ h) in
          let places : Some number ≡ Some place = sym its.named ∙ named in
          let same : number ≡ place = cc in
          other_named unknown cause place (is ∙ places) h (subst (IsOtherType cause) same its)

  pub authorisation_named : NamesItsEvent config events (command.Authorize ask)
  authorisation_named cause place h named =
      by (validity ask.provider ask.uid ask.kind (account_entries events)) refl _ (over_credit config ask (account_entries events)) h
    where
      by : (valid : Option Bool) → validity ask.provider ask.uid ask.kind (account_entries events) ≡ valid → (room : Option Store) (beyond : Option OverLimit)
          → cause_of config events (command.Authorize ask)
          (unless (unless_valid valid ∷ refused_at room ∷ unless_covered beyond ∷ []) (allows (hold_for config ask (account_entries events)))).reply ≡ Some cause
          → IsGivenByEvent config events (command.Authorize ask) cause place
      by None is room beyond e = unknown_named is cause place e named
      by (Some false) is room beyond e = let same : blocked ask ≡ cause = cc in absurd (no_event (blocked ask) cause place same refl named)
      by (Some true) is None None e = absurd (cc)
      by (Some true) is None (Some over) e = let same : not_covered over ≡ cause = cc in absurd (no_event (not_covered over) cause place same refl named)
      by (Some true) is (Some what) beyond e =
          let same : full config (command.Authorize ask) what ≡ cause = cc in absurd (no_event (full config (command.Authorize ask) what) cause place same refl named)

-- ---- tariffs

abbrev named_at : ℕ → Name → Option (Name × ℕ)
named_at number member = Some (member, number)

module _ (config : Config) (events : List Event) (tariff : Tariff) where
  abbrev conflict_by : Option Numbered → Option HouseCause
  conflict_by found =
      (found >>= difference_by tariff) >>= λ which. Some (record { place = Some (inside name.Tariff which.0); reason = reason.StoredOtherwise; event = Some which.1 })

  abbrev put_case : Option Tariff → Case → Verdict
  put_case stored room = unless (stored_already tariff stored ∷ room ∷ []) (accepts answer.Stored (event.Tariff tariff))

  stored_there : (it : Numbered) (cause : HouseCause) → conflict_by (Some it) ≡ Some cause → (cause.event ≡ Some it.at) × (cause.reason ≡ reason.StoredOtherwise)
  stored_there it cause h = by (tariff_of it.event) h
    where
      differs_by : (differing : Option Name)
          → ((differing >>= named_at it.at) >>= λ which. Some (record { place = Some (inside name.Tariff which.0); reason = reason.StoredOtherwise; event = Some which.1 })) ≡ Some cause
          → (cause.event ≡ Some it.at) × (cause.reason ≡ reason.StoredOtherwise)
      differs_by None e = absurd (cc)
      differs_by (Some differing) e =
          let one : HouseCause = record { place = Some (inside name.Tariff differing); reason = reason.StoredOtherwise; event = Some it.at } in
          let same : one ≡ cause = cc in
          (ap (λ (c : HouseCause). c.event) (sym same), ap (λ (c : HouseCause). c.reason) (sym same))

      by : (stored : Option Tariff)
          → ((stored >>= difference_from tariff it.at) >>= λ which. Some (record { place = Some (inside name.Tariff which.0); reason = reason.StoredOtherwise; event = Some which.1 })) ≡ Some cause
          → (cause.event ≡ Some it.at) × (cause.reason ≡ reason.StoredOtherwise)
      by None e = absurd (cc)
      by (Some version) e = differs_by (difference_of_tariffs version tariff) e

  abbrev is_version : Tariff → Bool
  is_version version = same_version version tariff

  stored_as : (l : List Event) (found : Option Tariff) → find is_version (flat_map version_of_event l) ≡ found → stored_version tariff (book_entries l) ≡ found
  stored_as l found h = ap (find is_version) (versions_in_events l) ∙ h

  module _ (cause : HouseCause) (place : ℕ) (first : position (stores tariff) events ≡ Some place) (stored : Tariff)
      (stands : stored_version tariff (book_entries events) ≡ Some stored) (other : same_tariff stored tariff ≡ false)
      (is : conflict_by (first_that (stores tariff) events) ≡ Some cause) (reason_is : cause.reason ≡ reason.StoredOtherwise) where
    abbrev whole : List Event
    whole = take (place + 1) events

    none_stored : stored_version tariff (book_entries (take place events)) ≡ None
    none_stored =
        stored_as (take place events) None
        (none_found version_of_event is_version (stores tariff) (version_test tariff) (take place events)
        (sym (position_from-zero (stores tariff) (take place events)) ∙ none_first (stores tariff) (take place events) (first_parts (stores tariff) events place first).none))

    stored_upto : stored_version tariff (book_entries whole) ≡ Some stored
    stored_upto =
        let it = found version_of_event is_version (stores tariff) (version_test tariff) whole place
        (sym (position_from-zero (stores tariff) whole) ∙ first_upto (stores tariff) events place first) in
        let split : events ≡ whole ++ drop (place + 1) events = (first_parts (stores tariff) events place first).parts.split in
        let all : find is_version (flat_map version_of_event events) ≡ Some it.one =
        ap (λ (l : List Event). find is_version (flat_map version_of_event l)) split
        ∙ ap (find is_version) (flat_map-append version_of_event whole (drop (place + 1) events))
        ∙ find-append is_version (flat_map version_of_event whole) (flat_map version_of_event (drop (place + 1) events))
        ∙ ap (λ (o : Option Tariff). option_or o (find is_version (flat_map version_of_event (drop (place + 1) events)))) it.first in
        let both : Some it.one ≡ Some stored = sym (stored_as events (Some it.one) all) ∙ stands in
        stored_as whole (Some it.one) it.first ∙ both

    no_conflict : said_by_house config (take place events) (command.PutTariff tariff) ≡ Err refusal.Conflict → ⊥
    no_conflict h = by (stored_version tariff (book_entries (take place events))) none_stored _ h
      where
        by : (found : Option Tariff) → found ≡ None → (room : Option Store) → (put_case found (refused_at room)).reply ≡ Err refusal.Conflict → ⊥
        by (Some version) none room e = absurd (cc)
        by None none None e = absurd (cc)
        by None none (Some what) e = absurd (cc)

    version_named : IsGivenByEvent config events (command.PutTariff tariff) cause place
    unfolding version_conflict
    version_named =
        let says : refusal_by cause.reason ≡ Some refusal.Conflict = ap refusal_by reason_is in
        let room = refused_at (first_full ((store.Tariffs, are_versions_full config tariff.operator (book_entries whole)) ∷ (store.Order, is_order_full config (length whole)) ∷ [])) in
        record {
          before = λ given. not_for_this config (take place events) (command.PutTariff tariff) cause given refusal.Conflict says no_conflict;
          with_it = ap (λ (o : Option Tariff). cause_of config whole (command.PutTariff tariff) (put_case o room).reply) stored_upto
              ∙ ap (λ b. cause_of config whole (command.PutTariff tariff) (if b then Ok answer.Unchanged else Err refusal.Conflict)) other
              ∙ ap conflict_by (same_first (stores tariff) events place first) ∙ is;
        }

  conflict_named : (cause : HouseCause) (place : ℕ) (stored : Tariff) → stored_version tariff (book_entries events) ≡ Some stored → same_tariff stored tariff ≡ false
      → version_conflict events tariff ≡ Some cause → cause.event ≡ Some place → IsGivenByEvent config events (command.PutTariff tariff) cause place
  unfolding version_conflict
  conflict_named cause place stored stands other h named = by (position (stores tariff) events) refl
    where
      by : (found : Option ℕ) → position (stores tariff) events ≡ found → IsGivenByEvent config events (command.PutTariff tariff) cause place
      by None is = absurd (let e : None ≡ Some cause = sym (ap conflict_by (no_first (stores tariff) events is)) ∙ h in cc)
      by (Some number) is =
          let it = (first_parts (stores tariff) events number is).parts in
          let found : Numbered = record { at = number; event = it.item } in
          let its = stored_there found cause (sym (ap conflict_by (first_at (stores tariff) events number it.item is it.stands)) ∙ h) in
          let places : Some number ≡ Some place = sym its.0 ∙ named in
          version_named cause place (is ∙ places) stored stands other h its.1

  pub tariff_named : NamesItsEvent config events (command.PutTariff tariff)
  tariff_named cause place h named = by (stored_version tariff (book_entries events)) refl _ h
    where
      when_stored : (stored : Tariff) → stored_version tariff (book_entries events) ≡ Some stored → (same : Bool) → same_tariff stored tariff ≡ same
          → cause_of config events (command.PutTariff tariff) (if same then Ok answer.Unchanged else Err refusal.Conflict) ≡ Some cause
          → IsGivenByEvent config events (command.PutTariff tariff) cause place
      when_stored stored stands true is e = absurd (cc)
      when_stored stored stands false is e = conflict_named cause place stored stands is e named

      by : (stored : Option Tariff) → stored_version tariff (book_entries events) ≡ stored → (room : Option Store)
          → cause_of config events (command.PutTariff tariff) (put_case stored (refused_at room)).reply ≡ Some cause
          → IsGivenByEvent config events (command.PutTariff tariff) cause place
      by None is None e = absurd (cc)
      by None is (Some what) e =
          let same : full config (command.PutTariff tariff) what ≡ cause = cc in absurd (no_event (full config (command.PutTariff tariff) what) cause place same refl named)
      by (Some stored) is room e = when_stored stored is (same_tariff stored tariff) refl e
