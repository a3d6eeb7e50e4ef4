-- Each refusal of the house has a cause.
use Rattle.std.proofs.Common.{◌≡◌, ◌∙◌, ◌==◌, ℕ, ℤ, pos, List, [], ◌∷◌, ◌++◌, Bool, true, false, not, if◌then◌else◌, Option, Some, None, Result, Ok, Err, refl, sym, ap, subst, is_some, length, option_and_then, option_map}
use Rattle.std.specs.Option.{option_or}
use Rattle.std.specs.Prelude.{nat_lt}
use Rattle.std.proofs.lemmas.Bool.{not-false}
use Rattle.ocpi_types.specs.Cdr.{is_credit}
use Rattle.ocpi_types.specs.Config.{limit_of, pair_limit_of}
use Rattle.ocpi_types.specs.ContentDifference.{CdrsWithoutDifferenceAreSame, TariffsWithoutDifferenceAreSame}
use Rattle.ocpi_types.specs.SameCdr.{same_cdr}
use Rattle.ocpi_types.specs.SameTariff.{same_tariff}
use Rattle.ocpi_types.specs.declared.config.Config.{Config}
use Rattle.ocpi_types.specs.declared.refusal.Refusal.{Refusal}
use Rattle.ocpi_types.specs.declared.refusal.Refusal.TheVariants as refusal
use Rattle.ocpi_types.specs.declared.refusal.Store.{Store}
use Rattle.ocpi_types.specs.declared.refusal.Store.TheVariants as store
use Rattle.ocpi_types.specs.declared.tariff.Tariff.{Tariff}
use Rattle.cdr_checks.specs.Admission.{IsAdmitted}
use Rattle.cdr_checks.specs.Checked.{Checked, IsCostOf}
use Rattle.cdr_checks.specs.FirstRefusal.{◌>>=◌, ensure, or_refusal}
use Rattle.cdr_checks.specs.Law.{PostsAreChecked}
use Rattle.cdr_checks.specs.declared.request.Authorize.{Authorize}
use Rattle.cdr_checks.specs.declared.request.Close.{Close}
use Rattle.cdr_checks.specs.declared.request.Command.{Command}
use Rattle.cdr_checks.specs.declared.request.Command.TheVariants as command
use Rattle.cdr_checks.specs.declared.request.Find.{Find}
use Rattle.cdr_checks.specs.declared.request.Release.{Release}
use Rattle.cdr_checks.specs.declared.request.Settlement.{Settlement}
use Rattle.plain_house.specs.Booked.{Booked, booked_as, is_credited}
use Rattle.plain_house.specs.Entries.{account_entries, book_entries, charge_of, period_of}
use Rattle.plain_house.specs.Exposure.{exposure_of, of_pair, of_provider, released_hold}
use Rattle.plain_house.specs.Happened.{settles}
use Rattle.plain_house.specs.Full.{are_periods_full, are_versions_full, first_full, is_order_full}
use Rattle.plain_house.specs.House.{cdr_posted, credit_posted, credit_taken, found_of, full_for, full_for_cdr, over_credit, post_of, release_of, stored_already, unless_covered, unless_current, unless_open, unless_settled, unless_valid, verdict}
use Rattle.plain_house.specs.Known.{known}
use Rattle.plain_house.specs.Posting.{above, above_if_any, booked_already, credited_amount, is_in_window, meets_original, over_limit, taken_back, unless_registered}
use Rattle.plain_house.specs.Settlements.{is_settled}
use Rattle.plain_house.specs.Tariffs.{lacks_registered, stored_version}
use Rattle.plain_house.specs.Tokens.{validity}
use Rattle.plain_house.specs.Verdict.{Case, Verdict, refused_at, refused_for, unless}
use Rattle.plain_house.specs.declared.answer.Answer.{Answer}
use Rattle.plain_house.specs.declared.answer.Answer.TheVariants as answer
use Rattle.plain_house.specs.declared.entry.AccountEntry.{AccountEntry}
use Rattle.plain_house.specs.declared.entry.AccountEntry.TheVariants as account
use Rattle.plain_house.specs.declared.entry.Charge.{Charge}
use Rattle.plain_house.specs.declared.event.Event.{Event}
use Rattle.plain_house.specs.declared.event.Hold.{Hold}
use Rattle.plain_house.specs.declared.over_limit.OverLimit.{OverLimit}
use Rattle.plain_house.proofs.EntriesLemmas.{settled_in_events}
use Rattle.house_causes.specs.Causes.{authorize_in, cause_of, refused}
use Rattle.house_causes.specs.HouseCause.{is_by_event}
use Rattle.house_causes.specs.Laws.{CausesHaveEvents, EachRefusalHasACause, said_by_house}
use Rattle.house_causes.specs.Tokens.{blocked}
use Rattle.house_causes.specs.declared.house_cause.HouseCause.{HouseCause}
use Rattle.house_causes.specs.declared.house_cause.HouseReason.TheVariants as reason
use Rattle.house_causes.proofs.CreditLemmas.{credit_named, credited_by_an_event, unlike_its_original}
use Rattle.house_causes.proofs.DifferenceLemmas.{booked_otherwise, stored_otherwise}
use Rattle.house_causes.proofs.EventLemmas.{IsCaused, caused_of, is_caused_there}
use Rattle.house_causes.proofs.FirstLemmas.{has_place}
use Rattle.house_causes.proofs.UnknownLemmas.{hold_unknown, tariff_unregistered, token_unknown}

-- ---- in general

module _ (config : Config) (events : List Event) (asked : Command) where
  -- the refusal has a cause, which names an event if and only if an event gives its reason
  abbrev HasCause : Refusal → Type 0
  HasCause refused_so = IsCaused (refused config events asked refused_so)

  -- the reply is no refusal, or its refusal has a cause
  abbrev ReplyHas : Result Answer Refusal → Type 0
  ReplyHas (Ok answer) = Unit {0}
  ReplyHas (Err refused_so) = HasCause refused_so

  -- the same of the reply of a case that holds
  abbrev CaseHas : Case → Type 0
  CaseHas None = Unit {0}
  CaseHas (Some reply) = ReplyHas reply

  -- an amount is taken back, or the refusal has a cause
  abbrev AmountHas : Result ℤ Refusal → Type 0
  AmountHas (Ok amount) = Unit {0}
  AmountHas (Err refused_so) = HasCause refused_so

  abbrev AllHave : List Case → Type 0
  AllHave [] = Unit {0}
  AllHave (case ∷ cases) = CaseHas case × AllHave cases

  unless_has : (cases : List Case) (otherwise : Verdict) → AllHave cases → ReplyHas otherwise.reply → ReplyHas (unless cases otherwise).reply
  unless_has [] otherwise all last = last
  unless_has (None ∷ cases) otherwise all last = unless_has cases otherwise all.1 last
  unless_has (Some reply ∷ cases) otherwise all last = all.0

  full_has : (full : Option Store) → CaseHas (refused_at full)
  full_has None = tt
  full_has (Some what) = refl

  ensure_has : (b : Bool) (why : Refusal) (next : Unit {0} → Result ℤ Refusal) → (b ≡ false → HasCause why) → AmountHas (next tt)
      → AmountHas (ensure b why >>= next)
  ensure_has true why next here later = later
  ensure_has false why next here later = here refl

  limit_has : (one other : Option Refusal) → CaseHas (refused_for one) → CaseHas (refused_for other) → CaseHas (refused_for (option_or one other))
  limit_has None other h k = k
  limit_has (Some refused_so) other h k = h

  above_has : (limit exposure : ℕ) (pair : Bool) → CaseHas (refused_for (above limit exposure pair))
  above_has limit exposure pair = by (nat_lt limit exposure)
    where
      by : (b : Bool) → CaseHas (refused_for (if b then Some (refusal.OverLimit (pos exposure) (pos limit) pair) else None))
      by true = refl
      by false = tt

  above_any_has : (limit : Option ℕ) (exposure : ℕ) → CaseHas (refused_for (above_if_any limit exposure))
  above_any_has None exposure = tt
  above_any_has (Some limit) exposure = above_has limit exposure true

  over_limit_has : (charge : Charge) (entries : List AccountEntry) → CaseHas (refused_for (over_limit config charge entries))
  over_limit_has charge entries =
      let limit = limit_of config charge.provider charge.currency in
      let exposure = exposure_of (of_provider charge.provider charge.currency) (entries ++ account.Charge charge ∷ []) in
      let pair_limit = pair_limit_of config charge.operator charge.provider charge.currency in
      let pair_exposure = exposure_of (of_pair charge.operator charge.provider charge.currency) (entries ++ account.Charge charge ∷ []) in
      limit_has (above limit exposure false) (above_if_any pair_limit pair_exposure) (above_has limit exposure false) (above_any_has pair_limit pair_exposure)

-- ---- tariffs

stored_has : TariffsWithoutDifferenceAreSame → (config : Config) (events : List Event) (tariff : Tariff) (stored : Option Tariff)
    → stored_version tariff (book_entries events) ≡ stored → CaseHas config events (command.PutTariff tariff) (stored_already tariff stored)
stored_has law config events tariff None is = tt
stored_has law config events tariff (Some stored) is = by (same_tariff stored tariff) refl
  where
    by : (b : Bool) → same_tariff stored tariff ≡ b
        → ReplyHas config events (command.PutTariff tariff) (if b then Ok answer.Unchanged else Err refusal.Conflict)
    by true same = tt
    by false other = stored_otherwise law events tariff stored is other

-- ---- authorisations and releases

valid_has : (config : Config) (events : List Event) (ask : Authorize) (valid : Option Bool) → CaseHas config events (command.Authorize ask) (unless_valid valid)
valid_has config events ask None = token_unknown events ask
valid_has config events ask (Some true) = tt
valid_has config events ask (Some false) = tt

covered_has : (config : Config) (events : List Event) (asked : Command) (beyond : Option OverLimit) → CaseHas config events asked (unless_covered beyond)
covered_has config events asked None = tt
covered_has config events asked (Some over) = tt

release_has : (config : Config) (events : List Event) (release : Release) (hold : Option Hold) → released_hold (account_entries events) release ≡ hold
    → ReplyHas config events (command.Release release) (release_of config (known events) release hold).reply
release_has config events release None is = hold_unknown events release is
release_has config events release (Some hold) is =
    unless_has config events (command.Release release) (full_for config (known events) release.provider ∷ []) _ (full_has config events (command.Release release) _, tt) tt

-- ---- CDRs and Credit CDRs

module _ (config : Config) (events : List Event) (checked : Checked) where
  booked_has : CdrsWithoutDifferenceAreSame → (found : Option Booked) → booked_as checked.cdr.operator checked.cdr.id (book_entries events) ≡ found
      → CaseHas config events (command.Post checked) (booked_already checked.cdr found)
  booked_has law None is = tt
  booked_has law (Some found) is = by (same_cdr found.cdr checked.cdr) refl
    where
      by : (b : Bool) → same_cdr found.cdr checked.cdr ≡ b
          → ReplyHas config events (command.Post checked) (if b then Ok (answer.Repeated found.amount found.period) else Err refusal.Conflict)
      by true same = tt
      by false other = booked_otherwise law events checked.cdr found is other

  registered_has : (lacks : Bool) → lacks_registered checked.cdr (book_entries events) ≡ lacks → CaseHas config events (command.Post checked) (unless_registered lacks)
  registered_has true is = tariff_unregistered events checked.cdr is
  registered_has false is = tt

  cdr_has : CdrsWithoutDifferenceAreSame → (cost : ℕ) → ReplyHas config events (command.Post checked) (cdr_posted config (known events) checked.cdr cost).reply
  cdr_has law cost =
      let charge = charge_of checked.cdr cost (period_of events) in
      unless_has config events (command.Post checked)
      (booked_already checked.cdr (booked_as checked.cdr.operator checked.cdr.id (book_entries events)) ∷ unless_registered (lacks_registered checked.cdr (book_entries events))
      ∷ full_for_cdr config (known events) checked.cdr ∷ refused_for (over_limit config charge (account_entries events)) ∷ []) _ (
        booked_has law (booked_as checked.cdr.operator checked.cdr.id (book_entries events)) refl,
        (
          registered_has (lacks_registered checked.cdr (book_entries events)) refl,
          (full_has config events (command.Post checked) _, (over_limit_has config events (command.Post checked) charge (account_entries events), tt)),
        ),
      ) tt

  module _ (is_a_credit : is_credit checked.cdr ≡ true) where
    taken_has : (id : List ℕ) (original : Booked) → checked.cdr.credit ≡ Some id → booked_as checked.cdr.operator id (book_entries events) ≡ Some original
        → AmountHas config events (command.Post checked)
        (taken_back config (period_of events) checked.cdr (is_credited original.cdr.operator original.cdr.id (book_entries events)) original)
    taken_has id original named stands =
        let credited = is_credited original.cdr.operator original.cdr.id (book_entries events) in
        ensure_has config events (command.Post checked) (not (is_credit original.cdr)) refusal.CreditOfCredit _
        (λ of_credit. credit_named config events checked.cdr id named original stands)
        (ensure_has config events (command.Post checked) (not credited) refusal.AlreadyCredited _
        (λ again. credited_by_an_event config events checked.cdr id named original stands (not-false credited again))
        (ensure_has config events (command.Post checked) (is_in_window config.credit_window original.period (period_of events)) (refusal.TooLate original.period (period_of events)) _
        (λ late. refl)
        (ensure_has config events (command.Post checked) (meets_original config checked.cdr original) refusal.CreditDiffers _
        (λ differs. unlike_its_original config events checked.cdr id named original stands differs) tt)))

    amount_has : AmountHas config events (command.Post checked) (credited_amount config (period_of events) checked.cdr (book_entries events))
    amount_has = by_reference checked.cdr.credit refl
      where
        by_original : (id : List ℕ) → checked.cdr.credit ≡ Some id → (original : Option Booked) → booked_as checked.cdr.operator id (book_entries events) ≡ original
            → AmountHas config events (command.Post checked)
            (or_refusal refusal.UnknownOriginal original >>= λ found. taken_back config (period_of events) checked.cdr (is_credited found.cdr.operator found.cdr.id (book_entries events)) found)
        by_original id named None stands = caused_of _ checked.cdr.credit is_a_credit (λ it. refl)
        by_original id named (Some original) stands = taken_has id original named stands

        by_reference : (reference : Option (List ℕ)) → checked.cdr.credit ≡ reference
            → AmountHas config events (command.Post checked)
            (or_refusal refusal.UnknownOriginal (option_and_then (λ id. booked_as checked.cdr.operator id (book_entries events)) reference)
            >>= λ found. taken_back config (period_of events) checked.cdr (is_credited found.cdr.operator found.cdr.id (book_entries events)) found)
        by_reference None is = absurd (let e : false ≡ true = ap is_some (sym is) ∙ is_a_credit in cc)
        by_reference (Some id) is = by_original id is (booked_as checked.cdr.operator id (book_entries events)) refl

    taking_has : (amount : Result ℤ Refusal) → AmountHas config events (command.Post checked) amount
        → ReplyHas config events (command.Post checked) (credit_taken config (known events) checked.cdr amount).reply
    taking_has (Err refused_so) has = has
    taking_has (Ok amount) has =
        unless_has config events (command.Post checked) (full_for_cdr config (known events) checked.cdr ∷ []) _ (full_has config events (command.Post checked) _, tt) tt

    credit_has : CdrsWithoutDifferenceAreSame → ReplyHas config events (command.Post checked) (credit_posted config (known events) checked.cdr).reply
    credit_has law =
        unless_has config events (command.Post checked) (booked_already checked.cdr (booked_as checked.cdr.operator checked.cdr.id (book_entries events)) ∷ []) _
        (booked_has law (booked_as checked.cdr.operator checked.cdr.id (book_entries events)) refl, tt)
        (taking_has (credited_amount config (period_of events) checked.cdr (book_entries events)) amount_has)

  post_has : CdrsWithoutDifferenceAreSame → (cost : Option ℕ) → IsCostOf cost checked.cdr checked.zone
      → ReplyHas config events (command.Post checked) (post_of config (known events) checked.cdr cost).reply
  post_has law None is_a_credit = credit_has is_a_credit law
  post_has law (Some cost) at_cost = cdr_has law cost

-- ---- periods and CDRs that are asked for

current_has : (config : Config) (events : List Event) (close : Close) → CaseHas config events (command.Close close) (unless_current close.period (period_of events))
current_has config events close = by (close.period == period_of events)
  where
    named : (b : Bool) → false ≡ is_by_event (if b then reason.ClosedAlready close.period (period_of events) else reason.NotCurrentYet close.period (period_of events))
    named true = refl
    named false = refl

    by : (b : Bool) → CaseHas config events (command.Close close) (if b then None else Some (Err (refusal.NotCurrent (period_of events))))
    by true = tt
    by false = named (nat_lt close.period (period_of events))

open_has : (config : Config) (events : List Event) (asked : Command) (period : ℕ) → HasCause config events asked refusal.PeriodOpen
    → CaseHas config events asked (unless_open period (period_of events))
open_has config events asked period has = by (nat_lt period (period_of events))
  where
    by : (b : Bool) → CaseHas config events asked (if b then None else Some (Err refusal.PeriodOpen))
    by true = tt
    by false = has

settled_has : (config : Config) (events : List Event) (settlement : Settlement) (settled : Bool) → is_settled settlement (account_entries events) ≡ settled
    → CaseHas config events (command.Settle settlement) (unless_settled settled)
settled_has config events settlement true is = has_place (settles settlement) events (sym (settled_in_events settlement events) ∙ is)
settled_has config events settlement false is = tt

find_has : (config : Config) (events : List Event) (find : Find) (found : Option Booked)
    → ReplyHas config events (command.Find find) (found_of find (book_entries events) found).reply
find_has config events find None = refl
find_has config events find (Some found) = tt

-- ---- all commands

module _ (posts : PostsAreChecked) (cdrs : CdrsWithoutDifferenceAreSame) (tariffs : TariffsWithoutDifferenceAreSame) where
  reply_has : (config : Config) (events : List Event) (asked : Command) → IsAdmitted config asked
      → ReplyHas config events asked (verdict config (known events) asked).reply
  reply_has config events (command.PutTariff tariff) admitted =
      unless_has config events (command.PutTariff tariff)
      (stored_already tariff (stored_version tariff (book_entries events))
      ∷ refused_at (first_full ((store.Tariffs, are_versions_full config tariff.operator (book_entries events)) ∷ (store.Order, is_order_full config (length events)) ∷ []))
      ∷ []) _
      (stored_has tariffs config events tariff (stored_version tariff (book_entries events)) refl, (full_has config events (command.PutTariff tariff) _, tt)) tt
  reply_has config events (command.PutToken token) admitted =
      unless_has config events (command.PutToken token) (full_for config (known events) token.provider ∷ []) _ (full_has config events (command.PutToken token) _, tt) tt
  reply_has config events (command.Authorize ask) admitted =
      unless_has config events (command.Authorize ask)
      (unless_valid (validity ask.provider ask.uid ask.kind (account_entries events)) ∷ full_for config (known events) ask.provider ∷ unless_covered (over_credit config ask (account_entries events)) ∷ []) _ (
        valid_has config events ask (validity ask.provider ask.uid ask.kind (account_entries events)),
        (full_has config events (command.Authorize ask) _, (covered_has config events (command.Authorize ask) (over_credit config ask (account_entries events)), tt)),
      ) tt
  reply_has config events (command.Release release) admitted = release_has config events release (released_hold (account_entries events) release) refl
  reply_has config events (command.Post checked) admitted = post_has config events checked cdrs checked.cost (posts config checked admitted).at_cost
  reply_has config events (command.Close close) admitted =
      unless_has config events (command.Close close)
      (unless_current close.period (period_of events)
      ∷ refused_at (first_full ((store.Order, is_order_full config (length events)) ∷ (store.Periods, are_periods_full config (period_of events)) ∷ []))
      ∷ []) _
      (current_has config events close, (full_has config events (command.Close close) _, tt)) tt
  reply_has config events (command.Settle settlement) admitted =
      unless_has config events (command.Settle settlement)
      (unless_open settlement.period (period_of events) ∷ unless_settled (is_settled settlement (account_entries events)) ∷ full_for config (known events) settlement.provider ∷ []) _ (
        open_has config events (command.Settle settlement) settlement.period refl,
        (settled_has config events settlement (is_settled settlement (account_entries events)) refl, (full_has config events (command.Settle settlement) _, tt)),
      ) tt
  reply_has config events (command.Exposure ask) admitted = tt
  reply_has config events (command.Find find) admitted = find_has config events find (booked_as find.operator find.id (book_entries events))
  reply_has config events (command.Statement ask) admitted =
      unless_has config events (command.Statement ask) (unless_open ask.period (period_of events) ∷ []) _
      (open_has config events (command.Statement ask) ask.period refl, tt) tt

  caused : (config : Config) (events : List Event) (asked : Command) (refused_so : Refusal) → IsAdmitted config asked
      → said_by_house config events asked ≡ Err refused_so → HasCause config events asked refused_so
  caused config events asked refused_so admitted said = subst (ReplyHas config events asked) said (reply_has config events asked admitted)

  pub each_has : EachRefusalHasACause
  each_has config events asked refused_so admitted said = is_caused_there (refused config events asked refused_so) (caused config events asked refused_so admitted said)

  pub has_its_event : CausesHaveEvents
  has_its_event config events asked cause admitted is = by (said_by_house config events asked) refl is
    where
      named : (o : Option HouseCause) → IsCaused o → o ≡ Some cause → is_some cause.event ≡ is_by_event cause.reason
      named o its same = subst IsCaused same its

      blocked_by : (ask : Option Authorize) → option_map (λ it. blocked it) ask ≡ Some cause → is_some cause.event ≡ is_by_event cause.reason
      blocked_by None same = absurd (cc)
      blocked_by (Some ask) same = subst IsCaused same refl

      by : (reply : Result Answer Refusal) → said_by_house config events asked ≡ reply → cause_of config events asked reply ≡ Some cause
          → is_some cause.event ≡ is_by_event cause.reason
      by (Err refused_so) said same = named (refused config events asked refused_so) (caused config events asked refused_so admitted said) same
      by (Ok answer.Blocked) said same = blocked_by (authorize_in asked) same
      by (Ok (answer.NoCredit over)) said same = subst IsCaused same refl
      by (Ok answer.Stored) said same = absurd (cc)
      by (Ok answer.Unchanged) said same = absurd (cc)
      by (Ok (answer.Allowed reference)) said same = absurd (cc)
      by (Ok (answer.Released amount)) said same = absurd (cc)
      by (Ok (answer.Accepted amount period)) said same = absurd (cc)
      by (Ok (answer.Repeated amount period)) said same = absurd (cc)
      by (Ok (answer.Closed period positions)) said same = absurd (cc)
      by (Ok (answer.Settled amount)) said same = absurd (cc)
      by (Ok (answer.Exposure holds debts limit)) said same = absurd (cc)
      by (Ok (answer.Found amount period credited)) said same = absurd (cc)
      by (Ok (answer.Statement rows)) said same = absurd (cc)
