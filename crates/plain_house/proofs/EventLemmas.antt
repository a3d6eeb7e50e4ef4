-- What is so of the event that a command adds, by what was tested before it is added.
use Rattle.std.proofs.Common.{◌≡◌, ℕ, ◌==◌, ℤ, pos, List, [], ◌∷◌, Bool, true, false, if◌then◌else◌, refl, subst, eqb-true, Option, None, Some, Result, Ok, Err}
use Rattle.ocpi_types.specs.declared.cdr.Cdr.{Cdr}
use Rattle.ocpi_types.specs.declared.config.Config.{Config}
use Rattle.ocpi_types.specs.declared.party.Party.{Party}
use Rattle.ocpi_types.specs.declared.refusal.Refusal.{Refusal}
use Rattle.ocpi_types.specs.declared.refusal.Refusal.TheVariants as refusal
use Rattle.ocpi_types.specs.declared.refusal.Store.{Store}
use Rattle.ocpi_types.specs.declared.refusal.Store.TheVariants as store
use Rattle.cdr_checks.specs.declared.request.Command.{Command}
use Rattle.cdr_checks.specs.declared.request.Command.TheVariants as command
use Rattle.cdr_checks.specs.declared.request.Find.{Find}
use Rattle.cdr_checks.specs.declared.request.Release.{Release}
use Rattle.cdr_checks.specs.Parties.{CommandsHaveParties, HasParties}
use Rattle.plain_house.specs.declared.answer.Answer.{Answer}
use Rattle.plain_house.specs.declared.answer.Answer.TheVariants as answer
use Rattle.plain_house.specs.declared.event.Event.{Event}
use Rattle.plain_house.specs.declared.event.Event.TheVariants as event
use Rattle.plain_house.specs.declared.event.Hold.{Hold}
use Rattle.plain_house.specs.declared.over_limit.OverLimit.{OverLimit}
use Rattle.plain_house.specs.Booked.{Booked, booked_as}
use Rattle.plain_house.specs.Entries.{charge_of}
use Rattle.plain_house.specs.Exposure.{released_hold}
use Rattle.plain_house.specs.House.{cdr_posted, credit_taken, found_of, full_for, full_for_cdr, hold_for, over_credit, positions_in, post_of, release_of, stored_already, unless_covered, unless_current, unless_open, unless_settled, unless_valid, verdict}
use Rattle.plain_house.specs.Known.{Known}
use Rattle.plain_house.specs.Legal.{EventsAreOfConfigured, IsOfConfigured}
use Rattle.plain_house.specs.Obligations.{obligations}
use Rattle.plain_house.specs.Own.{EventsAreOfTheirCommand, IsOfCommand}
use Rattle.plain_house.specs.Posting.{booked_already, credited_amount, over_limit, unless_registered}
use Rattle.plain_house.specs.Full.{are_cdrs_full, are_periods_full, are_versions_full, first_full, is_account_full, is_order_full}
use Rattle.plain_house.specs.Settlements.{is_settled, settled_debt}
use Rattle.plain_house.specs.Tariffs.{lacks_registered, stored_version}
use Rattle.plain_house.specs.Tokens.{validity}
use Rattle.plain_house.specs.Verdict.{Case, accepts, refused_at, refused_for, replies, unless}
use Rattle.netting_positions.specs.Statement.{statement_rows}
use Rattle.plain_house.proofs.VerdictLemmas.{NoneHolds, no_refusal, unless_event}

-- ---- cases that do not hold

first_is_not : (what : Store) (full : Bool) (stores : List (Store × Bool)) → refused_at (first_full ((what, full) ∷ stores)) ≡ None → full ≡ false
first_is_not what true stores h = absurd (cc)
first_is_not what false stores h = refl

second_is_not : (one other : Store) (full also : Bool) (stores : List (Store × Bool)) → refused_at (first_full ((one, full) ∷ (other, also) ∷ stores)) ≡ None → also ≡ false
second_is_not one other true also stores h = absurd (cc)
second_is_not one other false true stores h = absurd (cc)
second_is_not one other false false stores h = refl

not_booked : (cdr : Cdr) (found : Option Booked) → booked_already cdr found ≡ None → found ≡ None
not_booked cdr None h = refl
not_booked cdr (Some found) h = absurd (cc)

are_registered : (lacks : Bool) → unless_registered lacks ≡ None → lacks ≡ false
are_registered true h = absurd (cc)
are_registered false h = refl

is_covered : (over : Option OverLimit) → unless_covered over ≡ None → over ≡ None
is_covered None h = refl
is_covered (Some over) h = absurd (cc)

abbrev current_case : Bool → ℕ → Case
current_case is_current current = if is_current then None else Some (Err (refusal.NotCurrent current))

current_period : (period current : ℕ) → unless_current period current ≡ None → period ≡ current
current_period period current h = by (period == current) refl h
  where
    by : (b : Bool) → (period == current) ≡ b → current_case b current ≡ None → period ≡ current
    by true same h = eqb-true period current same
    by false same h = absurd (cc)

-- ---- the event

module _ (config : Config) (known : Known) where
  abbrev pub IsNotFull : Party → Type 0
  IsNotFull provider = is_account_full config provider known.account ≡ false

  has_room : (provider : Party) → full_for config known provider ≡ None → IsNotFull provider
  has_room provider none = first_is_not store.Account (is_account_full config provider known.account) ((store.Order, is_order_full config known.point) ∷ []) none

  has_cdr_room : (cdr : Cdr) → full_for_cdr config known cdr ≡ None → are_cdrs_full config cdr.operator known.book ≡ false
  has_cdr_room cdr none =
      first_is_not store.Cdrs (are_cdrs_full config cdr.operator known.book)
      ((store.Account, is_account_full config cdr.cdr_token.provider known.account) ∷ (store.Order, is_order_full config known.point) ∷ []) none

  has_account_room : (cdr : Cdr) → full_for_cdr config known cdr ≡ None → IsNotFull cdr.cdr_token.provider
  has_account_room cdr none =
      second_is_not store.Cdrs store.Account (are_cdrs_full config cdr.operator known.book) (is_account_full config cdr.cdr_token.provider known.account)
      ((store.Order, is_order_full config known.point) ∷ []) none

  has_version_room : (operator : Party) → refused_at (first_full ((store.Tariffs, are_versions_full config operator known.book) ∷ (store.Order, is_order_full config known.point) ∷ [])) ≡ None
      → are_versions_full config operator known.book ≡ false
  has_version_room operator none = first_is_not store.Tariffs (are_versions_full config operator known.book) ((store.Order, is_order_full config known.point) ∷ []) none

module _ (config : Config) (known : Known) (Has : Event → Type 0) where
  abbrev pub GivesPost : Cdr → Option ℕ → Type 0
  GivesPost cdr None =
      (amount : ℤ) → booked_as cdr.operator cdr.id known.book ≡ None → credited_amount config known.period cdr known.book ≡ Ok amount →
      are_cdrs_full config cdr.operator known.book ≡ false → IsNotFull config known cdr.cdr_token.provider → Has (event.Credit cdr amount)
  GivesPost cdr (Some cost) =
      booked_as cdr.operator cdr.id known.book ≡ None → lacks_registered cdr known.book ≡ false → are_cdrs_full config cdr.operator known.book ≡ false →
      IsNotFull config known cdr.cdr_token.provider → over_limit config (charge_of cdr cost known.period) known.account ≡ None → Has (event.Cdr cdr cost)

  -- it is so of each event that the command can add, after its tests
  abbrev pub Gives : Command → Type 0
  Gives (command.PutTariff tariff) = are_versions_full config tariff.operator known.book ≡ false → Has (event.Tariff tariff)
  Gives (command.PutToken token) = IsNotFull config known token.provider → Has (event.Token token)
  Gives (command.Authorize ask) =
      IsNotFull config known ask.provider → over_credit config ask known.account ≡ None → Has (event.Authorised (hold_for config ask known.account))
  Gives (command.Release release) = IsNotFull config known release.provider → Has (event.Released release)
  Gives (command.Post checked) = GivesPost checked.cdr checked.cost
  Gives (command.Close close) = close.period ≡ known.period → Has (event.Closed close.period)
  Gives (command.Settle settlement) = IsNotFull config known settlement.provider → Has (event.Settled settlement)
  Gives (command.Exposure ask) = Unit {0}
  Gives (command.Find find) = Unit {0}
  Gives (command.Statement ask) = Unit {0}

  module _ (e : Event) where
    accepted : (cases : List Case) (told : Answer) (x : Event) → (unless cases (accepts told x)).event ≡ Some e → (NoneHolds cases → Has x) → Has e
    accepted cases told x h has =
        let found = unless_event cases (accepts told x) e h in
        let same : x ≡ e = cc (found.1) in
        subst Has same (has found.0)

    of_cdr : (cdr : Cdr) (cost : ℕ) → (cdr_posted config known cdr cost).event ≡ Some e → GivesPost cdr (Some cost) → Has e
    of_cdr cdr cost h gives =
        let found = booked_as cdr.operator cdr.id known.book in
        let over = over_limit config (charge_of cdr cost known.period) known.account in
        accepted
        (booked_already cdr found ∷ unless_registered (lacks_registered cdr known.book) ∷ full_for_cdr config known cdr ∷ refused_for over ∷ [])
        (answer.Accepted (pos cost) known.period) (event.Cdr cdr cost) h
        (λ none.
        gives (not_booked cdr found none.0) (are_registered (lacks_registered cdr known.book) none.1.0) (has_cdr_room config known cdr none.1.1.0)
        (has_account_room config known cdr none.1.1.0) (no_refusal over none.1.1.1.0))

    of_taken : (cdr : Cdr) (taken : Result ℤ Refusal) → credited_amount config known.period cdr known.book ≡ taken → booked_as cdr.operator cdr.id known.book ≡ None
        → (credit_taken config known cdr taken).event ≡ Some e → GivesPost cdr None → Has e
    of_taken cdr (Err why) is found h gives = absurd (cc)
    of_taken cdr (Ok amount) is found h gives =
        accepted (full_for_cdr config known cdr ∷ []) (answer.Accepted amount known.period) (event.Credit cdr amount) h
        (λ none. gives amount found is (has_cdr_room config known cdr none.0) (has_account_room config known cdr none.0))

    of_credit : (cdr : Cdr) (found : Option Booked) → booked_as cdr.operator cdr.id known.book ≡ found
        → (unless (booked_already cdr found ∷ []) (credit_taken config known cdr (credited_amount config known.period cdr known.book))).event ≡ Some e → GivesPost cdr None → Has e
    of_credit cdr None is h gives = of_taken cdr (credited_amount config known.period cdr known.book) refl is h gives
    of_credit cdr (Some found) is h gives = absurd (cc)

    of_post : (cdr : Cdr) (cost : Option ℕ) → (post_of config known cdr cost).event ≡ Some e → GivesPost cdr cost → Has e
    of_post cdr None h gives = of_credit cdr (booked_as cdr.operator cdr.id known.book) refl h gives
    of_post cdr (Some cost) h gives = of_cdr cdr cost h gives

    of_release : (release : Release) (hold : Option Hold) → (release_of config known release hold).event ≡ Some e → Gives (command.Release release) → Has e
    of_release release None h gives = absurd (cc)
    of_release release (Some held) h gives =
        accepted (full_for config known release.provider ∷ []) (answer.Released (pos held.amount)) (event.Released release) h
        (λ none. gives (has_room config known release.provider none.0))

    of_find : (find : Find) (found : Option Booked) → (found_of find known.book found).event ≡ Some e → Has e
    of_find find None h = absurd (cc)
    of_find find (Some found) h = absurd (cc)

    pub event_has : (told : Command) → Gives told → (verdict config known told).event ≡ Some e → Has e
    event_has (command.PutTariff tariff) gives h =
        accepted
        (stored_already tariff (stored_version tariff known.book)
        ∷ refused_at (first_full ((store.Tariffs, are_versions_full config tariff.operator known.book) ∷ (store.Order, is_order_full config known.point) ∷ []))
        ∷ []) answer.Stored (event.Tariff tariff) h (λ none. gives (has_version_room config known tariff.operator none.1.0))
    event_has (command.PutToken token) gives h =
        accepted (full_for config known token.provider ∷ []) answer.Stored (event.Token token) h (λ none. gives (has_room config known token.provider none.0))
    event_has (command.Authorize ask) gives h =
        accepted
        (unless_valid (validity ask.provider ask.uid ask.kind known.account) ∷ full_for config known ask.provider
        ∷ unless_covered (over_credit config ask known.account) ∷ []) (answer.Allowed (hold_for config ask known.account).reference)
        (event.Authorised (hold_for config ask known.account)) h
        (λ none. gives (has_room config known ask.provider none.1.0) (is_covered (over_credit config ask known.account) none.1.1.0))
    event_has (command.Release release) gives h = of_release release (released_hold known.account release) h gives
    event_has (command.Post checked) gives h = of_post checked.cdr checked.cost h gives
    event_has (command.Close close) gives h =
        accepted
        (unless_current close.period known.period
        ∷ refused_at (first_full ((store.Order, is_order_full config known.point) ∷ (store.Periods, are_periods_full config known.period) ∷ []))
        ∷ []) (answer.Closed close.period (positions_in config known.book close.period)) (event.Closed close.period) h
        (λ none. gives (current_period close.period known.period none.0))
    event_has (command.Settle settlement) gives h =
        accepted
        (unless_open settlement.period known.period ∷ unless_settled (is_settled settlement known.account) ∷ full_for config known settlement.provider ∷ [])
        (answer.Settled (pos (settled_debt settlement known.account))) (event.Settled settlement) h (λ none. gives (has_room config known settlement.provider none.1.1.0))
    event_has (command.Exposure ask) gives h = absurd (cc)
    event_has (command.Find find) gives h = of_find find (booked_as find.operator find.id known.book) h
    event_has (command.Statement ask) gives h =
        let none = unless_event (unless_open ask.period known.period ∷ []) (replies (Ok (answer.Statement (statement_rows ask.party (obligations ask.period known.book))))) e h in
        absurd (cc (none.1))

-- ---- whose it is

gives_own : (config : Config) (known : Known) (told : Command) → Gives config known (IsOfCommand told) told
gives_own config known (command.PutTariff tariff) = λ room. (refl, refl)
gives_own config known (command.PutToken token) = λ room. (refl, refl)
gives_own config known (command.Authorize ask) = λ room covered. (refl, refl)
gives_own config known (command.Release release) = λ room. (refl, refl)
gives_own config known (command.Post checked) = by checked.cost
  where
    by : (cost : Option ℕ) → GivesPost config known (IsOfCommand (command.Post checked)) checked.cdr cost
    by None = λ amount unknown taken room account. (refl, refl)
    by (Some cost) = λ unknown registered room account within. (refl, refl)
gives_own config known (command.Close close) = λ current. (refl, refl)
gives_own config known (command.Settle settlement) = λ room. (refl, refl)
gives_own config known (command.Exposure ask) = tt
gives_own config known (command.Find find) = tt
gives_own config known (command.Statement ask) = tt

pub of_their_command : EventsAreOfTheirCommand
of_their_command config known told e h = event_has config known (IsOfCommand told) e told (gives_own config known told) h

-- ---- its parties are configured

abbrev ClosesNow : ℕ → Event → Type 0
ClosesNow current (event.Closed period) = period ≡ current
ClosesNow current e = Unit {0}

gives_now : (config : Config) (known : Known) (told : Command) → Gives config known (ClosesNow known.period) told
gives_now config known (command.PutTariff tariff) = λ room. tt
gives_now config known (command.PutToken token) = λ room. tt
gives_now config known (command.Authorize ask) = λ room covered. tt
gives_now config known (command.Release release) = λ room. tt
gives_now config known (command.Post checked) = by checked.cost
  where
    by : (cost : Option ℕ) → GivesPost config known (ClosesNow known.period) checked.cdr cost
    by None = λ amount unknown taken room account. tt
    by (Some cost) = λ unknown registered room account within. tt
gives_now config known (command.Close close) = λ current. current
gives_now config known (command.Settle settlement) = λ room. tt
gives_now config known (command.Exposure ask) = tt
gives_now config known (command.Find find) = tt
gives_now config known (command.Statement ask) = tt

configured_of : (config : Config) (known : Known) (told : Command) (e : Event) → HasParties config told → IsOfCommand told e → ClosesNow known.period e
    → IsOfConfigured config known.period e
configured_of config known told (event.Tariff tariff) parties its now = parties.operator tariff.operator its.0
configured_of config known told (event.Token token) parties its now = parties.provider token.provider its.1
configured_of config known told (event.Authorised hold) parties its now = parties.provider hold.provider its.1
configured_of config known told (event.Released release) parties its now = parties.provider release.provider its.1
configured_of config known told (event.Cdr cdr cost) parties its now = (parties.operator cdr.operator its.0, parties.provider cdr.cdr_token.provider its.1)
configured_of config known told (event.Credit cdr amount) parties its now = (parties.operator cdr.operator its.0, parties.provider cdr.cdr_token.provider its.1)
configured_of config known told (event.Settled settlement) parties its now = parties.provider settlement.provider its.1
configured_of config known told (event.Closed period) parties its now = now

pub of_configured : CommandsHaveParties → EventsAreOfConfigured
of_configured of_commands config known e given =
    let told = given.0 in
    configured_of config known told e (of_commands config told given.1) (of_their_command config known told e given.2)
    (event_has config known (ClosesNow known.period) e told (gives_now config known told) given.2)
