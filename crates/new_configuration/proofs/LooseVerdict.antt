-- What a command adds under a configuration, it adds under the loosest one beside it.
use Rattle.std.proofs.Common.{◌≡◌, ◌≤◌, ◌<◌, ◌+◌, ℕ, ℤ, pos, neg_ℤ, List, [], ◌∷◌, ◌++◌, Bool, true, false, not, int_le, nat_le, nat_lt, count_by, arith, refl, ap, ap₂, ◌∙◌, Option, None, Some, is_none, Result, Ok, Err, if◌then◌else◌, max, ◌^◌}
use Rattle.std.specs.Option.{option_or}
use Rattle.std.proofs.lemmas.Bool.{leb-false, lt-leb, ltb-false, ltb-true}
use Rattle.std.proofs.Math.Nat.{le-max_left}
use Rattle.ocpi_types.specs.declared.cdr.Cdr.{Cdr}
use Rattle.ocpi_types.specs.declared.config.Config.{Config}
use Rattle.ocpi_types.specs.declared.party.Party.{Party}
use Rattle.ocpi_types.specs.declared.refusal.Refusal.{Refusal}
use Rattle.ocpi_types.specs.declared.refusal.Refusal.TheVariants as refusal
use Rattle.ocpi_types.specs.declared.refusal.Store.{Store}
use Rattle.ocpi_types.specs.declared.refusal.Store.TheVariants as store
use Rattle.ocpi_types.specs.Cdr.{is_credit}
use Rattle.ocpi_types.specs.Config.{hold_of, limit_of, pair_limit_of}
use Rattle.ocpi_types.specs.Currency.{same_currency}
use Rattle.ocpi_types.specs.Party.{same_party}
use Rattle.cdr_checks.specs.CdrConditions.{is_within_tolerance}
use Rattle.cdr_checks.specs.FirstRefusal.{ensure, or_refusal}
use Rattle.cdr_checks.specs.declared.request.Authorize.{Authorize}
use Rattle.cdr_checks.specs.declared.request.Command.{Command}
use Rattle.cdr_checks.specs.declared.request.Command.TheVariants as command
use Rattle.cdr_checks.specs.declared.request.Release.{Release}
use Rattle.plain_house.specs.declared.answer.Answer.{Answer}
use Rattle.plain_house.specs.declared.answer.Answer.TheVariants as answer
use Rattle.plain_house.specs.declared.entry.AccountEntry.TheVariants as account
use Rattle.plain_house.specs.declared.event.Event.{Event}
use Rattle.plain_house.specs.declared.event.Event.TheVariants as event
use Rattle.plain_house.specs.declared.event.Hold.{Hold}
use Rattle.plain_house.specs.declared.over_limit.OverLimit.{OverLimit}
use Rattle.plain_house.specs.declared.posting.CreditDifference.TheVariants.{AboveZero, Cost, Currency, Provider}
use Rattle.plain_house.specs.Booked.{Booked, booked_as, is_credited}
use Rattle.plain_house.specs.Entries.{charge_of}
use Rattle.plain_house.specs.Exposure.{exposure_of, of_pair, of_provider, released_hold}
use Rattle.plain_house.specs.Full.{are_cdrs_full, are_periods_full, are_versions_full, first_full, is_account_full, is_order_full}
use Rattle.plain_house.specs.House.{allows, credit_taken, full_for, full_for_cdr, hold_for, is_hold_of, over_credit, positions_in, post_of, reference_text, release_of, stored_already, unless_covered, unless_current, unless_open, unless_settled, unless_valid, verdict}
use Rattle.plain_house.specs.Known.{Known}
use Rattle.plain_house.specs.OverLimit.{over, over_if_any}
use Rattle.plain_house.specs.Posting.{above, above_if_any, booked_already, credit_difference, credited_amount, is_in_window, meets_original, original_of, over_limit, taken_back, unless_registered}
use Rattle.plain_house.specs.Settlements.{is_settled}
use Rattle.plain_house.specs.Tariffs.{lacks_registered, stored_version}
use Rattle.plain_house.specs.Tokens.{validity}
use Rattle.plain_house.specs.Verdict.{Case, Verdict, accepts, refused_at, refused_for, unless}
use Rattle.plain_house.proofs.VerdictLemmas.{NoneHolds, no_refusal, unless_event}
use Rattle.new_configuration.specs.Loosened.{loosened}
use Rattle.new_configuration.proofs.LooseAdmission.{allowed, goes_on, higher_tolerance}
use Rattle.new_configuration.proofs.LooseLemmas.{higher_limit, same_hold, same_spelling}

-- ---- cases

-- where none of these holds, the verdict is given
all_pass : (cases : List Case) (given : Verdict) → NoneHolds cases → (unless cases given).event ≡ given.event
all_pass [] given none = refl
all_pass (case ∷ cases) given none = ap (λ (c : Case). (unless (c ∷ cases) given).event) none.0 ∙ all_pass cases given none.1

-- an event is added where no more cases hold, whatever is answered
still_added : (cases others : List Case) (one other : Answer) (added e : Event) → (NoneHolds cases → NoneHolds others)
    → (unless cases (accepts one added)).event ≡ Some e → (unless others (accepts other added)).event ≡ Some e
still_added cases others one other added e fewer h =
    let none = unless_event cases (accepts one added) e h in
    all_pass others (accepts other added) (fewer none.0) ∙ none.1

-- ---- sizes

-- none of these stores is full
abbrev HaveRoom : List (Store × Bool) → Type 0
HaveRoom [] = Unit {0}
HaveRoom ((what, is_full) ∷ stores) = (is_full ≡ false) × HaveRoom stores

room_in : (stores : List (Store × Bool)) → refused_at (first_full stores) ≡ None → HaveRoom stores
room_in [] h = tt
room_in ((what, true) ∷ stores) h = absurd (cc)
room_in ((what, false) ∷ stores) h = (refl, room_in stores h)

none_full : (stores : List (Store × Bool)) → HaveRoom stores → refused_at (first_full stores) ≡ None
none_full [] room = refl
none_full ((what, is_full) ∷ stores) room =
    ap (λ (b : Bool). refused_at (if b then Some what else first_full stores)) room.0 ∙ none_full stores room.1

larger : (most bound count : ℕ) → nat_le most count ≡ false → nat_le (max most bound) count ≡ false
larger most bound count h =
    let less : count < most = leb-false most count h in
    let above : most ≤ max most bound = le-max_left most bound in
    lt-leb (max most bound) count (omega (arith, less, above))

-- ---- limits

within : (limit amount : ℕ) → amount ≤ limit → nat_lt limit amount ≡ false
within limit amount h = by (nat_lt limit amount) refl
  where
    by : (b : Bool) → nat_lt limit amount ≡ b → nat_lt limit amount ≡ false
    by false e = e
    by true e = absurd (let less = ltb-true limit amount e in omega arith)

still_within : (lower limit amount : ℕ) → lower ≤ limit → nat_lt lower amount ≡ false → nat_lt limit amount ≡ false
still_within lower limit amount h e = within limit amount (let most = ltb-false lower amount e in omega arith)

is_covered : (found : Option OverLimit) → unless_covered found ≡ None → found ≡ None
is_covered None h = refl
is_covered (Some over) h = absurd (cc)

test_fails : {X : Type 0} (x : X) (b : Bool) → (if b then Some x else None) ≡ None → b ≡ false
test_fails x true h = absurd (cc)
test_fails x false h = refl

-- an amount that is not above a limit is not above a higher limit
still_none : {X : Type 0} (x y : X) (lower limit amount : ℕ) → lower ≤ limit
    → (if nat_lt lower amount then Some x else None) ≡ None → (if nat_lt limit amount then Some y else None) ≡ None
still_none x y lower limit amount h e =
    ap (λ (b : Bool). if b then Some y else None) (still_within lower limit amount h (test_fails x (nat_lt lower amount) e))

first_none : {X : Type 0} (a b : Option X) → option_or a b ≡ None → a ≡ None
first_none None b h = refl
first_none (Some x) b h = absurd (cc)

module _ (config : Config) (now : Known) where
  abbrev loose : Config
  loose = loosened config

  room_for : (provider : Party) → full_for config now provider ≡ None → full_for loose now provider ≡ None
  room_for provider h =
      let room = room_in ((store.Account, is_account_full config provider now.account) ∷ (store.Order, is_order_full config now.point) ∷ []) h in
      none_full ((store.Account, is_account_full loose provider now.account) ∷ (store.Order, is_order_full loose now.point) ∷ [])
      (larger config.limits.entries 10_000_000 _ room.0, (larger config.limits.order 10_000_000 now.point room.1.0, tt))

  room_for_cdr : (cdr : Cdr) → full_for_cdr config now cdr ≡ None → full_for_cdr loose now cdr ≡ None
  room_for_cdr cdr h =
      let room = room_in
      ((store.Cdrs, are_cdrs_full config cdr.operator now.book) ∷ (store.Account, is_account_full config cdr.cdr_token.provider now.account) ∷ (store.Order, is_order_full config now.point) ∷ []) h in
      none_full ((store.Cdrs, are_cdrs_full loose cdr.operator now.book) ∷ (store.Account, is_account_full loose cdr.cdr_token.provider now.account) ∷ (store.Order, is_order_full loose now.point) ∷ [])
      (larger config.limits.cdrs 100_000 _ room.0, (larger config.limits.entries 10_000_000 _ room.1.0, (larger config.limits.order 10_000_000 now.point room.1.1.0, tt)))

  -- ---- authorisations

  hold_is : (ask : Authorize) → hold_for loose ask now.account ≡ hold_for config ask now.account
  hold_is ask = ap₂ with_parts (same_hold config ask.provider ask.currency) (same_spelling config ask.provider)
    where
      with_parts : ℕ → Party → Hold
      with_parts amount party = record {
        operator = ask.operator;
        provider = ask.provider;
        currency = ask.currency;
        amount = amount;
        reference = reference_text party (count_by (is_hold_of ask.provider) now.account + 1);
      }

  -- the loosest configuration has no pair limits
  has_credit : (ask : Authorize) → over_credit config ask now.account ≡ None → over_credit loose ask now.account ≡ None
  has_credit ask h =
      let exposure = exposure_of (of_provider ask.provider ask.currency) now.account in
      let pair = exposure_of (of_pair ask.operator ask.provider ask.currency) now.account in
      let hold = hold_of config ask.provider ask.currency in
      let lower = first_none (over (limit_of config ask.provider ask.currency) (exposure + hold) false) (over_if_any (pair_limit_of config ask.operator ask.provider ask.currency) (pair + hold)) h in
      ap (λ (o : Option OverLimit). option_or o None)
      (ap (λ (n : ℕ). over (limit_of loose ask.provider ask.currency) (exposure + n) false) (same_hold config ask.provider ask.currency)
      ∙ still_none _ _ (limit_of config ask.provider ask.currency) (limit_of loose ask.provider ask.currency) (exposure + hold)
      (higher_limit config ask.provider ask.currency) lower)

  authorized_wider : (ask : Authorize) (e : Event) → (verdict config now (command.Authorize ask)).event ≡ Some e → (verdict loose now (command.Authorize ask)).event ≡ Some e
  authorized_wider ask e h =
      ap (λ (hold : Hold). (unless cases (allows hold)).event) (hold_is ask)
      ∙ still_added (unless_valid valid ∷ full_for config now ask.provider ∷ unless_covered (over_credit config ask now.account) ∷ []) cases
      (answer.Allowed hold.reference) (answer.Allowed hold.reference) (event.Authorised hold) e
      (λ none. (none.0, (room_for ask.provider none.1.0, (ap unless_covered (has_credit ask (is_covered (over_credit config ask now.account) none.1.1.0)), tt)))) h
    where
      valid : Option Bool
      valid = validity ask.provider ask.uid ask.kind now.account

      hold : Hold
      hold = hold_for config ask now.account

      cases : List Case
      cases = unless_valid valid ∷ full_for loose now ask.provider ∷ unless_covered (over_credit loose ask now.account) ∷ []

  released_wider : (release : Release) (hold : Option Hold) (e : Event) → (release_of config now release hold).event ≡ Some e → (release_of loose now release hold).event ≡ Some e
  released_wider release None e h = h
  released_wider release (Some hold) e h =
      still_added (full_for config now release.provider ∷ []) (full_for loose now release.provider ∷ []) _ _ (event.Released release) e
      (λ none. (room_for release.provider none.0, tt)) h

  -- ---- posts

  under_limit : (cdr : Cdr) (cost : ℕ) → over_limit config (charge_of cdr cost now.period) now.account ≡ None → over_limit loose (charge_of cdr cost now.period) now.account ≡ None
  under_limit cdr cost h =
      let provider = cdr.cdr_token.provider in
      let exposure = exposure_of (of_provider provider cdr.currency) (now.account ++ account.Charge (charge_of cdr cost now.period) ∷ []) in
      let pair = exposure_of (of_pair cdr.operator provider cdr.currency) (now.account ++ account.Charge (charge_of cdr cost now.period) ∷ []) in
      let lower = first_none (above (limit_of config provider cdr.currency) exposure false) (above_if_any (pair_limit_of config cdr.operator provider cdr.currency) pair) h in
      ap (λ (o : Option Refusal). option_or o None)
      (still_none _ _ (limit_of config provider cdr.currency) (limit_of loose provider cdr.currency) exposure (higher_limit config provider cdr.currency) lower)

  -- what is asked before the tolerance is asked alike
  asked_alike : {A : Type 0} (asked : Bool) (one other : Option A) (why : A) → (is_none one ≡ true → is_none other ≡ true)
      → is_none (if asked then one else Some why) ≡ true → is_none (if asked then other else Some why) ≡ true
  asked_alike true one other why wider h = wider h
  asked_alike false one other why wider h = absurd (cc)

  asked_last : {A : Type 0} (one other : Bool) (why : A) → (one ≡ true → other ≡ true)
      → is_none (if one then None else Some why) ≡ true → is_none (if other then None else Some why) ≡ true
  asked_last true other why wider h = ap (λ (b : Bool). is_none (if b then None else Some why)) (wider refl)
  asked_last false other why wider h = absurd (cc)

  meets : (credit : Cdr) (original : Booked) → meets_original config credit original ≡ true → meets_original loose credit original ≡ true
  unfolding credit_difference
  meets credit original =
      asked_alike (same_party credit.cdr_token.provider original.cdr.cdr_token.provider) _ _ Provider
      (asked_alike (same_currency credit.currency original.cdr.currency) _ _ Currency
      (asked_alike (int_le credit.total_cost (pos 0)) _ _ AboveZero
      (asked_last
      (is_within_tolerance config.tolerance credit.total_cost (neg_ℤ original.amount)) (is_within_tolerance loose.tolerance credit.total_cost (neg_ℤ original.amount)) Cost
      (higher_tolerance config.tolerance (10 ^ 12) credit.total_cost (neg_ℤ original.amount)))))

  credited_wider : (credit : Cdr) (amount : ℤ) → credited_amount config now.period credit now.book ≡ Ok amount → credited_amount loose now.period credit now.book ≡ Ok amount
  credited_wider credit amount h =
      goes_on (or_refusal refusal.UnknownOriginal (original_of credit now.book)) _ _ amount (λ original _. taken original (is_credited original.cdr.operator original.cdr.id now.book)) h
    where
      taken : (original : Booked) (credited : Bool) → taken_back config now.period credit credited original ≡ Ok amount → taken_back loose now.period credit credited original ≡ Ok amount
      taken original credited g =
          goes_on (ensure (not (is_credit original.cdr)) refusal.CreditOfCredit) _ _ amount (λ _ _.
          goes_on (ensure (not credited) refusal.AlreadyCredited) _ _ amount (λ _ _.
          allowed (is_in_window config.credit_window original.period now.period) true _ (refusal.TooLate original.period now.period) _ _ amount (λ _. refl) (λ _.
          allowed (meets_original config credit original) (meets_original loose credit original) _ _ _ _ amount (meets credit original) (λ _ k. k)))) g

  credit_wider : (credit : Cdr) (e : Event) → (post_of config now credit None).event ≡ Some e → (post_of loose now credit None).event ≡ Some e
  credit_wider credit e h =
      let none = unless_event (booked_already credit (booked_as credit.operator credit.id now.book) ∷ []) _ e h in
      all_pass (booked_already credit (booked_as credit.operator credit.id now.book) ∷ []) _ none.0 ∙ by (credited_amount config now.period credit now.book) refl none.1
    where
      by : (m : Result ℤ Refusal) → credited_amount config now.period credit now.book ≡ m → (credit_taken config now credit m).event ≡ Some e
          → (credit_taken loose now credit (credited_amount loose now.period credit now.book)).event ≡ Some e
      by (Err why) same g = absurd (cc)
      by (Ok amount) same g =
          ap (λ m. (credit_taken loose now credit m).event) (credited_wider credit amount same)
          ∙ still_added (full_for_cdr config now credit ∷ []) (full_for_cdr loose now credit ∷ []) _ _ (event.Credit credit amount) e (λ none. (room_for_cdr credit none.0, tt)) g

  posted_wider : (cdr : Cdr) (cost : Option ℕ) (e : Event) → (post_of config now cdr cost).event ≡ Some e → (post_of loose now cdr cost).event ≡ Some e
  posted_wider cdr None e h = credit_wider cdr e h
  posted_wider cdr (Some cost) e h =
      still_added
      (booked_already cdr (booked_as cdr.operator cdr.id now.book) ∷ unless_registered (lacks_registered cdr now.book) ∷ full_for_cdr config now cdr
      ∷ refused_for (over_limit config (charge_of cdr cost now.period) now.account) ∷ [])
      (booked_already cdr (booked_as cdr.operator cdr.id now.book) ∷ unless_registered (lacks_registered cdr now.book) ∷ full_for_cdr loose now cdr
      ∷ refused_for (over_limit loose (charge_of cdr cost now.period) now.account) ∷ [])
      _ _ (event.Cdr cdr cost) e
      (λ none.
      (none.0, (none.1.0, (room_for_cdr cdr none.1.1.0, (ap refused_for (under_limit cdr cost (no_refusal (over_limit config (charge_of cdr cost now.period) now.account) none.1.1.1.0)), tt))))) h

  -- ---- commands

  pub adds_wider : (told : Command) (e : Event) → (verdict config now told).event ≡ Some e → (verdict loose now told).event ≡ Some e
  adds_wider (command.PutTariff tariff) e h =
      still_added
      (stored_already tariff (stored_version tariff now.book) ∷ refused_at (first_full ((store.Tariffs, are_versions_full config tariff.operator now.book) ∷ (store.Order, is_order_full config now.point) ∷ [])) ∷ [])
      (stored_already tariff (stored_version tariff now.book) ∷ refused_at (first_full ((store.Tariffs, are_versions_full loose tariff.operator now.book) ∷ (store.Order, is_order_full loose now.point) ∷ [])) ∷ [])
      answer.Stored answer.Stored (event.Tariff tariff) e
      (λ none.
      let room = room_in ((store.Tariffs, are_versions_full config tariff.operator now.book) ∷ (store.Order, is_order_full config now.point) ∷ []) none.1.0 in (
        none.0,
        (
          none_full ((store.Tariffs, are_versions_full loose tariff.operator now.book) ∷ (store.Order, is_order_full loose now.point) ∷ [])
              (larger config.limits.tariffs 10_000 _ room.0, (larger config.limits.order 10_000_000 now.point room.1.0, tt)),
          tt,
        ),
      )) h
  adds_wider (command.PutToken token) e h =
      still_added (full_for config now token.provider ∷ []) (full_for loose now token.provider ∷ []) answer.Stored answer.Stored (event.Token token) e
      (λ none. (room_for token.provider none.0, tt)) h
  adds_wider (command.Authorize ask) e h = authorized_wider ask e h
  adds_wider (command.Release release) e h = released_wider release (released_hold now.account release) e h
  adds_wider (command.Post checked) e h = posted_wider checked.cdr checked.cost e h
  adds_wider (command.Close close) e h =
      still_added
      (unless_current close.period now.period ∷ refused_at (first_full ((store.Order, is_order_full config now.point) ∷ (store.Periods, are_periods_full config now.period) ∷ [])) ∷ [])
      (unless_current close.period now.period ∷ refused_at (first_full ((store.Order, is_order_full loose now.point) ∷ (store.Periods, are_periods_full loose now.period) ∷ [])) ∷ [])
      (answer.Closed close.period (positions_in config now.book close.period)) (answer.Closed close.period (positions_in loose now.book close.period)) (event.Closed close.period) e
      (λ none.
      let room = room_in ((store.Order, is_order_full config now.point) ∷ (store.Periods, are_periods_full config now.period) ∷ []) none.1.0 in (
        none.0,
        (
          none_full ((store.Order, is_order_full loose now.point) ∷ (store.Periods, are_periods_full loose now.period) ∷ [])
              (larger config.limits.order 10_000_000 now.point room.0, (larger config.limits.periods 10_000 now.period room.1.0, tt)),
          tt,
        ),
      )) h
  adds_wider (command.Settle settlement) e h =
      still_added
      (unless_open settlement.period now.period ∷ unless_settled (is_settled settlement now.account) ∷ full_for config now settlement.provider ∷ [])
      (unless_open settlement.period now.period ∷ unless_settled (is_settled settlement now.account) ∷ full_for loose now settlement.provider ∷ [])
      _ _ (event.Settled settlement) e (λ none. (none.0, (none.1.0, (room_for settlement.provider none.1.1.0, tt)))) h
  adds_wider (command.Exposure ask) e h = absurd (cc)
  adds_wider (command.Find find) e h = h
  adds_wider (command.Statement ask) e h = h
