-- What an event that a command adds keeps to, under any configuration and after any events.
use Rattle.std.proofs.Common.{◌≡◌, ◌≤◌, inl, inr, ◌&&◌, ℕ, pos, ◌+◌, List, [], ◌∷◌, ◌++◌, Bool, true, false, cond, refl, sym, ap, ◌∙◌, subst, arith, ltb, nat_lt, nat_le, if◌then◌else◌, Option, Some, None, Ok, Err}
use Rattle.std.specs.List.{list_all}
use Rattle.std.specs.Option.{option_or}
use Rattle.std.proofs.lemmas.List.{append-nil}
use Rattle.std.proofs.lemmas.Bool.{ltb-false}
use Rattle.jiff.specs.Types.{TimeZone as PlainZone}
use Rattle.ocpi_types.specs.declared.cdr.Cdr.{Cdr}
use Rattle.ocpi_types.specs.declared.config.Config.{Config}
use Rattle.ocpi_types.specs.declared.config.Operator.{Operator}
use Rattle.ocpi_types.specs.declared.party.Party.{Party}
use Rattle.ocpi_types.specs.declared.refusal.Refusal.TheVariants as refusal
use Rattle.ocpi_types.specs.Cdr.{is_credit}
use Rattle.ocpi_types.specs.Config.{has_currency, hold_of, is_operator, is_provider, limit_of, may_act_for, operator_of, pair_limit_of}
use Rattle.ocpi_types.specs.Currency.{same_currency}
use Rattle.ocpi_types.specs.Party.{same_party}
use Rattle.cdr_rating.specs.Price.{price, rounded_amount}
use Rattle.cdr_rating.specs.Pricing.{lacks_tariff}
use Rattle.cdr_checks.specs.Admission.{IsAdmitted}
use Rattle.cdr_checks.specs.CdrConditions.{has_energy_of_periods, is_within_tolerance}
use Rattle.cdr_checks.specs.Checked.{Checked, IsCostOf}
use Rattle.cdr_checks.specs.Conditions.{has_dates_in_order, has_no_reservation, has_one_currency, has_supported_tariffs, has_tariffs_given}
use Rattle.cdr_checks.specs.Law.{PostsAreChecked}
use Rattle.cdr_checks.specs.Tests.{AdmittedPassTheirTests, Test, cdr_tests, rated_tests, session_tests, tests}
use Rattle.cdr_checks.specs.declared.request.Ask.{Ask}
use Rattle.cdr_checks.specs.declared.request.Ask.TheVariants as ask
use Rattle.cdr_checks.specs.declared.request.Authorize.{Authorize}
use Rattle.cdr_checks.specs.declared.request.Command.{Command}
use Rattle.cdr_checks.specs.declared.request.Command.TheVariants as command
use Rattle.cdr_checks.specs.declared.request.Request.{Request}
use Rattle.plain_house.specs.declared.entry.AccountEntry.{AccountEntry}
use Rattle.plain_house.specs.declared.entry.AccountEntry.TheVariants as account
use Rattle.plain_house.specs.declared.entry.Charge.{Charge}
use Rattle.plain_house.specs.declared.event.Event.{Event}
use Rattle.plain_house.specs.declared.event.Event.TheVariants as event
use Rattle.plain_house.specs.declared.event.Hold.{Hold}
use Rattle.plain_house.specs.declared.over_limit.OverLimit.{OverLimit}
use Rattle.plain_house.specs.Entries.{account_entries, account_entry, charge_of, credit_of}
use Rattle.plain_house.specs.Exposure.{exposure_of, of_pair, of_provider}
use Rattle.plain_house.specs.House.{hold_for, over_credit, verdict}
use Rattle.plain_house.specs.Known.{Known, known}
use Rattle.plain_house.specs.Legal.{IsGivenBy}
use Rattle.plain_house.specs.OverLimit.{over, over_if_any}
use Rattle.plain_house.specs.Posting.{above, above_if_any, over_limit}
use Rattle.plain_house.proofs.ChargeLemmas.{is_right}
use Rattle.plain_house.proofs.EventLemmas.{Gives, GivesPost, event_has}
use Rattle.plain_house.proofs.ExposureLater.{entries_push, exposure_later, weight, weight_charge, weight_hold}
use Rattle.plain_house.proofs.SameScope.{same_exposure, same_folded_account, same_folded_party, same_limit, same_pair_exposure, same_pair_limit}
use Rattle.event_commands.proofs.AskLemmas.{of_asked}
use Rattle.line_streams.specs.Bounds.{AreCovered, IsBookedUnder, IsCovered, KeepsTo}

-- ---- what is not above a limit

within : {X : Type 0} (limit exposure : ℕ) (found : X) → (if ltb limit exposure then Some found else None) ≡ None → exposure ≤ limit
within {X} limit exposure found h = by (ltb limit exposure) refl h
  where
    by : (b : Bool) → ltb limit exposure ≡ b → (if b then Some found else None) ≡ None → exposure ≤ limit
    by true e g = absurd (cc)
    by false e g = ltb-false limit exposure e

or_none : {X : Type 0} (a b : Option X) → option_or a b ≡ None → (a ≡ None) × (b ≡ None)
or_none None b h = (refl, h)
or_none (Some x) b h = absurd (cc)

not_over : (limit exposure : ℕ) (pair : Bool) → over limit exposure pair ≡ None → exposure ≤ limit
not_over limit exposure pair h =
    let found : OverLimit = record { exposure = pos exposure; limit = pos limit; pair = pair } in
    within limit exposure found h

over_no_pair : (limit : Option ℕ) (exposure most : ℕ) → over_if_any limit exposure ≡ None → limit ≡ Some most → exposure ≤ most
over_no_pair None exposure most h e = absurd (cc)
over_no_pair (Some limit) exposure most h e = let same : limit ≡ most = cc (e) in subst (λ (n : ℕ). exposure ≤ n) same (not_over limit exposure true h)

not_above : (limit exposure : ℕ) (pair : Bool) → above limit exposure pair ≡ None → exposure ≤ limit
not_above limit exposure pair h = within limit exposure (refusal.OverLimit (pos exposure) (pos limit) pair) h

above_no_pair : (limit : Option ℕ) (exposure most : ℕ) → above_if_any limit exposure ≡ None → limit ≡ Some most → exposure ≤ most
above_no_pair None exposure most h e = absurd (cc)
above_no_pair (Some limit) exposure most h e = let same : limit ≡ most = cc (e) in subst (λ (n : ℕ). exposure ≤ n) same (not_above limit exposure true h)

pair_parts : (a b c : Bool) → (a && b && c) ≡ true → (a ≡ true) × ((b && c) ≡ true)
pair_parts true b c h = (refl, h)
pair_parts false b c h = absurd (cc)

-- ---- one entry more

-- no entry
same_entries : (config : Config) (entries : List AccountEntry) → AreCovered config entries (entries ++ [])
same_entries config entries = subst (AreCovered config entries) (sym (append-nil entries)) (record {
  provider = λ provider currency. inr (omega arith);
  pair = λ operator provider currency limit e. inr (omega arith);
})

-- an entry that weighs nothing
light : (config : Config) (entries : List AccountEntry) (x : AccountEntry)
    → ((provider : Party) (currency : List ℕ) → weight (of_provider provider currency) x ≡ 0)
    → ((operator provider : Party) (currency : List ℕ) → weight (of_pair operator provider currency) x ≡ 0)
    → AreCovered config entries (entries ++ x ∷ [])
light config entries x none pair_none = record {
  provider = λ provider currency. inr (omega (arith, exposure_later (of_provider provider currency) entries x, none provider currency));
  pair = λ operator provider currency limit e. inr (omega (arith, exposure_later (of_pair operator provider currency) entries x, pair_none operator provider currency));
}

-- a hold that is covered
module _ (config : Config) (ask : Authorize) (entries : List AccountEntry) (covered : over_credit config ask entries ≡ None) where
  abbrev hold : Hold
  hold = hold_for config ask entries

  abbrev held : List AccountEntry
  held = entries ++ account.Hold hold ∷ []

  hold_provider : (provider : Party) (currency : List ℕ)
      → IsCovered (limit_of config provider currency) (exposure_of (of_provider provider currency) entries) (exposure_of (of_provider provider currency) held)
  hold_provider provider currency = by (same_party ask.provider provider && same_currency ask.currency currency) refl
    where
      by : (b : Bool) → (same_party ask.provider provider && same_currency ask.currency currency) ≡ b
          → IsCovered (limit_of config provider currency) (exposure_of (of_provider provider currency) entries) (exposure_of (of_provider provider currency) held)
      by true e =
          let same = same_folded_account ask.provider provider ask.currency currency e in
          let fits : exposure_of (of_provider ask.provider ask.currency) entries + hold.amount ≤ limit_of config ask.provider ask.currency =
          not_over (limit_of config ask.provider ask.currency) (exposure_of (of_provider ask.provider ask.currency) entries + hold_of config ask.provider ask.currency) false (or_none _ _ covered).0 in
          let weighs : weight (of_provider provider currency) (account.Hold hold) ≡ hold.amount = weight_hold (of_provider provider currency) hold ∙ ap (λ b. cond b hold.amount 0) e in
          inl (omega (
            arith,
            exposure_later (of_provider provider currency) entries (account.Hold hold),
            weighs,
            fits,
            same_exposure entries ask.provider provider ask.currency currency same,
            same_limit config ask.provider provider ask.currency currency same,
          ))
      by false e =
          let weighs : weight (of_provider provider currency) (account.Hold hold) ≡ 0 = weight_hold (of_provider provider currency) hold ∙ ap (λ b. cond b hold.amount 0) e in
          inr (omega (arith, exposure_later (of_provider provider currency) entries (account.Hold hold), weighs))

  hold_pair : (operator provider : Party) (currency : List ℕ) (limit : ℕ) → pair_limit_of config operator provider currency ≡ Some limit
      → IsCovered limit (exposure_of (of_pair operator provider currency) entries) (exposure_of (of_pair operator provider currency) held)
  hold_pair operator provider currency limit found = by (same_party ask.operator operator && same_party ask.provider provider && same_currency ask.currency currency) refl
    where
      by : (b : Bool) → (same_party ask.operator operator && same_party ask.provider provider && same_currency ask.currency currency) ≡ b
          → IsCovered limit (exposure_of (of_pair operator provider currency) entries) (exposure_of (of_pair operator provider currency) held)
      by true e =
          let parts = pair_parts (same_party ask.operator operator) (same_party ask.provider provider) (same_currency ask.currency currency) e in
          let their = same_folded_party ask.operator operator parts.0 in
          let same = same_folded_account ask.provider provider ask.currency currency parts.1 in
          let own = same_pair_limit config ask.operator operator ask.provider provider ask.currency currency their same in
          let fits : exposure_of (of_pair ask.operator ask.provider ask.currency) entries + hold.amount ≤ limit =
          over_no_pair (pair_limit_of config ask.operator ask.provider ask.currency) (exposure_of (of_pair ask.operator ask.provider ask.currency) entries + hold_of config ask.provider ask.currency) limit (or_none _ _ covered).1 (own ∙ found) in
          let weighs : weight (of_pair operator provider currency) (account.Hold hold) ≡ hold.amount = weight_hold (of_pair operator provider currency) hold ∙ ap (λ b. cond b hold.amount 0) e in
          inl (omega (
            arith,
            exposure_later (of_pair operator provider currency) entries (account.Hold hold),
            weighs,
            fits,
            same_pair_exposure entries ask.operator operator ask.provider provider ask.currency currency their same,
          ))
      by false e =
          let weighs : weight (of_pair operator provider currency) (account.Hold hold) ≡ 0 = weight_hold (of_pair operator provider currency) hold ∙ ap (λ b. cond b hold.amount 0) e in
          inr (omega (arith, exposure_later (of_pair operator provider currency) entries (account.Hold hold), weighs))

  hold_covered : AreCovered config entries held
  hold_covered = record { provider = hold_provider; pair = hold_pair }

-- a charge that is over no limit
module _ (config : Config) (charge : Charge) (entries : List AccountEntry) (none : over_limit config charge entries ≡ None) where
  abbrev charged : List AccountEntry
  charged = entries ++ account.Charge charge ∷ []

  charge_provider : (provider : Party) (currency : List ℕ)
      → IsCovered (limit_of config provider currency) (exposure_of (of_provider provider currency) entries) (exposure_of (of_provider provider currency) charged)
  charge_provider provider currency = by (same_party charge.provider provider && same_currency charge.currency currency) refl
    where
      by : (b : Bool) → (same_party charge.provider provider && same_currency charge.currency currency) ≡ b
          → IsCovered (limit_of config provider currency) (exposure_of (of_provider provider currency) entries) (exposure_of (of_provider provider currency) charged)
      by true e =
          let same = same_folded_account charge.provider provider charge.currency currency e in
          let fits = not_above (limit_of config charge.provider charge.currency) (exposure_of (of_provider charge.provider charge.currency) charged) false (or_none _ _ none).0 in
          inl (omega (arith, fits, same_exposure charged charge.provider provider charge.currency currency same, same_limit config charge.provider provider charge.currency currency same))
      by false e =
          let weighs : weight (of_provider provider currency) (account.Charge charge) ≡ 0 = weight_charge (of_provider provider currency) charge ∙ ap (λ b. cond b charge.cost 0) e in
          inr (omega (arith, exposure_later (of_provider provider currency) entries (account.Charge charge), weighs))

  charge_pair : (operator provider : Party) (currency : List ℕ) (limit : ℕ) → pair_limit_of config operator provider currency ≡ Some limit
      → IsCovered limit (exposure_of (of_pair operator provider currency) entries) (exposure_of (of_pair operator provider currency) charged)
  charge_pair operator provider currency limit found = by (same_party charge.operator operator && same_party charge.provider provider && same_currency charge.currency currency) refl
    where
      by : (b : Bool) → (same_party charge.operator operator && same_party charge.provider provider && same_currency charge.currency currency) ≡ b
          → IsCovered limit (exposure_of (of_pair operator provider currency) entries) (exposure_of (of_pair operator provider currency) charged)
      by true e =
          let parts = pair_parts (same_party charge.operator operator) (same_party charge.provider provider) (same_currency charge.currency currency) e in
          let their = same_folded_party charge.operator operator parts.0 in
          let same = same_folded_account charge.provider provider charge.currency currency parts.1 in
          let own = same_pair_limit config charge.operator operator charge.provider provider charge.currency currency their same in
          let fits = above_no_pair (pair_limit_of config charge.operator charge.provider charge.currency) (exposure_of (of_pair charge.operator charge.provider charge.currency) charged) limit (or_none _ _ none).1 (own ∙ found) in
          inl (omega (arith, fits, same_pair_exposure charged charge.operator operator charge.provider provider charge.currency currency their same))
      by false e =
          let weighs : weight (of_pair operator provider currency) (account.Charge charge) ≡ 0 = weight_charge (of_pair operator provider currency) charge ∙ ap (λ b. cond b charge.cost 0) e in
          inr (omega (arith, exposure_later (of_pair operator provider currency) entries (account.Charge charge), weighs))

  charge_covered : AreCovered config entries charged
  charge_covered = record { provider = charge_provider; pair = charge_pair }

-- ---- exposures after a command

module _ (config : Config) (known : Known) where
  abbrev CoveredAfter : Event → Type 0
  CoveredAfter e = AreCovered config known.account (known.account ++ account_entry e known.period)

  light_entry : (x : AccountEntry) → ((provider : Party) (currency : List ℕ) → weight (of_provider provider currency) x ≡ 0)
      → ((operator provider : Party) (currency : List ℕ) → weight (of_pair operator provider currency) x ≡ 0)
      → AreCovered config known.account (known.account ++ x ∷ [])
  light_entry x none pair_none = light config known.account x none pair_none

  covered_post : (cdr : Cdr) (cost : Option ℕ) → GivesPost config known CoveredAfter cdr cost
  covered_post cdr None = λ amount unknown taken cdrs room. light_entry (account.Credit (credit_of cdr amount known.period)) (λ provider currency. refl) (λ operator provider currency. refl)
  covered_post cdr (Some cost) = λ unknown registered cdrs room within. charge_covered config (charge_of cdr cost known.period) known.account within

  covered_given : (told : Command) → Gives config known CoveredAfter told
  covered_given (command.PutTariff tariff) = λ room. same_entries config known.account
  covered_given (command.PutToken token) = λ room. light_entry (account.Token token) (λ provider currency. refl) (λ operator provider currency. refl)
  covered_given (command.Authorize ask) = λ room covered. hold_covered config ask known.account covered
  covered_given (command.Release release) = λ room. light_entry (account.Release release) (λ provider currency. refl) (λ operator provider currency. refl)
  covered_given (command.Post checked) = covered_post checked.cdr checked.cost
  covered_given (command.Close close) = λ current. same_entries config known.account
  covered_given (command.Settle settlement) = λ room. light_entry (account.Settlement settlement) (λ provider currency. refl) (λ operator provider currency. refl)
  covered_given (command.Exposure ask) = tt
  covered_given (command.Find find) = tt
  covered_given (command.Statement ask) = tt

  covered_after : (told : Command) (e : Event) → (verdict config known told).event ≡ Some e → CoveredAfter e
  covered_after told e h = event_has config known CoveredAfter e told (covered_given told) h

-- ---- the tolerance

both : (a b : Bool) → (a && b) ≡ true → (a ≡ true) × (b ≡ true)
both true b h = (refl, h)
both false b h = absurd (cc)

-- the price is the rounded amount
amount_is : (cdr : Cdr) (zone : PlainZone) (cost : ℕ) → price cdr zone ≡ Ok (pos cost) → rounded_amount cdr zone ≡ cost
unfolding price
amount_is cdr zone cost h = by (lacks_tariff cdr) (nat_lt 1_000_000_000_000 (rounded_amount cdr zone)) h
  where
    by : (lacks large : Bool) → (if lacks then Err refusal.TariffNotGiven else (if large then Err refusal.AmountTooLarge else Ok (pos (rounded_amount cdr zone)))) ≡ Ok (pos cost)
        → rounded_amount cdr zone ≡ cost
    by true large g = absurd (cc)
    by false true g = absurd (cc)
    by false false g = cc

abbrev passes : List Test → Type 0
passes asked = list_all (λ t. t.holds) asked ≡ true

-- what comes after the first of two that hold
later : (a b : Bool) → (a && b) ≡ true → b ≡ true
later a b h = (both a b h).1

eighth : (a b c d e f g t : Bool) → (a && (b && (c && (d && (e && (f && (g && (t && true)))))))) ≡ true → t ≡ true
eighth a b c d e f g t h =
    let one = later a (b && (c && (d && (e && (f && (g && (t && true))))))) h in
    let two = later b (c && (d && (e && (f && (g && (t && true)))))) one in
    let three = later c (d && (e && (f && (g && (t && true))))) two in
    let four = later d (e && (f && (g && (t && true)))) three in
    let five = later e (f && (g && (t && true))) four in
    let six = later f (g && (t && true)) five in
    (both t true (later g (t && true) six)).0

fifth : (a b c d rest : Bool) → (a && (b && (c && (d && rest)))) ≡ true → rest ≡ true
fifth a b c d rest h = later d rest (later c (d && rest) (later b (c && (d && rest)) (later a (b && (c && (d && rest))) h)))

rated_tolerance : (config : Config) (zone : PlainZone) (cdr : Cdr) → passes (rated_tests config zone cdr)
    → is_within_tolerance config.tolerance cdr.total_cost (pos (rounded_amount cdr zone)) ≡ true
rated_tolerance config zone cdr h =
    eighth (has_one_currency cdr) (has_dates_in_order cdr) (has_tariffs_given cdr) (has_supported_tariffs cdr) (has_no_reservation cdr) (has_energy_of_periods cdr)
    (nat_le (rounded_amount cdr zone) 1_000_000_000_000) (is_within_tolerance config.tolerance cdr.total_cost (pos (rounded_amount cdr zone))) h

posted_tolerance : (config : Config) (platform : List ℕ) (cdr : Cdr) (operator : Operator) (cost : ℕ) → operator_of config cdr.operator ≡ Some operator → is_credit cdr ≡ false
    → price cdr operator.zone ≡ Ok (pos cost) → passes (cdr_tests config platform cdr) → is_within_tolerance config.tolerance cdr.total_cost (pos cost) ≡ true
posted_tolerance config platform cdr operator cost configured no_credit priced h =
    let session : passes (session_tests config (operator_of config cdr.operator) cdr) =
    fifth (is_operator config cdr.operator) (is_provider config cdr.cdr_token.provider) (may_act_for config platform cdr.operator) (has_currency config cdr.currency)
    (list_all (λ t. t.holds) (session_tests config (operator_of config cdr.operator) cdr)) h in
    let its : passes (session_tests config (Some operator) cdr) = subst (λ (o : Option Operator). passes (session_tests config o cdr)) configured session in
    let rated : passes (rated_tests config operator.zone cdr) = subst (λ (b : Bool). passes (if b then [] else rated_tests config operator.zone cdr)) no_credit its in
    subst (λ (n : ℕ). is_within_tolerance config.tolerance cdr.total_cost (pos n) ≡ true) (amount_is cdr operator.zone cost priced) (rated_tolerance config operator.zone cdr rated)

module _ (checks : PostsAreChecked) (passed : AdmittedPassTheirTests) (config : Config) where
  tolerated : (checked : Checked) (cost : ℕ) → IsAdmitted config (command.Post checked) → checked.cost ≡ Some cost
      → is_within_tolerance config.tolerance checked.cdr.total_cost (pos cost) ≡ true
  unfolding IsAdmitted
  tolerated checked cost admitted is =
      let request : Request = admitted.0 in
      let has = checks config checked admitted in
      let asked : request.ask ≡ ask.Post checked.cdr = (of_asked config request (command.Post checked) admitted.1).0 in
      let its : IsCostOf (Some cost) checked.cdr checked.zone = subst (λ (o : Option ℕ). IsCostOf o checked.cdr checked.zone) is has.at_cost in
      let priced : price checked.cdr has.operator.zone ≡ Ok (pos cost) = subst (λ (zone : PlainZone). price checked.cdr zone ≡ Ok (pos cost)) has.in_zone its.1 in
      posted_tolerance config request.platform checked.cdr has.operator cost has.has_operator its.0 priced
      (subst (λ (a : Ask). passes (tests config request.platform a)) asked (passed config request (command.Post checked) admitted.1))

  abbrev IsTolerated : Event → Type 0
  IsTolerated (event.Tariff tariff) = Unit {0}
  IsTolerated (event.Token token) = Unit {0}
  IsTolerated (event.Authorised hold) = Unit {0}
  IsTolerated (event.Released release) = Unit {0}
  IsTolerated (event.Cdr cdr cost) = is_within_tolerance config.tolerance cdr.total_cost (pos cost) ≡ true
  IsTolerated (event.Credit cdr amount) = Unit {0}
  IsTolerated (event.Settled settlement) = Unit {0}
  IsTolerated (event.Closed period) = Unit {0}

  tolerated_given : (known : Known) (told : Command) → IsAdmitted config told → Gives config known IsTolerated told
  tolerated_given known (command.PutTariff tariff) admitted = λ room. tt
  tolerated_given known (command.PutToken token) admitted = λ room. tt
  tolerated_given known (command.Authorize ask) admitted = λ room covered. tt
  tolerated_given known (command.Release release) admitted = λ room. tt
  tolerated_given known (command.Post checked) admitted = by checked.cost refl
    where
      by : (cost : Option ℕ) → checked.cost ≡ cost → GivesPost config known IsTolerated checked.cdr cost
      by None is = λ amount unknown taken room account. tt
      by (Some cost) is = λ unknown registered room account within. tolerated checked cost admitted is
  tolerated_given known (command.Close close) admitted = λ current. tt
  tolerated_given known (command.Settle settlement) admitted = λ room. tt
  tolerated_given known (command.Exposure ask) admitted = tt
  tolerated_given known (command.Find find) admitted = tt
  tolerated_given known (command.Statement ask) admitted = tt

  -- ---- the event

  booked_under : (before : List Event) (e : Event) → IsGivenBy config (known before) e → IsTolerated e → IsBookedUnder config before e
  booked_under before (event.Tariff tariff) given near = tt
  booked_under before (event.Token token) given near = tt
  booked_under before (event.Authorised hold) given near = tt
  booked_under before (event.Released release) given near = tt
  booked_under before (event.Cdr cdr cost) given near = (is_right config (known before) checks (event.Cdr cdr cost) given, near)
  booked_under before (event.Credit cdr amount) given near = is_right config (known before) checks (event.Credit cdr amount) given
  booked_under before (event.Settled settlement) given near = tt
  booked_under before (event.Closed period) given near = tt

  pub given_keeps_to : (before : List Event) (e : Event) → IsGivenBy config (known before) e → KeepsTo config before e
  given_keeps_to before e given = record {
    covered = subst (AreCovered config (account_entries before)) (sym (entries_push before e)) (covered_after config (known before) given.0 e given.2);
    booked = booked_under before e given (event_has config (known before) IsTolerated e given.0 (tolerated_given (known before) given.0 given.1) given.2);
  }
