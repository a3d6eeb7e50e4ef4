-- An admitted command keeps the limits.
use Rattle.std.proofs.Common.{◌≡◌, ◌≤◌, ◌&&◌, ℕ, pos, ◌+◌, List, [], ◌∷◌, ◌++◌, Bool, true, false, cond, refl, sym, ap, ◌∙◌, subst, arith, ltb, if◌then◌else◌, Option, Some, None}
use Rattle.std.specs.Option.{option_or}
use Rattle.std.proofs.lemmas.List.{append-nil}
use Rattle.std.proofs.lemmas.Bool.{ltb-false}
use Rattle.ocpi_types.specs.declared.cdr.Cdr.{Cdr}
use Rattle.ocpi_types.specs.declared.config.Config.{Config}
use Rattle.ocpi_types.specs.declared.party.Party.{Party}
use Rattle.ocpi_types.specs.declared.refusal.Refusal.{Refusal}
use Rattle.ocpi_types.specs.declared.refusal.Refusal.TheVariants as refusal
use Rattle.ocpi_types.specs.Party.{same_party}
use Rattle.ocpi_types.specs.Config.{limit_of, hold_of, pair_limit_of}
use Rattle.ocpi_types.specs.Currency.{same_currency}
use Rattle.cdr_checks.specs.declared.request.Authorize.{Authorize}
use Rattle.cdr_checks.specs.declared.request.Command.{Command}
use Rattle.cdr_checks.specs.declared.request.Command.TheVariants as command
use Rattle.plain_house.specs.declared.event.Event.{Event}
use Rattle.plain_house.specs.declared.event.Hold.{Hold}
use Rattle.plain_house.specs.declared.entry.AccountEntry.{AccountEntry}
use Rattle.plain_house.specs.declared.entry.AccountEntry.TheVariants as account
use Rattle.plain_house.specs.declared.entry.Charge.{Charge}
use Rattle.plain_house.specs.declared.over_limit.OverLimit.{OverLimit}
use Rattle.plain_house.specs.Known.{Known}
use Rattle.plain_house.specs.Entries.{account_entry, charge_of, credit_of}
use Rattle.plain_house.specs.Exposure.{exposure_of, of_pair, of_provider}
use Rattle.plain_house.specs.House.{hold_for, over_credit, verdict}
use Rattle.plain_house.specs.LegalLists.{KeepsLimits}
use Rattle.plain_house.specs.OverLimit.{over, over_if_any}
use Rattle.plain_house.specs.Posting.{above, above_if_any, over_limit}
use Rattle.plain_house.proofs.EventLemmas.{Gives, GivesPost, event_has}
use Rattle.plain_house.proofs.ExposureLater.{exposure_later, weight, weight_charge, weight_hold}
use Rattle.plain_house.proofs.SameScope.{same_folded_party, same_folded_account, same_limit, same_exposure, same_pair_limit, same_pair_exposure}

-- an entry that weighs nothing
keeps_weightless : (config : Config) (entries : List AccountEntry) (x : AccountEntry)
    → ((provider : Party) (currency : List ℕ) → weight (of_provider provider currency) x ≡ 0)
    → ((operator provider : Party) (currency : List ℕ) → weight (of_pair operator provider currency) x ≡ 0)
    → KeepsLimits config entries → KeepsLimits config (entries ++ x ∷ [])
keeps_weightless config entries x none pair_none keeps = record {
  provider = λ provider currency. omega (arith, exposure_later (of_provider provider currency) entries x, none provider currency, keeps.provider provider currency);
  pair = λ operator provider currency limit e. omega (arith, exposure_later (of_pair operator provider currency) entries x, pair_none operator provider currency, keeps.pair operator provider currency limit e);
}

-- ---- no exposure above its limit

within : {X : Type 0} (limit exposure : ℕ) (found : X) → (if ltb limit exposure then Some found else None) ≡ None → exposure ≤ limit
within {X} limit exposure found h = by (ltb limit exposure) refl h
  where
    by : (b : Bool) → ltb limit exposure ≡ b → (if b then Some found else None) ≡ None → exposure ≤ limit
    by true e g = absurd (cc)
    by false e g = ltb-false limit exposure e

or_none : {X : Type 0} (a b : Option X) → option_or a b ≡ None → (a ≡ None) × (b ≡ None)
or_none None b h = (refl, h)
or_none (Some x) b h = absurd (cc)

over-none : (limit exposure : ℕ) (pair : Bool) → over limit exposure pair ≡ None → exposure ≤ limit
over-none limit exposure pair h =
    let found : OverLimit = record { exposure = pos exposure; limit = pos limit; pair = pair } in
    within limit exposure found h

over_if_any-none : (limit : Option ℕ) (exposure most : ℕ) → over_if_any limit exposure ≡ None → limit ≡ Some most → exposure ≤ most
over_if_any-none None exposure most h e = absurd (cc)
over_if_any-none (Some limit) exposure most h e =
    let same : limit ≡ most = cc (e) in subst (λ (n : ℕ). exposure ≤ n) same (over-none limit exposure true h)

above-none : (limit exposure : ℕ) (pair : Bool) → above limit exposure pair ≡ None → exposure ≤ limit
above-none limit exposure pair h = within limit exposure (refusal.OverLimit (pos exposure) (pos limit) pair) h

above_if_any-none : (limit : Option ℕ) (exposure most : ℕ) → above_if_any limit exposure ≡ None → limit ≡ Some most → exposure ≤ most
above_if_any-none None exposure most h e = absurd (cc)
above_if_any-none (Some limit) exposure most h e =
    let same : limit ≡ most = cc (e) in subst (λ (n : ℕ). exposure ≤ n) same (above-none limit exposure true h)

-- ---- a hold that is covered

at_most_picked : (b : Bool) (total amount limit : ℕ) → total ≤ limit → (b ≡ true → total + amount ≤ limit) → total + cond b amount 0 ≤ limit
at_most_picked true total amount limit h k = k refl
at_most_picked false total amount limit h k = omega (arith, h)

module _ (config : Config) (ask : Authorize) (entries : List AccountEntry) (keeps : KeepsLimits config entries) (covered : over_credit config ask entries ≡ None) where
  abbrev hold : Hold
  hold = hold_for config ask entries

  hold_provider : (provider : Party) (currency : List ℕ) → exposure_of (of_provider provider currency) (entries ++ account.Hold hold ∷ []) ≤ limit_of config provider currency
  hold_provider provider currency =
      let total : ℕ = exposure_of (of_provider provider currency) entries in
      let test : Bool = same_party ask.provider provider && same_currency ask.currency currency in
      let most : total + cond test hold.amount 0 ≤ limit_of config provider currency =
      at_most_picked test total hold.amount (limit_of config provider currency) (keeps.provider provider currency)
      (λ picked.
      let same = same_folded_account ask.provider provider ask.currency currency picked in
      let fits : exposure_of (of_provider ask.provider ask.currency) entries + hold.amount ≤ limit_of config ask.provider ask.currency = over-none (limit_of config ask.provider ask.currency) (exposure_of (of_provider ask.provider ask.currency) entries + hold_of config ask.provider ask.currency) false (or_none _ _ covered).0 in
      omega (arith, fits, same_exposure entries ask.provider provider ask.currency currency same, same_limit config ask.provider provider ask.currency currency same)) in
      let weighs : weight (of_provider provider currency) (account.Hold hold) ≡ cond test hold.amount 0 = weight_hold (of_provider provider currency) hold in
      omega (arith, exposure_later (of_provider provider currency) entries (account.Hold hold), weighs, most)

  hold_pair : (operator provider : Party) (currency : List ℕ) (limit : ℕ) → pair_limit_of config operator provider currency ≡ Some limit
      → exposure_of (of_pair operator provider currency) (entries ++ account.Hold hold ∷ []) ≤ limit
  hold_pair operator provider currency limit e =
      let total : ℕ = exposure_of (of_pair operator provider currency) entries in
      let test : Bool = same_party ask.operator operator && same_party ask.provider provider && same_currency ask.currency currency in
      let most : total + cond test hold.amount 0 ≤ limit =
      at_most_picked test total hold.amount limit (keeps.pair operator provider currency limit e)
      (λ picked.
      let parts = pair_parts (same_party ask.operator operator) (same_party ask.provider provider) (same_currency ask.currency currency) picked in
      let their = same_folded_party ask.operator operator parts.0 in
      let same = same_folded_account ask.provider provider ask.currency currency parts.1 in
      let own = same_pair_limit config ask.operator operator ask.provider provider ask.currency currency their same in
      let fits : exposure_of (of_pair ask.operator ask.provider ask.currency) entries + hold.amount ≤ limit = over_if_any-none (pair_limit_of config ask.operator ask.provider ask.currency) (exposure_of (of_pair ask.operator ask.provider ask.currency) entries + hold_of config ask.provider ask.currency) limit (or_none _ _ covered).1 (own ∙ e) in
      omega (arith, fits, same_pair_exposure entries ask.operator operator ask.provider provider ask.currency currency their same)) in
      let weighs : weight (of_pair operator provider currency) (account.Hold hold) ≡ cond test hold.amount 0 = weight_hold (of_pair operator provider currency) hold in
      omega (arith, exposure_later (of_pair operator provider currency) entries (account.Hold hold), weighs, most)
    where
      pair_parts : (a b c : Bool) → (a && b && c) ≡ true → (a ≡ true) × ((b && c) ≡ true)
      pair_parts true b c h = (refl, h)
      pair_parts false b c h = absurd (cc)

  keeps_hold : KeepsLimits config (entries ++ account.Hold hold ∷ [])
  keeps_hold = record { provider = hold_provider; pair = hold_pair }

-- ---- a charge that is over no limit

module _ (config : Config) (charge : Charge) (entries : List AccountEntry) (keeps : KeepsLimits config entries) (none : over_limit config charge entries ≡ None) where
  abbrev with : List AccountEntry
  with = entries ++ account.Charge charge ∷ []

  charge_provider : (provider : Party) (currency : List ℕ) → exposure_of (of_provider provider currency) with ≤ limit_of config provider currency
  charge_provider provider currency = by (same_party charge.provider provider && same_currency charge.currency currency) refl
    where
      by : (b : Bool) → (same_party charge.provider provider && same_currency charge.currency currency) ≡ b → exposure_of (of_provider provider currency) with ≤ limit_of config provider currency
      by true e =
          let same = same_folded_account charge.provider provider charge.currency currency e in
          let fits = above-none (limit_of config charge.provider charge.currency) (exposure_of (of_provider charge.provider charge.currency) with) false (or_none _ _ none).0 in
          omega (arith, fits, same_exposure with charge.provider provider charge.currency currency same, same_limit config charge.provider provider charge.currency currency same)
      by false e =
          let weighs : weight (of_provider provider currency) (account.Charge charge) ≡ 0 = weight_charge (of_provider provider currency) charge ∙ ap (λ b. cond b charge.cost 0) e in
          omega (arith, exposure_later (of_provider provider currency) entries (account.Charge charge), weighs, keeps.provider provider currency)

  charge_pair : (operator provider : Party) (currency : List ℕ) (limit : ℕ) → pair_limit_of config operator provider currency ≡ Some limit → exposure_of (of_pair operator provider currency) with ≤ limit
  charge_pair operator provider currency limit found = by (same_party charge.operator operator && same_party charge.provider provider && same_currency charge.currency currency) refl
    where
      pair_parts : (a b c : Bool) → (a && b && c) ≡ true → (a ≡ true) × ((b && c) ≡ true)
      pair_parts true b c h = (refl, h)
      pair_parts false b c h = absurd (cc)

      by : (b : Bool) → (same_party charge.operator operator && same_party charge.provider provider && same_currency charge.currency currency) ≡ b → exposure_of (of_pair operator provider currency) with ≤ limit
      by true e =
          let parts = pair_parts (same_party charge.operator operator) (same_party charge.provider provider) (same_currency charge.currency currency) e in
          let their = same_folded_party charge.operator operator parts.0 in
          let same = same_folded_account charge.provider provider charge.currency currency parts.1 in
          let own = same_pair_limit config charge.operator operator charge.provider provider charge.currency currency their same in
          let fits = above_if_any-none (pair_limit_of config charge.operator charge.provider charge.currency) (exposure_of (of_pair charge.operator charge.provider charge.currency) with) limit (or_none _ _ none).1 (own ∙ found) in
          omega (arith, fits, same_pair_exposure with charge.operator operator charge.provider provider charge.currency currency their same)
      by false e =
          let weighs : weight (of_pair operator provider currency) (account.Charge charge) ≡ 0 = weight_charge (of_pair operator provider currency) charge ∙ ap (λ b. cond b charge.cost 0) e in
          omega (arith, exposure_later (of_pair operator provider currency) entries (account.Charge charge), weighs, keeps.pair operator provider currency limit found)

  keeps_charge : KeepsLimits config with
  keeps_charge = record { provider = charge_provider; pair = charge_pair }

-- ---- one event more

module _ (config : Config) (known : Known) (keeps : KeepsLimits config known.account) where
  abbrev pub KeepsAfter : Event → Type 0
  KeepsAfter e = KeepsLimits config (known.account ++ account_entry e known.period)

  light : (x : AccountEntry)
      → ((provider : Party) (currency : List ℕ) → weight (of_provider provider currency) x ≡ 0)
      → ((operator provider : Party) (currency : List ℕ) → weight (of_pair operator provider currency) x ≡ 0)
      → KeepsLimits config (known.account ++ x ∷ [])
  light x none pair_none = keeps_weightless config known.account x none pair_none keeps

  no_entry : KeepsLimits config (known.account ++ [])
  no_entry = subst (KeepsLimits config) (sym (append-nil known.account)) keeps

  given_post : (cdr : Cdr) (cost : Option ℕ) → GivesPost config known KeepsAfter cdr cost
  given_post cdr None = λ amount unknown taken cdrs room. light (account.Credit (credit_of cdr amount known.period)) (λ provider currency. refl) (λ operator provider currency. refl)
  given_post cdr (Some cost) = λ unknown registered cdrs room within. keeps_charge config (charge_of cdr cost known.period) known.account keeps within

  given : (told : Command) → Gives config known KeepsAfter told
  given (command.PutTariff tariff) = λ room. no_entry
  given (command.PutToken token) = λ room. light (account.Token token) (λ provider currency. refl) (λ operator provider currency. refl)
  given (command.Authorize ask) = λ room covered. keeps_hold config ask known.account keeps covered
  given (command.Release release) = λ room. light (account.Release release) (λ provider currency. refl) (λ operator provider currency. refl)
  given (command.Post checked) = given_post checked.cdr checked.cost
  given (command.Close close) = λ current. no_entry
  given (command.Settle settlement) = λ room. light (account.Settlement settlement) (λ provider currency. refl) (λ operator provider currency. refl)
  given (command.Exposure ask) = tt
  given (command.Find find) = tt
  given (command.Statement ask) = tt

  pub keeps_given : (told : Command) (e : Event) → (verdict config known told).event ≡ Some e → KeepsAfter e
  keeps_given told e h = event_has config known KeepsAfter e told (given told) h

pub keeps_empty : (config : Config) → KeepsLimits config []
keeps_empty config = record { provider = λ provider currency. omega arith; pair = λ operator provider currency limit e. omega arith }
