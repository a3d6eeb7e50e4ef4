-- What a settlement ends is owed, and so within the limit.
use Rattle.std.proofs.Common.{◌≡◌, ◌≤◌, ◌+◌, ◌&&◌, ◌||◌, ◌==◌, ℕ, List, [], ◌∷◌, ◌++◌, Bool, true, false, not, cond, refl, ap, ap₂, ◌∙◌, arith, append-nil, filter}
use Rattle.std.specs.List.{list_any}
use Rattle.std.proofs.lemmas.List.Concat.{flat_map-append}
use Rattle.std.proofs.lemmas.List.Folds.{list_any-append}
use Rattle.std.proofs.lemmas.Cmp.{nat_list_eq_equiv}
use Rattle.ocpi_json.specs.Folded.{folded}
use Rattle.ocpi_types.specs.declared.config.Config.{Config}
use Rattle.ocpi_types.specs.declared.party.Party.{Party}
use Rattle.ocpi_types.specs.Config.{limit_of}
use Rattle.ocpi_types.specs.Currency.{same_currency}
use Rattle.ocpi_types.specs.Party.{same_party}
use Rattle.cdr_checks.specs.declared.request.Settlement.{Settlement}
use Rattle.plain_house.specs.declared.event.Event.{Event}
use Rattle.plain_house.specs.declared.entry.AccountEntry.{AccountEntry}
use Rattle.plain_house.specs.declared.entry.AccountEntry.TheVariants as account
use Rattle.plain_house.specs.declared.entry.Charge.{Charge}
use Rattle.plain_house.specs.Entries.{account_entries}
use Rattle.plain_house.specs.Exposure.{charge_in, charges, charges_within, debts_of, ends_debt, is_owed, of_provider, total_charged}
use Rattle.plain_house.specs.LegalLists.{KeepsLimits}
use Rattle.plain_house.specs.Settlements.{SettlementsEndTheirDebts, settled_debt}
use Rattle.plain_house.proofs.ExposureLater.{charged_one, fewer}

pub party_symm : (a b : Party) → same_party a b ≡ same_party b a
party_symm a b =
    ap₂ (λ (x y : Bool). x && y) (nat_list_eq_equiv.symm (folded a.country_code) (folded b.country_code))
    (nat_list_eq_equiv.symm (folded a.party_id) (folded b.party_id))

pub currency_symm : (a b : List ℕ) → same_currency a b ≡ same_currency b a
currency_symm a b = nat_list_eq_equiv.symm a b

module _ (settlement : Settlement) (entries : List AccountEntry) where
  within_both : (charge : Charge) → (ends_debt charge (account.Settlement settlement) && is_owed entries charge) ≡ true
      → (charges_within (of_provider settlement.provider settlement.currency) charge && is_owed entries charge) ≡ true
  within_both charge h =
      by (same_party settlement.provider charge.provider) (same_currency settlement.currency charge.currency) (settlement.period == charge.period) (is_owed entries charge)
      (same_party charge.provider settlement.provider) (same_currency charge.currency settlement.currency)
      (party_symm settlement.provider charge.provider) (currency_symm settlement.currency charge.currency) h
    where
      by : (a b c d p q : Bool) → a ≡ p → b ≡ q → ((a && b && c) && d) ≡ true → ((true && p && q) && d) ≡ true
      by true true c true true true e f g = refl
      by true true c true true false e f g = absurd (cc)
      by true true c true false q e f g = absurd (cc)
      by true true true false p q e f g = absurd (cc)
      by true true false false p q e f g = absurd (cc)
      by true false c d p q e f g = absurd (cc)
      by false b c d p q e f g = absurd (cc)

  settled_within : settled_debt settlement entries ≤ debts_of (of_provider settlement.provider settlement.currency) entries
  settled_within =
      fewer (λ charge. ends_debt charge (account.Settlement settlement) && is_owed entries charge)
      (λ charge. charges_within (of_provider settlement.provider settlement.currency) charge && is_owed entries charge) within_both (charges entries)

pub settled_limit : (config : Config) (events : List Event) (settlement : Settlement) → KeepsLimits config (account_entries events)
    → settled_debt settlement (account_entries events) ≤ limit_of config settlement.provider settlement.currency
settled_limit config events settlement keeps =
    omega (arith, settled_within settlement (account_entries events), keeps.provider settlement.provider settlement.currency)

-- ---- a settlement ends what is owed of its provider, currency and period

module _ (settlement : Settlement) (entries : List AccountEntry) where
  abbrev after : List AccountEntry
  after = entries ++ account.Settlement settlement ∷ []

  still_owed : (charge : Charge) → is_owed after charge ≡ (is_owed entries charge && not (ends_debt charge (account.Settlement settlement)))
  still_owed charge =
      ap not (list_any-append (ends_debt charge) entries (account.Settlement settlement ∷ []))
      ∙ by (list_any (ends_debt charge) entries) (ends_debt charge (account.Settlement settlement))
    where
      by : (a b : Bool) → not (a || (b || false)) ≡ (not a && not b)
      by true b = refl
      by false true = refl
      by false false = refl

  -- a charge is still owed, is ended or was not owed
  split : (charge : Charge) (within ends owed later : Bool) → (ends ≡ true → within ≡ true) → later ≡ (owed && not ends)
      → cond (within && later) charge.cost 0 + cond (ends && owed) charge.cost 0 ≡ cond (within && owed) charge.cost 0
  split charge true true true later h e = omega (arith, ap (λ b. cond {A = ℕ} (true && b) charge.cost 0) e)
  split charge true true false later h e = omega (arith, ap (λ b. cond {A = ℕ} (true && b) charge.cost 0) e)
  split charge true false true later h e = omega (arith, ap (λ b. cond {A = ℕ} (true && b) charge.cost 0) e)
  split charge true false false later h e = omega (arith, ap (λ b. cond {A = ℕ} (true && b) charge.cost 0) e)
  split charge false true owed later h e = absurd (let no : false ≡ true = h refl in cc)
  split charge false false owed later h e = omega arith

  all_split : (p q r : Charge → Bool) → ((charge : Charge) → cond (p charge) charge.cost 0 + cond (q charge) charge.cost 0 ≡ cond (r charge) charge.cost 0)
      → (found : List Charge) → total_charged (filter p found) + total_charged (filter q found) ≡ total_charged (filter r found)
  all_split p q r each [] = refl
  all_split p q r each (charge ∷ found) =
      omega (arith, charged_one p charge found, charged_one q charge found, charged_one r charge found, each charge, all_split p q r each found)

  ended_within : (charge : Charge) → ends_debt charge (account.Settlement settlement) ≡ true → charges_within (of_provider settlement.provider settlement.currency) charge ≡ true
  ended_within charge h =
      by (same_party settlement.provider charge.provider) (same_currency settlement.currency charge.currency) (settlement.period == charge.period)
      (same_party charge.provider settlement.provider) (same_currency charge.currency settlement.currency)
      (party_symm settlement.provider charge.provider) (currency_symm settlement.currency charge.currency) h
    where
      by : (a b c p q : Bool) → a ≡ p → b ≡ q → (a && b && c) ≡ true → (true && p && q) ≡ true
      by true true c true true e f g = refl
      by true true c true false e f g = absurd (cc)
      by true true c false q e f g = absurd (cc)
      by true false c p q e f g = absurd (cc)
      by false b c p q e f g = absurd (cc)

  lowered : debts_of (of_provider settlement.provider settlement.currency) after + settled_debt settlement entries ≡ debts_of (of_provider settlement.provider settlement.currency) entries
  lowered =
      let scope = of_provider settlement.provider settlement.currency in
      let same_charges : charges after ≡ charges entries = flat_map-append charge_in entries (account.Settlement settlement ∷ []) ∙ append-nil (charges entries) in
      let same : debts_of scope after ≡ total_charged (filter (λ charge. charges_within scope charge && is_owed after charge) (charges entries)) =
      ap (λ found. total_charged (filter (λ charge. charges_within scope charge && is_owed after charge) found)) same_charges in
      omega (
        arith,
        same,
        all_split (λ charge. charges_within scope charge && is_owed after charge) (λ charge. ends_debt charge (account.Settlement settlement) && is_owed entries charge)
            (λ charge. charges_within scope charge && is_owed entries charge)
            (λ charge. split charge (charges_within scope charge) (ends_debt charge (account.Settlement settlement)) (is_owed entries charge) (is_owed after charge) (ended_within charge) (still_owed charge))
            (charges entries),
      )

pub settlements_end_debts : SettlementsEndTheirDebts
settlements_end_debts entries settlement = record { charge = still_owed settlement entries; provider = lowered settlement entries }
