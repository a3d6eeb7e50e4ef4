-- Holds and debts, read off the entries of the provider's own account.
use Rattle.std.proofs.Common.{◌≡◌, List, [], ◌∷◌, ◌++◌, Bool, true, false, not, ◌&&◌, ◌||◌, cond, refl, sym, ap, ap₂, ◌∙◌, filter, if◌then◌else◌}
use Rattle.std.specs.List.{list_any, AllByRecursion}
use Rattle.std.proofs.lemmas.Map.Views.{any-filter_same}
use Rattle.std.proofs.lemmas.List.Elements.{filter-append}
use Rattle.ocpi_json.specs.Folded.{same_folded}
use Rattle.ocpi_types.specs.declared.party.Party.{Party}
use Rattle.ocpi_types.specs.Party.{same_party}
use Rattle.ocpi_types.specs.Currency.{same_currency}
use Rattle.plain_house.specs.declared.event.Hold.{Hold}
use Rattle.plain_house.specs.declared.scope.Scope.{Scope}
use Rattle.plain_house.specs.declared.entry.AccountEntry.{AccountEntry}
use Rattle.plain_house.specs.declared.entry.AccountEntry.TheVariants as account
use Rattle.plain_house.specs.declared.entry.Charge.{Charge}
use Rattle.plain_house.specs.Exposure.{charge_in, charges, charges_within, debts_of, ends_debt, ends_hold, holds_of, holds_within, is_by, is_owed, names, open_hold, open_holds, total_charged, total_held}
use Rattle.plain_house.specs.Full.{is_entry_of, own_entries}
use Rattle.plain_house.proofs.KeptLemmas.{IsWithin, filter_kept, flat_kept, none_of}
use Rattle.plain_house.proofs.SameScope.{both_are, is_party_of, same_folded_party, FoldedParty}

-- ---- the same party

pub party_along : (p a b : Party) → same_party a b ≡ true → same_party p a ≡ same_party p b
party_along p a b h = ap (λ (f : FoldedParty). is_party_of f p) (same_folded_party a b h)

-- an entry of a party's account is one of the same party's
pub entry_along : (a b : Party) (entry : AccountEntry) → same_party a b ≡ true → is_entry_of a entry ≡ is_entry_of b entry
entry_along a b (account.Token token) h = party_along token.provider a b h
entry_along a b (account.Hold hold) h = party_along hold.provider a b h
entry_along a b (account.Release release) h = party_along release.provider a b h
entry_along a b (account.Charge charge) h = party_along charge.provider a b h
entry_along a b (account.Credit credit) h = party_along credit.provider a b h
entry_along a b (account.Settlement settlement) h = party_along settlement.provider a b h

-- ---- holds

pub second : (a b c : Bool) → (a && b && c) ≡ true → b ≡ true
second a b c h = (both_are a b (both_are (a && b) c h).0).1

-- what ends a hold is an entry of its provider
ends_own : (provider : Party) (hold : Hold) (entry : AccountEntry) → same_party hold.provider provider ≡ true → ends_hold hold entry ≡ true → is_entry_of provider entry ≡ true
ends_own provider hold (account.Token token) h e = absurd (cc)
ends_own provider hold (account.Hold another) h e = absurd (cc)
ends_own provider hold (account.Release release) h e =
    sym (party_along release.provider hold.provider provider h) ∙ second (same_party release.operator hold.operator) (same_party release.provider hold.provider) (same_folded release.reference hold.reference) e
ends_own provider hold (account.Charge charge) h e =
    sym (party_along charge.provider hold.provider provider h)
    ∙ second (same_party charge.operator hold.operator) (same_party charge.provider hold.provider) (same_currency charge.currency hold.currency)
    (both_are (same_party charge.operator hold.operator && same_party charge.provider hold.provider && same_currency charge.currency hold.currency) (names hold.reference charge.hold) e).0
ends_own provider hold (account.Credit credit) h e = absurd (cc)
ends_own provider hold (account.Settlement settlement) h e = absurd (cc)

own_ended : (provider : Party) (hold : Hold) (later : List AccountEntry) → same_party hold.provider provider ≡ true
    → list_any (ends_hold hold) (own_entries provider later) ≡ list_any (ends_hold hold) later
own_ended provider hold later h =
    any-filter_same (ends_hold hold) (is_entry_of provider) true (λ entry e. ends_own provider hold entry h e) later

-- what an entry of the account opens
own_open : (provider : Party) (entry : AccountEntry) (later : List AccountEntry) → is_entry_of provider entry ≡ true
    → open_hold entry (own_entries provider later) ≡ open_hold entry later
own_open provider (account.Token token) later h = refl
own_open provider (account.Hold hold) later h = ap (λ (b : Bool). if b then [] else hold ∷ []) (own_ended provider hold later h)
own_open provider (account.Release release) later h = refl
own_open provider (account.Charge charge) later h = refl
own_open provider (account.Credit credit) later h = refl
own_open provider (account.Settlement settlement) later h = refl

abbrev pub is_hold_by : Party → Hold → Bool
is_hold_by provider hold = same_party hold.provider provider

-- what an entry opens is a hold of the provider where the entry is one of its account
own_hold : (provider : Party) (entry : AccountEntry) (later : List AccountEntry)
    → filter (is_hold_by provider) (open_hold entry later) ≡ cond (is_entry_of provider entry) (open_hold entry later) []
own_hold provider (account.Token token) later = none_of (same_party token.provider provider)
own_hold provider (account.Hold hold) later = by (list_any (ends_hold hold) later)
  where
    by : (ended : Bool) → filter (is_hold_by provider) (if ended then [] else hold ∷ []) ≡ cond (same_party hold.provider provider) (if ended then [] else hold ∷ []) []
    by true = none_of (same_party hold.provider provider)
    by false = refl
own_hold provider (account.Release release) later = none_of (same_party release.provider provider)
own_hold provider (account.Charge charge) later = none_of (same_party charge.provider provider)
own_hold provider (account.Credit credit) later = none_of (same_party credit.provider provider)
own_hold provider (account.Settlement settlement) later = none_of (same_party settlement.provider provider)

-- the open holds of the account are those of the provider
pub own_holds : (provider : Party) (entries : List AccountEntry) → open_holds (own_entries provider entries) ≡ filter (is_hold_by provider) (open_holds entries)
own_holds provider [] = refl
own_holds provider (entry ∷ later) = by (is_entry_of provider entry) refl (own_holds provider later)
  where
    whole : filter (is_hold_by provider) (open_hold entry later ++ open_holds later)
        ≡ cond (is_entry_of provider entry) (open_hold entry later) [] ++ filter (is_hold_by provider) (open_holds later)
    whole = filter-append (is_hold_by provider) (open_hold entry later) (open_holds later) ∙ ap (λ l. l ++ filter (is_hold_by provider) (open_holds later)) (own_hold provider entry later)

    by : (b : Bool) → is_entry_of provider entry ≡ b
        → open_holds (own_entries provider later) ≡ filter (is_hold_by provider) (open_holds later)
        → open_holds (cond b (entry ∷ own_entries provider later) (own_entries provider later)) ≡ filter (is_hold_by provider) (open_hold entry later ++ open_holds later)
    by true e rest =
        ap₂ (λ a b. a ++ b) (own_open provider entry later e) rest
        ∙ sym (whole ∙ ap (λ (b : Bool). cond b (open_hold entry later) [] ++ filter (is_hold_by provider) (open_holds later)) e)
    by false e rest =
        rest ∙ sym (whole ∙ ap (λ (b : Bool). cond b (open_hold entry later) [] ++ filter (is_hold_by provider) (open_holds later)) e)

pub holds_of_own : (scope : Scope) (entries : List AccountEntry) → holds_of scope (own_entries scope.provider entries) ≡ holds_of scope entries
holds_of_own scope entries =
    ap (λ l. total_held (filter (holds_within scope) l)) (own_holds scope.provider entries)
    ∙ ap total_held
    (filter_kept (holds_within scope) (is_hold_by scope.provider)
    (λ hold h. second (is_by scope.operator hold.operator) (same_party hold.provider scope.provider) (same_currency hold.currency scope.currency) h) (open_holds entries))

-- ---- debts

-- what ends the debt of a charge is an entry of its provider
abbrev pub IsEndedByOwn : List AccountEntry → Charge → Type 0
IsEndedByOwn entries charge = AllByRecursion (λ entry. ends_debt charge entry ≡ true → is_entry_of charge.provider entry ≡ true) entries

own_paid : (provider : Party) (charge : Charge) (entries : List AccountEntry) → same_party charge.provider provider ≡ true → IsEndedByOwn entries charge
    → list_any (ends_debt charge) (own_entries provider entries) ≡ list_any (ends_debt charge) entries
own_paid provider charge [] h ended = refl
own_paid provider charge (entry ∷ later) h ended =
    by (ends_debt charge entry) (is_entry_of provider entry) refl refl (own_paid provider charge later h ended.1)
  where
    by : (ends own : Bool) → ends_debt charge entry ≡ ends → is_entry_of provider entry ≡ own
        → list_any (ends_debt charge) (own_entries provider later) ≡ list_any (ends_debt charge) later
        → list_any (ends_debt charge) (cond own (entry ∷ own_entries provider later) (own_entries provider later)) ≡ (ends || list_any (ends_debt charge) later)
    by true true e f rest = ap (λ (b : Bool). b || list_any (ends_debt charge) (own_entries provider later)) e
    by true false e f rest = absurd (let no : false ≡ true = sym f ∙ sym (entry_along charge.provider provider entry h) ∙ ended.0 e in cc)
    by false true e f rest = ap (λ (b : Bool). b || list_any (ends_debt charge) (own_entries provider later)) e ∙ rest
    by false false e f rest = rest

same_owed : (provider : Party) (charge : Charge) (entries : List AccountEntry) → same_party charge.provider provider ≡ true → IsEndedByOwn entries charge
    → is_owed (own_entries provider entries) charge ≡ is_owed entries charge
same_owed provider charge entries h ended = ap not (own_paid provider charge entries h ended)

abbrev pub is_charge_of : Party → Charge → Bool
is_charge_of provider charge = same_party charge.provider provider

own_charge : (provider : Party) (entry : AccountEntry) → filter (is_charge_of provider) (charge_in entry) ≡ cond (is_entry_of provider entry) (charge_in entry) []
own_charge provider (account.Token token) = none_of (same_party token.provider provider)
own_charge provider (account.Hold hold) = none_of (same_party hold.provider provider)
own_charge provider (account.Release release) = none_of (same_party release.provider provider)
own_charge provider (account.Charge charge) = refl
own_charge provider (account.Credit credit) = none_of (same_party credit.provider provider)
own_charge provider (account.Settlement settlement) = none_of (same_party settlement.provider provider)

-- the charges of the account are those of the provider
own_charges : (provider : Party) (entries : List AccountEntry) → charges (own_entries provider entries) ≡ filter (is_charge_of provider) (charges entries)
own_charges provider entries = flat_kept charge_in (is_entry_of provider) (is_charge_of provider) (own_charge provider) entries

-- sums of charges of the provider
module _ (provider : Party) (test : Charge → Bool) (within : IsWithin test (is_charge_of provider)) where
  -- it passes, and is owed by these entries
  abbrev owes : List AccountEntry → Charge → Bool
  owes entries charge = test charge && is_owed entries charge

  passes_owed : (entries : List AccountEntry) (charge : Charge) → IsEndedByOwn entries charge → owes (own_entries provider entries) charge ≡ owes entries charge
  passes_owed entries charge ended = by (test charge) refl
    where
      by : (b : Bool) → test charge ≡ b → (b && is_owed (own_entries provider entries) charge) ≡ (b && is_owed entries charge)
      by true e = same_owed provider charge entries (within charge e) ended
      by false e = refl

  own_owed : (entries : List AccountEntry) (found : List Charge) → AllByRecursion (IsEndedByOwn entries) found
      → filter (owes (own_entries provider entries)) found ≡ filter (owes entries) found
  own_owed entries [] ended = refl
  own_owed entries (charge ∷ found) ended =
      ap₂ (λ (b : Bool) (l : List Charge). cond b (charge ∷ l) l) (passes_owed entries charge ended.0) (own_owed entries found ended.1)

  pub charged_of_own : (entries : List AccountEntry) → AllByRecursion (IsEndedByOwn entries) (charges entries)
      → total_charged (filter (owes (own_entries provider entries)) (charges (own_entries provider entries))) ≡ total_charged (filter (owes entries) (charges entries))
  charged_of_own entries ended =
      ap (λ l. total_charged (filter (owes (own_entries provider entries)) l)) (own_charges provider entries)
      ∙ ap total_charged
      (filter_kept (owes (own_entries provider entries)) (is_charge_of provider)
      (λ charge h. within charge (both_are (test charge) (is_owed (own_entries provider entries) charge) h).0) (charges entries)
      ∙ own_owed entries (charges entries) ended)

pub debts_of_own : (scope : Scope) (entries : List AccountEntry) → AllByRecursion (IsEndedByOwn entries) (charges entries)
    → debts_of scope (own_entries scope.provider entries) ≡ debts_of scope entries
debts_of_own scope entries ended =
    charged_of_own scope.provider (charges_within scope)
    (λ charge h. second (is_by scope.operator charge.operator) (same_party charge.provider scope.provider) (same_currency charge.currency scope.currency) h)
    entries ended
