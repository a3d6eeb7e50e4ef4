-- Open holds after one more entry, and the keys by which they are found.
use Rattle.std.proofs.Common.{◌≡◌, ℕ, List, [], ◌∷◌, ◌++◌, Bool, true, false, not, ◌&&◌, ◌||◌, cond, if◌then◌else◌, Option, None, Some, filter, refl, sym, ap, ap₂, ◌∙◌, rules}
use Rattle.std.specs.Cmp.{IsEquivalence}
use Rattle.std.specs.Cmp.Rules.{comparing}
use Rattle.std.specs.List.{list_any}
use Rattle.std.specs.Map.{lookup}
use Rattle.std.proofs.Math.Bool.{and_assoc}
use Rattle.std.proofs.lemmas.List.{append-nil, append_assoc}
use Rattle.std.proofs.lemmas.List.Elements.{filter-append}
use Rattle.std.proofs.lemmas.List.Folds.{list_any-append}
use Rattle.indexmap.specs.IndexMap.{get}
use Rattle.ocpi_json.specs.Folded.{same_folded}
use Rattle.ocpi_types.specs.Currency.{same_currency}
use Rattle.ocpi_types.specs.Party.{same_party}
use Rattle.cdr_checks.specs.declared.request.Release.{Release}
use Rattle.plain_house.specs.declared.entry.AccountEntry.{AccountEntry}
use Rattle.plain_house.specs.declared.entry.AccountEntry.TheVariants as account
use Rattle.plain_house.specs.declared.entry.Charge.{Charge}
use Rattle.plain_house.specs.declared.event.Hold.{Hold}
use Rattle.plain_house.specs.Exposure.{ends_hold, names, open_hold, open_holds}
use Rattle.provider_account.specs.declared.holds.HoldKey.{HoldKey}
use Rattle.provider_account.specs.declared.holds.Holds.{Holds}
use Rattle.provider_account.specs.Inner.Holds.{key_of_hold, key_of_release, names_key, names_reference, same_hold}

-- ---- keys

pub same_hold_laws : IsEquivalence same_hold
same_hold_laws = search (comparing, rules)

-- a release ends the holds of its key
pub ended_by_key : (hold : Hold) (release : Release) → ends_hold hold (account.Release release) ≡ same_hold (key_of_release release) (key_of_hold hold)
ended_by_key hold release =
    and_assoc (same_party release.operator hold.operator) (same_party release.provider hold.provider) (same_folded release.reference hold.reference)

-- ---- one more entry

open_hold-push : (entry : AccountEntry) (later : List AccountEntry) (x : AccountEntry)
    → open_hold entry (later ++ x ∷ []) ≡ filter (λ hold. not (ends_hold hold x)) (open_hold entry later)
open_hold-push (account.Token token) later x = refl
open_hold-push (account.Hold hold) later x =
    ap (λ (b : Bool). if b then [] else hold ∷ []) (list_any-append (ends_hold hold) later (x ∷ []))
    ∙ by (list_any (ends_hold hold) later) (ends_hold hold x) refl
  where
    by : (a b : Bool) → ends_hold hold x ≡ b → (if a || (b || false) then [] else hold ∷ []) ≡ filter (λ h. not (ends_hold h x)) (if a then [] else hold ∷ [])
    by true b e = refl
    by false true e = sym (ap (λ (b : Bool). cond (not b) (hold ∷ []) []) e)
    by false false e = sym (ap (λ (b : Bool). cond (not b) (hold ∷ []) []) e)
open_hold-push (account.Release release) later x = refl
open_hold-push (account.Charge charge) later x = refl
open_hold-push (account.Credit credit) later x = refl
open_hold-push (account.Settlement settlement) later x = refl

pub open_holds-push : (entries : List AccountEntry) (x : AccountEntry)
    → open_holds (entries ++ x ∷ []) ≡ filter (λ hold. not (ends_hold hold x)) (open_holds entries) ++ open_hold x []
open_holds-push [] x = append-nil (open_hold x [])
open_holds-push (entry ∷ later) x =
    let rest : Hold → Bool = λ hold. not (ends_hold hold x) in
    ap₂ (λ a b. a ++ b) (open_hold-push entry later x) (open_holds-push later x)
    ∙ sym (append_assoc (filter rest (open_hold entry later)) (filter rest (open_holds later)) (open_hold x []))
    ∙ ap (λ l. l ++ open_hold x []) (sym (filter-append rest (open_hold entry later) (open_holds later)))

-- ---- the holds that one entry ends have one key

pub both : (a b : Bool) → (a && b) ≡ true → (a ≡ true) × (b ≡ true)
both true b h = (refl, h)
both false b h = absurd (Prim.cc)

charged : (charge : Charge) (hold : Hold) (reference : List ℕ)
    → (same_party charge.operator hold.operator && same_party charge.provider hold.provider && same_currency charge.currency hold.currency && same_folded reference hold.reference) ≡ true
    → same_hold (record { operator = charge.operator; provider = charge.provider; reference = reference }) (key_of_hold hold) ≡ true
charged charge hold reference h =
    let first = both (same_party charge.operator hold.operator && same_party charge.provider hold.provider && same_currency charge.currency hold.currency) (same_folded reference hold.reference) h in
    let second = both (same_party charge.operator hold.operator && same_party charge.provider hold.provider) (same_currency charge.currency hold.currency) first.0 in
    let third = both (same_party charge.operator hold.operator) (same_party charge.provider hold.provider) second.0 in
    λ i. third.0 i && (third.1 i && first.1 i)

-- the key that the entry names
pub same_ended : (x : AccountEntry) (h k : Hold) → ends_hold h x ≡ true → ends_hold k x ≡ true → same_hold (key_of_hold h) (key_of_hold k) ≡ true
same_ended (account.Token token) h k e d = absurd (cc)
same_ended (account.Hold hold) h k e d = absurd (cc)
same_ended (account.Release release) h k e d =
    sym (same_hold_laws.congr (key_of_release release) (key_of_hold h) (key_of_hold k) (sym (ended_by_key h release) ∙ e)) ∙ (sym (ended_by_key k release) ∙ d)
same_ended (account.Charge charge) h k e d = by charge.hold refl
  where
    none : (a : Bool) → (a && false) ≡ true → ⊥
    none true n = absurd (Prim.cc)
    none false n = absurd (Prim.cc)

    by : (named : Option (List ℕ)) → charge.hold ≡ named → same_hold (key_of_hold h) (key_of_hold k) ≡ true
    by None is = absurd (none (same_party charge.operator h.operator && same_party charge.provider h.provider && same_currency charge.currency h.currency) (sym (ap (λ (named : Option (List ℕ)). same_party charge.operator h.operator && same_party charge.provider h.provider && same_currency charge.currency h.currency && names h.reference named) is) ∙ e))
    by (Some reference) is =
        let key : HoldKey = record { operator = charge.operator; provider = charge.provider; reference = reference } in
        let here = charged charge h reference (sym (ap (λ (named : Option (List ℕ)). same_party charge.operator h.operator && same_party charge.provider h.provider && same_currency charge.currency h.currency && names h.reference named) is) ∙ e) in
        let there = charged charge k reference (sym (ap (λ (named : Option (List ℕ)). same_party charge.operator k.operator && same_party charge.provider k.provider && same_currency charge.currency k.currency && names k.reference named) is) ∙ d) in
        sym (same_hold_laws.congr key (key_of_hold h) (key_of_hold k) here) ∙ there
same_ended (account.Credit credit) h k e d = absurd (cc)
same_ended (account.Settlement settlement) h k e d = absurd (cc)

-- an entry names the key of a hold that it ends
pub named_by : (x : AccountEntry) (hold : Hold) → ends_hold hold x ≡ true → (key : HoldKey) → names_key x key ≡ same_hold (key_of_hold hold) key
named_by (account.Token token) hold e key = absurd (cc)
named_by (account.Hold other) hold e key = absurd (cc)
named_by (account.Release release) hold e key = same_hold_laws.congr (key_of_release release) (key_of_hold hold) key (sym (ended_by_key hold release) ∙ e)
named_by (account.Charge charge) hold e key = by charge.hold refl
  where
    none : (a : Bool) → (a && false) ≡ true → ⊥
    none true n = absurd (Prim.cc)
    none false n = absurd (Prim.cc)

    ended : Option (List ℕ) → Bool
    ended named = same_party charge.operator hold.operator && same_party charge.provider hold.provider && same_currency charge.currency hold.currency && names hold.reference named

    by : (named : Option (List ℕ)) → charge.hold ≡ named → names_reference charge key charge.hold ≡ same_hold (key_of_hold hold) key
    by None is = absurd (none (same_party charge.operator hold.operator && same_party charge.provider hold.provider && same_currency charge.currency hold.currency) (sym (ap ended is) ∙ e))
    by (Some reference) is =
        ap (names_reference charge key) is
        ∙ same_hold_laws.congr (record { operator = charge.operator; provider = charge.provider; reference = reference }) (key_of_hold hold) key
        (charged charge hold reference (sym (ap ended is) ∙ e))
named_by (account.Credit credit) hold e key = absurd (cc)
named_by (account.Settlement settlement) hold e key = absurd (cc)

-- a hold that is taken out and put back
pub put_back : (old : Holds) (middle after : HoldKey → Option Hold) (key : HoldKey) (hold : Hold) → get same_hold old.open key ≡ Some hold
    → ((other : HoldKey) → middle other ≡ cond (same_hold key other) None (get same_hold old.open other))
    → ((other : HoldKey) → after other ≡ cond (same_hold key other) (Some hold) (middle other))
    → (other : HoldKey) → after other ≡ get same_hold old.open other
put_back old middle after key hold was taken puts other = by (same_hold key other) refl
  where
    by : (b : Bool) → same_hold key other ≡ b → after other ≡ get same_hold old.open other
    by true e =
        puts other ∙ ap (λ b. cond b (Some hold) (middle other)) e ∙ sym was
        ∙ (λ i. lookup (λ third. same_hold_laws.congr key other third e i) old.open.entries)
    by false e =
        puts other ∙ ap (λ b. cond b (Some hold) (middle other)) e ∙ taken other ∙ ap (λ b. cond b None (get same_hold old.open other)) e
