-- The sum of debts, event by event, and with one more charge.
use Rattle.std.proofs.Common.{◌≡◌, ◌+◌, List, [], ◌∷◌, ◌++◌, Bool, true, false, not, ◌&&◌, ◌||◌, cond, Option, None, Some, filter, refl, ap, ◌∙◌}
use Rattle.std.specs.List.{list_any}
use Rattle.std.proofs.lemmas.List.Concat.{flat_map-append}
use Rattle.std.proofs.lemmas.List.Folds.{list_any-append}
use Rattle.std.proofs.lemmas.List.Elements.{filter-append}
use Rattle.std.proofs.lemmas.List.Sums.{sum_by-append}
use Rattle.plain_house.specs.declared.event.Event.{Event}
use Rattle.plain_house.specs.declared.debts.Sought.{Sought}
use Rattle.plain_house.specs.declared.debts.Sought.TheVariants as sought
use Rattle.plain_house.specs.declared.scope.Scope.{Scope}
use Rattle.cdr_checks.specs.declared.request.Settlement.{Settlement}
use Rattle.plain_house.specs.declared.entry.AccountEntry.TheVariants as account
use Rattle.plain_house.specs.Settlements.{settled_debt}
use Rattle.plain_house.specs.declared.entry.Charge.{Charge}
use Rattle.plain_house.specs.declared.entry.AccountEntry.{AccountEntry}
use Rattle.plain_house.specs.Entries.{account_entries}
use Rattle.plain_house.specs.Exposure.{charge_in, charges, charges_within, debts_of, ends_debt, is_owed, total_charged}
use Rattle.plain_house.specs.Inner.Scanned.{is_owed_in, owed_charges, with_charge}
use Rattle.plain_house.proofs.EntriesLemmas.{paid_in_events}

pub total_charged-append : (p : Charge → Bool) (xs ys : List Charge) → total_charged (filter p (xs ++ ys)) ≡ total_charged (filter p xs) + total_charged (filter p ys)
total_charged-append p xs ys =
    ap total_charged (filter-append p xs ys) ∙ sum_by-append (λ charge. charge.cost) (filter p xs) (filter p ys)

pub owed-append : (wanted : Sought) (events : List Event) (xs ys : List AccountEntry)
    → total_charged (owed_charges wanted events (xs ++ ys)) ≡ total_charged (owed_charges wanted events xs) + total_charged (owed_charges wanted events ys)
owed-append wanted events xs ys =
    ap (λ found. total_charged (filter (is_owed_in wanted events) found)) (flat_map-append charge_in xs ys)
    ∙ total_charged-append (is_owed_in wanted events) (charges xs) (charges ys)

pub ruleset debts = owed-append

-- ---- with one more charge

pub same_filter : (p q : Charge → Bool) → ((charge : Charge) → p charge ≡ q charge) → (charges : List Charge) → filter p charges ≡ filter q charges
same_filter p q same [] = refl
same_filter p q same (charge ∷ charges) =
    ap (λ (b : Bool). cond b (charge ∷ filter p charges) (filter p charges)) (same charge)
    ∙ ap (λ l. cond (q charge) (charge ∷ l) l) (same_filter p q same charges)

no_end : (charge : Charge) (added : Option Charge) → list_any (ends_debt charge) (with_charge added) ≡ false
no_end charge None = refl
no_end charge (Some another) = refl

or-false : (b : Bool) → (b || false) ≡ b
or-false true = refl
or-false false = refl

owed_same : (scope : Scope) (added : Option Charge) (events : List Event) (charge : Charge)
    → (charges_within scope charge && is_owed (account_entries events ++ with_charge added) charge) ≡ is_owed_in (sought.Within scope) events charge
owed_same scope added events charge =
    ap (λ b. charges_within scope charge && not b)
    (list_any-append (ends_debt charge) (account_entries events) (with_charge added)
    ∙ ap (λ b. list_any (ends_debt charge) (account_entries events) || b) (no_end charge added)
    ∙ or-false (list_any (ends_debt charge) (account_entries events)) ∙ paid_in_events charge events)

pub owed_in_events : (scope : Scope) (added : Option Charge) (events : List Event)
    → debts_of scope (account_entries events ++ with_charge added)
    ≡ total_charged (owed_charges (sought.Within scope) events (account_entries events)) + total_charged (owed_charges (sought.Within scope) events (with_charge added))
owed_in_events scope added events =
    ap total_charged
    (same_filter (λ charge. charges_within scope charge && is_owed (account_entries events ++ with_charge added) charge) (is_owed_in (sought.Within scope) events) (owed_same scope added events) (charges (account_entries events ++ with_charge added)))
    ∙ owed-append (sought.Within scope) events (account_entries events) (with_charge added)

pub ruleset debts_with = owed_in_events

-- ---- what a settlement ends

pub settled_in_events : (settlement : Settlement) (events : List Event)
    → settled_debt settlement (account_entries events) ≡ total_charged (owed_charges (sought.EndedBy settlement) events (account_entries events))
settled_in_events settlement events =
    ap total_charged
    (same_filter (λ charge. ends_debt charge (account.Settlement settlement) && is_owed (account_entries events) charge) (is_owed_in (sought.EndedBy settlement) events)
    (λ charge. ap (λ b. ends_debt charge (account.Settlement settlement) && not b) (paid_in_events charge events)) (charges (account_entries events)))

pub ruleset settled = settled_in_events
