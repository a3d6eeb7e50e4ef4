-- The sum of open holds, event by event, and with one more charge.
use Rattle.std.proofs.Common.{◌≡◌, ◌+◌, List, [], ◌∷◌, ◌++◌, Bool, true, false, not, ◌&&◌, ◌||◌, if◌then◌else◌, cond, Option, None, Some, filter, refl, sym, ap, ap₂, ◌∙◌}
use Rattle.std.specs.List.{list_any}
use Rattle.std.proofs.lemmas.List.Folds.{find-append, list_any-append}
use Rattle.std.proofs.lemmas.List.Elements.{filter-append}
use Rattle.std.proofs.lemmas.List.Sums.{sum_by-append}
use Rattle.plain_house.specs.declared.event.Event.{Event}
use Rattle.plain_house.specs.declared.event.Hold.{Hold}
use Rattle.plain_house.specs.declared.scope.Scope.{Scope}
use Rattle.plain_house.specs.declared.entry.Charge.{Charge}
use Rattle.plain_house.specs.declared.entry.AccountEntry.{AccountEntry}
use Rattle.plain_house.specs.declared.entry.AccountEntry.TheVariants as account
use Rattle.plain_house.specs.Entries.{account_entries}
use Rattle.plain_house.specs.Exposure.{ends_hold, holds_of, holds_within, open_hold, open_holds, total_held}
use Rattle.plain_house.specs.Inner.Scanned.{event_open_holds, still_holds, uses, with_charge}
use Rattle.plain_house.proofs.EntriesLemmas.{open_in_events}

pub total_held-append : (p : Hold → Bool) (xs ys : List Hold) → total_held (filter p (xs ++ ys)) ≡ total_held (filter p xs) + total_held (filter p ys)
total_held-append p xs ys =
    ap total_held (filter-append p xs ys) ∙ sum_by-append (λ hold. hold.amount) (filter p xs) (filter p ys)

pub ruleset holds = total_held-append

pub ruleset first_hold = find-append

-- ---- one more charge

uses_one : (charge : Option Charge) (hold : Hold) → list_any (ends_hold hold) (with_charge charge) ≡ uses charge hold
uses_one None hold = refl
uses_one (Some charge) hold = one (ends_hold hold (account.Charge charge))
  where
    one : (b : Bool) → (b || false) ≡ b
    one true = refl
    one false = refl

left : (hold : Hold) (a b : Bool) (used : Bool) → used ≡ not b → (if a || b then [] else hold ∷ []) ≡ (if a then [] else cond used (hold ∷ []) [])
left hold true b used e = refl
left hold false true used e = sym (ap (λ u. cond u (hold ∷ []) []) e)
left hold false false used e = sym (ap (λ u. cond u (hold ∷ []) []) e)

pushed_in : (a : Bool) (p : Hold → Bool) (hold : Hold) → (if a then [] else cond (p hold) (hold ∷ []) []) ≡ filter p (if a then [] else hold ∷ [])
pushed_in true p hold = refl
pushed_in false p hold = refl

open_with : (charge : Option Charge) (entry : AccountEntry) (later : List AccountEntry)
    → open_hold entry (later ++ with_charge charge) ≡ filter (λ hold. not (uses charge hold)) (open_hold entry later)
open_with charge (account.Token token) later = refl
open_with charge (account.Hold hold) later =
    ap (λ (b : Bool). if b then [] else hold ∷ []) (list_any-append (ends_hold hold) later (with_charge charge) ∙ ap (λ b. list_any (ends_hold hold) later || b) (uses_one charge hold))
    ∙ left hold (list_any (ends_hold hold) later) (uses charge hold) (not (uses charge hold)) refl
    ∙ pushed_in (list_any (ends_hold hold) later) (λ h. not (uses charge h)) hold
open_with charge (account.Release release) later = refl
open_with charge (account.Charge another) later = refl
open_with charge (account.Credit credit) later = refl
open_with charge (account.Settlement settlement) later = refl

none_open : (charge : Option Charge) → open_holds (with_charge charge) ≡ []
none_open None = refl
none_open (Some charge) = refl

open_holds_with : (charge : Option Charge) (entries : List AccountEntry)
    → open_holds (entries ++ with_charge charge) ≡ filter (λ hold. not (uses charge hold)) (open_holds entries)
open_holds_with charge [] = none_open charge
open_holds_with charge (entry ∷ later) =
    ap₂ (λ a b. a ++ b) (open_with charge entry later) (open_holds_with charge later)
    ∙ sym (filter-append (λ hold. not (uses charge hold)) (open_hold entry later) (open_holds later))

twice : (p q : Hold → Bool) (holds : List Hold) → filter p (filter q holds) ≡ filter (λ hold. p hold && q hold) holds
twice p q [] = refl
twice p q (hold ∷ holds) = step (q hold) (p hold) refl refl (twice p q holds)
  where
    step : (b a : Bool) → b ≡ q hold → a ≡ p hold → filter p (filter q holds) ≡ filter (λ h. p h && q h) holds
        → filter p (cond b (hold ∷ filter q holds) (filter q holds)) ≡ cond (a && b) (hold ∷ filter (λ h. p h && q h) holds) (filter (λ h. p h && q h) holds)
    step true true e d ih = ap (λ (u : Bool). cond u (hold ∷ filter p (filter q holds)) (filter p (filter q holds))) (sym d) ∙ ap (λ l. hold ∷ l) ih
    step true false e d ih = ap (λ (u : Bool). cond u (hold ∷ filter p (filter q holds)) (filter p (filter q holds))) (sym d) ∙ ih
    step false true e d ih = ih
    step false false e d ih = ih

pub held_in_events : (scope : Scope) (charge : Option Charge) (events : List Event)
    → holds_of scope (account_entries events ++ with_charge charge) ≡ total_held (filter (still_holds scope charge) (event_open_holds events))
held_in_events scope charge events =
    ap (λ holds. total_held (filter (holds_within scope) holds)) (open_holds_with charge (account_entries events))
    ∙ ap total_held (twice (holds_within scope) (λ hold. not (uses charge hold)) (open_holds (account_entries events)))
    ∙ ap (λ holds. total_held (filter (still_holds scope charge) holds)) (open_in_events 0 events)

pub ruleset holds_with = held_in_events
