-- The net position that is found among the rows, and where none is found.
use Rattle.std.proofs.Common.{◌≡◌, ℕ, pos, Bool, true, false, cond, ◌&&◌, ◌||◌, List, [], ◌∷◌, map, filter, find, None, Some, refl, sym, ap, subst, ◌∙◌}
use Rattle.std.specs.Prelude.{◌-ℤ◌}
use Rattle.std.specs.List.{All, list_all, list_any}
use Rattle.std.proofs.lemmas.List.Elements.{All-append, All-cons, All-head, All-nil, All-same, All-tail, filter_agree}
use Rattle.std.proofs.lemmas.List.Folds.{list_any-append}
use Rattle.ocpi_types.specs.declared.party.Party.{Party}
use Rattle.ocpi_types.specs.Config.{has_currency_among}
use Rattle.ocpi_types.specs.Currency.{same_currency}
use Rattle.ocpi_types.specs.Party.{same_party}
use Rattle.netting_positions.specs.declared.obligation.Obligation.{Obligation}
use Rattle.netting_positions.specs.declared.positions.NetPosition.{NetPosition}
use Rattle.netting_positions.specs.Netting.{amounts, is_among, is_configured, is_payable, is_receivable, net_position, net_positions, payable, position, receivable, total}
use Rattle.netting_positions.specs.Inner.Rows.{IsNetted}
use Rattle.netting_positions.proofs.SameParties.{both_are, currency_is, same_as}
use Rattle.netting_positions.proofs.Sums.{sum_of}

-- the row of the party in the currency
abbrev pub is_row : Party → List ℕ → NetPosition → Bool
is_row party currency row = same_currency row.currency currency && same_party row.party party

pub find_gives : (test : NetPosition → Bool) (Q : NetPosition → Type 0) (rows : List NetPosition) (row : NetPosition)
    → All Q rows → find test rows ≡ Some row → (test row ≡ true) × Q row
find_gives test Q [] row all e = absurd (Prim.cc)
find_gives test Q (x ∷ rows) row all e =
    elim (test x) as (λ b. test x ≡ b → cond b (Some x) (find test rows) ≡ Some row → (test row ≡ true) × Q row) [
      | true ↦ λ t e. (let same : x ≡ row = Prim.cc in (subst (λ r. test r ≡ true) same t, subst Q same (All-head Q x rows all)))
      | false ↦ λ t e. find_gives test Q rows row (All-tail Q x rows all) e
    ] refl e

find_none : (test : NetPosition → Bool) (rows : List NetPosition) → find test rows ≡ None → list_any test rows ≡ false
find_none test [] e = refl
find_none test (x ∷ rows) e =
    elim (test x) as (λ b. cond b (Some x) (find test rows) ≡ None → (b || list_any test rows) ≡ false) [
      | true ↦ λ e. absurd (Prim.cc)
      | false ↦ λ e. find_none test rows e
    ] e

-- ---- what the rows say

abbrev IsNet : List Obligation → NetPosition → Type 0
IsNet os row = row.net ≡ net_position row.party row.currency os

nets_in : (os : List Obligation) (c : List ℕ) (ps : List Party) → All (IsNet os) (map (position os c) ps)
nets_in os c [] = All-nil (IsNet os)
nets_in os c (p ∷ ps) = All-cons (IsNet os) (position os c p) (map (position os c) ps) refl (nets_in os c ps)

nets : (os : List Obligation) (ps : List Party) (cs : List (List ℕ)) → All (IsNet os) (net_positions ps cs os)
nets os ps [] = All-nil (IsNet os)
nets os ps (c ∷ cs) = All-append (IsNet os) (map (position os c) ps) (net_positions ps cs os) (nets_in os c ps) (nets os ps cs)

pub sum_agree : (p q : Obligation → Bool) → ((o : Obligation) → p o ≡ q o) → (os : List Obligation) → sum_of p os ≡ sum_of q os
sum_agree p q same os = ap (λ (l : List Obligation). total (amounts l)) (filter_agree p q same os)

alike_position : (p party : Party) (c : List ℕ) (os : List Obligation) → same_party p party ≡ true → net_position p c os ≡ net_position party c os
unfolding net_position receivable payable
alike_position p party c os h =
    ap (λ z. z -ℤ sum_of (is_payable p c) os)
    (sum_agree (is_receivable p c) (is_receivable party c) (λ o. ap (λ b. same_currency o.currency c && b) (same_as o.operator p party h)) os)
    ∙ ap (λ z. sum_of (is_receivable party c) os -ℤ z)
    (sum_agree (is_payable p c) (is_payable party c) (λ o. ap (λ b. same_currency o.currency c && b) (same_as o.provider p party h)) os)

pub found_net : (rows : List NetPosition) (row : NetPosition) (ps : List Party) (cs : List (List ℕ)) (os : List Obligation) (party : Party) (currency : List ℕ)
    → IsNetted rows ps cs os → find (is_row party currency) rows ≡ Some row → row.net ≡ net_position party currency os
found_net rows row ps cs os party currency kept e =
    let given = find_gives (is_row party currency) (IsNet os) rows row (All-same (IsNet os) rows (net_positions ps cs os) kept.rows_are (nets os ps cs)) e in
    let passed = both_are (same_currency row.currency currency) (same_party row.party party) given.0 in
    given.1 ∙ ap (λ (c : List ℕ). net_position row.party c os) (currency_is row.currency currency passed.0)
    ∙ alike_position row.party party currency os passed.1

-- ---- where no row is found

pub any_agree : (p q : Party → Bool) → ((x : Party) → p x ≡ q x) → (xs : List Party) → list_any p xs ≡ list_any q xs
any_agree p q same [] = refl
any_agree p q same (x ∷ xs) = ap (λ b. b || list_any p xs) (same x) ∙ ap (λ b. q x || b) (any_agree p q same xs)

share : (a b c : Bool) → ((a && b) || (a && c)) ≡ (a && (b || c))
share true b c = refl
share false b c = refl

nor : (a b c : Bool) → ((a && c) || (b && c)) ≡ ((a || b) && c)
nor true true true = refl
nor true true false = refl
nor true false true = refl
nor true false false = refl
nor false true true = refl
nor false true false = refl
nor false false c = refl

pub none_of : (a : Bool) → (a && false) ≡ false
none_of true = refl
none_of false = refl

rows_in : (party : Party) (currency : List ℕ) (os : List Obligation) (c : List ℕ) (ps : List Party)
    → list_any (is_row party currency) (map (position os c) ps) ≡ (same_currency c currency && is_among ps party)
rows_in party currency os c [] = sym (none_of (same_currency c currency))
rows_in party currency os c (p ∷ ps) =
    ap (λ b. (same_currency c currency && same_party p party) || b) (rows_in party currency os c ps)
    ∙ share (same_currency c currency) (same_party p party) (is_among ps party)

pub has_row : (party : Party) (currency : List ℕ) (os : List Obligation) (ps : List Party) (cs : List (List ℕ))
    → list_any (is_row party currency) (net_positions ps cs os) ≡ (has_currency_among cs currency && is_among ps party)
has_row party currency os ps [] = refl
has_row party currency os ps (c ∷ cs) =
    list_any-append (is_row party currency) (map (position os c) ps) (net_positions ps cs os)
    ∙ ap (λ b. b || list_any (is_row party currency) (net_positions ps cs os)) (rows_in party currency os c ps)
    ∙ ap (λ b. (same_currency c currency && is_among ps party) || b) (has_row party currency os ps cs)
    ∙ nor (same_currency c currency) (has_currency_among cs currency) (is_among ps party)

pub three_are : (a b c : Bool) → (a && b && c) ≡ true → (a ≡ true) × (b ≡ true) × (c ≡ true)
three_are true true true h = (refl, refl, refl)
three_are true true false h = absurd (Prim.cc)
three_are true false c h = absurd (Prim.cc)
three_are false b c h = absurd (Prim.cc)

-- what is configured has a row for each of its parties
party_has_row : (ps : List Party) (cs : List (List ℕ)) (o : Obligation) (whose party : Party) (currency : List ℕ)
    → is_among ps whose ≡ true → has_currency_among cs o.currency ≡ true → (same_currency o.currency currency && same_party whose party) ≡ true
    → (has_currency_among cs currency && is_among ps party) ≡ true
party_has_row ps cs o whose party currency among has h =
    let passed = both_are (same_currency o.currency currency) (same_party whose party) h in
    let first : has_currency_among cs currency ≡ true = ap (λ (c : List ℕ). has_currency_among cs c) (sym (currency_is o.currency currency passed.0)) ∙ has in
    let second : is_among ps party ≡ true =
    any_agree (λ other. same_party other party) (λ other. same_party other whose) (λ other. sym (same_as other whose party passed.1)) ps ∙ among in
    ap (λ b. b && is_among ps party) first ∙ second

none_passes : (p : Obligation → Bool) (q : Obligation → Bool) → ((o : Obligation) → q o ≡ true → p o ≡ false) → (os : List Obligation) → list_all q os ≡ true → sum_of p os ≡ pos 0
none_passes p q fails [] all = refl
none_passes p q fails (o ∷ os) all =
    let each = both_are (q o) (list_all q os) all in
    ap (λ b. total (amounts (cond b (o ∷ filter p os) (filter p os)))) (fails o each.0) ∙ none_passes p q fails os each.1

not_true : (b : Bool) → (b ≡ true → ⊥) → b ≡ false
not_true true refuted = absurd (refuted refl)
not_true false refuted = refl

pub missing_net : (rows : List NetPosition) (ps : List Party) (cs : List (List ℕ)) (os : List Obligation) (party : Party) (currency : List ℕ)
    → IsNetted rows ps cs os → find (is_row party currency) rows ≡ None → net_position party currency os ≡ pos 0
unfolding net_position receivable payable
missing_net rows ps cs os party currency kept e =
    let none : (has_currency_among cs currency && is_among ps party) ≡ false =
    sym (has_row party currency os ps cs) ∙ ap (list_any (is_row party currency)) (sym kept.rows_are) ∙ find_none (is_row party currency) rows e in
    let clash : (has_currency_among cs currency && is_among ps party) ≡ true → ⊥ = λ has. Prim.cc in
    let received : sum_of (is_receivable party currency) os ≡ pos 0 =
    none_passes (is_receivable party currency) (is_configured ps cs) (λ o configured.
    let parts = three_are (is_among ps o.operator) (is_among ps o.provider) (has_currency_among cs o.currency) configured in
    not_true (is_receivable party currency o) (λ h. clash (party_has_row ps cs o o.operator party currency parts.0 parts.2 h))) os kept.configured in
    let paid : sum_of (is_payable party currency) os ≡ pos 0 =
    none_passes (is_payable party currency) (is_configured ps cs) (λ o configured.
    let parts = three_are (is_among ps o.operator) (is_among ps o.provider) (has_currency_among cs o.currency) configured in
    not_true (is_payable party currency o) (λ h. clash (party_has_row ps cs o o.provider party currency parts.1 parts.2 h))) os kept.configured in
    ap (λ z. z -ℤ sum_of (is_payable party currency) os) received ∙ ap (λ z. pos 0 -ℤ z) paid
