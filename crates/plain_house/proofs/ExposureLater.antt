-- How one more entry changes an exposure.
use Rattle.std.proofs.Common.{◌≡◌, ◌≤◌, ◌||◌, ◌&&◌, ℕ, ◌+◌, List, [], ◌∷◌, ◌++◌, Bool, true, false, not, refl, sym, ap, ◌∙◌, subst, arith, filter, if◌then◌else◌, cond, count_by}
use Rattle.std.specs.List.{list_any}
use Rattle.std.proofs.lemmas.List.{append-nil}
use Rattle.std.proofs.lemmas.List.Concat.{flat_map-append}
use Rattle.std.proofs.lemmas.List.Folds.{list_any-append}
use Rattle.std.proofs.lemmas.List.Sums.{sum_by-cons}
use Rattle.plain_house.specs.declared.event.Event.{Event}
use Rattle.plain_house.specs.declared.event.Hold.{Hold}
use Rattle.plain_house.specs.declared.scope.Scope.{Scope}
use Rattle.plain_house.specs.declared.entry.AccountEntry.{AccountEntry}
use Rattle.plain_house.specs.declared.entry.AccountEntry.TheVariants as account
use Rattle.plain_house.specs.declared.entry.Charge.{Charge}
use Rattle.plain_house.specs.Entries.{is_close, period_after, period_of, account_entry, account_entries_from, account_entries}
use Rattle.plain_house.specs.Exposure.{charge_in, charges, charges_within, ends_debt, ends_hold, exposure_of, holds_within, is_owed, open_hold, open_holds, total_charged, total_held}
use Rattle.plain_house.proofs.HoldsLemmas.{total_held-append}
use Rattle.plain_house.proofs.PeriodsLemmas.{period_after-cons}
use Rattle.plain_house.proofs.DebtsLemmas.{total_charged-append}

-- ---- the entries of one more event

pub account_entries-push : (n : ℕ) (es : List Event) (e : Event)
    → account_entries_from n (es ++ e ∷ []) ≡ account_entries_from n es ++ account_entry e (n + count_by is_close es)
account_entries-push n [] e = append-nil (account_entry e n) ∙ ap (account_entry e) (omega arith)
account_entries-push n (x ∷ es) e =
    ap (λ l. account_entry x n ++ l) (account_entries-push (period_after n x) es e)
    ∙ sym (assoc (account_entry x n) (account_entries_from (period_after n x) es) (account_entry e (period_after n x + count_by is_close es)))
    ∙ ap (λ k. (account_entry x n ++ account_entries_from (period_after n x) es) ++ account_entry e k) (period_after-cons n x es)
  where
    assoc : (xs ys zs : List AccountEntry) → (xs ++ ys) ++ zs ≡ xs ++ (ys ++ zs)
    assoc [] ys zs = refl
    assoc (y ∷ xs) ys zs = ap (λ l. y ∷ l) (assoc xs ys zs)

pub entries_push : (events : List Event) (e : Event) → account_entries (events ++ e ∷ []) ≡ account_entries events ++ account_entry e (period_of events)
entries_push events e = account_entries-push 0 events e ∙ ap (λ k. account_entries events ++ account_entry e k) (omega arith)

-- ---- holds

amount_open : (p : Hold → Bool) (hold : Hold) (ended ends : Bool)
    → total_held (filter p (if ended || ends then [] else hold ∷ [])) ≤ total_held (filter p (if ended then [] else hold ∷ []))
amount_open p hold true ends = omega arith
amount_open p hold false true = omega arith
amount_open p hold false false = omega arith

amount_open-later : (p : Hold → Bool) (entry : AccountEntry) (later : List AccountEntry) (x : AccountEntry)
    → total_held (filter p (open_hold entry (later ++ x ∷ []))) ≤ total_held (filter p (open_hold entry later))
amount_open-later p (account.Token token) later x = omega arith
amount_open-later p (account.Hold hold) later x =
    subst (λ (ended : Bool). total_held (filter p (if ended then [] else hold ∷ [])) ≤ total_held (filter p (open_hold (account.Hold hold) later)))
    (sym (list_any-append (ends_hold hold) later (x ∷ [])))
    (amount_open p hold (list_any (ends_hold hold) later) (list_any (ends_hold hold) (x ∷ [])))
amount_open-later p (account.Release release) later x = omega arith
amount_open-later p (account.Charge charge) later x = omega arith
amount_open-later p (account.Credit credit) later x = omega arith
amount_open-later p (account.Settlement settlement) later x = omega arith

holds_later : (p : Hold → Bool) (entries : List AccountEntry) (x : AccountEntry)
    → total_held (filter p (open_holds (entries ++ x ∷ []))) ≤ total_held (filter p (open_holds entries)) + total_held (filter p (open_hold x []))
holds_later p [] x = omega (arith, total_held-append p (open_hold x []) [])
holds_later p (entry ∷ entries) x =
    omega (
      arith,
      total_held-append p (open_hold entry (entries ++ x ∷ [])) (open_holds (entries ++ x ∷ [])),
      total_held-append p (open_hold entry entries) (open_holds entries),
      amount_open-later p entry entries x,
      holds_later p entries x,
    )

-- ---- debts

pub charged_one : (p : Charge → Bool) (charge : Charge) (charges : List Charge)
    → total_charged (filter p (charge ∷ charges)) ≡ cond (p charge) charge.cost 0 + total_charged (filter p charges)
charged_one p charge charges = by (p charge)
  where
    by : (b : Bool) → total_charged (cond b (charge ∷ filter p charges) (filter p charges)) ≡ cond b charge.cost 0 + total_charged (filter p charges)
    by true = sum_by-cons (λ c. c.cost) charge (filter p charges)
    by false = omega arith

at_most : (a b : Bool) (n : ℕ) → (a ≡ true → b ≡ true) → cond a n 0 ≤ cond b n 0
at_most true true n h = omega arith
at_most true false n h = absurd (let no : false ≡ true = h refl in cc)
at_most false true n h = omega arith
at_most false false n h = omega arith

pub fewer : (p q : Charge → Bool) → ((charge : Charge) → p charge ≡ true → q charge ≡ true) → (charges : List Charge)
    → total_charged (filter p charges) ≤ total_charged (filter q charges)
fewer p q h [] = omega arith
fewer p q h (charge ∷ charges) =
    omega (arith, charged_one p charge charges, charged_one q charge charges, at_most (p charge) (q charge) charge.cost (h charge), fewer p q h charges)

still : (a b c : Bool) → (a && not (b || c)) ≡ true → (a && not b) ≡ true
still true true c h = absurd (cc)
still true false c h = refl
still false b c h = absurd (cc)

still_owed : (scope : Scope) (entries : List AccountEntry) (x : AccountEntry) (charge : Charge)
    → (charges_within scope charge && is_owed (entries ++ x ∷ []) charge) ≡ true → (charges_within scope charge && is_owed entries charge) ≡ true
still_owed scope entries x charge h =
    still (charges_within scope charge) (list_any (ends_debt charge) entries) (list_any (ends_debt charge) (x ∷ []))
    (sym (ap (λ b. charges_within scope charge && not b) (list_any-append (ends_debt charge) entries (x ∷ []))) ∙ h)

only_within : (scope : Scope) (entries : List AccountEntry) (charge : Charge) → (charges_within scope charge && is_owed entries charge) ≡ true → charges_within scope charge ≡ true
only_within scope entries charge h = by (charges_within scope charge) (is_owed entries charge) h
  where
    by : (a b : Bool) → (a && b) ≡ true → a ≡ true
    by true b h = refl
    by false b h = absurd (cc)

debts_later : (scope : Scope) (entries : List AccountEntry) (x : AccountEntry)
    → total_charged (filter (λ charge. charges_within scope charge && is_owed (entries ++ x ∷ []) charge) (charges (entries ++ x ∷ [])))
    ≤ total_charged (filter (λ charge. charges_within scope charge && is_owed entries charge) (charges entries)) + total_charged (filter (charges_within scope) (charge_in x))
debts_later scope entries x =
    let p : Charge → Bool = λ charge. charges_within scope charge && is_owed (entries ++ x ∷ []) charge in
    let q : Charge → Bool = λ charge. charges_within scope charge && is_owed entries charge in
    let split : total_charged (filter p (charges (entries ++ x ∷ []))) ≡ total_charged (filter p (charges entries)) + total_charged (filter p (charge_in x ++ [])) =
    ap (λ l. total_charged (filter p l)) (flat_map-append charge_in entries (x ∷ [])) ∙ total_charged-append p (charges entries) (charge_in x ++ []) in
    let last : total_charged (filter p (charge_in x ++ [])) ≤ total_charged (filter (charges_within scope) (charge_in x)) =
    subst (λ l. total_charged (filter p l) ≤ total_charged (filter (charges_within scope) (charge_in x))) (sym (append-nil (charge_in x)))
    (fewer p (charges_within scope) (only_within scope (entries ++ x ∷ [])) (charge_in x)) in
    omega (arith, split, last, fewer p q (still_owed scope entries x) (charges entries))

-- ---- both

-- what an entry adds at most
abbrev pub weight : Scope → AccountEntry → ℕ
weight scope x = total_held (filter (holds_within scope) (open_hold x [])) + total_charged (filter (charges_within scope) (charge_in x))

pub exposure_later : (scope : Scope) (entries : List AccountEntry) (x : AccountEntry) → exposure_of scope (entries ++ x ∷ []) ≤ exposure_of scope entries + weight scope x
exposure_later scope entries x = omega (arith, holds_later (holds_within scope) entries x, debts_later scope entries x)

-- a hold, or a charge, that is within or not
pub weight_hold : (scope : Scope) (hold : Hold) → weight scope (account.Hold hold) ≡ cond (holds_within scope hold) hold.amount 0
weight_hold scope hold = by (holds_within scope hold)
  where
    by : (b : Bool) → total_held (cond b (hold ∷ []) []) + 0 ≡ cond b hold.amount 0
    by true = omega arith
    by false = refl

pub weight_charge : (scope : Scope) (charge : Charge) → weight scope (account.Charge charge) ≡ cond (charges_within scope charge) charge.cost 0
weight_charge scope charge = by (charges_within scope charge)
  where
    by : (b : Bool) → 0 + total_charged (cond b (charge ∷ []) []) ≡ cond b charge.cost 0
    by true = omega arith
    by false = refl

at_most_all : (b : Bool) (n : ℕ) → cond b n 0 ≤ n
at_most_all true n = omega arith
at_most_all false n = omega arith

pub weight_charge-le : (scope : Scope) (charge : Charge) → weight scope (account.Charge charge) ≤ charge.cost
weight_charge-le scope charge = omega (arith, weight_charge scope charge, at_most_all (charges_within scope charge) charge.cost)

alone : (scope : Scope) (x : AccountEntry) → weight scope x ≡ exposure_of scope (x ∷ [])
alone scope (account.Token token) = refl
alone scope (account.Hold hold) = refl
alone scope (account.Release release) = refl
alone scope (account.Charge charge) = by (charges_within scope charge)
  where
    by : (b : Bool) → 0 + total_charged (cond b (charge ∷ []) []) ≡ 0 + total_charged (cond (b && true) (charge ∷ []) [])
    by true = refl
    by false = refl
alone scope (account.Credit credit) = refl
alone scope (account.Settlement settlement) = refl

pub adds_at_most : (scope : Scope) (entries : List AccountEntry) (x : AccountEntry)
    → exposure_of scope (entries ++ x ∷ []) ≤ exposure_of scope entries + exposure_of scope (x ∷ [])
adds_at_most scope entries x = omega (arith, exposure_later scope entries x, alone scope x)
