-- What is owed, as entries are added.
use Rattle.std.proofs.Common.{◌≡◌, ◌+◌, ◌≤◌, ◌==◌, ℕ, Bool, true, false, not, ◌&&◌, ◌||◌, cond, List, [], ◌∷◌, ◌++◌, filter, take, drop, slice_get, Some, None, true≢false, ◌^◌, refl, sym, ap, ◌∙◌, arith}
use Rattle.std.specs.List.{list_any}
use Rattle.std.proofs.lemmas.List.{append-nil, take-append-drop, take_more}
use Rattle.std.proofs.lemmas.Option.{get_or_from_slice_get, slice_get_within}
use Rattle.std.proofs.lemmas.List.Elements.{filter_agree}
use Rattle.std.proofs.lemmas.List.Folds.{list_any-append}
use Rattle.ocpi_types.specs.declared.party.Party.{Party}
use Rattle.cdr_checks.specs.declared.request.Settlement.{Settlement}
use Rattle.indexmap.specs.IndexSet.{contains}
use Rattle.ocpi_types.specs.Currency.{same_currency}
use Rattle.ocpi_types.specs.Party.{same_party}
use Rattle.plain_house.specs.declared.entry.AccountEntry.{AccountEntry}
use Rattle.plain_house.specs.declared.entry.AccountEntry.TheVariants as account
use Rattle.plain_house.specs.declared.entry.Charge.{Charge}
use Rattle.plain_house.specs.declared.entry.Credit.{Credit}
use Rattle.plain_house.specs.Exposure.{charge_in, charges, charges_within, ends_debt, is_by, is_owed, names, of_provider, total_charged}
use Rattle.provider_account.specs.declared.debt_keys.CdrKey.{CdrKey}
use Rattle.provider_account.specs.declared.debt_keys.DebtKey.{DebtKey}
use Rattle.provider_account.specs.declared.debt_keys.PeriodKey.{PeriodKey}
use Rattle.provider_account.specs.declared.debts.Debts.{Debts}
use Rattle.provider_account.specs.declared.ended.Ended.{Ended}
use Rattle.provider_account.specs.Inner.DebtKeys.{cdr_of, charges_of, covers, credits, ended_by, is_owed_at, owed_at, is_in, period_of, same_cdr, same_period, settles}
use Rattle.provider_account.specs.Inner.Debts.{AreBounded, AreOperators, KnowsDebts, is_charged_by, owed_for, still_counted}
use Rattle.provider_account.specs.Inner.Ended.{KnowsEnded, has_ended}
use Rattle.provider_account.proofs.ChargedLemmas.{charges-push, places_kept}
use Rattle.provider_account.proofs.TotalLemmas.{filter-filter, total-append, total-push, total-split, total-weaker}

-- ---- tests

or-false : (b : Bool) → (b || false) ≡ b
or-false true = refl
or-false false = refl

and-false : (b : Bool) → (b && false) ≡ false
and-false true = refl
and-false false = refl

and-flip : (a b : Bool) → (a && b) ≡ (b && a)
and-flip true true = refl
and-flip true false = refl
and-flip false true = refl
and-flip false false = refl

either : (a b : Bool) → cond a true b ≡ (b || a)
either true true = refl
either true false = refl
either false true = refl
either false false = refl

pub any-push : {X : Type 0} (p : X → Bool) (xs : List X) (x : X) → list_any p (xs ++ x ∷ []) ≡ (list_any p xs || p x)
any-push p xs x = list_any-append p xs (x ∷ []) ∙ ap (λ b. list_any p xs || b) (or-false (p x))

pub any-kept : {X : Type 0} (p : X → Bool) (xs : List X) (x : X) → p x ≡ false → list_any p (xs ++ x ∷ []) ≡ list_any p xs
any-kept p xs x none = any-push p xs x ∙ ap (λ b. list_any p xs || b) none ∙ or-false (list_any p xs)

-- one of two tests passes somewhere
any-or : {X : Type 0} (p q r : X → Bool) → ((x : X) → r x ≡ (p x || q x)) → (xs : List X) → list_any r xs ≡ (list_any p xs || list_any q xs)
any-or p q r same [] = refl
any-or p q r same (x ∷ xs) =
    ap (λ b. b || list_any r xs) (same x) ∙ ap (λ b. (p x || q x) || b) (any-or p q r same xs)
    ∙ shuffle (p x) (q x) (list_any p xs) (list_any q xs)
  where
    shuffle : (a b c d : Bool) → ((a || b) || (c || d)) ≡ ((a || c) || (b || d))
    shuffle true b c d = refl
    shuffle false true true d = refl
    shuffle false true false d = refl
    shuffle false false true d = refl
    shuffle false false false d = refl

-- ---- ended debts

ends_either : (charge : Charge) (entry : AccountEntry) → ends_debt charge entry ≡ (credits (cdr_of charge) entry || settles (period_of charge) entry)
ends_either charge (account.Token token) = refl
ends_either charge (account.Hold hold) = refl
ends_either charge (account.Release release) = refl
ends_either charge (account.Charge other) = refl
ends_either charge (account.Credit credit) = sym (or-false (credits (cdr_of charge) (account.Credit credit)))
ends_either charge (account.Settlement settlement) =
    and-flip (same_party settlement.provider charge.provider && same_currency settlement.currency charge.currency) (settlement.period == charge.period)

pub ended_is : (ended : Ended) (entries : List AccountEntry) → KnowsEnded ended entries → (charge : Charge)
    → has_ended ended charge ≡ list_any (ends_debt charge) entries
ended_is ended entries knows charge =
    ap (λ b. b || contains same_period ended.settled (period_of charge)) (knows.credited (cdr_of charge))
    ∙ ap (λ b. list_any (credits (cdr_of charge)) entries || b) (knows.settled (period_of charge))
    ∙ sym (any-or (credits (cdr_of charge)) (settles (period_of charge)) (ends_debt charge) (ends_either charge) entries)

pub ended_kept : (ended : Ended) (entries : List AccountEntry) (entry : AccountEntry)
    → ((key : CdrKey) → credits key entry ≡ false) → ((key : PeriodKey) → settles key entry ≡ false)
    → KnowsEnded ended entries → KnowsEnded ended (entries ++ entry ∷ [])
ended_kept ended entries entry uncredited unsettled knows = record {
  credited = λ key. knows.credited key ∙ sym (any-kept (credits key) entries entry (uncredited key));
  settled = λ key. knows.settled key ∙ sym (any-kept (settles key) entries entry (unsettled key));
}

-- ---- what is owed

-- one more charge
pub owed_at-charge : (key : DebtKey) (entries : List AccountEntry) (charge : Charge)
    → owed_at key (entries ++ account.Charge charge ∷ []) ≡ owed_at key entries + cond (is_owed_at key entries charge) charge.cost 0
owed_at-charge key entries charge =
    let later = entries ++ account.Charge charge ∷ [] in
    let all = charges entries ++ charge ∷ [] in
    ap (λ (l : List Charge). total_charged (filter (is_owed_at key later) l)) (charges-push entries (account.Charge charge))
    ∙ ap total_charged
    (filter_agree (is_owed_at key later) (is_owed_at key entries)
    (λ other. ap (λ b. covers key other && not b) (any-kept (ends_debt other) entries (account.Charge charge) refl)) all)
    ∙ total-push (is_owed_at key entries) (charges entries) charge

module _ (key : DebtKey) (entries : List AccountEntry) (entry : AccountEntry) (none : charge_in entry ≡ []) where
  same_charges : charges (entries ++ entry ∷ []) ≡ charges entries
  same_charges = charges-push entries entry ∙ ap (λ (l : List Charge). charges entries ++ l) none ∙ append-nil (charges entries)

  -- an entry that ends debts
  pub owed_at-ended : owed_at key entries
      ≡ owed_at key (entries ++ entry ∷ []) + total_charged (filter (λ charge. is_owed_at key entries charge && ends_debt charge entry) (charges entries))
  owed_at-ended =
      let later = entries ++ entry ∷ [] in
      let left : owed_at key later ≡ total_charged (filter (λ charge. is_owed_at key entries charge && not (ends_debt charge entry)) (charges entries)) =
      ap (λ (l : List Charge). total_charged (filter (is_owed_at key later) l)) same_charges
      ∙ ap total_charged
      (filter_agree (is_owed_at key later) (λ charge. is_owed_at key entries charge && not (ends_debt charge entry))
      (λ charge. ap (λ b. covers key charge && not b) (any-push (ends_debt charge) entries entry)
      ∙ shuffle (covers key charge) (list_any (ends_debt charge) entries) (ends_debt charge entry)) (charges entries)) in
      let split = total-split (is_owed_at key entries) (λ charge. ends_debt charge entry) (charges entries) in
      omega arith
    where
      shuffle : (a b c : Bool) → (a && not (b || c)) ≡ ((a && not b) && not c)
      shuffle true true c = refl
      shuffle true false c = refl
      shuffle false b c = refl

  -- an entry that ends none
  pub owed_at-kept : ((charge : Charge) → ends_debt charge entry ≡ false) → owed_at key (entries ++ entry ∷ []) ≡ owed_at key entries
  owed_at-kept ends =
      let later = entries ++ entry ∷ [] in
      ap (λ (l : List Charge). total_charged (filter (is_owed_at key later) l)) same_charges
      ∙ ap total_charged
      (filter_agree (is_owed_at key later) (is_owed_at key entries)
      (λ charge. ap (λ b. covers key charge && not b) (any-kept (ends_debt charge) entries entry (ends charge))) (charges entries))

pub still_owed : (ended : Ended) (entries : List AccountEntry) → KnowsEnded ended entries → (charge : Charge) (key : DebtKey)
    → still_counted ended charge key ≡ cond (is_owed_at key entries charge) charge.cost 0
still_owed ended entries knows charge key = ap (λ b. cond (covers key charge && not b) charge.cost 0) (ended_is ended entries knows charge)

-- no more is owed at a key than by its provider in its currency
pub owed_at-bounded : (key : DebtKey) (entries : List AccountEntry) → AreBounded entries → owed_at key entries ≤ 10 ^ 15
owed_at-bounded key entries bound =
    let most = bound key.provider key.currency in
    let within = total-weaker (is_owed_at key entries) (λ charge. charges_within (of_provider key.provider key.currency) charge && is_owed entries charge)
    (λ charge. less (is_in key.period charge.period) (is_by key.operator charge.operator) (same_party charge.provider key.provider)
    (same_currency charge.currency key.currency) (is_owed entries charge)) (charges entries) in
    omega arith
  where
    less : (a b c d e : Bool) → ((a && ((b && c) && d)) && e) ≡ true → ((c && d) && e) ≡ true
    less true true c d e h = h
    less true false c d e h = absurd (true≢false (sym h))
    less false b c d e h = absurd (true≢false (sym h))

-- ---- entries that end no debt

module _ (operators : List Party) (entries : List AccountEntry) (entry : AccountEntry) (none : charge_in entry ≡ []) where
  pub operators_kept : AreOperators operators entries → AreOperators operators (entries ++ entry ∷ [])
  operators_kept knows = λ operator.
      knows operator ∙ sym (ap (list_any (is_charged_by operator)) (charges-push entries entry ∙ ap (λ (l : List Charge). charges entries ++ l) none ∙ append-nil (charges entries)))

pub debts_kept : (debts : Debts) (entries : List AccountEntry) (entry : AccountEntry) → charge_in entry ≡ []
    → ((key : CdrKey) → credits key entry ≡ false) → ((key : PeriodKey) → settles key entry ≡ false)
    → KnowsDebts debts entries → KnowsDebts debts (entries ++ entry ∷ [])
debts_kept debts entries entry none uncredited unsettled knows = record {
  owed = λ key.
      knows.owed key
      ∙ sym (owed_at-kept key entries entry none (λ charge. ends_either charge entry ∙ ap (λ b. b || settles (period_of charge) entry) (uncredited (cdr_of charge)) ∙ unsettled (period_of charge)));
  ended = ended_kept debts.ended entries entry uncredited unsettled knows.ended;
  charged = places_kept debts.charged entries entry none knows.charged;
  operators = operators_kept debts.operators.keys entries entry none knows.operators;
}

-- ---- a credit

one_more : {X : Type 0} (xs : List X) (i : ℕ) (x : X) → slice_get xs i ≡ Some x → take (i + 1) xs ≡ take i xs ++ x ∷ []
one_more xs i x at = take_more xs i x (slice_get_within xs i x at) ∙ ap (λ y. take i xs ++ y ∷ []) (get_or_from_slice_get xs i x x at)

-- what is owed of the charges of a CDR, one by one
pub taken_more : (key : DebtKey) (entries : List AccountEntry) (xs : List Charge) (i : ℕ) (charge : Charge) → slice_get xs i ≡ Some charge
    → total_charged (filter (is_owed_at key entries) (take (i + 1) xs))
    ≡ total_charged (filter (is_owed_at key entries) (take i xs)) + cond (is_owed_at key entries charge) charge.cost 0
taken_more key entries xs i charge at =
    ap (λ (l : List Charge). total_charged (filter (is_owed_at key entries) l)) (one_more xs i charge at)
    ∙ total-push (is_owed_at key entries) (take i xs) charge

pub taken_le : (key : DebtKey) (entries : List AccountEntry) (cdr : CdrKey) (i : ℕ)
    → total_charged (filter (is_owed_at key entries) (take i (charges_of cdr entries))) ≤ owed_at key entries
taken_le key entries cdr i =
    let own = charges_of cdr entries in
    let test = is_owed_at key entries in
    let parts = total-append test (take i own) (drop i own) in
    let whole : total_charged (filter test (take i own ++ drop i own)) ≡ total_charged (filter test own) =
    ap (λ (l : List Charge). total_charged (filter test l)) (take-append-drop i own) in
    let joined : total_charged (filter test own) ≡ total_charged (filter (λ charge. test charge && same_cdr cdr (cdr_of charge)) (charges entries)) =
    ap total_charged (sym (filter-filter test (λ charge. same_cdr cdr (cdr_of charge)) (charges entries))) in
    let most = total-weaker (λ charge. test charge && same_cdr cdr (cdr_of charge)) test
    (λ charge. first_is (test charge) (same_cdr cdr (cdr_of charge))) (charges entries) in
    omega arith
  where
    first_is : (a b : Bool) → (a && b) ≡ true → a ≡ true
    first_is true b h = refl
    first_is false b h = h

-- a credit ends what is owed of its CDR
pub credited_at : (key : DebtKey) (entries : List AccountEntry) (credit : Credit) (original : List ℕ) → credit.original ≡ Some original
    → owed_at key entries
    ≡ owed_at key (entries ++ account.Credit credit ∷ []) + owed_for (record { operator = credit.operator; cdr = original }) key entries
credited_at key entries credit original is =
    let cdr : CdrKey = record { operator = credit.operator; cdr = original } in
    let test = is_owed_at key entries in
    let ended = owed_at-ended key entries (account.Credit credit) refl in
    let own : total_charged (filter (λ charge. test charge && ends_debt charge (account.Credit credit)) (charges entries)) ≡ owed_for cdr key entries =
    ap total_charged
    (filter_agree (λ charge. test charge && ends_debt charge (account.Credit credit)) (λ charge. test charge && same_cdr cdr (cdr_of charge))
    (λ charge. ap (λ o. test charge && (same_party credit.operator charge.operator && names charge.cdr o)) is) (charges entries)
    ∙ filter-filter test (λ charge. same_cdr cdr (cdr_of charge)) (charges entries)) in
    omega arith

pub credited_set : (ended new : Ended) (entries : List AccountEntry) (credit : Credit) (original : List ℕ) → credit.original ≡ Some original
    → ((key : CdrKey) → contains same_cdr new.credited key
    ≡ cond (same_cdr (record { operator = credit.operator; cdr = original }) key) true (contains same_cdr ended.credited key))
    → new.settled ≡ ended.settled
    → KnowsEnded ended entries → KnowsEnded new (entries ++ account.Credit credit ∷ [])
credited_set ended new entries credit original is added stays knows = record {
  credited = λ key.
      let cdr : CdrKey = record { operator = credit.operator; cdr = original } in
      added key ∙ either (same_cdr cdr key) (contains same_cdr ended.credited key)
      ∙ ap (λ b. b || same_cdr cdr key) (knows.credited key)
      ∙ ap (λ o. list_any (credits key) entries || (same_party credit.operator key.operator && names key.cdr o)) (sym is)
      ∙ sym (any-push (credits key) entries (account.Credit credit));
  settled = λ key.
      ap (λ s. contains same_period s key) stays ∙ knows.settled key ∙ sym (any-kept (settles key) entries (account.Credit credit) refl);
}

pub settled_set : (ended new : Ended) (entries : List AccountEntry) (settlement : Settlement)
    → ((key : PeriodKey) → contains same_period new.settled key ≡ cond (same_period (ended_by settlement) key) true (contains same_period ended.settled key))
    → new.credited ≡ ended.credited
    → KnowsEnded ended entries → KnowsEnded new (entries ++ account.Settlement settlement ∷ [])
settled_set ended new entries settlement added stays knows = record {
  credited = λ key.
      ap (λ s. contains same_cdr s key) stays ∙ knows.credited key ∙ sym (any-kept (credits key) entries (account.Settlement settlement) refl);
  settled = λ key.
      added key ∙ either (same_period (ended_by settlement) key) (contains same_period ended.settled key)
      ∙ ap (λ b. b || same_period (ended_by settlement) key) (knows.settled key)
      ∙ sym (any-push (settles key) entries (account.Settlement settlement));
}

-- a credit that names no CDR
pub uncredited : (key : CdrKey) (credit : Credit) → credit.original ≡ None → credits key (account.Credit credit) ≡ false
uncredited key credit is = ap (λ o. same_party credit.operator key.operator && names key.cdr o) is ∙ and-false (same_party credit.operator key.operator)

-- ---- the operators of one more charge

pub operators_added : (old new : List Party) (entries : List AccountEntry) (charge : Charge)
    → ((operator : Party) → list_any (same_party operator) new ≡ cond (same_party charge.operator operator) true (list_any (same_party operator) old))
    → AreOperators old entries → AreOperators new (entries ++ account.Charge charge ∷ [])
operators_added old new entries charge added knows = λ operator.
    added operator ∙ either (same_party charge.operator operator) (list_any (same_party operator) old)
    ∙ ap (λ b. b || same_party charge.operator operator) (knows operator)
    ∙ sym (ap (list_any (is_charged_by operator)) (charges-push entries (account.Charge charge)) ∙ any-push (is_charged_by operator) (charges entries) charge)
