-- What is owed, as a settlement is taken in.
use Rattle.std.proofs.Common.{◌≡◌, ◌+◌, ◌<◌, ◌≤◌, ◌==◌, ℕ, Bool, true, false, not, ◌&&◌, ◌||◌, cond, if◌then◌else◌, List, [], ◌∷◌, ◌++◌, filter, take, length, get_or, Option, Some, None, true≢false, refl, sym, ap, ◌∙◌, arith}
use Rattle.std.specs.Cmp.{IsEquivalence, nat_eq_equiv}
use Rattle.std.specs.List.{list_any}
use Rattle.std.specs.Option.{option_eq}
use Rattle.std.proofs.lemmas.Cmp.{on_equiv, and_equiv, nat_list_eq_equiv}
use Rattle.std.proofs.lemmas.List.Elements.{filter_agree}
use Rattle.std.proofs.lemmas.List.Folds.{list_any_more}
use Rattle.std.proofs.lemmas.Map.Steps.{list_any_congr}
use Rattle.cdr_checks.specs.declared.request.Settlement.{Settlement}
use Rattle.ocpi_json.specs.Folded.{folded}
use Rattle.ocpi_types.specs.declared.party.Party.{Party}
use Rattle.ocpi_types.specs.Currency.{same_currency}
use Rattle.ocpi_types.specs.Party.{same_party}
use Rattle.plain_house.specs.declared.entry.AccountEntry.{AccountEntry}
use Rattle.plain_house.specs.declared.entry.AccountEntry.TheVariants as account
use Rattle.plain_house.specs.declared.entry.Charge.{Charge}
use Rattle.plain_house.specs.Exposure.{charges, ends_debt, is_by, is_owed, total_charged}
use Rattle.provider_account.specs.declared.debt_keys.DebtKey.{DebtKey}
use Rattle.provider_account.specs.Inner.DebtKeys.{covers, ended_by, is_in, is_owed_at, owed_at}
use Rattle.provider_account.specs.Inner.Debts.{AreOperators, is_charged_by, is_done, owed_once}
use Rattle.provider_account.specs.Inner.Owed.{in_period, part_of}
use Rattle.provider_account.proofs.DebtsLemmas.{any-push, owed_at-ended}
use Rattle.provider_account.proofs.TotalLemmas.{total-cons, total-weaker}
use borrow.Author.Tests.{eqb-true}

pub same_party_equiv : IsEquivalence same_party
same_party_equiv =
    and_equiv (on_equiv (λ (party : Party). party.country_code) (on_equiv folded nat_list_eq_equiv)) (on_equiv (λ (party : Party). party.party_id) (on_equiv folded nat_list_eq_equiv))

same_currency_equiv : IsEquivalence same_currency
same_currency_equiv = nat_list_eq_equiv

-- compared with the same value, a third is the same or is not
same_as : {K : Type 0} {eq : K → K → Bool} → IsEquivalence eq → (x a b : K) → eq a b ≡ true → eq x a ≡ eq x b
same_as laws x a b h = laws.symm x a ∙ laws.congr a b x h ∙ laws.symm b x

both_are : (a b : Bool) → (a && b) ≡ true → (a ≡ true) × (b ≡ true)
both_are true b h = (refl, h)
both_are false b h = absurd (true≢false (sym h))

not_true : (b : Bool) → (b ≡ true → false ≡ true) → b ≡ false
not_true true h = sym (h refl)
not_true false h = refl

-- the settlement is of the key's provider, currency and period
abbrev is_hit : Settlement → DebtKey → Bool
is_hit settlement key =
    is_in key.period settlement.period && (same_party settlement.provider key.provider && same_currency settlement.currency key.currency)

-- the settled debts with an operator, or with all
abbrev settled_key : Settlement → Option Party → DebtKey
settled_key settlement operator = in_period (ended_by settlement) (Some settlement.period) operator

-- ---- which charges a settlement ends

module _ (settlement : Settlement) (key : DebtKey) (charge : Charge) where
  abbrev ends : Bool
  ends = ends_debt charge (account.Settlement settlement)

  ends_missed : is_hit settlement key ≡ false → (covers key charge && ends) ≡ false
  ends_missed miss =
      not_true (covers key charge && ends) (λ h.
      let halves = both_are (covers key charge) ends h in
      let of_key = both_are (is_in key.period charge.period) ((is_by key.operator charge.operator && same_party charge.provider key.provider) && same_currency charge.currency key.currency) halves.0 in
      let of_parties = both_are (is_by key.operator charge.operator && same_party charge.provider key.provider) (same_currency charge.currency key.currency) of_key.1 in
      let provider = both_are (is_by key.operator charge.operator) (same_party charge.provider key.provider) of_parties.0 in
      let of_settlement = both_are (same_party settlement.provider charge.provider && same_currency settlement.currency charge.currency) (settlement.period == charge.period) halves.1 in
      let of_names = both_are (same_party settlement.provider charge.provider) (same_currency settlement.currency charge.currency) of_settlement.0 in
      let period : settlement.period ≡ charge.period = eqb-true settlement.period charge.period of_settlement.1 in
      let in_key : is_in key.period settlement.period ≡ true = ap (is_in key.period) period ∙ of_key.0 in
      let of_provider : same_party settlement.provider key.provider ≡ true = same_party_equiv.congr settlement.provider charge.provider key.provider of_names.0 ∙ provider.1 in
      let of_currency : same_currency settlement.currency key.currency ≡ true = same_currency_equiv.congr settlement.currency charge.currency key.currency of_names.1 ∙ of_parties.1 in
      sym miss
      ∙ ap (λ b. b && (same_party settlement.provider key.provider && same_currency settlement.currency key.currency)) in_key
      ∙ ap (λ b. b && same_currency settlement.currency key.currency) of_provider ∙ of_currency)

  by_same : (a b : Option Party) → option_eq same_party a b ≡ true → is_by b charge.operator ≡ is_by a charge.operator
  by_same None None h = refl
  by_same None (Some b) h = absurd (true≢false (sym h))
  by_same (Some a) None h = absurd (true≢false (sym h))
  by_same (Some a) (Some b) h = sym (same_as same_party_equiv charge.operator a b h)

  ends_hit : (operator : Option Party) → option_eq same_party operator key.operator ≡ true → is_hit settlement key ≡ true
      → (covers key charge && ends) ≡ covers (settled_key settlement operator) charge
  ends_hit operator same hit =
      let halves = both_are (is_in key.period settlement.period) (same_party settlement.provider key.provider && same_currency settlement.currency key.currency) hit in
      let names = both_are (same_party settlement.provider key.provider) (same_currency settlement.currency key.currency) halves.1 in
      let flipped : (settlement.period == charge.period) ≡ (charge.period == settlement.period) = nat_eq_equiv.symm settlement.period charge.period in
      ap (λ b. (is_in key.period charge.period && ((b && same_party charge.provider key.provider) && same_currency charge.currency key.currency)) && ends) (by_same operator key.operator same)
      ∙ ap (λ b. (is_in key.period charge.period && ((is_by operator charge.operator && b) && same_currency charge.currency key.currency)) && ends)
      (sym (same_as same_party_equiv charge.provider settlement.provider key.provider names.0))
      ∙ ap (λ b. (is_in key.period charge.period && ((is_by operator charge.operator && same_party charge.provider settlement.provider) && b)) && ends)
      (sym (same_as same_currency_equiv charge.currency settlement.currency key.currency names.1))
      ∙ ap (λ b. (is_in key.period charge.period && ((is_by operator charge.operator && same_party charge.provider settlement.provider) && same_currency charge.currency settlement.currency))
      && ((b && same_currency settlement.currency charge.currency) && (settlement.period == charge.period))) (same_party_equiv.symm settlement.provider charge.provider)
      ∙ ap (λ b. (is_in key.period charge.period && ((is_by operator charge.operator && same_party charge.provider settlement.provider) && same_currency charge.currency settlement.currency))
      && ((same_party charge.provider settlement.provider && b) && (settlement.period == charge.period))) (same_currency_equiv.symm settlement.currency charge.currency)
      ∙ ap (λ b. (is_in key.period charge.period && ((is_by operator charge.operator && same_party charge.provider settlement.provider) && same_currency charge.currency settlement.currency))
      && ((same_party charge.provider settlement.provider && same_currency charge.currency settlement.currency) && b)) flipped
      ∙ shuffle (is_in key.period charge.period) (is_by operator charge.operator) (same_party charge.provider settlement.provider)
      (same_currency charge.currency settlement.currency) (charge.period == settlement.period)
      (λ e. ap (is_in key.period) (eqb-true charge.period settlement.period e) ∙ halves.0)
    where
      shuffle : (i w p c t : Bool) → (t ≡ true → i ≡ true) → ((i && ((w && p) && c)) && ((p && c) && t)) ≡ (t && ((w && p) && c))
      shuffle i w p c false h = never (i && ((w && p) && c)) (p && c)
        where
          never : (a b : Bool) → (a && (b && false)) ≡ false
          never true true = refl
          never true false = refl
          never false b = refl
      shuffle false w p c true h = absurd (true≢false (sym (h refl)))
      shuffle true true true true true h = refl
      shuffle true true true false true h = refl
      shuffle true true false c true h = refl
      shuffle true false p c true h = refl

-- ---- sums

total_none : (p : Charge → Bool) → ((charge : Charge) → p charge ≡ false) → (xs : List Charge) → total_charged (filter p xs) ≡ 0
total_none p none [] = refl
total_none p none (x ∷ xs) =
    let here = total-cons p x xs in
    let nothing : cond (p x) x.cost 0 ≡ 0 = ap (λ b. cond b x.cost 0) (none x) in
    let rest = total_none p none xs in
    omega arith

total_none_of : (p q : Charge → Bool) → ((charge : Charge) → p charge ≡ true → q charge ≡ true) → (xs : List Charge) → list_any q xs ≡ false
    → total_charged (filter p xs) ≡ 0
total_none_of p q weaker [] none = refl
total_none_of p q weaker (x ∷ xs) none =
    let parts = neither (q x) (list_any q xs) none in
    let here = total-cons p x xs in
    let unsought : p x ≡ false = not_true (p x) (λ h. sym parts.0 ∙ weaker x h) in
    let nothing : cond (p x) x.cost 0 ≡ 0 = ap (λ b. cond b x.cost 0) unsought in
    let rest = total_none_of p q weaker xs parts.1 in
    omega arith
  where
    neither : (a b : Bool) → (a || b) ≡ false → (a ≡ false) × (b ≡ false)
    neither true b h = absurd (true≢false h)
    neither false b h = (refl, h)

-- ---- what a settlement takes out at a key

module _ (settlement : Settlement) (key : DebtKey) (operator : Option Party) (same : option_eq same_party operator key.operator ≡ true) (entries : List AccountEntry) where
  abbrev later : List AccountEntry
  later = entries ++ account.Settlement settlement ∷ []

  ended_part : (b : Bool) → is_hit settlement key ≡ b
      → total_charged (filter (λ charge. is_owed_at key entries charge && ends_debt charge (account.Settlement settlement)) (charges entries))
      ≡ cond b (owed_at (settled_key settlement operator) entries) 0
  ended_part true hit =
      ap total_charged
      (filter_agree (λ charge. is_owed_at key entries charge && ends_debt charge (account.Settlement settlement)) (is_owed_at (settled_key settlement operator) entries)
      (λ charge.
      shuffle (covers key charge) (is_owed entries charge) (ends_debt charge (account.Settlement settlement))
      ∙ ap (λ b. b && is_owed entries charge) (ends_hit settlement key charge operator same hit)) (charges entries))
    where
      shuffle : (a b c : Bool) → ((a && b) && c) ≡ ((a && c) && b)
      shuffle true true true = refl
      shuffle true true false = refl
      shuffle true false true = refl
      shuffle true false false = refl
      shuffle false b c = refl
  ended_part false miss =
      total_none (λ charge. is_owed_at key entries charge && ends_debt charge (account.Settlement settlement))
      (λ charge. shuffle (covers key charge) (is_owed entries charge) (ends_debt charge (account.Settlement settlement)) (ends_missed settlement key charge miss)) (charges entries)
    where
      shuffle : (a b c : Bool) → (a && c) ≡ false → ((a && b) && c) ≡ false
      shuffle true true c h = h
      shuffle true false c h = refl
      shuffle false b c h = refl

  settled_at : owed_at key entries ≡ owed_at key later + cond (is_hit settlement key) (owed_at (settled_key settlement operator) entries) 0
  settled_at = owed_at-ended key entries (account.Settlement settlement) refl ∙ ap (λ n. owed_at key later + n) (ended_part (is_hit settlement key) refl)

-- a settlement that comes twice ends no more
settled_twice : (settlement : Settlement) (key : DebtKey) (entries : List AccountEntry)
    → owed_at key ((entries ++ account.Settlement settlement ∷ []) ++ account.Settlement settlement ∷ []) ≡ owed_at key (entries ++ account.Settlement settlement ∷ [])
settled_twice settlement key entries =
    let entry = account.Settlement settlement in
    let once = entries ++ entry ∷ [] in
    let split = owed_at-ended key once entry refl in
    let nothing : total_charged (filter (λ charge. is_owed_at key once charge && ends_debt charge entry) (charges once)) ≡ 0 =
    total_none (λ charge. is_owed_at key once charge && ends_debt charge entry)
    (λ charge. ap (λ b. (covers key charge && not b) && ends_debt charge entry) (any-push (ends_debt charge) entries entry)
    ∙ never (covers key charge) (list_any (ends_debt charge) entries) (ends_debt charge entry)) (charges once) in
    omega arith
  where
    never : (a b c : Bool) → ((a && not (b || c)) && c) ≡ false
    never true true c = refl
    never true false true = refl
    never true false false = refl
    never false b c = refl

-- ---- one operator after another

-- what is owed at a key, once a settlement has been taken in or not
abbrev pub owed_if : Bool → Settlement → DebtKey → List AccountEntry → ℕ
owed_if done settlement key entries = owed_at key (if done then entries ++ account.Settlement settlement ∷ [] else entries)

-- what is taken from a key
taken_parts : (period : Option ℕ) (same other : Bool) (of_period amount : ℕ)
    → cond (option_eq ◌==◌ None period && (same && other)) amount 0 + cond (option_eq ◌==◌ (Some of_period) period && (same && other)) amount 0
    ≡ cond (same && (is_in period of_period && other)) amount 0
taken_parts None true other of_period amount = omega arith
taken_parts None false other of_period amount = refl
taken_parts (Some period) true other of_period amount = omega arith
taken_parts (Some period) false other of_period amount = by (of_period == period)
  where
    by : (b : Bool) → 0 + cond (b && false) amount 0 ≡ 0
    by true = refl
    by false = refl

-- no more is owed of a period than of all
pub period_le : (settlement : Settlement) (operator : Option Party) (done : Bool) (entries : List AccountEntry)
    → owed_if done settlement (settled_key settlement operator) entries ≤ owed_if done settlement (in_period (ended_by settlement) None operator) entries
period_le settlement operator done entries =
    let all : List AccountEntry = if done then entries ++ account.Settlement settlement ∷ [] else entries in
    total-weaker (is_owed_at (settled_key settlement operator) all) (is_owed_at (in_period (ended_by settlement) None operator) all)
    (λ charge. less (is_in (Some settlement.period) charge.period)
    ((is_by operator charge.operator && same_party charge.provider settlement.provider) && same_currency charge.currency settlement.currency) (is_owed all charge)) (charges all)
  where
    less : (a b c : Bool) → ((a && b) && c) ≡ true → (b && c) ≡ true
    less true b c h = h
    less false b c h = absurd (true≢false (sym h))

module _ (settlement : Settlement) (entries : List AccountEntry) (operator : Option Party) (before after : DebtKey → ℕ) (done next : Option Party → Bool)
    (was : (key : DebtKey) → before key ≡ owed_if (done key.operator) settlement key entries)
    (taken : (key : DebtKey) → after key + part_of (in_period (ended_by settlement) None operator) key (before (settled_key settlement operator))
    + part_of (settled_key settlement operator) key (before (settled_key settlement operator)) ≡ before key)
    (more : (other : Option Party) → next other ≡ (option_eq same_party operator other || done other))
    (alike : (other : Option Party) → option_eq same_party operator other ≡ true → done operator ≡ done other) where
  -- what is left at a key
  left_at : (key : DebtKey) (b : Bool) → option_eq same_party operator key.operator ≡ b
      → after key + cond (b && is_hit settlement key) (before (settled_key settlement operator)) 0 ≡ before key
  left_at key b e =
      let parts = taken_parts key.period (option_eq same_party operator key.operator)
      (same_party settlement.provider key.provider && same_currency settlement.currency key.currency) settlement.period (before (settled_key settlement operator)) in
      let same : cond (b && is_hit settlement key) (before (settled_key settlement operator)) 0
      ≡ cond (option_eq same_party operator key.operator && is_hit settlement key) (before (settled_key settlement operator)) 0 =
      ap (λ s. cond (s && is_hit settlement key) (before (settled_key settlement operator)) 0) (sym e) in
      let all = taken key in
      omega arith

  at_same : (key : DebtKey) → option_eq same_party operator key.operator ≡ true → (d : Bool) → done key.operator ≡ d
      → after key ≡ owed_at key (entries ++ account.Settlement settlement ∷ [])
  at_same key e true f =
      let left = left_at key true e in
      let whole : before key ≡ owed_at key (entries ++ account.Settlement settlement ∷ []) = was key ∙ ap (λ d. owed_if d settlement key entries) f in
      let ended : before (settled_key settlement operator) ≡ owed_at (settled_key settlement operator) (entries ++ account.Settlement settlement ∷ []) =
      was (settled_key settlement operator) ∙ ap (λ d. owed_if d settlement (settled_key settlement operator) entries) (alike key.operator e ∙ f) in
      let part : cond (is_hit settlement key) (before (settled_key settlement operator)) 0
      ≡ cond (is_hit settlement key) (owed_at (settled_key settlement operator) (entries ++ account.Settlement settlement ∷ [])) 0 =
      ap (λ n. cond (is_hit settlement key) n 0) ended in
      let split = settled_at settlement key operator e (entries ++ account.Settlement settlement ∷ []) in
      let twice = settled_twice settlement key entries in
      omega arith
  at_same key e false f =
      let left = left_at key true e in
      let whole : before key ≡ owed_at key entries = was key ∙ ap (λ d. owed_if d settlement key entries) f in
      let ended : before (settled_key settlement operator) ≡ owed_at (settled_key settlement operator) entries =
      was (settled_key settlement operator) ∙ ap (λ d. owed_if d settlement (settled_key settlement operator) entries) (alike key.operator e ∙ f) in
      let part : cond (is_hit settlement key) (before (settled_key settlement operator)) 0
      ≡ cond (is_hit settlement key) (owed_at (settled_key settlement operator) entries) 0 =
      ap (λ n. cond (is_hit settlement key) n 0) ended in
      let split = settled_at settlement key operator e entries in
      omega arith

  at_key : (key : DebtKey) (b : Bool) → option_eq same_party operator key.operator ≡ b → after key ≡ owed_if (next key.operator) settlement key entries
  at_key key true e =
      at_same key e (done key.operator) refl
      ∙ ap (λ d. owed_if d settlement key entries) (sym (more key.operator ∙ ap (λ b. b || done key.operator) e))
  at_key key false e =
      let left = left_at key false e in
      let kept : after key ≡ before key = omega arith in
      kept ∙ was key ∙ ap (λ d. owed_if d settlement key entries) (sym (more key.operator ∙ ap (λ b. b || done key.operator) e))

  -- the operator's debts of the period have been taken out
  pub one_done : (key : DebtKey) → after key ≡ owed_if (next key.operator) settlement key entries
  one_done key = at_key key (option_eq same_party operator key.operator) refl

-- ---- all operators are done

-- of an operator without charges nothing is owed
uncharged : (key : DebtKey) (entries : List AccountEntry) (operator : Party) → key.operator ≡ Some operator
    → list_any (is_charged_by operator) (charges entries) ≡ false → owed_at key entries ≡ 0
uncharged key entries operator is none =
    total_none_of (is_owed_at key entries) (is_charged_by operator)
    (λ charge h.
    let covered = both_are (covers key charge) (is_owed entries charge) h in
    let within = both_are (is_in key.period charge.period) ((is_by key.operator charge.operator && same_party charge.provider key.provider) && same_currency charge.currency key.currency) covered.0 in
    let parties = both_are (is_by key.operator charge.operator && same_party charge.provider key.provider) (same_currency charge.currency key.currency) within.1 in
    let own = both_are (is_by key.operator charge.operator) (same_party charge.provider key.provider) parties.0 in
    ap (λ o. is_by o charge.operator) (sym is) ∙ own.0) (charges entries) none

pub all_done : (settlement : Settlement) (entries : List AccountEntry) (operators : List Party) → AreOperators operators entries
    → (key : DebtKey) → owed_once operators settlement key entries ≡ owed_at key (entries ++ account.Settlement settlement ∷ [])
all_done settlement entries operators known key = by key.operator refl
  where
    over : (operator : Party) → key.operator ≡ Some operator → (b : Bool) → list_any (same_party operator) operators ≡ b
        → owed_if b settlement key entries ≡ owed_at key (entries ++ account.Settlement settlement ∷ [])
    over operator is true e = refl
    over operator is false e =
        let nothing = uncharged key entries operator is (sym (known operator) ∙ e) in
        let split = owed_at-ended key entries (account.Settlement settlement) refl in
        omega arith

    by : (o : Option Party) → key.operator ≡ o
        → owed_once operators settlement key entries ≡ owed_at key (entries ++ account.Settlement settlement ∷ [])
    by None e = ap (λ o. owed_if (is_done operators o) settlement key entries) e
    by (Some operator) e =
        ap (λ o. owed_if (is_done operators o) settlement key entries) e ∙ over operator e (list_any (same_party operator) operators) refl

-- ---- the loop

pub may_end : (settlement : Settlement) (entries : List AccountEntry) (operator : Option Party) (amount : DebtKey → ℕ) (done : Option Party → Bool)
    → ((key : DebtKey) → amount key ≡ owed_if (done key.operator) settlement key entries)
    → amount (settled_key settlement operator) ≤ amount (in_period (ended_by settlement) None operator)
may_end settlement entries operator amount done was =
    let of_period = was (settled_key settlement operator) in
    let of_all = was (in_period (ended_by settlement) None operator) in
    let less = period_le settlement operator (done operator) entries in
    omega arith

pub first_done : (other : Option Party) → is_done [] other ≡ (option_eq same_party None other || false)
first_done None = refl
first_done (Some operator) = refl

pub next_done : (operators : List Party) (i : ℕ) (operator : Party) → i < length operators → operator ≡ get_or operators i operator
    → (other : Option Party) → is_done (take (i + 1) operators) other ≡ (option_eq same_party (Some operator) other || is_done (take i operators) other)
next_done operators i operator within is None = refl
next_done operators i operator within is (Some other) =
    list_any_more (same_party other) operators i operator within
    ∙ ap (λ x. list_any (same_party other) (take i operators) || same_party other x) (sym is)
    ∙ ap (λ b. list_any (same_party other) (take i operators) || b) (same_party_equiv.symm other operator)
    ∙ or-flip (list_any (same_party other) (take i operators)) (same_party operator other)
  where
    or-flip : (a b : Bool) → (a || b) ≡ (b || a)
    or-flip true true = refl
    or-flip true false = refl
    or-flip false true = refl
    or-flip false false = refl

pub same_done : (operators : List Party) (operator : Party) (other : Option Party) → option_eq same_party (Some operator) other ≡ true
    → is_done operators (Some operator) ≡ is_done operators other
same_done operators operator None e = absurd (true≢false (sym e))
same_done operators operator (Some other) e = list_any_congr same_party_equiv operator other operators e
