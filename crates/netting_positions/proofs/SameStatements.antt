-- The rows of a statement are the same where what is owed is.
use Rattle.std.proofs.Common.{◌≡◌, ℕ, ◌+◌, ◌<◌, ◌≤◌, Bool, true, false, cond, ◌&&◌, ◌||◌, List, [], ◌∷◌, map, None, Some, refl, sym, ap, ap₂, subst, ◌∙◌, arith}
use Rattle.std.specs.Prelude.{filter_map}
use Rattle.std.specs.Char.{to_ascii_lowercase, to_ascii_uppercase}
use Rattle.std.specs.List.{AllByRecursion, cons_option, fold, list_any}
use Rattle.std.specs.List.Sorted.{IsStrictlySortedBy}
use Rattle.std.specs.Cmp.Lexicographic.{same_text}
use Rattle.std.specs.Ordering.{is_eq}
use Rattle.std.specs.declared.cmp.Ordering.TheVariants.{Less, Equal, Greater}
use Rattle.std.proofs.lemmas.Bool.{cases_lt}
use Rattle.std.proofs.lemmas.Cmp.{tied_itself}
use Rattle.std.proofs.Math.Logic.{⊎_elim}
use Rattle.std.proofs.lemmas.Str.Ascii.{lowercase_is, uppercase-uppercase, uppercase_is}
use Rattle.ocpi_json.specs.Folded.{folded}
use Rattle.ocpi_types.specs.declared.party.Party.{Party}
use Rattle.ocpi_types.specs.Currency.{same_currency}
use Rattle.ocpi_types.specs.Party.{same_party}
use Rattle.netting_positions.specs.declared.obligation.Obligation.{Obligation}
use Rattle.netting_positions.specs.declared.row.Key.{Key}
use Rattle.netting_positions.specs.declared.row.StatementRow.{StatementRow}
use Rattle.netting_positions.specs.SameSums.{OweAlike, SumsDecideStatements, is_any_between, is_between}
use Rattle.netting_positions.specs.Inner.KeysInOrder.{inserted, placed}
use Rattle.netting_positions.specs.Statement.{is_payable_of, is_receivable_of, keys_of, payable_of, receivable_of, row_of}
use Rattle.netting_positions.specs.StatementKeys.{capitals, in_capitals, key_of, key_order}
use Rattle.netting_positions.proofs.KeyOrder.{any_in_order, below, key_order_total, sorted_keys, tie_back, tie_is, tied_with}
use Rattle.netting_positions.proofs.NetFound.{sum_agree}
use Rattle.netting_positions.proofs.SameParties.{both_are, currency_is}
use Rattle.netting_positions.proofs.StatedLemmas.{above_tied, alike_ties, not_payable, not_receivable, operator_key, payable_if, provider_key, receivable_if, same_row, ties, untied_above}

-- ---- one row

turned : (s a p : Bool) → (s && a && p) ≡ (a && p && s)
turned true true true = refl
turned true true false = refl
turned true false p = refl
turned false true true = refl
turned false true false = refl
turned false false p = refl

receivable_is : (party : Party) (key : Key) (o : Obligation) → is_receivable_of party key o ≡ is_between party key.counterpart key.currency o
receivable_is party key o = turned (same_currency o.currency key.currency) (same_party o.operator party) (same_party o.provider key.counterpart)

turned_too : (s a p : Bool) → (s && a && p) ≡ (p && a && s)
turned_too true true true = refl
turned_too true true false = refl
turned_too true false true = refl
turned_too true false false = refl
turned_too false true true = refl
turned_too false true false = refl
turned_too false false true = refl
turned_too false false false = refl

payable_is : (party : Party) (key : Key) (o : Obligation) → is_payable_of party key o ≡ is_between key.counterpart party key.currency o
payable_is party key o = turned_too (same_currency o.currency key.currency) (same_party o.provider party) (same_party o.operator key.counterpart)

same_row_of : (party : Party) (some others : List Obligation) → OweAlike some others → (key : Key) → row_of party some key ≡ row_of party others key
unfolding receivable_of payable_of
same_row_of party some others same key =
    same_row key (receivable_of party key some) (receivable_of party key others) (payable_of party key some) (payable_of party key others)
    (sum_agree (is_receivable_of party key) (is_between party key.counterpart key.currency) (receivable_is party key) some
    ∙ same.owed party key.counterpart key.currency
    ∙ sym (sum_agree (is_receivable_of party key) (is_between party key.counterpart key.currency) (receivable_is party key) others))
    (sum_agree (is_payable_of party key) (is_between key.counterpart party key.currency) (payable_is party key) some
    ∙ same.owed key.counterpart party key.currency
    ∙ sym (sum_agree (is_payable_of party key) (is_between key.counterpart party key.currency) (payable_is party key) others))

same_rows : (party : Party) (some others : List Obligation) → OweAlike some others → (keys : List Key) → map (row_of party some) keys ≡ map (row_of party others) keys
same_rows party some others same [] = refl
same_rows party some others same (key ∷ keys) =
    ap (λ (row : StatementRow). row ∷ map (row_of party some) keys) (same_row_of party some others same key)
    ∙ ap (λ (rows : List StatementRow). row_of party others key ∷ rows) (same_rows party some others same keys)

-- ---- which keys there are

-- an obligation with this key
abbrev has_key : Party → Key → Obligation → Bool
has_key party key o = is_between party key.counterpart key.currency o || is_between key.counterpart party key.currency o

either_of : (t a b : Bool) → (a || b) ≡ true → ((t && a) || (t && b)) ≡ t
either_of true a b h = h
either_of false a b h = refl

keyed_party : (a b : Bool) (x y key : Key) → cond a (Some x) (cond b (Some y) None) ≡ Some key → (a || b) ≡ true
keyed_party true b x y key h = refl
keyed_party false true x y key h = refl
keyed_party false false x y key h = absurd (Prim.cc)

is_of_party : (party : Party) (o : Obligation) (key : Key) → key_of party o ≡ Some key → (same_party o.operator party || same_party o.provider party) ≡ true
unfolding key_of
is_of_party party o key h = keyed_party (same_party o.operator party) (same_party o.provider party) (provider_key o) (operator_key o) key h

has_its_key : (party : Party) (k key : Key) (o : Obligation) → key_of party o ≡ Some k → has_key party key o ≡ ties key k
has_its_key party k key o keyed =
    ap (λ b. b || is_between key.counterpart party key.currency o) (sym (receivable_is party key o) ∙ receivable_if party o k key keyed)
    ∙ ap (λ b. (ties k key && same_party o.operator party) || b) (sym (payable_is party key o) ∙ payable_if party o k key keyed)
    ∙ either_of (ties k key) (same_party o.operator party) (same_party o.provider party) (is_of_party party o k keyed)
    ∙ tie_back key k

has_no_key : (party : Party) (key : Key) (o : Obligation) → key_of party o ≡ None → has_key party key o ≡ false
has_no_key party key o h =
    ap (λ b. b || is_between key.counterpart party key.currency o) (sym (receivable_is party key o) ∙ not_receivable party o key h)
    ∙ sym (payable_is party key o) ∙ not_payable party o key h

some_key : (party : Party) (key : Key) (os : List Obligation) → list_any (ties key) (filter_map (key_of party) os) ≡ list_any (has_key party key) os
some_key party key [] = refl
some_key party key (o ∷ os) =
    elim (key_of party o) as (λ found. key_of party o ≡ found → list_any (ties key) (cons_option found (filter_map (key_of party) os)) ≡ (has_key party key o || list_any (has_key party key) os)) [
      | None ↦ λ e. some_key party key os ∙ ap (λ b. b || list_any (has_key party key) os) (sym (has_no_key party key o e))
      | Some k ↦ λ e.
          ap (λ b. ties key k || b) (some_key party key os) ∙ ap (λ b. b || list_any (has_key party key) os) (sym (has_its_key party k key o e))
    ] refl

or_split : (a b c d : Bool) → ((a || b) || (c || d)) ≡ ((a || c) || (b || d))
or_split true b true d = refl
or_split true b false true = refl
or_split true b false false = refl
or_split false true true d = refl
or_split false true false d = refl
or_split false false true d = refl
or_split false false false d = refl

any_either : (p q : Obligation → Bool) (os : List Obligation) → list_any (λ o. p o || q o) os ≡ (list_any p os || list_any q os)
any_either p q [] = refl
any_either p q (o ∷ os) = ap (λ b. (p o || q o) || b) (any_either p q os) ∙ or_split (p o) (q o) (list_any p os) (list_any q os)

key_between : (party : Party) (key : Key) (os : List Obligation)
    → list_any (ties key) (keys_of party os) ≡ (is_any_between party key.counterpart key.currency os || is_any_between key.counterpart party key.currency os)
key_between party key os =
    any_in_order (ties key) (alike_ties key) (filter_map (key_of party) os) ∙ some_key party key os
    ∙ any_either (is_between party key.counterpart key.currency) (is_between key.counterpart party key.currency) os

same_ties : (party : Party) (some others : List Obligation) → OweAlike some others → (key : Key) → list_any (ties key) (keys_of party some) ≡ list_any (ties key) (keys_of party others)
same_ties party some others same key =
    key_between party key some
    ∙ ap (λ b. b || is_any_between key.counterpart party key.currency some) (same.between party key.counterpart key.currency)
    ∙ ap (λ b. is_any_between party key.counterpart key.currency others || b) (same.between key.counterpart party key.currency)
    ∙ sym (key_between party key others)

-- ---- keys in capital letters

uppercase-lowercase : (c : ℕ) → to_ascii_uppercase (to_ascii_lowercase c) ≡ to_ascii_uppercase c
uppercase-lowercase c =
    let low = lowercase_is c in
    ⊎_elim (λ l. ap to_ascii_uppercase (low.1 l))
    (λ from. ⊎_elim (λ to. raised (low.0 (from, omega arith)) from to) (λ above. ap to_ascii_uppercase (low.2 (omega arith))) (cases_lt c 91))
    (cases_lt c 65)
  where
    raised : to_ascii_lowercase c ≡ c + 32 → 65 ≤ c → c < 91 → to_ascii_uppercase (to_ascii_lowercase c) ≡ to_ascii_uppercase c
    raised e from to =
        let up : to_ascii_uppercase (to_ascii_lowercase c) + 32 ≡ to_ascii_lowercase c = (uppercase_is (to_ascii_lowercase c)).0 (omega arith, omega arith) in
        let same : to_ascii_uppercase c ≡ c = (uppercase_is c).1 (omega arith) in
        omega arith

capitals-folded : (text : List ℕ) → capitals (folded text) ≡ capitals text
capitals-folded [] = refl
capitals-folded (byte ∷ rest) = ap₂ (λ (b : ℕ) (l : List ℕ). b ∷ l) (uppercase-lowercase byte) (capitals-folded rest)

capitals-again : (text : List ℕ) → capitals (capitals text) ≡ capitals text
capitals-again [] = refl
capitals-again (byte ∷ rest) = ap₂ (λ (b : ℕ) (l : List ℕ). b ∷ l) (uppercase-uppercase byte) (capitals-again rest)

same_capitals : (a b : List ℕ) → folded a ≡ folded b → capitals a ≡ capitals b
same_capitals a b e = sym (capitals-folded a) ∙ ap capitals e ∙ capitals-folded b

-- the counterpart is in capital letters
abbrev IsCapital : Key → Type 0
IsCapital key = in_capitals key.counterpart ≡ key.counterpart

same_keys : (a b : Key) → IsCapital a → IsCapital b → key_order a b ≡ Equal → a ≡ b
same_keys a b ca cb e =
    let parts = both_are (same_currency a.currency b.currency) (same_party a.counterpart b.counterpart) (sym (tie_is a b) ∙ ap is_eq e) in
    let texts = both_are _ _ parts.1 in
    let codes = same_capitals a.counterpart.country_code b.counterpart.country_code (same_text _ _ (sym texts.0)) in
    let ids = same_capitals a.counterpart.party_id b.counterpart.party_id (same_text _ _ (sym texts.1)) in
    let parties : a.counterpart ≡ b.counterpart =
    sym ca ∙ ap₂ (λ (c d : List ℕ). record { country_code = c; party_id = d }) codes ids ∙ cb in
    ap₂ (λ (c : List ℕ) (p : Party). record { currency = c; counterpart = p }) (currency_is a.currency b.currency parts.0) parties

capital_inserted : (key : Key) (keys : List Key) → IsCapital key → AllByRecursion IsCapital keys → AllByRecursion IsCapital (inserted key keys)
capital_inserted key [] c all = (c, tt)
capital_inserted key (k ∷ ks) c all =
    elim (key_order k key) as (λ o. AllByRecursion IsCapital (placed o key k ks (inserted key ks))) [
      | Less ↦ (all.0, capital_inserted key ks c all.1)
      | Equal ↦ all
      | Greater ↦ (c, all)
    ]

capital_onto : (sorted keys : List Key) → AllByRecursion IsCapital sorted → AllByRecursion IsCapital keys → AllByRecursion IsCapital (fold (λ sorted key. inserted key sorted) sorted keys)
capital_onto sorted [] all more = all
capital_onto sorted (key ∷ keys) all more = capital_onto (inserted key sorted) keys (capital_inserted key sorted more.0 all) more.1

capital_with : (currency : List ℕ) (party : Party) → IsCapital (record { currency = currency; counterpart = in_capitals party })
capital_with currency party = ap₂ (λ (c d : List ℕ). record { country_code = c; party_id = d }) (capitals-again party.country_code) (capitals-again party.party_id)

capital_option : (a b : Bool) (x y : Key) → IsCapital x → IsCapital y → (rest : List Key) → AllByRecursion IsCapital rest → AllByRecursion IsCapital (cons_option (cond a (Some x) (cond b (Some y) None)) rest)
capital_option true b x y cx cy rest all = (cx, all)
capital_option false true x y cx cy rest all = (cy, all)
capital_option false false x y cx cy rest all = all

capital_keys : (party : Party) (os : List Obligation) → AllByRecursion IsCapital (filter_map (key_of party) os)
unfolding key_of
capital_keys party [] = tt
capital_keys party (o ∷ os) =
    capital_option (same_party o.operator party) (same_party o.provider party) (provider_key o) (operator_key o)
    (capital_with o.currency o.provider) (capital_with o.currency o.operator) (filter_map (key_of party) os) (capital_keys party os)

capital_keys_of : (party : Party) (os : List Obligation) → AllByRecursion IsCapital (keys_of party os)
capital_keys_of party os = capital_onto [] (filter_map (key_of party) os) tt (capital_keys party os)

-- ---- keys in order that are the same

ties_itself : (key : Key) → ties key key ≡ true
ties_itself key = ap is_eq (tied_itself key_order_total key)

-- the first of these is among those only where it is not before them
not_among : (key k : Key) (keys : List Key) → key_order key k ≡ Less → AllByRecursion (λ y. key_order k y ≡ Less) keys → list_any (ties key) (k ∷ keys) ≡ false
not_among key k keys e all = untied_above key (k ∷ keys) (e, above_less keys all)
  where
    above_less : (ys : List Key) → AllByRecursion (λ y. key_order k y ≡ Less) ys → AllByRecursion (λ y. key_order key y ≡ Less) ys
    above_less [] all = tt
    above_less (y ∷ ys) all = (key_order_total.trans key k y e all.0, above_less ys all.1)

clash : (b : Bool) (c : Bool) → b ≡ true → (b || c) ≡ false → ⊥
clash true c h e = Prim.cc
clash false c h e = Prim.cc

later_ties : (key k : Key) (ks ls : List Key) → AllByRecursion (λ y. key_order k y ≡ Less) ks → AllByRecursion (λ y. key_order k y ≡ Less) ls
    → (ties key k || list_any (ties key) ks) ≡ (ties key k || list_any (ties key) ls) → list_any (ties key) ks ≡ list_any (ties key) ls
later_ties key k ks ls above_ks above_ls h =
    elim (ties key k) as (λ b. ties key k ≡ b → (b || list_any (ties key) ks) ≡ (b || list_any (ties key) ls) → list_any (ties key) ks ≡ list_any (ties key) ls) [
      | true ↦ λ e h.
          untied_above key ks (above_tied key k ks (tied_with k key e) above_ks) ∙ sym (untied_above key ls (above_tied key k ls (tied_with k key e) above_ls))
      | false ↦ λ e h. h
    ] refl h

same_in_order : (ks ls : List Key) → IsStrictlySortedBy key_order ks → IsStrictlySortedBy key_order ls → AllByRecursion IsCapital ks → AllByRecursion IsCapital ls
    → ((key : Key) → list_any (ties key) ks ≡ list_any (ties key) ls) → ks ≡ ls
unfolding IsStrictlySortedBy
same_in_order [] [] sk sl ck cl same = refl
same_in_order [] (l ∷ ls) sk sl ck cl same = absurd (clash (ties l l) (list_any (ties l) ls) (ties_itself l) (sym (same l)))
same_in_order (k ∷ ks) [] sk sl ck cl same = absurd (clash (ties k k) (list_any (ties k) ks) (ties_itself k) (same k))
same_in_order (k ∷ ks) (l ∷ ls) sk sl ck cl same =
    elim (key_order k l) as (λ o. key_order k l ≡ o → k ∷ ks ≡ l ∷ ls) [
      | Less ↦ λ e. absurd (clash (ties k k) (list_any (ties k) ks) (ties_itself k) (same k ∙ not_among k l ls e sl.0))
      | Equal ↦ λ e.
          let one : k ≡ l = same_keys k l ck.0 cl.0 e in
          let above_k : AllByRecursion (λ y. key_order k y ≡ Less) ls = subst (λ (x : Key). AllByRecursion (λ y. key_order x y ≡ Less) ls) (sym one) sl.0 in
          ap₂ (λ (x : Key) (l : List Key). x ∷ l) one
          (same_in_order ks ls sk.1 sl.1 ck.1 cl.1
          (λ key. later_ties key k ks ls sk.0 above_k (same key ∙ ap (λ (x : Key). ties key x || list_any (ties key) ls) (sym one))))
      | Greater ↦ λ e. absurd (clash (ties l l) (list_any (ties l) ls) (ties_itself l) (sym (same l) ∙ not_among l k ks (below k l e) sk.0))
    ] refl

same_keys_of : (party : Party) (some others : List Obligation) → OweAlike some others → keys_of party some ≡ keys_of party others
same_keys_of party some others same =
    same_in_order (keys_of party some) (keys_of party others) (sorted_keys (filter_map (key_of party) some)) (sorted_keys (filter_map (key_of party) others))
    (capital_keys_of party some) (capital_keys_of party others) (same_ties party some others same)

pub statements_decided : SumsDecideStatements
statements_decided party some others same =
    same_rows party some others same (keys_of party some) ∙ ap (map (row_of party others)) (same_keys_of party some others same)
