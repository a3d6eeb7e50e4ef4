-- How long the lists are that stand in nodes.
use Rattle.std.proofs.Common.{◌≡◌, ℕ, ◌+◌, ◌≤◌, List, [], ◌∷◌, length, Option, Some, None, Result, Ok, Err, refl, sym, ap, ◌∙◌, arith}
use Rattle.std.specs.Prelude.{option_map, option_and_then, unwrap_or}
use Rattle.std.proofs.lemmas.Bool.Decides.{nat_tests}
use Rattle.json.specs.Json.{Json as Data, Items}
use Rattle.json.specs.Find.{as_array}
use Rattle.ocpi_json.specs.Fields.{Kind, required, as_list, each_of, if_between, items_list, list, list_or_empty, member_at, misfit, present_at}
use Rattle.ocpi_json.specs.MemberFaults.{fault_at, item_of}
use Rattle.ocpi_json.specs.Members.{each, each_from, if_any, or_fault, within, ◌>>=◌}
use Rattle.ocpi_json.specs.declared.member_fault.MemberFault.{MemberFault}
use Rattle.ocpi_json.specs.declared.name.Name.{Name}

one_longer : {X : Type 0} (first : Result X MemberFault) (later : Result (List X) MemberFault) (n : ℕ) (xs : List X) → ((ys : List X) → later ≡ Ok ys → length ys ≡ n) → first >>= (λ x. later >>= (λ ys. Ok (x ∷ ys))) ≡ Ok xs → length xs ≡ n + 1
one_longer (Err fault) later n xs as_long h = cc
one_longer (Ok x) (Err fault) n xs as_long h = cc
one_longer (Ok x) (Ok ys) n xs as_long h = let e : x ∷ ys ≡ xs = cc in rw (← e) (omega (arith, as_long ys refl))

-- each item gives one value
pub each_keeps_length : {X : Type 0} (n : Name) (index : ℕ) (read : Data → Result X MemberFault) (ds : List Data) (xs : List X) → each_from n index read ds ≡ Ok xs → length xs ≡ length ds
each_keeps_length n index read [] xs h = let e : [] ≡ xs = cc in rw (← e) refl
each_keeps_length n index read (d ∷ ds) xs h =
    let e = one_longer (within (item_of n index) (read d)) (each_from n (index + 1) read ds) (length ds) xs (λ ys. each_keeps_length n (index + 1) read ds ys) h in omega (arith, e)

-- and so does each item of a kind
kinds_keep_length : {X : Type 0} (kind : Kind X) (n : Name) (index : ℕ) (ds : List Data) (xs : List X) → each_of kind n index ds ≡ Ok xs → length xs ≡ length ds
kinds_keep_length kind n index [] xs h = let e : [] ≡ xs = cc in rw (← e) refl
kinds_keep_length kind n index (d ∷ ds) xs h =
    let e = one_longer (or_fault (fault_at (item_of n index) kind.must_be) (kind.means d)) (each_of kind n (index + 1) ds) (length ds) xs (λ ys. kinds_keep_length kind n (index + 1) ds ys) h in omega (arith, e)

between : (least most : ℕ) (ds items : List Data) → if_between least most ds ≡ Some items → length items ≤ most
between least most ds items h = grind (arith, nat_tests)

some_from_ok : {X : Type 0} (fault : MemberFault) (found : Option X) (x : X) → or_fault fault found ≡ Ok x → found ≡ Some x
some_from_ok fault None x h = cc
some_from_ok fault (Some y) x h = cc

in_array : (least most : ℕ) (found : Option Items) (items : List Data) → option_and_then (if_between least most) (option_map items_list found) ≡ Some items → length items ≤ most
in_array least most None items h = cc
in_array least most (Some ds) items h = between least most (items_list ds) items h

in_member : (least most : ℕ) (fault : MemberFault) (found : Option Data) (items : List Data) → or_fault fault found >>= (λ d. or_fault fault (as_list least most d)) ≡ Ok items → length items ≤ most
in_member least most fault None items h = cc
in_member least most fault (Some d) items h = in_array least most (as_array d) items (some_from_ok fault (as_list least most d) items h)

-- a list that is read has at most as many items as it may
list_within : (least most : ℕ) (n : Name) (node : Data) (items : List Data) → required (list least most) n node ≡ Ok items → length items ≤ most
list_within least most n node items h = in_member least most (misfit (list least most) n) (member_at n node) items h

-- and so has what is read of it
pub values_within : {X : Type 0} (read : Data → Result X MemberFault) (least most : ℕ) (n : Name) (node : Data) (items : List Data) (values : List X) → Ok items ≡ required (list least most) n node → each n read items ≡ Ok values → length values ≤ most
values_within read least most n node items values h e =
    omega (arith, list_within least most n node items (sym h), each_keeps_length n 0 read items values e)

pub kinds_within : {X : Type 0} (kind : Kind X) (least most : ℕ) (n : Name) (node : Data) (items : List Data) (values : List X) → Ok items ≡ required (list least most) n node → each_of kind n 0 items ≡ Ok values → length values ≤ most
kinds_within kind least most n node items values h e =
    omega (arith, list_within least most n node items (sym h), kinds_keep_length kind n 0 items values e)

-- the same of a list that may be missing
in_optional : (most : ℕ) (fault : MemberFault) (found : Option Data) (items : List Data) → (if_any (λ d. or_fault fault (as_list 0 most d)) found >>= (λ ds. Ok (unwrap_or ds []))) ≡ Ok items → length items ≤ most
in_optional most fault None items h = let none : [] ≡ items = cc in rw (← none) (omega arith)
in_optional most fault (Some d) items h = by (as_list 0 most d) refl h
  where
    by : (listed : Option (List Data)) → as_list 0 most d ≡ listed → ((or_fault fault listed >>= (λ ds. Ok (Some ds))) >>= (λ ds. Ok (unwrap_or ds []))) ≡ Ok items → length items ≤ most
    by None e g = absurd (cc)
    by (Some ds) e g = in_array 0 most (as_array d) items (e ∙ ap (λ (l : List Data). Some l) (let same : ds ≡ items = cc in same))

pub optional_values_within : {X : Type 0} (read : Data → Result X MemberFault) (most : ℕ) (n : Name) (node : Data) (items : List Data) (values : List X) → Ok items ≡ list_or_empty most n node → each n read items ≡ Ok values → length values ≤ most
optional_values_within read most n node items values h e =
    omega (arith, in_optional most (misfit (list 0 most) n) (present_at n node) items (sym h), each_keeps_length n 0 read items values e)
