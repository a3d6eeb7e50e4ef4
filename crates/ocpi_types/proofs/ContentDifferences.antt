-- Objects with the same key have the same content if and only if they differ in no member.
use Rattle.std.proofs.Common.{◌≡◌, ℕ, Bool, true, false, not, ◌&&◌, ◌==◌, List, [], ◌∷◌, ◌++◌, cond, Option, Some, None, find, is_none, is_some, option_map, refl, sym, ap, ap₂, ◌∙◌}
use Rattle.std.specs.Bool.{beq}
use Rattle.std.specs.Cmp.Lexicographic.{pointwise}
use Rattle.std.specs.List.{list_all}
use Rattle.std.specs.Option.{option_eq, option_or}
use Rattle.std.specs.Ordering.{int_eq}
use Rattle.std.proofs.lemmas.List.Folds.{find-append}
use Rattle.ocpi_json.specs.Folded.{same_folded}
use Rattle.ocpi_json.specs.declared.name.Name.{Name}
use Rattle.ocpi_types.specs.CdrToken.{same_method}
use Rattle.ocpi_types.specs.ContentDifference.{CdrsWithoutDifferenceAreSame, TariffsWithoutDifferenceAreSame, difference_of_cdrs, difference_of_tariffs, first_difference, first_members, later_members, tariff_members}
use Rattle.ocpi_types.specs.Currency.{same_currency}
use Rattle.ocpi_types.specs.Party.{same_party}
use Rattle.ocpi_types.specs.declared.cdr.Cdr.{Cdr}
use Rattle.ocpi_types.specs.Inner.SameCdr.{same_cdr, same_cdr_token, same_period}
use Rattle.ocpi_types.specs.Inner.SameTariff.{same_element, same_instant, same_tariff}

none_differs : (members : List (Name × Bool)) → is_none (first_difference members) ≡ list_all (λ member. member.1) members
none_differs [] = refl
none_differs (member ∷ others) = by member.1 (none_differs others)
  where
    by : (agrees : Bool) → is_none (first_difference others) ≡ list_all (λ member. member.1) others
        → is_none (option_map (λ (it : Name × Bool). it.0) (cond (not agrees) (Some member) (find (λ it. not it.1) others))) ≡ (agrees && list_all (λ member. member.1) others)
    by true rest = rest
    by false rest = refl

-- ---- members in two parts

first_or_later : (first later : List (Name × Bool)) → first_difference (first ++ later) ≡ option_or (first_difference first) (first_difference later)
first_or_later first later = ap (option_map (λ (it : Name × Bool). it.0)) (find-append (λ it. not it.1) first later) ∙ by (find (λ it. not it.1) first) (find (λ it. not it.1) later)
  where
    by : (a b : Option (Name × Bool)) → option_map (λ (it : Name × Bool). it.0) (option_or a b) ≡ option_or (option_map (λ it. it.0) a) (option_map (λ it. it.0) b)
    by None b = refl
    by (Some it) b = refl

pub in_two_parts : (a b : Cdr) (first later : Option Name) → first ≡ first_difference (first_members a b) → later ≡ first_difference (later_members a b)
    → option_or first later ≡ difference_of_cdrs a b
unfolding difference_of_cdrs
in_two_parts a b first later f l = ap₂ option_or f l ∙ sym (first_or_later (first_members a b) (later_members a b))

-- ---- tests in a row

in_turn : (a b c : Bool) → ((a && b) && c) ≡ (a && (b && c))
in_turn true b c = refl
in_turn false b c = refl

and-true : (a : Bool) → (a && true) ≡ a
and-true true = refl
and-true false = refl

of_cdrs : (p i s e t m r c ts ps co en ti some cr l : Bool) → p ≡ true → i ≡ true → (some && cr) ≡ cr
    → (s && (e && (t && (m && (r && (c && (ts && (ps && (co && (en && (ti && (some && (cr && (l && true))))))))))))))
    ≡ (p && i && s && e && t && m && r && c && ts && ps && co && en && ti && cr && l)
of_cdrs p i s e t m r c ts ps co en ti some cr l p_is i_is given =
    let once : (some && (cr && l)) ≡ (cr && l) = sym (in_turn some cr l) ∙ ap (λ b. b && l) given in
    simp (p_is, i_is, in_turn, and-true, once)

of_tariffs : (p i c n x e l : Bool) → p ≡ true → i ≡ true → l ≡ true → (c && (n && (x && (e && true)))) ≡ (p && i && c && n && x && e && l)
of_tariffs p i c n x e l p_is i_is l_is = simp (p_is, i_is, l_is, in_turn, and-true)

-- two references that agree are both there or both missing
both_given : (a b : Option (List ℕ)) → (beq (is_some a) (is_some b) && option_eq same_folded a b) ≡ option_eq same_folded a b
both_given None None = refl
both_given None (Some b) = refl
both_given (Some a) None = refl
both_given (Some a) (Some b) = refl

pub cdrs : CdrsWithoutDifferenceAreSame
unfolding difference_of_cdrs same_cdr
cdrs a b operator id =
    none_differs (first_members a b ++ later_members a b)
    ∙ of_cdrs (same_party a.operator b.operator) (same_folded a.id b.id)
    (same_instant a.start_date_time b.start_date_time) (same_instant a.end_date_time b.end_date_time)
    (same_cdr_token a.cdr_token b.cdr_token) (same_method a.auth_method b.auth_method)
    (option_eq same_folded a.authorization_reference b.authorization_reference)
    (same_currency a.currency b.currency) (pointwise same_tariff a.tariffs b.tariffs)
    (pointwise same_period a.charging_periods b.charging_periods) (int_eq a.total_cost b.total_cost)
    (int_eq a.total_energy b.total_energy) (int_eq a.total_time b.total_time)
    (beq (is_some a.credit) (is_some b.credit)) (option_eq same_folded a.credit b.credit)
    (same_instant a.last_updated b.last_updated) operator id (both_given a.credit b.credit)

pub tariffs : TariffsWithoutDifferenceAreSame
unfolding difference_of_tariffs same_tariff
tariffs a b operator id updated =
    none_differs (tariff_members a b)
    ∙ of_tariffs (same_party a.operator b.operator) (same_folded a.id b.id) (same_currency a.currency b.currency)
    (option_eq ◌==◌ a.min_price b.min_price) (option_eq ◌==◌ a.max_price b.max_price)
    (pointwise same_element a.elements b.elements) (same_instant a.last_updated b.last_updated) operator id updated
