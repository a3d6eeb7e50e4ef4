-- What is owed to one operator, together.
use Rattle.std.proofs.Common.{◌≡◌, ◌∙◌, ◌≤◌, ◌&&◌, ◌||◌, ℕ, ℤ, List, [], ◌∷◌, Bool, true, false, cond, Option, Some, None, refl, sym, ap, ap₂, filter, option_map, unwrap_or, pos, arith}
use Rattle.std.specs.Prelude.{unsigned_abs}
use Rattle.std.specs.List.{list_any}
use Rattle.ocpi_types.specs.Currency.{same_currency}
use Rattle.ocpi_types.specs.Party.{same_party}
use Rattle.ocpi_types.specs.declared.party.Party.{Party}
use Rattle.netting_positions.specs.Netting.{amounts, total, total_size}
use Rattle.netting_positions.specs.SameSums.{is_between}
use Rattle.netting_positions.specs.declared.obligation.Obligation.{Obligation}
use Rattle.plain_house.specs.Obligations.{obligations}
use Rattle.plain_house.specs.declared.entry.BookEntry.{BookEntry}
use Rattle.operator_book.specs.Due.{due}
use Rattle.operator_book.specs.Together.{together}
use Rattle.operator_book.proofs.AmountLemmas.{sum_of, sum_of_small}
use Rattle.operator_book.proofs.SumsLemmas.{sum_or_zero, sum_with}

abbrev pub row_with : Party → Party → List ℕ → ℤ → Obligation
row_with operator provider currency sum = record { operator = operator; provider = provider; currency = currency; amount = sum }

-- a sum over those that pass a test is one over a part that has them all
module _ (p q : Obligation → Bool) (in_part : (o : Obligation) → q o ≡ false → p o ≡ false) where
  passing_of_part : (os : List Obligation) → filter p (filter q os) ≡ filter p os
  passing_of_part [] = refl
  passing_of_part (o ∷ os) = by (q o) refl (passing_of_part os)
    where
      by : (b : Bool) → q o ≡ b → filter p (filter q os) ≡ filter p os → filter p (cond b (o ∷ filter q os) (filter q os)) ≡ cond (p o) (o ∷ filter p os) (filter p os)
      by true is rest = ap (λ l. cond (p o) (o ∷ l) l) rest
      by false is rest = rest ∙ ap (λ b. cond b (o ∷ filter p os) (filter p os)) (sym (in_part o is))

  any_of_part : (os : List Obligation) → list_any p (filter q os) ≡ list_any p os
  any_of_part [] = refl
  any_of_part (o ∷ os) = by (q o) refl (any_of_part os)
    where
      by : (b : Bool) → q o ≡ b → list_any p (filter q os) ≡ list_any p os → list_any p (cond b (o ∷ filter q os) (filter q os)) ≡ (p o || list_any p os)
      by true is rest = ap (λ b. p o || b) rest
      by false is rest = rest ∙ ap (λ b. b || list_any p os) (sym (in_part o is))

-- what is due to the operator has all that it is owed
pub due_sum : (operator provider : Party) (currency : List ℕ) (period : ℕ) (entries : List BookEntry)
    → sum_with (is_between operator provider currency) (obligations period entries) ≡ sum_with (is_between operator provider currency) (due operator period entries)
due_sum operator provider currency period entries =
    let p = is_between operator provider currency in
    let q = λ (o : Obligation). same_party o.operator operator in
    let part = λ (o : Obligation) (h : q o ≡ false). ap (λ b. b && same_party o.provider provider && same_currency o.currency currency) h in
    ap₂ (λ (b : Bool) (l : List Obligation). cond b (Some (total (amounts l))) None)
    (sym (any_of_part p q part (obligations period entries))) (sym (passing_of_part p q part (obligations period entries)))

pub together_is : (operator provider : Party) (currency : List ℕ) (os : List Obligation) (o : Option ℤ) → o ≡ sum_with (is_between operator provider currency) os
    → option_map (λ (sum : ℤ). row_with operator provider currency sum) o ≡ together operator os provider currency
together_is operator provider currency os o is = ap (option_map (row_with operator provider currency)) is ∙ by (list_any p os)
  where
    p : Obligation → Bool
    p = is_between operator provider currency

    by : (b : Bool) → option_map (row_with operator provider currency) (cond b (Some (sum_of (is_between operator provider currency) os)) None)
        ≡ cond b (Some (row_with operator provider currency (sum_of (is_between operator provider currency) os))) None
    by true = refl
    by false = refl

pub sum_small : (operator provider : Party) (currency : List ℕ) (os : List Obligation) (sum : ℤ) → Some sum ≡ sum_with (is_between operator provider currency) os
    → unsigned_abs sum ≤ total_size os
sum_small operator provider currency os sum is =
    let p = is_between operator provider currency in
    let same : sum ≡ sum_of p os = ap (λ (o : Option ℤ). unwrap_or o (pos 0)) is ∙ sum_or_zero p os in
    let size = ap unsigned_abs same in
    let most = sum_of_small p os in
    omega arith
