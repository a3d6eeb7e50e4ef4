-- Books collected one after another.
use Rattle.std.proofs.Common.{◌≡◌, ◌≤◌, ℕ, Bool, true, List, [], ◌∷◌, ◌++◌, refl, sym, ap, subst, ◌∙◌, arith, append_assoc}
use Rattle.std.specs.List.{list_all}
use Rattle.std.proofs.lemmas.List.Folds.{list_all-append}
use Rattle.std.proofs.lemmas.List.Sums.{sum_by-append}
use Rattle.ocpi_types.specs.declared.config.Config.{Config}
use Rattle.ocpi_types.specs.declared.config.Operator.{Operator}
use Rattle.ocpi_types.specs.Config.{alike_providers}
use Rattle.ocpi_types.specs.Currency.{same_currency}
use Rattle.ocpi_types.specs.Different.{all_different}
use Rattle.netting_positions.specs.declared.obligation.Obligation.{Obligation}
use Rattle.netting_positions.specs.Netting.{is_configured, parties, size, total_size}
use Rattle.netting_positions.specs.SameSums.{JoinedListsOweAlike, OweAlike}
use Rattle.operator_book.specs.Due.{due, is_of_provider}
use Rattle.operator_book.specs.Laws.{SumsOweAlike}
use Rattle.operator_book.specs.State.{PlainBook}
use Rattle.operator_book.specs.Together.{owed_by_all}
use Rattle.plain_house.specs.declared.entry.BookEntry.{BookEntry}
use Rattle.period_order.specs.Dues.{CollectedOwesAlike, dues, sums}
use Rattle.period_order.specs.Inner.Collected.{IsCollecting}
use Rattle.period_order.specs.Resolved.{entries_of_books}
use Rattle.period_order.proofs.PartyLemmas.{both_are}

-- what holds of all of them holds of those before and of those behind
before_pass : (p : Obligation → Bool) (first later : List Obligation) → list_all p (first ++ later) ≡ true → list_all p first ≡ true
before_pass p first later h = (both_are (list_all p first) (list_all p later) (sym (list_all-append p first later) ∙ h)).0

later_pass : (p : Obligation → Bool) (first later : List Obligation) → list_all p (first ++ later) ≡ true → list_all p later ≡ true
later_pass p first later h = (both_are (list_all p first) (list_all p later) (sym (list_all-append p first later) ∙ h)).1

-- one book more
module _ (config : Config) (period : ℕ) (found : List Obligation) (operator : Operator) (others : List Operator) (book : List BookEntry) (later all : List (List BookEntry))
    (is : IsCollecting config period found (operator ∷ others) (book ∷ later) all) where
  abbrev first : List Obligation
  first = due operator.party period book

  abbrev rest : List Obligation
  rest = dues others period later

  pub one_collected : (now : List Obligation) → now ≡ found ++ owed_by_all operator.party first config.currencies config.providers
      → total_size (owed_by_all operator.party first config.currencies config.providers) ≤ total_size first
      → IsCollecting config period now others later all
  one_collected now e small = record {
    known = record {
      providers = later_pass (is_of_provider config) first rest is.known.providers;
      configured = later_pass (is_configured (parties config) config.currencies) first rest is.known.configured;
    };
    fits =
        let fits = is.fits in
        omega (arith, ap total_size e, sum_by-append size found (owed_by_all operator.party first config.currencies config.providers), sum_by-append size first rest, fits, small);
    added =
        ap (λ l. l ++ sums config others period later) e
        ∙ append_assoc found (owed_by_all operator.party first config.currencies config.providers) (sums config others period later)
        ∙ is.added;
  }

-- the first of the operators and its book
pub at_first : (config : Config) (period : ℕ) (found : List Obligation) (operators : List Operator) (operator : Operator) (others : List Operator) (books : List PlainBook) (book : PlainBook) (later : List PlainBook)
    (all : List (List BookEntry)) → operators ≡ operator ∷ others → books ≡ book ∷ later
    → IsCollecting config period found operators (entries_of_books books) all
    → IsCollecting config period found (operator ∷ others) (book.entries ∷ entries_of_books later) all
at_first config period found operators operator others books book later all o b is =
    subst (λ l. IsCollecting config period found l (book.entries ∷ entries_of_books later) all) o
    (subst (λ l. IsCollecting config period found operators (entries_of_books l) all) b is)

-- ---- what is collected owes alike

owe_itself : (os : List Obligation) → OweAlike os os
owe_itself os = record {
  owed = λ operator provider currency. refl;
  between = λ operator provider currency. refl;
}

sums_alike : JoinedListsOweAlike → SumsOweAlike → (config : Config) (period : ℕ) → all_different same_currency config.currencies ≡ true → all_different alike_providers config.providers ≡ true
    → (operators : List Operator) (books : List (List BookEntry)) → list_all (is_of_provider config) (dues operators period books) ≡ true
    → OweAlike (sums config operators period books) (dues operators period books)
sums_alike joined alone config period different apart [] books known = owe_itself []
sums_alike joined alone config period different apart (operator ∷ operators) [] known = owe_itself []
sums_alike joined alone config period different apart (operator ∷ operators) (book ∷ books) known =
    let first = due operator.party period book in
    let rest = dues operators period books in
    joined (owed_by_all operator.party first config.currencies config.providers) first (sums config operators period books) rest
    (alone config operator.party period book different apart (before_pass (is_of_provider config) first rest known))
    (sums_alike joined alone config period different apart operators books (later_pass (is_of_provider config) first rest known))

pub owes_alike : JoinedListsOweAlike → SumsOweAlike → CollectedOwesAlike
owes_alike joined alone config period books different apart can = sums_alike joined alone config period different apart config.operators books can.known.providers
