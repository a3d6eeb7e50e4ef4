-- What is collected book by book, in any order.
use Rattle.std.proofs.Common.{◌≡◌, ◌≤◌, ◌<◌, ◌+◌, ◌^◌, ℕ, zero, suc, Bool, true, false, true≢false, List, [], ◌∷◌, ◌++◌, refl, sym, ap, ap₂, subst, ◌∙◌, length, filter, map, replicate, Some, slice_get, slice_set, append-nil, append_assoc, arith}
use Rattle.std.proofs.lemmas.List.Sums.{sum_by-append}
use Rattle.std.proofs.lemmas.Option.{none-some, same_Some}
use Rattle.ocpi_types.specs.declared.config.Config.{Config}
use Rattle.ocpi_types.specs.declared.config.Operator.{Operator}
use Rattle.ocpi_types.specs.declared.party.Party.{Party}
use Rattle.ocpi_types.specs.Party.{same_party}
use Rattle.netting_positions.specs.declared.obligation.Obligation.{Obligation}
use Rattle.netting_positions.specs.Netting.{size, total_size}
use Rattle.netting_positions.specs.SameSums.{OweAlike}
use Rattle.operator_book.specs.Laws.{SumsAreNoLarger}
use Rattle.operator_book.specs.Together.{owed_by_all}
use Rattle.plain_house.specs.declared.entry.BookEntry.{BookEntry}
use Rattle.plain_house.specs.declared.event.Event.{Event}
use Rattle.plain_house.specs.Entries.{book_entries}
use Rattle.plain_house.specs.Legal.{IsLegal}
use Rattle.plain_house.specs.Own.{own_book}
use Rattle.period_order.specs.Dues.{DuesAreOfOwnBooks, collected, dues, sums as sums_of}
use Rattle.period_order.specs.Resolved.{books_of}
use Rattle.house_core.specs.Collections.{is_complete, is_open, sums}
use Rattle.house_core.specs.Inner.Collecting.{Fits, IsWhole, left, left_dues, owed_in, owed_to}
use Rattle.period_order.specs.Kept.{IsConfiguration}
use Rattle.house_core.specs.Inner.HouseLaws.{HouseLaws}
use Rattle.house_core.proofs.OwesAlike.{alike_behind, alike_exchanged, alike_same, alike_then}

module _ (config : Config) (owed : List Obligation) where
  -- once all books are collected nothing is left
  left_done : (operators : List Operator) (marks : List Bool) → is_complete marks ≡ true → left config owed operators marks ≡ []
  left_done [] marks all = refl
  left_done (x ∷ operators) [] all = refl
  left_done (x ∷ operators) (true ∷ marks) all = left_done operators marks all
  left_done (x ∷ operators) (false ∷ marks) all = absurd (true≢false (sym all))

  pub whole_done : (marks : List Bool) (obligations : List Obligation) → IsWhole config owed marks obligations → is_complete marks ≡ true → OweAlike obligations owed
  whole_done marks obligations whole all =
      subst (λ l. OweAlike l owed) (ap (λ l. obligations ++ l) (left_done config.operators marks all) ∙ append-nil obligations) whole

  -- what one operator is owed, with what is then left, is what was left
  left_less : (operators : List Operator) (marks : List Bool) (number : ℕ) (operator : Operator) → slice_get operators number ≡ Some operator → is_open marks number ≡ true
      → OweAlike (owed_to config owed operator.party ++ left config owed operators (slice_set marks number true)) (left config owed operators marks)
  left_less [] marks number operator is unread = absurd (none-some operator is)
  left_less (x ∷ operators) [] number operator is unread = absurd (true≢false (sym unread))
  left_less (x ∷ operators) (true ∷ marks) zero operator is unread = absurd (true≢false (sym unread))
  left_less (x ∷ operators) (false ∷ marks) zero operator is unread =
      subst (λ (o : Operator). OweAlike (owed_to config owed o.party ++ left config owed operators marks) (owed_to config owed x.party ++ left config owed operators marks))
      (same_Some x operator is) (alike_same (owed_to config owed x.party ++ left config owed operators marks))
  left_less (x ∷ operators) (true ∷ marks) (suc number) operator is unread = left_less operators marks number operator is unread
  left_less (x ∷ operators) (false ∷ marks) (suc number) operator is unread =
      let one : List Obligation = owed_to config owed operator.party in
      let first : List Obligation = owed_to config owed x.party in
      let rest : List Obligation = left config owed operators (slice_set marks number true) in
      alike_then (one ++ (first ++ rest)) (first ++ (one ++ rest)) (first ++ left config owed operators marks)
      (alike_exchanged one first rest)
      (alike_behind first (one ++ rest) (left config owed operators marks) (left_less operators marks number operator is unread))

  pub whole_more : (marks : List Bool) (obligations : List Obligation) (number : ℕ) (operator : Operator) → IsWhole config owed marks obligations
      → slice_get config.operators number ≡ Some operator → is_open marks number ≡ true
      → IsWhole config owed (slice_set marks number true) (obligations ++ owed_to config owed operator.party)
  whole_more marks obligations number operator whole is unread =
      let one : List Obligation = owed_to config owed operator.party in
      let rest : List Obligation = left config owed config.operators (slice_set marks number true) in
      let before : List Obligation = left config owed config.operators marks in
      subst (λ l. OweAlike l owed) (sym (append_assoc obligations one rest))
      (alike_then (obligations ++ (one ++ rest)) (obligations ++ before) owed
      (alike_behind obligations (one ++ rest) before (left_less config.operators marks number operator is unread)) whole)

-- what is collected of an operator's own book
pub own_sums : DuesAreOfOwnBooks → (config : Config) (period : ℕ) (events : List Event) (operator : Operator)
    → sums config operator period (own_book operator.party (book_entries events)) ≡ owed_to config (owed_in period events) operator.party
own_sums own config period events operator =
    ap (λ (l : List Obligation). owed_by_all operator.party l config.currencies config.providers) (own operator.party period (book_entries events))

-- before any book is collected, all is left
left_all : DuesAreOfOwnBooks → (config : Config) (period : ℕ) (events : List Event) (operators : List Operator)
    → left config (owed_in period events) operators (replicate (length operators) false)
    ≡ sums_of config operators period (map (λ operator. own_book operator.party (book_entries events)) operators)
left_all own config period events [] = refl
left_all own config period events (x ∷ operators) =
    ap₂ (λ (l m : List Obligation). l ++ m) (sym (own_sums own config period events x)) (left_all own config period events operators)

pub whole_first : HouseLaws → (config : Config) → IsConfiguration config → (period : ℕ) (events : List Event) → IsLegal config events
    → IsWhole config (owed_in period events) (replicate (length config.operators) false) []
whole_first laws config is period events legal =
    let books : List (List BookEntry) = books_of config events in
    let can = laws.collectable config events is.operators is.cdrs is.distinct.operators legal in
    subst (λ l. OweAlike l (owed_in period events)) (sym (left_all laws.own_dues config period events config.operators))
    (alike_then (collected config period books) (dues config.operators period books) (owed_in period events)
    (laws.collected config period books is.currencies is.distinct.providers (can.can_be period))
    (can.alike period))

-- ---- how large it is together

module _ (owed : List Obligation) where
  abbrev due_to : Party → List Obligation
  due_to operator = filter (λ (obligation : Obligation). same_party obligation.operator operator) owed

  joined_size : (xs ys : List Obligation) → total_size (xs ++ ys) ≡ total_size xs + total_size ys
  joined_size xs ys = sum_by-append size xs ys

  -- what is left, without one operator's
  pub smaller_less : (operators : List Operator) (marks : List Bool) (number : ℕ) (operator : Operator) → slice_get operators number ≡ Some operator → is_open marks number ≡ true
      → total_size (left_dues owed operators marks) ≡ total_size (due_to operator.party) + total_size (left_dues owed operators (slice_set marks number true))
  smaller_less [] marks number operator is unread = absurd (none-some operator is)
  smaller_less (x ∷ operators) [] number operator is unread = absurd (true≢false (sym unread))
  smaller_less (x ∷ operators) (true ∷ marks) zero operator is unread = absurd (true≢false (sym unread))
  smaller_less (x ∷ operators) (false ∷ marks) zero operator is unread =
      joined_size (due_to x.party) (left_dues owed operators marks)
      ∙ ap (λ (o : Operator). total_size (due_to o.party) + total_size (left_dues owed operators marks)) (same_Some x operator is)
  smaller_less (x ∷ operators) (true ∷ marks) (suc number) operator is unread = smaller_less operators marks number operator is unread
  smaller_less (x ∷ operators) (false ∷ marks) (suc number) operator is unread =
      let rest = smaller_less operators marks number operator is unread in
      let all = joined_size (due_to x.party) (left_dues owed operators marks) in
      let later = joined_size (due_to x.party) (left_dues owed operators (slice_set marks number true)) in
      omega (arith, all, rest, later)

left_all_dues : DuesAreOfOwnBooks → (period : ℕ) (events : List Event) (operators : List Operator)
    → left_dues (owed_in period events) operators (replicate (length operators) false)
    ≡ dues operators period (map (λ operator. own_book operator.party (book_entries events)) operators)
left_all_dues own period events [] = refl
left_all_dues own period events (x ∷ operators) =
    ap₂ (λ (l m : List Obligation). l ++ m) (sym (own x.party period (book_entries events))) (left_all_dues own period events operators)

pub fits_first : HouseLaws → (config : Config) → IsConfiguration config → (period : ℕ) (events : List Event) → IsLegal config events
    → Fits config (owed_in period events) (replicate (length config.operators) false) []
fits_first laws config is period events legal =
    let can = laws.collectable config events is.operators is.cdrs is.distinct.operators legal in
    let size_is : total_size (left_dues (owed_in period events) config.operators (replicate (length config.operators) false)) < 2 ^ 63 =
    subst (λ l. total_size l < 2 ^ 63) (sym (left_all_dues laws.own_dues period events config.operators)) (can.can_be period).fits in
    omega (arith, size_is)

-- the sums of a book are no larger than what is due by it
pub fits_more : SumsAreNoLarger → DuesAreOfOwnBooks → (config : Config) → IsConfiguration config → (period : ℕ) (events : List Event)
    → (marks : List Bool) (obligations : List Obligation) (number : ℕ) (operator : Operator) → Fits config (owed_in period events) marks obligations
    → slice_get config.operators number ≡ Some operator → is_open marks number ≡ true
    → Fits config (owed_in period events) (slice_set marks number true) (obligations ++ owed_to config (owed_in period events) operator.party)
fits_more no_larger own config is period events marks obligations number operator fits named unread =
    let owed : List Obligation = owed_in period events in
    let sums_are : List Obligation = owed_to config owed operator.party in
    let less = smaller_less owed config.operators marks number operator named unread in
    let all = joined_size owed obligations sums_are in
    let small : total_size sums_are ≤ total_size (due_to owed operator.party) =
    no_larger config operator.party period (book_entries events) is.currencies is.distinct.providers in
    omega (arith, fits, less, all, small)
