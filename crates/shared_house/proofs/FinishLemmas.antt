-- What the locks and the passes of a house held, as plain lists of entries and of calls.
use Rattle.std.proofs.Common.{◌≡◌, ◌≤◌, ℕ, ◌+◌, ◌*◌, ◌^◌, List, [], ◌∷◌, refl, sym, ◌∙◌, ap, ap₂, subst, length, map, sum_by, count_by, Result, Err, Vec, Global}
use Rattle.std.specs.Prelude.{All}
use Rattle.std.proofs.lemmas.List.{length-map}
use Rattle.std.proofs.lemmas.List.Elements.{All-map}
use Rattle.std.proofs.lemmas.List.Sums.{sum_by-cons}
use Rattle.ocpi_types.specs.declared.config.Config.{Config}
use Rattle.operator_book.specs.State.{PlainBook}
use Rattle.period_order.specs.declared.order_entry.OrderEntry.{OrderEntry}
use Rattle.period_order.specs.Order.{names_account, names_book}
use Rattle.period_order.specs.Resolved.{entries_of_accounts, entries_of_books}
use Rattle.plain_house.specs.declared.event.Event.{Event}
use Rattle.plain_house.specs.LegalEntries.{IsLegalAccount, IsLegalBook}
use Rattle.provider_account.specs.State.{PlainAccount}
use Rattle.shared_house.specs.declared.ended.Ended.{Ended}
use Rattle.shared_house.specs.declared.finishing.FinishFault.{FinishFault}
use Rattle.shared_house.specs.declared.finishing.FinishFault.TheVariants as fault
use Rattle.shared_house.specs.declared.call.Call.{Call}
use Rattle.shared_house.specs.Calls.{call_adds_event}
use Rattle.shared_house.specs.Certified.{IsCertified, IsTornFirst}
use Rattle.shared_house.specs.Counts.{total_of_account, total_of_book}
use Rattle.shared_house.specs.Finished.{AreHeld}
use Rattle.shared_house.specs.Points.{AreAdmitted, AreAllAdmitted}

sum_mapped : {X Y : Type 0} (g : Y → ℕ) (f : X → Y) (xs : List X) → sum_by g (map f xs) ≡ sum_by (λ (x : X). g (f x)) xs
sum_mapped g f [] = refl
sum_mapped {X} g f (x ∷ xs) =
    sum_by-cons g (f x) (map f xs) ∙ ap₂ (λ (a b : ℕ). a + b) refl (sum_mapped g f xs) ∙ sym (sum_by-cons (λ (y : X). g (f y)) x xs)

pub are_held : (config : Config) (passes : List (List Call)) (books : List PlainBook) (accounts : List PlainAccount) (order : List OrderEntry) (calls : List (Vec Call Global))
    → length books ≡ length config.operators → length accounts ≡ length config.providers
    → All (λ (book : PlainBook). IsLegalBook config book.entries) books → All (λ (account : PlainAccount). IsLegalAccount config account.entries) accounts
    → count_by names_book order ≡ sum_by (λ (book : PlainBook). length book.entries) books
    → count_by names_account order ≡ sum_by (λ (account : PlainAccount). length account.entries) accounts
    → sum_by (λ (book : PlainBook). total_of_book book.entries) books ≡ sum_by (λ (account : PlainAccount). total_of_account account.entries) accounts
    → sum_by (λ (book : PlainBook). total_of_book book.entries) books ≤ 10 ^ 12 * length order → length order ≡ sum_by (λ (pass : Vec Call Global). count_by call_adds_event pass.items) calls
    → map (λ (pass : Vec Call Global). pass.items) calls ≡ passes → All (λ (pass : Vec Call Global). AreAdmitted config pass.items) calls
    → AreHeld config passes (entries_of_books books) (entries_of_accounts accounts) order
are_held config passes books accounts order calls books_each accounts_each legal_books legal_accounts in_books in_accounts amounts bounded in_order same admitted = record {
  each_operator = length-map books (λ (book : PlainBook). book.entries) ∙ books_each;
  each_provider = length-map accounts (λ (account : PlainAccount). account.entries) ∙ accounts_each;
  legal_books = All-map (IsLegalBook config) (λ (book : PlainBook). book.entries) books legal_books;
  legal_accounts = All-map (IsLegalAccount config) (λ (account : PlainAccount). account.entries) accounts legal_accounts;
  books_counted = in_books ∙ sym (sum_mapped length (λ (book : PlainBook). book.entries) books);
  accounts_counted = in_accounts ∙ sym (sum_mapped length (λ (account : PlainAccount). account.entries) accounts);
  one_amount = sum_mapped total_of_book (λ (book : PlainBook). book.entries) books ∙ amounts ∙ sym (sum_mapped total_of_account (λ (account : PlainAccount). account.entries) accounts);
  events_counted = in_order ∙ sym (sum_mapped (count_by call_adds_event) (λ (pass : Vec Call Global). pass.items) calls) ∙ ap (sum_by (count_by call_adds_event)) same;
  bounded = subst (λ (n : ℕ). n ≤ 10 ^ 12 * length order) (sym (sum_mapped total_of_book (λ (book : PlainBook). book.entries) books)) bounded;
  admitted = subst (AreAllAdmitted config) same (All-map (AreAdmitted config) (λ (pass : Vec Call Global). pass.items) calls admitted);
}

-- under equal configurations, and of equal calls, the same is certified, and the same is torn
module _ (config config' : Config) (books : List PlainBook) (accounts : List PlainAccount) (order : List OrderEntry) (passes passes' : List (List Call))
    (same_config : config ≡ config') (same_passes : passes ≡ passes') where
  pub certified_alike : (events : List Event) → IsCertified config (entries_of_books books) (entries_of_accounts accounts) order passes events
      → IsCertified config' (entries_of_books books) (entries_of_accounts accounts) order passes' events
  certified_alike events is =
      subst (λ (x : List (List Call)). IsCertified config' (entries_of_books books) (entries_of_accounts accounts) order x events) same_passes
      (subst (λ (x : Config). IsCertified x (entries_of_books books) (entries_of_accounts accounts) order passes events) same_config is)

  pub torn_alike : (number : ℕ) → IsTornFirst config (entries_of_books books) (entries_of_accounts accounts) order passes number
      → IsTornFirst config' (entries_of_books books) (entries_of_accounts accounts) order passes' number
  torn_alike number is =
      subst (λ (x : List (List Call)). IsTornFirst config' (entries_of_books books) (entries_of_accounts accounts) order x number) same_passes
      (subst (λ (x : Config). IsTornFirst x (entries_of_books books) (entries_of_accounts accounts) order passes number) same_config is)

pub same_entry : (a b : ℕ) → (let x : Result Ended FinishFault = Err (fault.Torn a) in let y : Result Ended FinishFault = Err (fault.Torn b) in x ≡ y) → a ≡ b
same_entry a b h = let same : a ≡ b = cc in same
