-- Net positions and rows by what their periods oblige to.
use Rattle.std.proofs.Common.{All, ◌≡◌, ◌⊎◌, inl, inr, ℕ, zero, suc, ◌+◌, ◌<◌, ◌≤◌, List, [], ◌∷◌, ◌++◌, refl, sym, ap, subst, ◌∙◌, arith, get_or, length, map, option_map, slice_get, take, Some, Ok, Err}
use Rattle.std.proofs.lemmas.Option.{slice_get-map}
use Rattle.std.proofs.lemmas.List.{take_all, take_more}
use Rattle.std.proofs.lemmas.List.Elements.{All-push}
use Rattle.ocpi_types.specs.declared.config.Config.{Config}
use Rattle.cdr_checks.specs.declared.request.Command.TheVariants as command
use Rattle.cdr_checks.specs.declared.request.StatementOf.{StatementOf}
use Rattle.netting_positions.specs.declared.obligation.Obligation.{Obligation}
use Rattle.netting_positions.specs.declared.positions.NetPosition.{NetPosition}
use Rattle.netting_positions.specs.declared.row.StatementRow.{StatementRow}
use Rattle.netting_positions.specs.Statement.{statement_rows}
use Rattle.plain_house.specs.declared.answer.Answer.{Answer}
use Rattle.plain_house.specs.declared.answer.Answer.TheVariants as answer
use Rattle.plain_house.specs.declared.event.Event.{Event}
use Rattle.plain_house.specs.Entries.{book_entries}
use Rattle.plain_house.specs.House.{positions_in}
use Rattle.plain_house.specs.Obligations.{GoesOnFrom, obligations}
use Rattle.plain_house.specs.Replies.{Reply}
use Rattle.shared_house.specs.declared.call.Call.{Call}
use Rattle.shared_house.specs.Inner.Tables.{AreOwed, HasRightTable}

-- ---- periods

-- where what is owed in the first period of the rest is what is owed in this period of all
pub owed_first : (events rest first : List Event) (period : ℕ) → GoesOnFrom events period rest → obligations 0 (book_entries first) ≡ obligations 0 (book_entries rest) →
    obligations 0 (book_entries first) ≡ obligations period (book_entries events)
owed_first events rest first period from same = same ∙ from 0 ∙ ap (λ n. obligations n (book_entries events)) (none period)
  where
    none : (n : ℕ) → n + 0 ≡ n
    none n = omega arith

pub goes_on : (events rest later : List Event) (period : ℕ) → GoesOnFrom events period rest → GoesOnFrom rest 1 later → GoesOnFrom events (period + 1) later
goes_on events rest later period from next = λ number. next number ∙ from (1 + number) ∙ ap (λ n. obligations n (book_entries events)) (sum period number)
  where
    sum : (m n : ℕ) → m + (1 + n) ≡ (m + 1) + n
    sum m n = omega arith

pushed_at : {X : Type 0} (xs : List X) (x y : X) (n : ℕ) → slice_get (xs ++ x ∷ []) n ≡ Some y → (slice_get xs n ≡ Some y) ⊎ ((n ≡ length xs) × (x ≡ y))
pushed_at [] x y zero h = let same : x ≡ y = cc in inr (refl, same)
pushed_at [] x y (suc n) h = absurd (cc)
pushed_at (z ∷ xs) x y zero h = inl h
pushed_at {X} (z ∷ xs) x y (suc n) h = by (pushed_at xs x y n h)
  where
    by : (slice_get xs n ≡ Some y) ⊎ ((n ≡ length xs) × (x ≡ y)) → (slice_get (z ∷ xs) (suc n) ≡ Some y) ⊎ ((suc n ≡ length (z ∷ xs)) × (x ≡ y))
    by (inl g) = inl g
    by (inr g) = inr (ap suc g.0, g.1)

-- what is owed in one period more
pub owed_more : (lists : List (List Obligation)) (first : List Obligation) (events : List Event) (period : ℕ) → AreOwed lists events → length lists ≡ period
    → first ≡ obligations period (book_entries events) → AreOwed (lists ++ first ∷ []) events
owed_more lists first events period are long is number owed found = by (pushed_at lists first owed number found)
  where
    by : (slice_get lists number ≡ Some owed) ⊎ ((number ≡ length lists) × (first ≡ owed)) → owed ≡ obligations number (book_entries events)
    by (inl g) = are number owed g
    by (inr g) = sym g.1 ∙ is ∙ ap (λ n. obligations n (book_entries events)) (sym (g.0 ∙ long))

-- ---- all of a list

pub one_more : {X : Type 0} (P : X → Type 0) (xs : List X) (i : ℕ) (x : X) → i < length xs → x ≡ get_or xs i x → All P (take i xs) → P x → All P (take (i + 1) xs)
one_more P xs i x within is all one =
    subst (All P) (sym (take_more xs i x within)) (All-push P (take i xs) (get_or xs i x) all (subst P is one))

pub all_of : {X : Type 0} (P : X → Type 0) (xs : List X) (i : ℕ) → length xs ≤ i → All P (take i xs) → All P xs
all_of P xs i done all = subst (All P) (take_all i xs done) all

-- ---- one call

abbrev answer_in : Reply → Answer
answer_in (Ok replied) = replied.answer
answer_in (Err refused) = answer.Stored

pub right_positions : (config : Config) (events : List Event) (call : Call) (at period : ℕ) (told : List NetPosition)
    → call.reply ≡ Ok (record { at = at; answer = answer.Closed period told }) → told ≡ positions_in config (book_entries events) period → HasRightTable config events call
right_positions config events call at period told reply is = record {
  positions = λ at' period' told' reply'.
      let answers : answer.Closed period told ≡ answer.Closed period' told' = ap answer_in (sym reply ∙ reply') in
      let same : told ≡ told' = cc in
      let one : period ≡ period' = cc in
      sym same ∙ is ∙ ap (positions_in config (book_entries events)) one;
  rows = λ at' ask told' asked reply'.
      let answers : answer.Closed period told ≡ answer.Statement told' = ap answer_in (sym reply ∙ reply') in absurd (cc);
}

pub right_rows : (config : Config) (events : List Event) (call : Call) (at : ℕ) (ask : StatementOf) (told : List StatementRow)
    → call.command ≡ command.Statement ask → call.reply ≡ Ok (record { at = at; answer = answer.Statement told })
    → told ≡ statement_rows ask.party (obligations ask.period (book_entries events)) → HasRightTable config events call
right_rows config events call at ask told asked reply is = record {
  positions = λ at' period' told' reply'.
      let answers : answer.Statement told ≡ answer.Closed period' told' = ap answer_in (sym reply ∙ reply') in absurd (cc);
  rows = λ at' ask' told' asked' reply'.
      let answers : answer.Statement told ≡ answer.Statement told' = ap answer_in (sym reply ∙ reply') in
      let same : told ≡ told' = cc in
      let commands : command.Statement ask ≡ command.Statement ask' = sym asked ∙ asked' in
      let one : ask ≡ ask' = cc in
      sym same ∙ is ∙ ap (λ (a : StatementOf). statement_rows a.party (obligations a.period (book_entries events))) one;
}

-- what is owed in the period of a list that is found
pub owed_at : {X : Type 0} (f : X → List Obligation) (lists : List X) (period : ℕ) (list : X) (events : List Event) → AreOwed (map f lists) events → slice_get lists period ≡ Some list
    → f list ≡ obligations period (book_entries events)
owed_at f lists period list events are found = are period (f list) (slice_get-map f lists period ∙ ap (option_map f) found)
