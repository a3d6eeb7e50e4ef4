-- A call that waits is ended by its row, where the locks are free.
use Rattle.std.proofs.Common.{◌≡◌, ◌≢◌, ℕ, zero, suc, List, [], ◌∷◌, true, false, true≢false, refl, sym, ap, subst, ◌∙◌, length, map, replicate, Option, None, Some, option_map, slice_get, slice_set, arith, ⊎_elim}
use Rattle.std.specs.Option.{option_and_then}
use Rattle.std.proofs.lemmas.Bool.{cases_eq}
use Rattle.std.proofs.lemmas.Option.{none-some, same_Some, slice_get_within, slice_get-map}
use Rattle.ocpi_types.specs.declared.config.Config.{Config}
use Rattle.ocpi_types.specs.declared.config.Operator.{Operator}
use Rattle.ocpi_types.specs.declared.party.Party.{Party}
use Rattle.cdr_checks.specs.declared.request.Command.{Command}
use Rattle.cdr_checks.specs.declared.request.Command.TheVariants as command
use Rattle.cdr_checks.specs.Admission.{IsAdmitted}
use Rattle.cdr_checks.specs.Parties.{HasParties, operator_of_command, provider_of_command}
use Rattle.plain_house.specs.declared.entry.AccountEntry.{AccountEntry}
use Rattle.plain_house.specs.declared.entry.BookEntry.{BookEntry}
use Rattle.plain_house.specs.declared.event.Event.{Event}
use Rattle.plain_house.specs.Entries.{book_entries}
use Rattle.plain_house.specs.Legal.{EmptyListsAreLegal}
use Rattle.plain_house.specs.Own.{own_account, own_book}
use Rattle.period_order.specs.Places.{operator_number, provider_number}
use Rattle.house_core.specs.declared.running_call.RunningCall.{RunningCall}
use Rattle.house_core.specs.declared.stage.Stage.{Stage}
use Rattle.house_core.specs.declared.stage.Stage.TheVariants as stage
use Rattle.house_core.specs.declared.step.Step.{Step}
use Rattle.house_core.specs.Calls.{collects, waiting}
use Rattle.house_core.specs.Collections.{is_open}
use Rattle.house_core.specs.Events.{whole_account, whole_book}
use Rattle.house_core.specs.Inner.HouseLaws.{HouseLaws}
use Rattle.house_core.specs.Inner.Sound.{Holds, IsAt}
use Rattle.house_core.specs.Laws.{CallsCanEnd}
use Rattle.house_core.specs.Locks.{Lock}
use Rattle.house_core.specs.OneHouse.{after}
use Rattle.house_core.specs.Rows.{AreFree, HasEach, by_account, by_all_books, by_book, by_both, row}
use Rattle.house_core.specs.Start.{start}
use Rattle.house_core.specs.Steps.{Change, change_by, changed, step}
use Rattle.house_core.specs.World.{PlainWorld}
use Rattle.house_core.proofs.OneHouseLemmas.{holds_after, waiting_at}
use Rattle.house_core.proofs.RankLemmas.{change_further, no_less, rank, waiting_rank}
use Rattle.house_core.proofs.RowLemmas.{Ends, IsOneOf, call_at, ends_account_row, ends_book_row, ends_collecting_row, ends_row_of_both, is_one_of}
use Rattle.house_core.proofs.Wholes.{get-set_other, get-set_same}

some_made : {X Y : Type 0} (f : X → Y) (o : Option X) (y : Y) → option_map f o ≡ Some y → (x : X) × (o ≡ Some x)
some_made f None y h = absurd (none-some y h)
some_made f (Some x) y h = (x, refl)

waiting_is : (s : Stage) (own : Command) → waiting s ≡ Some own → s ≡ stage.Waiting own
waiting_is (stage.Waiting c) own h = ap (λ (x : Command). stage.Waiting x) (same_Some c own h)
waiting_is (stage.Begun c) own h = absurd (none-some own h)
waiting_is (stage.Ordered c) own h = absurd (none-some own h)
waiting_is (stage.Netting c) own h = absurd (none-some own h)
waiting_is (stage.Stating c) own h = absurd (none-some own h)
waiting_is stage.Ended own h = absurd (none-some own h)

waiting_known : (config : Config) (events : List Event) (command : Command) (begin : ℕ) (s : Stage) (own : Command) → waiting s ≡ Some own → IsAt config events command begin s → own ≡ command
waiting_known config events command begin (stage.Waiting c) own h at = sym (same_Some c own h) ∙ at
waiting_known config events command begin (stage.Begun c) own h at = absurd (none-some own h)
waiting_known config events command begin (stage.Ordered c) own h at = absurd (none-some own h)
waiting_known config events command begin (stage.Netting c) own h at = absurd (none-some own h)
waiting_known config events command begin (stage.Stating c) own h at = absurd (none-some own h)
waiting_known config events command begin stage.Ended own h at = absurd (none-some own h)

-- ---- a call that waits has no locks

abbrev HasNoLocks : RunningCall → Type 0
HasNoLocks call = rank call.stage ≡ 0 → (call.has_book ≡ false) × (call.has_account ≡ false)

abbrev NoneHas : PlainWorld → Type 0
NoneHas world = (n : ℕ) (call : RunningCall) → slice_get world.calls n ≡ Some call → HasNoLocks call

step_none : (world : PlainWorld) (one : Step) → NoneHas world → NoneHas (step world one)
step_none world one none = by (slice_get world.calls one.call) refl
  where
    put : (call : RunningCall) → slice_get world.calls one.call ≡ Some call → (o : Option Change) → change_by world one.call call one.action ≡ o → NoneHas (changed world one.call o)
    put call is None e n other there = none n other there
    put call is (Some change) e n other there = ⊎_elim
        (λ (same : n ≡ one.call).
        let it : change.call ≡ other = same_Some change.call other (sym (get-set_same world.calls one.call change.call call is) ∙ ap (slice_get (slice_set world.calls one.call change.call)) (sym same) ∙ there) in
        let some = (change_further world one.call call one.action change e).1 in
        subst HasNoLocks it (λ zero_is. absurd (no_less (omega (arith, some, zero_is)))))
        (λ (apart : n ≢ one.call). none n other (sym (get-set_other world.calls one.call n change.call apart) ∙ there))
        (cases_eq n one.call)

    by : (o : Option RunningCall) → slice_get world.calls one.call ≡ o → NoneHas (changed world one.call (option_and_then (λ (call : RunningCall). change_by world one.call call one.action) o))
    by None e = none
    by (Some call) e = put call e (change_by world one.call call one.action) refl

after_none : (world : PlainWorld) (steps : List Step) → NoneHas world → NoneHas (after world steps)
after_none world [] none = none
after_none world (one ∷ later) none = after_none (step world one) later (step_none world one none)

-- the books to be collected first are those of operators
first_open : {X : Type 0} (xs : List X) (n : ℕ) → is_open (replicate (length xs) false) n ≡ true → (x : X) × (slice_get xs n ≡ Some x)
first_open [] n h = absurd (true≢false (sym h))
first_open (x ∷ xs) zero h = (x, refl)
first_open (x ∷ xs) (suc n) h = first_open xs n h

module _ (laws : HouseLaws) (config : Config) (commands : List Command) (events : List Event) (world : PlainWorld) (holds : Holds config commands events world)
    (number : ℕ) (call : RunningCall) (is : slice_get world.calls number ≡ Some call) (own : Command) (waits : waiting call.stage ≡ Some own)
    (admitted : IsAdmitted config own) (book_is : call.book ≡ option_map (operator_number config) (operator_of_command own))
    (account_is : call.account ≡ option_map (provider_number config) (provider_of_command own))
    (no_book : call.has_book ≡ false) (no_account : call.has_account ≡ false) (free : AreFree world call own) where
  abbrev here : ℕ
  here = length world.order

  call_is : (book account : Option ℕ) → call.book ≡ book → call.account ≡ account → slice_get world.calls number ≡ Some (call_at book account false false call.begin (stage.Waiting own))
  call_is book account b a =
      is ∙ (λ i. Some (record { book = b i; account = a i; has_book = no_book i; has_account = no_account i; begin = call.begin; stage = waiting_is call.stage own waits i }))

  parties : HasParties config own
  parties = laws.parties config own admitted

  -- the lock of the command's book is there, and free
  book_there : (operator : Party) → operator_of_command own ≡ Some operator → (lock : Lock BookEntry) × (slice_get world.books (operator_number config operator) ≡ Some lock) × (lock.holder ≡ None)
  book_there operator e =
      let at : ℕ = operator_number config operator in
      let found : slice_get (map (whole_book world.calls) world.books) at ≡ Some (own_book operator (book_entries events)) =
      ap (λ l. slice_get l at) holds.kept.books_are ∙ (laws.standing config events).operator operator (parties.operator operator e) in
      let one = some_made (whole_book world.calls) (slice_get world.books at) (own_book operator (book_entries events)) (sym (slice_get-map (whole_book world.calls) world.books at) ∙ found) in
      (one.0, one.1, sym (ap (option_and_then (λ (l : Lock BookEntry). l.holder)) one.1) ∙ free.book at (book_is ∙ ap (option_map (operator_number config)) e))

  account_there : (provider : Party) → provider_of_command own ≡ Some provider → (lock : Lock AccountEntry) × (slice_get world.accounts (provider_number config provider) ≡ Some lock) × (lock.holder ≡ None)
  account_there provider e =
      let at : ℕ = provider_number config provider in
      let found : slice_get (map (whole_account world.calls) world.accounts) at ≡ Some (own_account provider events) =
      ap (λ l. slice_get l at) holds.kept.accounts_are ∙ (laws.standing config events).provider provider (parties.provider provider e) in
      let one = some_made (whole_account world.calls) (slice_get world.accounts at) (own_account provider events) (sym (slice_get-map (whole_account world.calls) world.accounts at) ∙ found) in
      (one.0, one.1, sym (ap (option_and_then (λ (l : Lock AccountEntry). l.holder)) one.1) ∙ free.account at (account_is ∙ ap (option_map (provider_number config)) e))

  with_book : collects own ≡ false → (operator : Party) → operator_of_command own ≡ Some operator → provider_of_command own ≡ None → Ends world number here here by_book
  with_book entry operator e f =
      let lock = book_there operator e in
      ends_book_row world number own call.begin entry (operator_number config operator) lock.0
      (call_is (Some (operator_number config operator)) None (book_is ∙ ap (option_map (operator_number config)) e) (account_is ∙ ap (option_map (provider_number config)) f)) lock.1 lock.2

  with_account : collects own ≡ false → (provider : Party) → operator_of_command own ≡ None → provider_of_command own ≡ Some provider → Ends world number here here by_account
  with_account entry provider e f =
      let lock = account_there provider f in
      ends_account_row world number own call.begin entry (provider_number config provider) lock.0
      (call_is None (Some (provider_number config provider)) (book_is ∙ ap (option_map (operator_number config)) e) (account_is ∙ ap (option_map (provider_number config)) f)) lock.1 lock.2

  with_both : collects own ≡ false → (operator provider : Party) → operator_of_command own ≡ Some operator → provider_of_command own ≡ Some provider → Ends world number here here by_both
  with_both entry operator provider e f =
      let lock = book_there operator e in
      let other = account_there provider f in
      ends_row_of_both world number own call.begin entry (operator_number config operator) (provider_number config provider) lock.0 other.0
      (call_is (Some (operator_number config operator)) (Some (provider_number config provider)) (book_is ∙ ap (option_map (operator_number config)) e) (account_is ∙ ap (option_map (provider_number config)) f))
      lock.1 lock.2 other.1 other.2

  with_all_books : collects own ≡ true → operator_of_command own ≡ None → provider_of_command own ≡ None → (operators : List ℕ) → HasEach operators (length config.operators)
      → Ends world number here here (by_all_books operators)
  with_all_books all e f operators each =
      ends_collecting_row world number own call.begin operators
      (call_is None None (book_is ∙ ap (option_map (operator_number config)) e) (account_is ∙ ap (option_map (provider_number config)) f)) there among
    where
      found : (n : ℕ) → is_open (replicate (length world.config.operators) false) n ≡ true → (operator : Operator) × (slice_get world.config.operators n ≡ Some operator)
      found n h = first_open world.config.operators n h

      there : (n : ℕ) → is_open (replicate (length world.config.operators) false) n ≡ true
          → (operator : Operator) × (lock : Lock BookEntry) × (slice_get world.config.operators n ≡ Some operator) × (slice_get world.books n ≡ Some lock) × (lock.holder ≡ None)
      there n h =
          let one = found n h in
          let named : slice_get config.operators n ≡ Some one.0 = ap (λ (c : Config). slice_get c.operators n) (sym holds.config_is) ∙ one.1 in
          let whole : slice_get (map (whole_book world.calls) world.books) n ≡ Some (own_book one.0.party (book_entries events)) =
          ap (λ l. slice_get l n) holds.kept.books_are
          ∙ slice_get-map (λ (operator : Operator). own_book operator.party (book_entries events)) config.operators n
          ∙ ap (option_map (λ (operator : Operator). own_book operator.party (book_entries events))) named in
          let lock = some_made (whole_book world.calls) (slice_get world.books n) (own_book one.0.party (book_entries events)) (sym (slice_get-map (whole_book world.calls) world.books n) ∙ whole) in
          (one.0, lock.0, one.1, lock.1, sym (ap (option_and_then (λ (l : Lock BookEntry). l.holder)) lock.1) ∙ free.collected all n)

      among : (n : ℕ) → is_open (replicate (length world.config.operators) false) n ≡ true → IsOneOf operators n
      among n h =
          let one = found n h in
          let place = each n (slice_get_within config.operators n one.0 (ap (λ (c : Config). slice_get c.operators n) (sym holds.config_is) ∙ one.1)) in
          is_one_of operators place.0 n place.1

module _ (laws : HouseLaws) (config : Config) (commands : List Command) (events : List Event) (world : PlainWorld) (holds : Holds config commands events world)
    (number : ℕ) (call : RunningCall) (is : slice_get world.calls number ≡ Some call) (no_book : call.has_book ≡ false) (no_account : call.has_account ≡ false)
    (operators : List ℕ) (each : HasEach operators (length config.operators)) where
  ends_row : (own : Command) → waiting call.stage ≡ Some own → IsAdmitted config own → call.book ≡ option_map (operator_number config) (operator_of_command own)
      → call.account ≡ option_map (provider_number config) (provider_of_command own) → AreFree world call own → Ends world number (length world.order) (length world.order) (row operators own)
  ends_row (command.PutTariff tariff) waits admitted b a free =
      with_book laws config commands events world holds number call is (command.PutTariff tariff) waits admitted b a no_book no_account free refl tariff.operator refl refl
  ends_row (command.PutToken token) waits admitted b a free =
      with_account laws config commands events world holds number call is (command.PutToken token) waits admitted b a no_book no_account free refl token.provider refl refl
  ends_row (command.Authorize ask) waits admitted b a free =
      with_account laws config commands events world holds number call is (command.Authorize ask) waits admitted b a no_book no_account free refl ask.provider refl refl
  ends_row (command.Release release) waits admitted b a free =
      with_account laws config commands events world holds number call is (command.Release release) waits admitted b a no_book no_account free refl release.provider refl refl
  ends_row (command.Post checked) waits admitted b a free =
      with_both laws config commands events world holds number call is (command.Post checked) waits admitted b a no_book no_account free refl checked.cdr.operator checked.cdr.cdr_token.provider refl refl
  ends_row (command.Close close) waits admitted b a free =
      with_all_books laws config commands events world holds number call is (command.Close close) waits admitted b a no_book no_account free refl refl refl operators each
  ends_row (command.Settle settlement) waits admitted b a free =
      with_account laws config commands events world holds number call is (command.Settle settlement) waits admitted b a no_book no_account free refl settlement.provider refl refl
  ends_row (command.Exposure ask) waits admitted b a free =
      with_account laws config commands events world holds number call is (command.Exposure ask) waits admitted b a no_book no_account free refl ask.provider refl refl
  ends_row (command.Find find) waits admitted b a free =
      with_book laws config commands events world holds number call is (command.Find find) waits admitted b a no_book no_account free refl find.operator refl refl
  ends_row (command.Statement ask) waits admitted b a free =
      with_all_books laws config commands events world holds number call is (command.Statement ask) waits admitted b a no_book no_account free refl refl refl operators each

pub calls_can_end : HouseLaws → EmptyListsAreLegal → CallsCanEnd
calls_can_end laws empty config commands steps number call own operators is_config admitted is waits free each =
    let world : PlainWorld = after (start config commands) steps in
    let holds = holds_after config commands laws is_config empty admitted steps in
    let known = holds.calls number call is in
    let own_is : own ≡ known.0 = waiting_known config _ known.0 call.begin call.stage own waits known.2.at in
    let first : NoneHas (start config commands) =
    λ n other there. let one = waiting_at config commands laws is_config empty admitted commands n other there in subst HasNoLocks one.2 (λ e. (refl, refl)) in
    let none = after_none (start config commands) steps first number call is (waiting_rank call.stage own waits) in
    let ends = ends_row laws config commands _ world holds number call is none.0 none.1 operators each own waits (subst (IsAdmitted config) (sym own_is) known.2.admitted)
    (known.2.book ∙ ap (λ (c : Command). option_map (operator_number config) (operator_of_command c)) (sym own_is))
    (known.2.account ∙ ap (λ (c : Command). option_map (provider_number config) (provider_of_command c)) (sym own_is)) free in
    record { reply = ends.reply; ended = ends.ended }
