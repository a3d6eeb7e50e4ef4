-- A call gets its place in the order, as code gives it.
use Rattle.std.proofs.Common.{◌≡◌, ◌&&◌, ◌++◌, ℕ, true, List, [], refl, sym, ap, ap₂, subst, ◌∙◌, append-nil, length, Option, None, Some, Ok, Err, Result, is_some, option_map, option_to_list, slice_get, slice_set}
use Rattle.std.specs.Option.{option_and_then, option_map_or}
use Rattle.std.proofs.lemmas.Bool.{and_parts}
use Rattle.std.proofs.lemmas.Option.{none-some, same_Some, slice_get-map}
use Rattle.ocpi_types.specs.declared.config.Config.{Config}
use Rattle.ocpi_types.specs.declared.refusal.Refusal.{Refusal}
use Rattle.cdr_checks.specs.declared.request.Close.{Close}
use Rattle.cdr_checks.specs.declared.request.Command.{Command}
use Rattle.cdr_checks.specs.declared.request.Command.TheVariants as command
use Rattle.cdr_checks.specs.declared.request.StatementOf.{StatementOf}
use Rattle.cdr_checks.specs.Parties.{operator_of_command, provider_of_command}
use Rattle.operator_book.specs.State.{PlainBook}
use Rattle.provider_account.specs.State.{PlainAccount}
use Rattle.plain_house.specs.declared.answer.Answer.{Answer}
use Rattle.plain_house.specs.declared.entry.AccountEntry.{AccountEntry}
use Rattle.plain_house.specs.declared.entry.BookEntry.{BookEntry}
use Rattle.plain_house.specs.declared.event.Event.{Event}
use Rattle.plain_house.specs.House.{verdict}
use Rattle.plain_house.specs.Known.{Known}
use Rattle.plain_house.specs.Verdict.{Verdict}
use Rattle.period_order.specs.declared.decided.Outcome.{Outcome}
use Rattle.period_order.specs.declared.decided.Outcome.TheVariants as outcome
use Rattle.period_order.specs.declared.order_entry.OrderEntry.{OrderEntry}
use Rattle.period_order.specs.Decided.{AccountTakes, AccountTakesAny, AreOfAccount, AreOfBook, BookTakes, BookTakesAny, Decides, account_length, book_length, closed_by, event_of, order_with, outcome_of, stated_by, with_entry}
use Rattle.period_order.specs.Order.{PlainOrder, current_of, point_of}
use Rattle.period_order.specs.Places.{operator_number, order_entry, provider_number}
use Rattle.house_core.specs.declared.running_call.RunningCall.{RunningCall}
use Rattle.house_core.specs.declared.locks.AccountLock.{AccountLock}
use Rattle.house_core.specs.declared.locks.BookLock.{BookLock}
use Rattle.house_core.specs.declared.parts.Parts.{Parts}
use Rattle.house_core.specs.declared.stage.Carried.{Carried}
use Rattle.house_core.specs.declared.stage.Stage.{Stage}
use Rattle.house_core.specs.declared.stage.Stage.TheVariants as stage
use Rattle.house_core.specs.declared.step.Action.TheVariants as action
use Rattle.house_core.specs.declared.table.Table.{Table}
use Rattle.house_core.specs.Calls.{begun, has_its_account, has_its_book, held_account, held_book, ordered, ready}
use Rattle.house_core.specs.Inner.Moves.{ready_at}
use Rattle.house_core.specs.Inner.Ready.{AccountIsReady, AreReady, AreSound, BookIsReady, HaveRoom, shown}
use Rattle.house_core.specs.Inner.Shown.{shown_account, shown_accounts, shown_book, shown_books}
use Rattle.house_core.specs.Inner.Sound.{IsAt, IsRunningCall}
use Rattle.house_core.specs.Inner.Tables.{IsTableOf, stage_with, table_for}
use Rattle.house_core.specs.Locks.{Lock, entries_at}
use Rattle.house_core.specs.Steps.{changed, known_to, order, stage_after, step}
use Rattle.house_core.proofs.HoldingLemmas.{holds_account, holds_book}
use Rattle.house_core.proofs.Ordering.{held_is}
use Rattle.house_core.proofs.PutLemmas.{met}
use Rattle.house_core.proofs.ReadyLemmas.{ready_call}
use Rattle.house_core.proofs.StepLemmas.{no_lock, stepped}

-- ---- tables

of_close : (period : ℕ) (config : Config) (close : Close) (reply : Result Answer Refusal) → IsTableOf (closed_by period reply) (table_for config (command.Close close))
of_close period config close (Ok answer) = refl
of_close period config close (Err refusal) = tt

of_statement : (config : Config) (ask : StatementOf) (reply : Result Answer Refusal) → IsTableOf (stated_by ask reply) (table_for config (command.Statement ask))
of_statement config ask (Ok answer) = refl
of_statement config ask (Err refusal) = tt

-- the table for a command is that of what the command comes to
pub its_table : (config : Config) (own : Command) (v : Verdict) → IsTableOf (outcome_of own v) (table_for config own)
its_table config (command.PutTariff tariff) v = tt
its_table config (command.PutToken token) v = tt
its_table config (command.Authorize ask) v = tt
its_table config (command.Release release) v = tt
its_table config (command.Post checked) v = tt
its_table config (command.Close close) v = of_close close.period config close v.reply
its_table config (command.Settle settlement) v = tt
its_table config (command.Exposure ask) v = tt
its_table config (command.Find find) v = tt
its_table config (command.Statement ask) v = of_statement config ask v.reply

close_stage : (config : Config) (known : Known) (close : Close) (reply : Result Answer Refusal)
    → stage_with known.point known.period (closed_by close.period reply) (table_for config (command.Close close)) ≡ stage_after config known (closed_by close.period reply)
close_stage config known close (Ok answer) = refl
close_stage config known close (Err refusal) = refl

statement_stage : (config : Config) (known : Known) (ask : StatementOf) (reply : Result Answer Refusal)
    → stage_with known.point known.period (stated_by ask reply) (table_for config (command.Statement ask)) ≡ stage_after config known (stated_by ask reply)
statement_stage config known ask (Ok answer) = refl
statement_stage config known ask (Err refusal) = refl

pub its_stage : (config : Config) (known : Known) (own : Command) (v : Verdict)
    → stage_with known.point known.period (outcome_of own v) (table_for config own) ≡ stage_after config known (outcome_of own v)
its_stage config known (command.PutTariff tariff) v = refl
its_stage config known (command.PutToken token) v = refl
its_stage config known (command.Authorize ask) v = refl
its_stage config known (command.Release release) v = refl
its_stage config known (command.Post checked) v = refl
its_stage config known (command.Close close) v = close_stage config known close v.reply
its_stage config known (command.Settle settlement) v = refl
its_stage config known (command.Exposure ask) v = refl
its_stage config known (command.Find find) v = refl
its_stage config known (command.Statement ask) v = statement_stage config known ask v.reply

-- what is carried behind the order is the event of what was decided, in the period of then
carries : (config : Config) (known : Known) (o : Outcome) (carried : Carried) → ordered (stage_after config known o) ≡ Some carried → (event_of o ≡ carried.event) × (known.period ≡ carried.period)
carries config known (outcome.Replied reply event) carried h =
    let same = same_Some (record { point = known.point; period = known.period; reply = reply; event = event }) carried h in
    (ap (λ (c : Carried). c.event) same, ap (λ (c : Carried). c.period) same)
carries config known (outcome.Closed period) carried h = absurd (none-some carried h)
carries config known (outcome.Stated ask) carried h = absurd (none-some carried h)

-- ---- what is given

pub some_mapped : {X Y : Type 0} (f : X → Y) (o : Option X) (y : Y) → Some y ≡ option_map f o → (x : X) × (o ≡ Some x) × (y ≡ f x)
some_mapped f None y h = absurd (none-some y (sym h))
some_mapped f (Some x) y h = (x, refl, same_Some y (f x) h)

pub map_some : {X Y : Type 0} (f : X → Y) (o : Option X) → is_some (option_map f o) ≡ is_some o
map_some f None = refl
map_some f (Some x) = refl

lock_is_there : {L B : Type 0} (holder : L → Option ℕ) (f : L → B) (x : Option L) (n : ℕ) → option_and_then holder x ≡ Some n → is_some (option_map f x) ≡ true
lock_is_there holder f None n h = absurd (none-some n h)
lock_is_there holder f (Some l) n h = refl

with_entries : (order : PlainOrder) (entry : Option OrderEntry) → (with_entry order entry).entries ≡ order.entries ++ option_to_list entry
with_entries order None = sym (append-nil order.entries)
with_entries order (Some entry) = refl

module _ (parts : Parts) where
  abbrev pub given_book : Option ℕ → Option PlainBook
  given_book o = option_and_then (λ n. option_map (λ (lock : BookLock). lock.book) (slice_get parts.books.items n)) o

  abbrev pub given_account : Option ℕ → Option PlainAccount
  given_account o = option_and_then (λ n. option_map (λ (lock : AccountLock). lock.account) (slice_get parts.accounts.items n)) o

  abbrev pub books_at : Option ℕ → List BookEntry
  books_at o = entries_at (shown_books parts.books.items) o

  abbrev pub accounts_at : Option ℕ → List AccountEntry
  accounts_at o = entries_at (shown_accounts parts.accounts.items) o

  book_is : (o : Option ℕ) → AreOfBook (given_book o) (books_at o) × (book_length (given_book o) ≡ length (books_at o))
  book_is None = (tt, refl)
  book_is (Some n) =
      subst (λ l. AreOfBook (given_book (Some n)) (option_map_or (λ (k : Lock BookEntry). k.entries) l []) × (book_length (given_book (Some n)) ≡ length (option_map_or (λ (k : Lock BookEntry). k.entries) l []))) (sym (slice_get-map shown_book parts.books.items n))
      (by (slice_get parts.books.items n))
    where
      by : (x : Option BookLock) → AreOfBook (option_map (λ (lock : BookLock). lock.book) x) (option_map_or (λ (k : Lock BookEntry). k.entries) (option_map shown_book x) [])
          × (book_length (option_map (λ (lock : BookLock). lock.book) x) ≡ length (option_map_or (λ (k : Lock BookEntry). k.entries) (option_map shown_book x) []))
      by None = (tt, refl)
      by (Some lock) = (refl, refl)

  account_is : (o : Option ℕ) → AreOfAccount (given_account o) (accounts_at o) × (account_length (given_account o) ≡ length (accounts_at o))
  account_is None = (tt, refl)
  account_is (Some n) =
      subst (λ l. AreOfAccount (given_account (Some n)) (option_map_or (λ (k : Lock AccountEntry). k.entries) l []) × (account_length (given_account (Some n)) ≡ length (option_map_or (λ (k : Lock AccountEntry). k.entries) l []))) (sym (slice_get-map shown_account parts.accounts.items n))
      (by (slice_get parts.accounts.items n))
    where
      by : (x : Option AccountLock) → AreOfAccount (option_map (λ (lock : AccountLock). lock.account) x) (option_map_or (λ (k : Lock AccountEntry). k.entries) (option_map shown_account x) [])
          × (account_length (option_map (λ (lock : AccountLock). lock.account) x) ≡ length (option_map_or (λ (k : Lock AccountEntry). k.entries) (option_map shown_account x) []))
      by None = (tt, refl)
      by (Some lock) = (refl, refl)

-- a call whose table is given is ready, and the table is its command's
pub table_given : (parts : Parts) (number : ℕ) (call : RunningCall) → slice_get parts.calls.items number ≡ Some call → (table : Table) (own : Command) → begun call.stage ≡ Some own
    → Some table ≡ option_map (table_for parts.config) (ready_at (shown parts) number) → (ready call ≡ Some own) × (table ≡ table_for parts.config own)
table_given parts number call is table own begins given =
    let one = some_mapped (table_for parts.config) (ready_at (shown parts) number) table given in
    let its : ready call ≡ Some one.0 = sym (ap (option_and_then ready) is) ∙ one.1 in
    let same : one.0 ≡ own = same_Some one.0 own (sym (met (has_its_book call && has_its_account call) (begun call.stage) one.0 its).1 ∙ begins) in
    (its ∙ ap (λ (c : Command). Some c) same, one.2 ∙ ap (table_for parts.config) same)

module _ (parts : Parts) (sound : AreSound parts) (number : ℕ) (call : RunningCall) (is : slice_get parts.calls.items number ≡ Some call) (own : Command) (is_ready : ready call ≡ Some own) where
  both : (has_its_book call && has_its_account call ≡ true) × (begun call.stage ≡ Some own)
  both = met (has_its_book call && has_its_account call) (begun call.stage) own is_ready

  -- it is the command of the call
  own_is : (s : Stage) (other : Command) → begun s ≡ Some own → IsAt parts.config sound.events other call.begin s → other ≡ own
  own_is (stage.Waiting c) other h at = absurd (none-some own h)
  own_is (stage.Begun c) other h at = sym at.0 ∙ same_Some c own h
  own_is (stage.Ordered carried) other h at = absurd (none-some own h)
  own_is (stage.Netting netting) other h at = absurd (none-some own h)
  own_is (stage.Stating stating) other h at = absurd (none-some own h)
  own_is stage.Ended other h at = absurd (none-some own h)

  mine : IsRunningCall parts.config sound.events own call
  mine =
      let one = sound.holds.calls number call is in
      subst (λ (c : Command). IsRunningCall parts.config sound.events c call) (own_is call.stage one.0 both.1 one.2.at) one.2

  -- the book is there where the command looks into one, and the account
  pub has_book_given : is_some (given_book parts call.book) ≡ is_some (operator_of_command own)
  has_book_given = there call.book refl ∙ ap is_some mine.book ∙ map_some (operator_number parts.config) (operator_of_command own)
    where
      there : (o : Option ℕ) → call.book ≡ o → is_some (given_book parts o) ≡ is_some call.book
      there None e = ap is_some (sym e)
      there (Some n) e =
          lock_is_there (λ (l : BookLock). l.holder) (λ l. l.book) (slice_get parts.books.items n) number
          (holds_book parts sound number call n is (held_is call.has_book call.book mine.bookless (and_parts (has_its_book call) (has_its_account call) both.0).0 ∙ e))
          ∙ ap is_some (sym e)

  pub has_account_given : is_some (given_account parts call.account) ≡ is_some (provider_of_command own)
  has_account_given = there call.account refl ∙ ap is_some mine.account ∙ map_some (provider_number parts.config) (provider_of_command own)
    where
      there : (o : Option ℕ) → call.account ≡ o → is_some (given_account parts o) ≡ is_some call.account
      there None e = ap is_some (sym e)
      there (Some n) e =
          lock_is_there (λ (l : AccountLock). l.holder) (λ l. l.account) (slice_get parts.accounts.items n) number
          (holds_account parts sound number call n is (held_is call.has_account call.account mine.accountless (and_parts (has_its_book call) (has_its_account call) both.0).1 ∙ e))
          ∙ ap is_some (sym e)

  -- ---- what was decided

  abbrev pub seen_by : Known
  seen_by = known_to (shown parts) call

  module _ (o : Outcome) (decides : Decides parts.config (given_book parts call.book) (given_account parts call.account) parts.order own o) where
    pub outcome_is : o ≡ outcome_of own (verdict parts.config seen_by own)
    outcome_is = decides.outcome_is (books_at parts call.book) (accounts_at parts call.account) (book_is parts call.book).0 (account_is parts call.account).0

    pub has_table : (table : Table) → table ≡ table_for parts.config own → IsTableOf o table
    has_table table e =
        subst (λ (t : Table). IsTableOf o t) (sym e) (subst (λ (x : Outcome). IsTableOf x (table_for parts.config own)) (sym outcome_is) (its_table parts.config own (verdict parts.config seen_by own)))

    pub stage_is : (table : Table) → table ≡ table_for parts.config own → stage_with (point_of parts.order) (current_of parts.order) o table ≡ stage_after parts.config seen_by o
    stage_is table e =
        ap₂ (λ (x : Outcome) (t : Table). stage_with (point_of parts.order) (current_of parts.order) x t) outcome_is e
        ∙ its_stage parts.config seen_by own (verdict parts.config seen_by own)
        ∙ ap (stage_after parts.config seen_by) (sym outcome_is)

    pub did_order : (order_now : PlainOrder) (s : Stage) → order_now ≡ order_with parts.config (given_book parts call.book) (given_account parts call.account) parts.order o → s ≡ stage_after parts.config seen_by o
        → record {
          config = parts.config;
          books = shown_books parts.books.items;
          accounts = shown_accounts parts.accounts.items;
          order = order_now.entries;
          calls = slice_set parts.calls.items number (record call { stage = s });
        } ≡ step (shown parts) (record { call = number; action = action.Order })
    did_order order_now s order_is stage_now =
        let entries : order_now.entries ≡ parts.order.entries ++ option_to_list (option_map (order_entry parts.config (length (books_at parts call.book)) (length (accounts_at parts call.account))) (event_of (outcome_of own (verdict parts.config seen_by own)))) =
        ap (λ (x : PlainOrder). x.entries) order_is
        ∙ with_entries parts.order (option_map (order_entry parts.config (book_length (given_book parts call.book)) (account_length (given_account parts call.account))) (event_of o))
        ∙ ap₂ (λ (b a : ℕ). parts.order.entries ++ option_to_list (option_map (order_entry parts.config b a) (event_of o))) (book_is parts call.book).1 (account_is parts call.account).1
        ∙ ap (λ (x : Outcome). parts.order.entries ++ option_to_list (option_map (order_entry parts.config (length (books_at parts call.book)) (length (accounts_at parts call.account))) (event_of x))) outcome_is in
        (λ i. record {
          config = parts.config;
          books = sym (no_lock (shown_books parts.books.items) call.book) i;
          accounts = sym (no_lock (shown_accounts parts.accounts.items) call.account) i;
          order = entries i;
          calls = slice_set parts.calls.items number (record call { stage = (stage_now ∙ ap (stage_after parts.config seen_by) outcome_is) i });
        })
        ∙ ap (changed (shown parts) number) (sym (ap (option_map (order parts.config seen_by call)) is_ready))
        ∙ sym (stepped (shown parts) number call action.Order is)

    module _ (room : HaveRoom parts number) (s : Stage) (stage_now : s ≡ stage_after parts.config seen_by o) where
      abbrev placed_call : RunningCall
      placed_call = record call { stage = s }

      takes_in_book : (at : ℕ) (lock : BookLock) (event : Event) → call.book ≡ Some at → slice_get parts.books.items at ≡ Some lock → event_of o ≡ Some event → BookTakes lock.book.entries event
      takes_in_book at lock event own_book here given =
          subst (λ (e : Option Event). BookTakesAny (Some lock.book) e) given
          (subst (λ (b : Option PlainBook). BookTakesAny b (event_of o)) (ap (given_book parts) own_book ∙ ap (option_map (λ (l : BookLock). l.book)) here) decides.in_book)

      takes_in_account : (at : ℕ) (lock : AccountLock) (event : Event) (period : ℕ) → call.account ≡ Some at → slice_get parts.accounts.items at ≡ Some lock → event_of o ≡ Some event → current_of parts.order ≡ period
          → AccountTakes lock.account.entries period event
      takes_in_account at lock event period own_account here given current =
          subst (λ (n : ℕ). AccountTakes lock.account.entries n event) current
          (subst (λ (e : Option Event). AccountTakesAny (Some lock.account) (current_of parts.order) e) given
          (subst (λ (b : Option PlainAccount). AccountTakesAny b (current_of parts.order) (event_of o)) (ap (given_account parts) own_account ∙ ap (option_map (λ (l : AccountLock). l.account)) here) decides.in_account))

      pub books_ready : AreReady held_book BookIsReady (slice_set parts.calls.items number placed_call) parts.books.items
      books_ready = ready_call held_book BookIsReady parts.calls.items parts.books.items sound.ready.books number call placed_call is
          (λ at lock holds here carried event has its.
          let own_book : call.book ≡ Some at = (met call.has_book call.book at holds).1 in
          let found = carries parts.config seen_by o carried (sym (ap ordered stage_now) ∙ has) in
          (room.book call at lock is own_book here, takes_in_book at lock event own_book here (found.0 ∙ its)))

      pub accounts_ready : AreReady held_account AccountIsReady (slice_set parts.calls.items number placed_call) parts.accounts.items
      accounts_ready = ready_call held_account AccountIsReady parts.calls.items parts.accounts.items sound.ready.accounts number call placed_call is
          (λ at lock holds here carried event has its.
          let own_account : call.account ≡ Some at = (met call.has_account call.account at holds).1 in
          let found = carries parts.config seen_by o carried (sym (ap ordered stage_now) ∙ has) in
          (room.account call at lock is own_account here, takes_in_account at lock event carried.period own_account here (found.0 ∙ its) found.1))
