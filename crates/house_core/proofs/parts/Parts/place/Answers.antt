use Rattle.std.proofs.Common.{rules, ◌≡◌, ◌∙◌, sym, ap, ap₂, subst, if◌then◌else◌, ℕ, List, Option, Some, is_some, option_map, slice_get, slice_set}
use Rattle.std.specs.Option.{option_and_then, option_copied}
use Rattle.std.proofs.lemmas.Option.{same_Some}
use Rattle.cdr_checks.specs.declared.request.Command.{Command}
use Rattle.period_order.specs.declared.decided.Outcome.{Outcome}
use Rattle.period_order.specs.Decided.{Decides, order_with}
use Rattle.house_core.specs.declared.running_call.RunningCall.{RunningCall}
use Rattle.house_core.specs.declared.locks.AccountLock.{AccountLock}
use Rattle.house_core.specs.declared.locks.BookLock.{BookLock}
use Rattle.house_core.specs.declared.stage.Stage.{Stage}
use Rattle.house_core.specs.declared.stage.Stage.TheVariants as stage
use Rattle.house_core.specs.Calls.{begun, held_account, held_book}
use Rattle.house_core.specs.Inner.Ready.{AccountIsReady, AreReady, BookIsReady}
use Rattle.house_core.specs.Inner.Shown.{shown_accounts, shown_books}
use Rattle.house_core.specs.Inner.Tables.{stage_with}
use Rattle.house_core.specs.Steps.{stage_after}
use Rattle.house_core.proofs.Abandoning.{set-set}
use Rattle.house_core.proofs.PlaceLemmas.{accounts_ready, books_ready, did_order, given_account, given_book, has_account_given, has_book_given, has_table, map_some, seen_by, stage_is, table_given}
use Rattle.house_core.proofs.StepLemmas.{borrowed}
use Rattle.house_core.proofs.Wholes.{get-set_same}
use Rattle.house_core.proofs.parts.Parts.place.Goals as goal

pub decide-decided-requires-clause-book : goal.decide-decided-requires-clause-book
decide-decided-requires-clause-book c =
    let parts = c.args.self.now in
    let number : ℕ = c.args.call in
    let call : RunningCall = c.index_mut.result.now in
    let own : Command = c.in-Some.command in
    let there : slice_get parts.calls.items number ≡ Some call = borrowed parts.calls.items number call (search rules) c.index_mut.ensures.value in
    let first : slice_get parts.calls.items number ≡ Some c.index.result.now = borrowed parts.calls.items number c.index.result.now (search rules) c.index.ensures in
    let second : slice_get parts.calls.items number ≡ Some c.index-2.result.now = borrowed parts.calls.items number c.index-2.result.now (search rules) c.index-2.ensures in
    let begins : begun call.stage ≡ Some own = sym c.take_command.ensures.value ∙ c.in-Some.is in
    let given = table_given parts number call there c.args.table own begins c.requires.table in
    let book : option_copied c.book_at.result ≡ given_book parts call.book =
    c.book_at.ensures ∙ ap₂ (λ (items : List BookLock) (o : Option ℕ). option_and_then (λ n. option_map (λ (l : BookLock). l.book) (slice_get items n)) o) c.as_slice.ensures.value
    (ap (λ (x : RunningCall). x.book) (same_Some c.index.result.now call (sym first ∙ there))) in
    let account : option_copied c.account_at.result ≡ given_account parts call.account =
    c.account_at.ensures ∙ ap₂ (λ (items : List AccountLock) (o : Option ℕ). option_and_then (λ n. option_map (λ (l : AccountLock). l.account) (slice_get items n)) o) c.as_slice-2.ensures.value
    (ap (λ (x : RunningCall). x.account) (same_Some c.index-2.result.now call (sym second ∙ there))) in
    sym (map_some _ c.book_at.result) ∙ ap is_some book ∙ has_book_given parts c.requires.sound number call there own given.0

pub decide-decided-requires-clause-account : goal.decide-decided-requires-clause-account
decide-decided-requires-clause-account c =
    let parts = c.args.self.now in
    let number : ℕ = c.args.call in
    let call : RunningCall = c.index_mut.result.now in
    let own : Command = c.in-Some.command in
    let there : slice_get parts.calls.items number ≡ Some call = borrowed parts.calls.items number call (search rules) c.index_mut.ensures.value in
    let first : slice_get parts.calls.items number ≡ Some c.index.result.now = borrowed parts.calls.items number c.index.result.now (search rules) c.index.ensures in
    let second : slice_get parts.calls.items number ≡ Some c.index-2.result.now = borrowed parts.calls.items number c.index-2.result.now (search rules) c.index-2.ensures in
    let begins : begun call.stage ≡ Some own = sym c.take_command.ensures.value ∙ c.in-Some.is in
    let given = table_given parts number call there c.args.table own begins c.requires.table in
    let book : option_copied c.book_at.result ≡ given_book parts call.book =
    c.book_at.ensures ∙ ap₂ (λ (items : List BookLock) (o : Option ℕ). option_and_then (λ n. option_map (λ (l : BookLock). l.book) (slice_get items n)) o) c.as_slice.ensures.value
    (ap (λ (x : RunningCall). x.book) (same_Some c.index.result.now call (sym first ∙ there))) in
    let account : option_copied c.account_at.result ≡ given_account parts call.account =
    c.account_at.ensures ∙ ap₂ (λ (items : List AccountLock) (o : Option ℕ). option_and_then (λ n. option_map (λ (l : AccountLock). l.account) (slice_get items n)) o) c.as_slice-2.ensures.value
    (ap (λ (x : RunningCall). x.account) (same_Some c.index-2.result.now call (sym second ∙ there))) in
    sym (map_some _ c.account_at.result) ∙ ap is_some account ∙ has_account_given parts c.requires.sound number call there own given.0

pub stage_with-requires : goal.stage_with-requires
stage_with-requires c =
    let parts = c.args.self.now in
    let number : ℕ = c.args.call in
    let call : RunningCall = c.index_mut.result.now in
    let own : Command = c.in-Some.command in
    let there : slice_get parts.calls.items number ≡ Some call = borrowed parts.calls.items number call (search rules) c.index_mut.ensures.value in
    let first : slice_get parts.calls.items number ≡ Some c.index.result.now = borrowed parts.calls.items number c.index.result.now (search rules) c.index.ensures in
    let second : slice_get parts.calls.items number ≡ Some c.index-2.result.now = borrowed parts.calls.items number c.index-2.result.now (search rules) c.index-2.ensures in
    let begins : begun call.stage ≡ Some own = sym c.take_command.ensures.value ∙ c.in-Some.is in
    let given = table_given parts number call there c.args.table own begins c.requires.table in
    let book : option_copied c.book_at.result ≡ given_book parts call.book =
    c.book_at.ensures ∙ ap₂ (λ (items : List BookLock) (o : Option ℕ). option_and_then (λ n. option_map (λ (l : BookLock). l.book) (slice_get items n)) o) c.as_slice.ensures.value
    (ap (λ (x : RunningCall). x.book) (same_Some c.index.result.now call (sym first ∙ there))) in
    let account : option_copied c.account_at.result ≡ given_account parts call.account =
    c.account_at.ensures ∙ ap₂ (λ (items : List AccountLock) (o : Option ℕ). option_and_then (λ n. option_map (λ (l : AccountLock). l.account) (slice_get items n)) o) c.as_slice-2.ensures.value
    (ap (λ (x : RunningCall). x.account) (same_Some c.index-2.result.now call (sym second ∙ there))) in
    let o : Outcome = c.decide-decided.result.outcome in
    let decides : Decides parts.config (given_book parts call.book) (given_account parts call.account) parts.order own o =
    subst (λ b. Decides parts.config b (given_account parts call.account) parts.order own o) book
    (subst (λ a. Decides parts.config (option_copied c.book_at.result) a parts.order own o) account c.decide-decided.ensures.outcome) in
    has_table parts c.requires.sound number call there own given.0 o decides c.args.table given.1

pub returns-clause-world : goal.returns-clause-world
returns-clause-world c =
    let parts = c.args.self.now in
    let number : ℕ = c.args.call in
    let call : RunningCall = c.index_mut.result.now in
    let own : Command = c.in-Some.command in
    let there : slice_get parts.calls.items number ≡ Some call = borrowed parts.calls.items number call (search rules) c.index_mut.ensures.value in
    let first : slice_get parts.calls.items number ≡ Some c.index.result.now = borrowed parts.calls.items number c.index.result.now (search rules) c.index.ensures in
    let second : slice_get parts.calls.items number ≡ Some c.index-2.result.now = borrowed parts.calls.items number c.index-2.result.now (search rules) c.index-2.ensures in
    let begins : begun call.stage ≡ Some own = sym c.take_command.ensures.value ∙ c.in-Some.is in
    let given = table_given parts number call there c.args.table own begins c.requires.table in
    let book : option_copied c.book_at.result ≡ given_book parts call.book =
    c.book_at.ensures ∙ ap₂ (λ (items : List BookLock) (o : Option ℕ). option_and_then (λ n. option_map (λ (l : BookLock). l.book) (slice_get items n)) o) c.as_slice.ensures.value
    (ap (λ (x : RunningCall). x.book) (same_Some c.index.result.now call (sym first ∙ there))) in
    let account : option_copied c.account_at.result ≡ given_account parts call.account =
    c.account_at.ensures ∙ ap₂ (λ (items : List AccountLock) (o : Option ℕ). option_and_then (λ n. option_map (λ (l : AccountLock). l.account) (slice_get items n)) o) c.as_slice-2.ensures.value
    (ap (λ (x : RunningCall). x.account) (same_Some c.index-2.result.now call (sym second ∙ there))) in
    let o : Outcome = c.decide-decided.result.outcome in
    let decides : Decides parts.config (given_book parts call.book) (given_account parts call.account) parts.order own o =
    subst (λ b. Decides parts.config b (given_account parts call.account) parts.order own o) book
    (subst (λ a. Decides parts.config (option_copied c.book_at.result) a parts.order own o) account c.decide-decided.ensures.outcome) in
    let s : Stage = c.stage_with.result in
    let stage_now : s ≡ stage_after parts.config (seen_by parts c.requires.sound number call there own given.0) o =
    c.stage_with.ensures
    ∙ ap₂ (λ (point period : ℕ). stage_with point period o c.args.table) c.decide-decided.ensures.point c.decide-decided.ensures.period
    ∙ stage_is parts c.requires.sound number call there own given.0 o decides c.args.table given.1 in
    let went : slice_get (slice_set parts.calls.items number c.take_command.new.self) number ≡ Some c.index_mut-2.result.now =
    borrowed (slice_set parts.calls.items number c.take_command.new.self) number c.index_mut-2.result.now (search rules) c.index_mut-2.ensures.value in
    let emptied : c.index_mut-2.result.now ≡ record call { stage = stage.Ended } =
    same_Some c.index_mut-2.result.now c.take_command.new.self (sym went ∙ get-set_same parts.calls.items number c.take_command.new.self call there)
    ∙ c.take_command.ensures.rest ∙ ap (λ (x : Option Command). if is_some x then record call { stage = stage.Ended } else call) begins in
    let now : c.go_on.new.self ≡ record call { stage = s } = c.go_on.ensures ∙ ap (λ (x : RunningCall). record x { stage = s }) emptied in
    let calls : slice_set (slice_set parts.calls.items number c.take_command.new.self) number c.go_on.new.self ≡ slice_set parts.calls.items number (record call { stage = s }) =
    set-set parts.calls.items number c.take_command.new.self c.go_on.new.self ∙ ap (slice_set parts.calls.items number) now in
    let order = c.decide-decided.ensures.order ∙ ap₂ (λ b a. order_with parts.config b a parts.order o) book account in
    (λ i. record {
      config = parts.config;
      books = shown_books parts.books.items;
      accounts = shown_accounts parts.accounts.items;
      order = c.decide-decided.new.order.entries;
      calls = calls i;
    })
    ∙ did_order parts c.requires.sound number call there own given.0 o decides c.decide-decided.new.order s order stage_now

pub returns-clause-ready : goal.returns-clause-ready
returns-clause-ready c =
    let parts = c.args.self.now in
    let number : ℕ = c.args.call in
    let call : RunningCall = c.index_mut.result.now in
    let own : Command = c.in-Some.command in
    let there : slice_get parts.calls.items number ≡ Some call = borrowed parts.calls.items number call (search rules) c.index_mut.ensures.value in
    let first : slice_get parts.calls.items number ≡ Some c.index.result.now = borrowed parts.calls.items number c.index.result.now (search rules) c.index.ensures in
    let second : slice_get parts.calls.items number ≡ Some c.index-2.result.now = borrowed parts.calls.items number c.index-2.result.now (search rules) c.index-2.ensures in
    let begins : begun call.stage ≡ Some own = sym c.take_command.ensures.value ∙ c.in-Some.is in
    let given = table_given parts number call there c.args.table own begins c.requires.table in
    let book : option_copied c.book_at.result ≡ given_book parts call.book =
    c.book_at.ensures ∙ ap₂ (λ (items : List BookLock) (o : Option ℕ). option_and_then (λ n. option_map (λ (l : BookLock). l.book) (slice_get items n)) o) c.as_slice.ensures.value
    (ap (λ (x : RunningCall). x.book) (same_Some c.index.result.now call (sym first ∙ there))) in
    let account : option_copied c.account_at.result ≡ given_account parts call.account =
    c.account_at.ensures ∙ ap₂ (λ (items : List AccountLock) (o : Option ℕ). option_and_then (λ n. option_map (λ (l : AccountLock). l.account) (slice_get items n)) o) c.as_slice-2.ensures.value
    (ap (λ (x : RunningCall). x.account) (same_Some c.index-2.result.now call (sym second ∙ there))) in
    let o : Outcome = c.decide-decided.result.outcome in
    let decides : Decides parts.config (given_book parts call.book) (given_account parts call.account) parts.order own o =
    subst (λ b. Decides parts.config b (given_account parts call.account) parts.order own o) book
    (subst (λ a. Decides parts.config (option_copied c.book_at.result) a parts.order own o) account c.decide-decided.ensures.outcome) in
    let s : Stage = c.stage_with.result in
    let stage_now : s ≡ stage_after parts.config (seen_by parts c.requires.sound number call there own given.0) o =
    c.stage_with.ensures
    ∙ ap₂ (λ (point period : ℕ). stage_with point period o c.args.table) c.decide-decided.ensures.point c.decide-decided.ensures.period
    ∙ stage_is parts c.requires.sound number call there own given.0 o decides c.args.table given.1 in
    let went : slice_get (slice_set parts.calls.items number c.take_command.new.self) number ≡ Some c.index_mut-2.result.now =
    borrowed (slice_set parts.calls.items number c.take_command.new.self) number c.index_mut-2.result.now (search rules) c.index_mut-2.ensures.value in
    let emptied : c.index_mut-2.result.now ≡ record call { stage = stage.Ended } =
    same_Some c.index_mut-2.result.now c.take_command.new.self (sym went ∙ get-set_same parts.calls.items number c.take_command.new.self call there)
    ∙ c.take_command.ensures.rest ∙ ap (λ (x : Option Command). if is_some x then record call { stage = stage.Ended } else call) begins in
    let now : c.go_on.new.self ≡ record call { stage = s } = c.go_on.ensures ∙ ap (λ (x : RunningCall). record x { stage = s }) emptied in
    let calls : slice_set (slice_set parts.calls.items number c.take_command.new.self) number c.go_on.new.self ≡ slice_set parts.calls.items number (record call { stage = s }) =
    set-set parts.calls.items number c.take_command.new.self c.go_on.new.self ∙ ap (slice_set parts.calls.items number) now in
    record {
      books = subst (λ (l : List RunningCall). AreReady held_book BookIsReady l parts.books.items) (sym calls)
          (books_ready parts c.requires.sound number call there own given.0 o decides c.requires.room s stage_now);
      accounts = subst (λ (l : List RunningCall). AreReady held_account AccountIsReady l parts.accounts.items) (sym calls)
          (accounts_ready parts c.requires.sound number call there own given.0 o decides c.requires.room s stage_now);
    }
