use Rattle.std.proofs.Common.{rules, ◌≡◌, ◌∙◌, true, refl, sym, ap, subst, ℕ, List, Some, is_some, slice_get, slice_set}
use Rattle.std.proofs.lemmas.Option.{none-some, same_Some}
use Rattle.house_core.specs.declared.running_call.RunningCall.{RunningCall}
use Rattle.house_core.specs.declared.finished.Done.TheVariants as done
use Rattle.house_core.specs.declared.locks.AccountLock.{AccountLock}
use Rattle.house_core.specs.declared.locks.BookLock.{BookLock}
use Rattle.house_core.specs.Calls.{begun, held_account, held_book}
use Rattle.house_core.specs.Inner.Ready.{AccountIsReady, AreReady, BookIsReady, shown}
use Rattle.house_core.specs.Inner.Shown.{changed_lock, freed_account, freed_book, shown_account, shown_accounts, shown_book, shown_books}
use Rattle.house_core.proofs.EndLemmas.{did_abandon, given_up, tells_abandoned}
use Rattle.house_core.proofs.PutLemmas.{freed_is}
use Rattle.house_core.proofs.ReadyLemmas.{ready_call, ready_changed}
use Rattle.house_core.proofs.StepLemmas.{borrowed}
use Rattle.house_core.proofs.parts.Parts.abandon.Goals as goal

pub returns-clause-world : goal.returns-clause-world
returns-clause-world c =
    let parts = c.args.self.now in
    let number : ℕ = c.args.call in
    let call : RunningCall = c.index_mut.result.now in
    let there : slice_get parts.calls.items number ≡ Some call = borrowed parts.calls.items number call (search rules) c.index_mut.ensures.value in
    let first : slice_get parts.calls.items number ≡ Some c.index.result.now = borrowed parts.calls.items number c.index.result.now (search rules) c.index.ensures in
    let third : slice_get parts.calls.items number ≡ Some c.index-3.result.now = borrowed parts.calls.items number c.index-3.result.now (search rules) c.index-3.ensures in
    let fourth : slice_get parts.calls.items number ≡ Some c.index-4.result.now = borrowed parts.calls.items number c.index-4.result.now (search rules) c.index-4.ensures in
    let begins : is_some (begun call.stage) ≡ true =
    ap (λ (x : RunningCall). is_some (begun x.stage)) (same_Some call c.index.result.now (sym there ∙ first)) ∙ sym c.has_begun.ensures ∙ c.if-not-has_begun.false in
    let in_book : c.held_book.result ≡ held_book call = c.held_book.ensures ∙ ap held_book (same_Some c.index-3.result.now call (sym third ∙ there)) in
    let in_account : c.held_account.result ≡ held_account call = c.held_account.ensures ∙ ap held_account (same_Some c.index-4.result.now call (sym fourth ∙ there)) in
    let books = c.free_book.ensures ∙ ap (changed_lock freed_book parts.books.items) in_book in
    let accounts = c.free_account.ensures ∙ ap (changed_lock freed_account parts.accounts.items) in_account in
    (λ i. record {
      config = parts.config;
      books = shown_books (books i);
      accounts = shown_accounts (accounts i);
      order = parts.order.entries;
      calls = slice_set parts.calls.items number (c.give_up.ensures i);
    })
    ∙ (λ i. record {
      config = parts.config;
      books = freed_is shown_book freed_book (λ l. refl) parts.books.items call.has_book call.book i;
      accounts = freed_is shown_account freed_account (λ l. refl) parts.accounts.items call.has_account call.account i;
      order = parts.order.entries;
      calls = slice_set parts.calls.items number (given_up (shown parts) number call there);
    })
    ∙ did_abandon (shown parts) number call there begins

pub returns-clause-finished : goal.returns-clause-finished
returns-clause-finished c =
    let parts = c.args.self.now in
    let number : ℕ = c.args.call in
    let call : RunningCall = c.index_mut.result.now in
    let there : slice_get parts.calls.items number ≡ Some call = borrowed parts.calls.items number call (search rules) c.index_mut.ensures.value in
    let first : slice_get parts.calls.items number ≡ Some c.index.result.now = borrowed parts.calls.items number c.index.result.now (search rules) c.index.ensures in
    let second : slice_get parts.calls.items number ≡ Some c.index-2.result.now = borrowed parts.calls.items number c.index-2.result.now (search rules) c.index-2.ensures in
    let begins : is_some (begun call.stage) ≡ true =
    ap (λ (x : RunningCall). is_some (begun x.stage)) (same_Some call c.index.result.now (sym there ∙ first)) ∙ sym c.has_begun.ensures ∙ c.if-not-has_begun.false in
    let same : c.index-2.result.now ≡ call = same_Some c.index-2.result.now call (sym second ∙ there) in
    (λ i. Some (record { call = number; begin = (same i).begin; end = c.point-end.ensures i; done = done.Abandoned }))
    ∙ tells_abandoned (shown parts) number call there begins

pub returns-clause-ready : goal.returns-clause-ready
returns-clause-ready c =
    let parts = c.args.self.now in
    let number : ℕ = c.args.call in
    let call : RunningCall = c.index_mut.result.now in
    let there : slice_get parts.calls.items number ≡ Some call = borrowed parts.calls.items number call (search rules) c.index_mut.ensures.value in
    let now : RunningCall = given_up (shown parts) number call there in
    let ready = c.requires.sound.ready in
    record {
      books =
          subst (λ (x : RunningCall). AreReady held_book BookIsReady (slice_set parts.calls.items number x) c.free_book.new.locks.items) (sym c.give_up.ensures)
          (subst (λ (l : List BookLock). AreReady held_book BookIsReady (slice_set parts.calls.items number now) l) (sym c.free_book.ensures)
          (ready_call held_book BookIsReady parts.calls.items (changed_lock freed_book parts.books.items c.held_book.result)
          (ready_changed held_book BookIsReady parts.calls.items parts.books.items ready.books freed_book (λ other lock is. is) c.held_book.result) number call now there
          (λ at lock holds here carried event carries has. absurd (none-some carried carries))));
      accounts =
          subst (λ (x : RunningCall). AreReady held_account AccountIsReady (slice_set parts.calls.items number x) c.free_account.new.locks.items) (sym c.give_up.ensures)
          (subst (λ (l : List AccountLock). AreReady held_account AccountIsReady (slice_set parts.calls.items number now) l) (sym c.free_account.ensures)
          (ready_call held_account AccountIsReady parts.calls.items (changed_lock freed_account parts.accounts.items c.held_account.result)
          (ready_changed held_account AccountIsReady parts.calls.items parts.accounts.items ready.accounts freed_account (λ other lock is. is) c.held_account.result) number call now there
          (λ at lock holds here carried event carries has. absurd (none-some carried carries))));
    }
