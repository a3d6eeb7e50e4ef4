use Rattle.std.proofs.Common.{false, rules, ◌≡◌, ◌++◌, ◌∙◌, refl, sym, ap, ℕ, None, Some, if◌then◌else◌, is_some, option_map, slice_get, slice_set}
use Rattle.std.proofs.lemmas.List.{map-set}
use Rattle.std.proofs.lemmas.Option.{same_Some, slice_get-map}
use Rattle.house_core.specs.declared.running_call.RunningCall.{RunningCall}
use Rattle.house_core.specs.declared.locks.AccountLock.{AccountLock}
use Rattle.house_core.specs.declared.stage.Carried.{Carried}
use Rattle.house_core.specs.Calls.{for_account, held_account, held_book}
use Rattle.house_core.specs.Inner.Ready.{AccountIsReady, BookIsReady, shown}
use Rattle.house_core.specs.Inner.Shown.{shown_accounts, shown_books, shown_account}
use Rattle.house_core.proofs.HoldingLemmas.{holds_account}
use Rattle.house_core.proofs.PutLemmas.{did_put_account, due_account, puts_account_at}
use Rattle.house_core.proofs.ReadyLemmas.{ready_call, ready_put}
use Rattle.house_core.proofs.StepLemmas.{borrowed}
use Rattle.house_core.proofs.parts.Parts.put_account.Goals as goal

pub put_account-requires-clause-ready : goal.put_account-requires-clause-ready
put_account-requires-clause-ready c =
    let parts = c.args.self.now in
    let number : ℕ = c.args.call in
    let at : ℕ = c.in-Some.number in
    let call : RunningCall = c.index-2.result.now in
    let there : slice_get parts.calls.items number ≡ Some call = borrowed parts.calls.items number call (search rules) c.index-2.ensures in
    let seen : slice_get parts.calls.items number ≡ Some c.index.result.now = borrowed parts.calls.items number c.index.result.now (search rules) c.index.ensures in
    let here : slice_get parts.accounts.items at ≡ Some c.index_mut.result.now = borrowed parts.accounts.items at c.index_mut.result.now (search rules) c.index_mut.ensures.value in
    let puts = puts_account_at call at (ap (λ (x : RunningCall). if is_some (for_account x) then x.account else None) (same_Some call c.index.result.now (sym there ∙ seen)) ∙ sym c.putting_account.ensures ∙ c.in-Some.is) in
    c.requires.sound.ready.accounts number at call c.index_mut.result.now there puts.2 here

pub returns-clause-world : goal.returns-clause-world
returns-clause-world c =
    let parts = c.args.self.now in
    let number : ℕ = c.args.call in
    let at : ℕ = c.in-Some.number in
    let call : RunningCall = c.index_mut-2.result.now in
    let lock : AccountLock = c.index_mut.result.now in
    let there : slice_get parts.calls.items number ≡ Some call = borrowed parts.calls.items number call (search rules) c.index_mut-2.ensures.value in
    let seen : slice_get parts.calls.items number ≡ Some c.index.result.now = borrowed parts.calls.items number c.index.result.now (search rules) c.index.ensures in
    let read : slice_get parts.calls.items number ≡ Some c.index-2.result.now = borrowed parts.calls.items number c.index-2.result.now (search rules) c.index-2.ensures in
    let here : slice_get parts.accounts.items at ≡ Some lock = borrowed parts.accounts.items at lock (search rules) c.index_mut.ensures.value in
    let puts = puts_account_at call at (ap (λ (x : RunningCall). if is_some (for_account x) then x.account else None) (same_Some call c.index.result.now (sym there ∙ seen)) ∙ sym c.putting_account.ensures ∙ c.in-Some.is) in
    let carried : Carried = puts.0.0 in
    let entries = c.put_account.ensures.entries ∙ ap (λ l. lock.account.entries ++ l) (due_account c.index-2.result.now carried (ap for_account (same_Some c.index-2.result.now call (sym read ∙ there)) ∙ puts.0.1)) in
    (λ i. record {
      config = parts.config;
      books = shown_books parts.books.items;
      accounts = map-set shown_account parts.accounts.items at c.put_account.new.lock i;
      order = parts.order.entries;
      calls = slice_set parts.calls.items number (record call { has_account = false });
    })
    ∙ (λ i. record {
      config = parts.config;
      books = shown_books parts.books.items;
      accounts = slice_set (shown_accounts parts.accounts.items) at (record { holder = c.put_account.ensures.holder i; entries = entries i });
      order = parts.order.entries;
      calls = slice_set parts.calls.items number (record call { has_account = false });
    })
    ∙ did_put_account (shown parts) number call there carried at (shown_account lock) puts.0.1 puts.1 (slice_get-map shown_account parts.accounts.items at ∙ ap (option_map shown_account) here)

pub returns-clause-ready : goal.returns-clause-ready
returns-clause-ready c =
    let parts = c.args.self.now in
    let number : ℕ = c.args.call in
    let at : ℕ = c.in-Some.number in
    let call : RunningCall = c.index_mut-2.result.now in
    let there : slice_get parts.calls.items number ≡ Some call = borrowed parts.calls.items number call (search rules) c.index_mut-2.ensures.value in
    let seen : slice_get parts.calls.items number ≡ Some c.index.result.now = borrowed parts.calls.items number c.index.result.now (search rules) c.index.ensures in
    let puts = puts_account_at call at (ap (λ (x : RunningCall). if is_some (for_account x) then x.account else None) (same_Some call c.index.result.now (sym there ∙ seen)) ∙ sym c.putting_account.ensures ∙ c.in-Some.is) in
    let now : RunningCall = record call { has_account = false } in
    let ready = c.requires.sound.ready in
    record {
      books = ready_call held_book BookIsReady parts.calls.items parts.books.items ready.books number call now there
          (λ j one holds its. ready.books number j call one there holds its);
      accounts = ready_put held_account AccountIsReady parts.calls.items parts.accounts.items ready.accounts number call now there
          (λ (l : AccountLock). l.holder) (holds_account parts c.requires.sound) at c.put_account.new.lock puts.2 refl;
    }
