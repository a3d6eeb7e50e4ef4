use Rattle.std.proofs.Common.{true, rules, ◌≡◌, ◌∙◌, sym, ap, ℕ, None, Some, option_map, is_some, slice_get, slice_set}
use Rattle.std.proofs.lemmas.List.{map-set}
use Rattle.std.proofs.lemmas.Option.{none-some, same_Some, slice_get-map}
use Rattle.house_core.specs.declared.running_call.RunningCall.{RunningCall}
use Rattle.house_core.specs.declared.locks.AccountLock.{AccountLock}
use Rattle.house_core.specs.Calls.{held_account, held_book, wanted_account}
use Rattle.house_core.specs.Inner.Ready.{AccountIsReady, BookIsReady, shown}
use Rattle.house_core.specs.Inner.Shown.{shown_books, shown_account}
use Rattle.house_core.proofs.HoldingLemmas.{begun_carries_nothing}
use Rattle.house_core.proofs.PutLemmas.{begun_wants_account}
use Rattle.house_core.proofs.ReadyLemmas.{ready_at, ready_call}
use Rattle.house_core.proofs.StepLemmas.{borrowed, none_there}
use Rattle.house_core.proofs.TakenLemmas.{took_account}
use Rattle.house_core.proofs.parts.Parts.take_account.Goals as goal

pub returns-clause-world : goal.returns-clause-world
returns-clause-world c =
    let parts = c.args.self.now in
    let number : ℕ = c.args.call in
    let at : ℕ = c.in-Some.number in
    let call : RunningCall = c.index_mut-2.result.now in
    let lock : AccountLock = c.index_mut.result.now in
    let there : slice_get parts.calls.items number ≡ Some call = borrowed parts.calls.items number call (search rules) c.index_mut-2.ensures.value in
    let seen : slice_get parts.calls.items number ≡ Some c.index.result.now = borrowed parts.calls.items number c.index.result.now (search rules) c.index.ensures in
    let wanted : wanted_account call ≡ Some at = ap wanted_account (same_Some call c.index.result.now (sym there ∙ seen)) ∙ sym c.wanted_account.ensures ∙ c.in-Some.is in
    let here : slice_get parts.accounts.items at ≡ Some lock = borrowed parts.accounts.items at lock (search rules) c.index_mut.ensures.value in
    let looked : slice_get parts.accounts.items at ≡ Some c.index-2.result.now = borrowed parts.accounts.items at c.index-2.result.now (search rules) c.index-2.ensures in
    let free : lock.holder ≡ None =
    none_there lock.holder (ap (λ (l : AccountLock). is_some l.holder) (same_Some lock c.index-2.result.now (sym here ∙ looked)) ∙ sym c.is_some.ensures ∙ c.if-is_some.false) in
    (λ i. record {
      config = parts.config;
      accounts = map-set shown_account parts.accounts.items at (record lock { holder = Some number }) i;
      books = shown_books parts.books.items;
      order = parts.order.entries;
      calls = slice_set parts.calls.items number (record call { has_account = true });
    })
    ∙ took_account (shown parts) number call there at (shown_account lock) wanted (slice_get-map shown_account parts.accounts.items at ∙ ap (option_map shown_account) here) free

pub returns-clause-ready : goal.returns-clause-ready
returns-clause-ready c =
    let parts = c.args.self.now in
    let number : ℕ = c.args.call in
    let at : ℕ = c.in-Some.number in
    let call : RunningCall = c.index_mut-2.result.now in
    let lock : AccountLock = c.index_mut.result.now in
    let there : slice_get parts.calls.items number ≡ Some call = borrowed parts.calls.items number call (search rules) c.index_mut-2.ensures.value in
    let seen : slice_get parts.calls.items number ≡ Some c.index.result.now = borrowed parts.calls.items number c.index.result.now (search rules) c.index.ensures in
    let wanted : wanted_account call ≡ Some at = ap wanted_account (same_Some call c.index.result.now (sym there ∙ seen)) ∙ sym c.wanted_account.ensures ∙ c.in-Some.is in
    let here : slice_get parts.accounts.items at ≡ Some lock = borrowed parts.accounts.items at lock (search rules) c.index_mut.ensures.value in
    let nothing = begun_carries_nothing call.stage (begun_wants_account call at wanted) in
    let now : RunningCall = record call { has_account = true } in
    let ready = c.requires.sound.ready in
    record {
      accounts = ready_call held_account AccountIsReady parts.calls.items (slice_set parts.accounts.items at (record lock { holder = Some number }))
          (ready_at held_account AccountIsReady parts.calls.items parts.accounts.items ready.accounts at lock (record lock { holder = Some number }) here (λ other is. is))
          number call now there
          (λ j one holds its carried event carries has. absurd (none-some carried (sym nothing ∙ carries)));
      books = ready_call held_book BookIsReady parts.calls.items parts.books.items ready.books number call now there
          (λ j one holds its carried event carries has. absurd (none-some carried (sym nothing ∙ carries)));
    }
