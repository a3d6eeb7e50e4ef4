use Rattle.std.proofs.Common.{rules, ◌≡◌, ◌++◌, ◌∙◌, refl, sym, ap, subst, ℕ, None, Some, if◌then◌else◌, is_some, option_map, slice_get, slice_set}
use Rattle.std.proofs.lemmas.List.{map-set}
use Rattle.std.proofs.lemmas.Option.{none-some, same_Some, slice_get-map}
use Rattle.std.specs.Vec.{with_item}
use Rattle.house_core.specs.declared.running_call.RunningCall.{RunningCall}
use Rattle.house_core.specs.declared.locks.BookLock.{BookLock}
use Rattle.house_core.specs.declared.stage.Carried.{Carried}
use Rattle.house_core.specs.Calls.{for_book, held_account, held_book}
use Rattle.house_core.specs.Inner.Moves.{put_in_its_book}
use Rattle.house_core.specs.Inner.Ready.{AccountIsReady, ArePartsReady, BookIsReady, shown}
use Rattle.house_core.specs.Inner.Shown.{shown_accounts, shown_books, shown_book}
use Rattle.house_core.proofs.HoldingLemmas.{holds_book}
use Rattle.house_core.proofs.PutLemmas.{carries_none, did_put_book, due_book, puts_book_at}
use Rattle.house_core.proofs.ReadyLemmas.{ready_call, ready_put}
use Rattle.house_core.proofs.StepLemmas.{borrowed}
use Rattle.house_core.proofs.parts.Parts.put_book.Goals as goal

pub put_book-requires-clause-ready : goal.put_book-requires-clause-ready
put_book-requires-clause-ready c =
    let parts = c.args.self.now in
    let number : ℕ = c.args.call in
    let at : ℕ = c.in-Some.number in
    let call : RunningCall = c.index_mut.result.now in
    let there : slice_get parts.calls.items number ≡ Some call = borrowed parts.calls.items number call (search rules) c.index_mut.ensures.value in
    let seen : slice_get parts.calls.items number ≡ Some c.index.result.now = borrowed parts.calls.items number c.index.result.now (search rules) c.index.ensures in
    let here : slice_get parts.books.items at ≡ Some c.index_mut-2.result.now = borrowed parts.books.items at c.index_mut-2.result.now (search rules) c.index_mut-2.ensures.value in
    let puts = puts_book_at call at (ap (λ (x : RunningCall). if is_some (for_book x) then x.book else None) (same_Some call c.index.result.now (sym there ∙ seen)) ∙ sym c.putting_book.ensures ∙ c.in-Some.is) in
    c.requires.sound.ready.books number at call c.index_mut-2.result.now there puts.2 here

pub returns-clause-world : goal.returns-clause-world
returns-clause-world c =
    let parts = c.args.self.now in
    let number : ℕ = c.args.call in
    let at : ℕ = c.in-Some.number in
    let call : RunningCall = c.index_mut.result.now in
    let lock : BookLock = c.index_mut-2.result.now in
    let there : slice_get parts.calls.items number ≡ Some call = borrowed parts.calls.items number call (search rules) c.index_mut.ensures.value in
    let seen : slice_get parts.calls.items number ≡ Some c.index.result.now = borrowed parts.calls.items number c.index.result.now (search rules) c.index.ensures in
    let here : slice_get parts.books.items at ≡ Some lock = borrowed parts.books.items at lock (search rules) c.index_mut-2.ensures.value in
    let puts = puts_book_at call at (ap (λ (x : RunningCall). if is_some (for_book x) then x.book else None) (same_Some call c.index.result.now (sym there ∙ seen)) ∙ sym c.putting_book.ensures ∙ c.in-Some.is) in
    let carried : Carried = puts.0.0 in
    let entries = c.put_book.ensures.entries ∙ ap (λ l. lock.book.entries ++ l) (due_book call carried puts.0.1) in
    (λ i. record {
      config = parts.config;
      books = map-set shown_book parts.books.items at c.put_book.new.lock i;
      accounts = shown_accounts parts.accounts.items;
      order = parts.order.entries;
      calls = slice_set parts.calls.items number (c.put_book.ensures.call i);
    })
    ∙ (λ i. record {
      config = parts.config;
      books = slice_set (shown_books parts.books.items) at (record { holder = c.put_book.ensures.holder i; entries = entries i });
      accounts = shown_accounts parts.accounts.items;
      order = parts.order.entries;
      calls = slice_set parts.calls.items number (put_in_its_book call);
    })
    ∙ did_put_book (shown parts) number call there carried at (shown_book lock) puts.0.1 puts.1 (slice_get-map shown_book parts.books.items at ∙ ap (option_map shown_book) here)

pub returns-clause-ready : goal.returns-clause-ready
returns-clause-ready c =
    let parts = c.args.self.now in
    let number : ℕ = c.args.call in
    let at : ℕ = c.in-Some.number in
    let call : RunningCall = c.index_mut.result.now in
    let there : slice_get parts.calls.items number ≡ Some call = borrowed parts.calls.items number call (search rules) c.index_mut.ensures.value in
    let seen : slice_get parts.calls.items number ≡ Some c.index.result.now = borrowed parts.calls.items number c.index.result.now (search rules) c.index.ensures in
    let puts = puts_book_at call at (ap (λ (x : RunningCall). if is_some (for_book x) then x.book else None) (same_Some call c.index.result.now (sym there ∙ seen)) ∙ sym c.putting_book.ensures ∙ c.in-Some.is) in
    let ready = c.requires.sound.ready in
    subst (λ (x : RunningCall). ArePartsReady (record { config = parts.config; books = with_item parts.books at c.put_book.new.lock; accounts = parts.accounts; order = parts.order; calls = with_item parts.calls number x })) (sym c.put_book.ensures.call)
    (record {
      books = ready_put held_book BookIsReady parts.calls.items parts.books.items ready.books number call (put_in_its_book call) there
          (λ (l : BookLock). l.holder) (holds_book parts c.requires.sound) at c.put_book.new.lock puts.2 refl;
      accounts = ready_call held_account AccountIsReady parts.calls.items parts.accounts.items ready.accounts number call (put_in_its_book call) there
          (λ j one holds its carried event carries has. absurd (none-some event (sym (carries_none call.stage carried carries) ∙ has)));
    })
