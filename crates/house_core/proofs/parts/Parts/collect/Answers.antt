use Rattle.std.proofs.Common.{rules, ◌≡◌, ◌∙◌, sym, ap, subst, ℕ, List, Some, slice_get}
use Rattle.std.specs.Vec.{with_item}
use Rattle.house_core.specs.declared.running_call.RunningCall.{RunningCall}
use Rattle.house_core.specs.declared.locks.BookLock.{BookLock}
use Rattle.house_core.specs.Calls.{held_account, held_book}
use Rattle.house_core.specs.Inner.Moves.{collected_call}
use Rattle.house_core.specs.Inner.Ready.{AccountIsReady, ArePartsReady, BookIsReady, shown}
use Rattle.house_core.specs.Inner.Shown.{shown_books}
use Rattle.house_core.proofs.CollectedLemmas.{can_collect, collects_alike, did_collect}
use Rattle.house_core.proofs.ReadyLemmas.{ready_call}
use Rattle.house_core.proofs.StepLemmas.{borrowed, with_call}
use Rattle.house_core.proofs.parts.Parts.collect.Goals as goal

pub collect_book-requires : goal.collect_book-requires
collect_book-requires c =
    let parts = c.args.self.now in
    let call : RunningCall = c.index_mut.result.now in
    let there : slice_get parts.calls.items c.args.call ≡ Some call = borrowed parts.calls.items c.args.call call (search rules) c.index_mut.ensures.value in
    let sound = c.requires.sound in
    record {
      fits = λ operator lock named here free.
          can_collect c.dues_are_of_own_books.ensures c.sums_are_no_larger.ensures c.legal_lists_can_be_netted.ensures parts.config sound.config sound.commands sound.events (shown parts) sound.holds
          c.args.call call there c.args.operator operator lock named
          (ap (λ (l : List BookLock). slice_get (shown_books l) c.args.operator) (sym c.as_slice.ensures.value) ∙ here) free;
    }

pub returns-clause-world : goal.returns-clause-world
returns-clause-world c =
    let parts = c.args.self.now in
    let call : RunningCall = c.index_mut.result.now in
    let there : slice_get parts.calls.items c.args.call ≡ Some call = borrowed parts.calls.items c.args.call call (search rules) c.index_mut.ensures.value in
    ap (with_call (shown parts) c.args.call)
    (c.collect_book.ensures
    ∙ ap (λ (l : List BookLock). collected_call parts.config c.args.operator (slice_get parts.config.operators c.args.operator) (slice_get (shown_books l) c.args.operator) call) c.as_slice.ensures.value)
    ∙ did_collect (shown parts) c.args.call call there c.args.operator

pub returns-clause-ready : goal.returns-clause-ready
returns-clause-ready c =
    let parts = c.args.self.now in
    let number : ℕ = c.args.call in
    let call : RunningCall = c.index_mut.result.now in
    let there : slice_get parts.calls.items number ≡ Some call = borrowed parts.calls.items number call (search rules) c.index_mut.ensures.value in
    let now : RunningCall = collected_call parts.config c.args.operator (slice_get parts.config.operators c.args.operator) (slice_get (shown_books c.as_slice.result.now) c.args.operator) call in
    let alike = collects_alike parts.config c.args.operator (slice_get parts.config.operators c.args.operator) (slice_get (shown_books c.as_slice.result.now) c.args.operator) call in
    let ready = c.requires.sound.ready in
    subst (λ (x : RunningCall). ArePartsReady (record { config = parts.config; books = parts.books; accounts = parts.accounts; order = parts.order; calls = with_item parts.calls number x })) (sym c.collect_book.ensures)
    (record {
      books = ready_call held_book BookIsReady parts.calls.items parts.books.items ready.books number call now there
          (λ at lock holds here carried event carries has. ready.books number at call lock there (sym alike.book ∙ holds) here carried event (sym alike.carries ∙ carries) has);
      accounts = ready_call held_account AccountIsReady parts.calls.items parts.accounts.items ready.accounts number call now there
          (λ at lock holds here carried event carries has. ready.accounts number at call lock there (sym alike.account ∙ holds) here carried event (sym alike.carries ∙ carries) has);
    })
