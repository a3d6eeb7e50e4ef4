use Rattle.std.proofs.Common.{rules, ◌≡◌, ◌∙◌, sym, ap, subst, if◌then◌else◌, ℕ, Option, None, Some, is_some, slice_get}
use Rattle.std.specs.Vec.{with_item}
use Rattle.std.proofs.lemmas.Option.{none-some, same_Some}
use Rattle.house_core.specs.declared.running_call.RunningCall.{RunningCall}
use Rattle.house_core.specs.declared.running_call.ReplyDue.{ReplyDue}
use Rattle.house_core.specs.declared.finished.Done.TheVariants as done
use Rattle.house_core.specs.declared.stage.Stage.TheVariants as stage
use Rattle.house_core.specs.Calls.{held_account, held_book, reply_due}
use Rattle.house_core.specs.Inner.Ready.{AccountIsReady, ArePartsReady, BookIsReady, shown}
use Rattle.house_core.proofs.EndLemmas.{did_end, not_ended, tells_end, tells_nothing}
use Rattle.house_core.proofs.ReadyLemmas.{ready_call}
use Rattle.house_core.proofs.StepLemmas.{borrowed, same_call, with_call}
use Rattle.house_core.proofs.parts.Parts.end.Goals as goal

abbrev after_reply : RunningCall → Option ReplyDue → RunningCall
after_reply call due = if is_some due then record call { stage = stage.Ended } else call

pub returns-in_err-due-clause-world : goal.returns-in_err-due-clause-world
returns-in_err-due-clause-world c =
    let parts = c.args.self.now in
    let number : ℕ = c.args.call in
    let call : RunningCall = c.index_mut.result.now in
    let there : slice_get parts.calls.items number ≡ Some call = borrowed parts.calls.items number call (search rules) c.index_mut.ensures.value in
    let none : reply_due call ≡ None = sym c.reply.ensures.value ∙ c.in_err-due.was in
    ap (with_call (shown parts) number) (c.reply.ensures.rest ∙ ap (after_reply call) none)
    ∙ sym (same_call (shown parts) number call there)
    ∙ not_ended (shown parts) number call there none

pub returns-in_err-due-clause-finished : goal.returns-in_err-due-clause-finished
returns-in_err-due-clause-finished c =
    let parts = c.args.self.now in
    let number : ℕ = c.args.call in
    let call : RunningCall = c.index_mut.result.now in
    let there : slice_get parts.calls.items number ≡ Some call = borrowed parts.calls.items number call (search rules) c.index_mut.ensures.value in
    let none : reply_due call ≡ None = sym c.reply.ensures.value ∙ c.in_err-due.was in
    c.from_residual.ensures ∙ tells_nothing (shown parts) number call there none

pub returns-in_err-due-clause-ready : goal.returns-in_err-due-clause-ready
returns-in_err-due-clause-ready c =
    let parts = c.args.self.now in
    let number : ℕ = c.args.call in
    let call : RunningCall = c.index_mut.result.now in
    let there : slice_get parts.calls.items number ≡ Some call = borrowed parts.calls.items number call (search rules) c.index_mut.ensures.value in
    let none : reply_due call ≡ None = sym c.reply.ensures.value ∙ c.in_err-due.was in
    let ready = c.requires.sound.ready in
    subst (λ (x : RunningCall). ArePartsReady (record { config = parts.config; books = parts.books; accounts = parts.accounts; order = parts.order; calls = with_item parts.calls number x })) (sym (c.reply.ensures.rest ∙ ap (after_reply call) none))
    (record {
      books = ready_call held_book BookIsReady parts.calls.items parts.books.items ready.books number call call there
          (λ at lock holds here. ready.books number at call lock there holds here);
      accounts = ready_call held_account AccountIsReady parts.calls.items parts.accounts.items ready.accounts number call call there
          (λ at lock holds here. ready.accounts number at call lock there holds here);
    })

pub returns-clause-world : goal.returns-clause-world
returns-clause-world c =
    let parts = c.args.self.now in
    let number : ℕ = c.args.call in
    let call : RunningCall = c.index_mut.result.now in
    let there : slice_get parts.calls.items number ≡ Some call = borrowed parts.calls.items number call (search rules) c.index_mut.ensures.value in
    let due : reply_due call ≡ Some c.in_ok-due.due = sym c.reply.ensures.value ∙ c.in_ok-due.was in
    ap (with_call (shown parts) number) (c.reply.ensures.rest ∙ ap (after_reply call) due)
    ∙ did_end (shown parts) number call there c.in_ok-due.due due

pub returns-clause-finished : goal.returns-clause-finished
returns-clause-finished c =
    let parts = c.args.self.now in
    let number : ℕ = c.args.call in
    let call : RunningCall = c.index_mut.result.now in
    let there : slice_get parts.calls.items number ≡ Some call = borrowed parts.calls.items number call (search rules) c.index_mut.ensures.value in
    let seen : slice_get parts.calls.items number ≡ Some c.index.result.now = borrowed parts.calls.items number c.index.result.now (search rules) c.index.ensures in
    let same : c.index.result.now ≡ call = same_Some c.index.result.now call (sym seen ∙ there) in
    let due : reply_due call ≡ Some c.in_ok-due.due = sym c.reply.ensures.value ∙ c.in_ok-due.was in
    (λ i. Some (record { call = number; begin = (same i).begin; end = c.point-end.ensures i; done = done.Answered c.in_ok-due.due.point (c.stamped.ensures i) }))
    ∙ tells_end (shown parts) number call there c.in_ok-due.due due

pub returns-clause-ready : goal.returns-clause-ready
returns-clause-ready c =
    let parts = c.args.self.now in
    let number : ℕ = c.args.call in
    let call : RunningCall = c.index_mut.result.now in
    let there : slice_get parts.calls.items number ≡ Some call = borrowed parts.calls.items number call (search rules) c.index_mut.ensures.value in
    let due : reply_due call ≡ Some c.in_ok-due.due = sym c.reply.ensures.value ∙ c.in_ok-due.was in
    let ready = c.requires.sound.ready in
    subst (λ (x : RunningCall). ArePartsReady (record { config = parts.config; books = parts.books; accounts = parts.accounts; order = parts.order; calls = with_item parts.calls number x })) (sym (c.reply.ensures.rest ∙ ap (after_reply call) due))
    (record {
      books = ready_call held_book BookIsReady parts.calls.items parts.books.items ready.books number call (record call { stage = stage.Ended }) there
          (λ at lock holds here carried event carries has. absurd (none-some carried carries));
      accounts = ready_call held_account AccountIsReady parts.calls.items parts.accounts.items ready.accounts number call (record call { stage = stage.Ended }) there
          (λ at lock holds here carried event carries has. absurd (none-some carried carries));
    })
