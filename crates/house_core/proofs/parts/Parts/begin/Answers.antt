use Rattle.std.proofs.Common.{rules, ◌≡◌, ◌∙◌, refl, sym, ap, subst, ℕ, Some, slice_get}
use Rattle.std.specs.Vec.{with_item}
use Rattle.house_core.specs.declared.running_call.RunningCall.{RunningCall}
use Rattle.house_core.specs.Calls.{held_account, held_book, waiting}
use Rattle.house_core.specs.Inner.Moves.{begun_call}
use Rattle.house_core.specs.Inner.Ready.{AccountIsReady, ArePartsReady, BookIsReady, shown}
use Rattle.house_core.proofs.BegunLemmas.{begun_world}
use Rattle.house_core.proofs.HoldingLemmas.{begins_carrying, begins_with}
use Rattle.house_core.proofs.ReadyLemmas.{ready_call}
use Rattle.house_core.proofs.StepLemmas.{borrowed, with_call}
use Rattle.house_core.proofs.parts.Parts.begin.Goals as goal

pub returns-clause-world : goal.returns-clause-world
returns-clause-world c =
    let parts = c.args.self.now in
    let number : ℕ = c.args.call in
    let call : RunningCall = c.index_mut.result.now in
    let there : slice_get parts.calls.items number ≡ Some call = borrowed parts.calls.items number call (search rules) c.index_mut.ensures.value in
    ap (with_call (shown parts) number) (c.begin.ensures ∙ ap (λ n. begun_call n call) c.point-point.ensures)
    ∙ begun_world (shown parts) number call there

pub returns-clause-ready : goal.returns-clause-ready
returns-clause-ready c =
    let parts = c.args.self.now in
    let number : ℕ = c.args.call in
    let call : RunningCall = c.index_mut.result.now in
    let there : slice_get parts.calls.items number ≡ Some call = borrowed parts.calls.items number call (search rules) c.index_mut.ensures.value in
    let ready = c.requires.sound.ready in
    let now : RunningCall = begun_call c.point-point.result call in
    let keeps = begins_with c.point-point.result call (waiting call.stage) in
    subst (λ (x : RunningCall). ArePartsReady (record { config = parts.config; books = parts.books; accounts = parts.accounts; order = parts.order; calls = with_item parts.calls number x })) (sym c.begin.ensures)
    (record {
      books = ready_call held_book BookIsReady parts.calls.items parts.books.items ready.books number call now there
          (λ at lock holds here carried event carries has. ready.books number at call lock there (sym keeps.0 ∙ holds) here carried event (begins_carrying c.point-point.result call call.stage carried refl carries) has);
      accounts = ready_call held_account AccountIsReady parts.calls.items parts.accounts.items ready.accounts number call now there
          (λ at lock holds here carried event carries has. ready.accounts number at call lock there (sym keeps.1 ∙ holds) here carried event (begins_carrying c.point-point.result call call.stage carried refl carries) has);
    })
