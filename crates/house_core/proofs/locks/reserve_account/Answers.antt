use Rattle.std.proofs.Common.{rules, ◌≡◌, ◌∙◌, sym, ap, Some, slice_get, slice_set}
use Rattle.house_core.specs.Inner.Shown.{changed_lock, changed_there, roomy_account}
use Rattle.house_core.proofs.RoomLemmas.{on_err}
use Rattle.house_core.proofs.StepLemmas.{borrowed, put_back}
use Rattle.house_core.proofs.locks.reserve_account.Goals as goal

pub returns-clause-ok : goal.returns-clause-ok
returns-clause-ok c =
    let items = c.args.locks.now.items in
    let n = c.in-Some.number in
    let old = c.index_mut.result.now in
    let found : slice_get items n ≡ Some old = borrowed items n old (search rules) c.index_mut.ensures.value in
    ap (λ b. slice_set items n (record { holder = old.holder; account = b })) c.in_ok-reserve.ensures.ok
    ∙ sym (ap (changed_lock roomy_account items) c.in-Some.is ∙ ap (changed_there roomy_account items n) found)

pub returns-in_err-reserve-clause-err : goal.returns-in_err-reserve-clause-err
returns-in_err-reserve-clause-err c =
    let items = c.args.locks.now.items in
    let n = c.in-Some.number in
    let old = c.index_mut.result.now in
    let found : slice_get items n ≡ Some old = borrowed items n old (search rules) c.index_mut.ensures.value in
    on_err c.from_residual.result (slice_set items n (record { holder = old.holder; account = c.reserve.new.self }) ≡ items)
    (ap (λ b. slice_set items n (record { holder = old.holder; account = b })) c.in_err-reserve.ensures.err ∙ put_back items n old found)
