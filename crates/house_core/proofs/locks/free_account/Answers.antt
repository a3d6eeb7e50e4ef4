use Rattle.std.proofs.Common.{rules, ◌≡◌, ◌∙◌, sym, ap, Some, slice_get}
use Rattle.house_core.specs.Inner.Shown.{changed_lock, changed_there, freed_account}
use Rattle.house_core.proofs.StepLemmas.{borrowed}
use Rattle.house_core.proofs.locks.free_account.Goals as goal

pub returns : goal.returns
returns c =
    let items = c.args.locks.now.items in
    let n = c.in-Some.number in
    let old = c.index_mut.result.now in
    let found : slice_get items n ≡ Some old = borrowed items n old (search rules) c.index_mut.ensures.value in
    sym (ap (changed_lock freed_account items) c.in-Some.is ∙ ap (changed_there freed_account items n) found)
