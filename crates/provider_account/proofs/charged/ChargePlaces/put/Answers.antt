use Rattle.std.proofs.Common.{Some, refl, sym, ◌∙◌}
use Rattle.indexmap.specs.IndexMap.{get}
use Rattle.provider_account.specs.Inner.DebtKeys.{cdr_of, same_cdr}
use Rattle.provider_account.proofs.ChargedLemmas.{first_added, put_back}
use Rattle.provider_account.proofs.charged.ChargePlaces.put.Goals as goal

pub put_other-requires-clause-knows : goal.put_other-requires-clause-knows
put_other-requires-clause-knows c =
    let was = rw (c.unwrap-first.ensures, c.of.ensures) at c.insert.ensures.old in
    let taken = rw (c.unwrap-first.ensures, c.of.ensures) at c.insert.ensures.updates in
    let back = rw (c.unwrap.ensures, c.of-in-Some.ensures) at c.insert-in-Some.ensures.updates in
    put_back c.args.self.now _ c.args.entries.now (cdr_of c.args.charge.now) c.in-Some.first _ (get same_cdr c.insert.new.self)
    (sym c.in-Some.is ∙ was) taken.0 back.0 refl c.requires.knows

pub returns-in_default : goal.returns-in_default
returns-in_default c =
    let was = rw (c.unwrap-first.ensures, c.of.ensures) at c.insert.ensures.old in
    let taken = rw (c.unwrap-first.ensures, c.of.ensures) at c.insert.ensures.updates in
    first_added c.args.self.now _ c.args.entries.now c.args.charge.now c.requires.knows (sym was ∙ c.in_default.is) taken refl
