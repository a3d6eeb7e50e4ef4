use Rattle.std.proofs.Common.{sym, ◌∙◌}
use Rattle.plain_house.specs.declared.entry.AccountEntry.TheVariants as account
use Rattle.provider_account.specs.Inner.Holds.{open_used}
use Rattle.provider_account.proofs.HoldsKnown.{covered_ended, covered_hold}
use Rattle.provider_account.proofs.holds.Holds.total_with.Goals as goal

pub overflow_sub-result : goal.overflow_sub-result
overflow_sub-result c =
    let known = c.args.self.now in
    let charge = c.args.charge.now in
    let within = sym c.covers.ensures ∙ c.if-covers.true in
    rw (c.get.ensures.value, c.total-total.ensures)
    (covered_hold known (open_used known charge) c.in-Some.hold (covered_ended known c.requires (account.Charge charge)) (sym c.used.ensures ∙ c.in-Some.is) c.args.scope.now within)
