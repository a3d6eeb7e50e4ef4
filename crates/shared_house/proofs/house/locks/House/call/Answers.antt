use Rattle.std.proofs.Common.{◌∙◌, ap, sym, subst}
use Rattle.cdr_checks.specs.Admission.{IsAdmitted}
use Rattle.cdr_checks.specs.declared.request.Command.{Command}
use Rattle.shared_house.specs.declared.call.Call.{Call}
use Rattle.shared_house.proofs.CallLemmas.{pass_kept}
use Rattle.shared_house.proofs.house.locks.House.call.Goals as goal

pub invariant_of-pass-2 : goal.invariant_of-pass-2
invariant_of-pass-2 g c =
    let config = g.N.BookEntries.Configured.config in
    let told = ap (λ (m : Call). m.command) c.filled.ensures ∙ c.in-Ok.ensures.command in
    pass_kept config c.pass.inside.calls.items c.room_for_call.new.calls.items c.push_reserved.new.self.items c.filled.result c.reply-reply.result
    c.pass.inside.events.parts c.reply-reply.new.mine.parts c.pass.inside.events.amount c.reply-reply.new.mine.amount c.pass.invariant
    (subst (λ (x : Command). IsAdmitted config x) (sym told) c.requires) (ap (λ (m : Call). m.reply) c.filled.ensures) c.reply-reply.ensures.part c.reply-reply.ensures.share
    c.room_for_call.ensures.same c.push_reserved.ensures.items
