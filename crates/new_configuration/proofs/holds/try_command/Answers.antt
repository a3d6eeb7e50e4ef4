use Rattle.std.proofs.Common.{◌≡◌, true, false, sym}
use Rattle.new_configuration.proofs.AddedLemmas.{ends_otherwise}
use Rattle.new_configuration.proofs.holds.try_command.Goals as goal

pub returns-clause-ends : goal.returns-clause-ends
returns-clause-ends c =
    ends_otherwise c.replies_tell_events.ensures c.args.house.now.config c.args.house.now.events c.args.command c.args.event.now c.do_command-reply.result c.do_command-reply.new.self.events
    c.do_command-reply.ensures.does (sym c.if-is_out_of_memory.ensures) (sym c.if-rejects_token.ensures)
    (λ both. absurd (let e : false ≡ true = c.if-is_added.ensures.1 both in cc))
