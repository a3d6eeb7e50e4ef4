use Rattle.std.proofs.Common.{refl}
use Rattle.lines_ahead.proofs.AheadLemmas.{read_list, read_reply}
use Rattle.lines_ahead.proofs.answering.reply.Goals as goal

pub returns-clause-reply : goal.returns-clause-reply
returns-clause-reply g c =
    read_reply _ _ _ _ _ _ _ _ c.requires.same c.requires.ahead refl c.command-command.ensures.command c.command-command.ensures.refusal c.reply_to_command.ensures.reply

pub returns-clause-events : goal.returns-clause-events
returns-clause-events g c =
    read_list _ _ _ _ _ _ _ _ _ c.requires.same c.requires.ahead refl c.command-command.ensures.command c.command-command.ensures.refusal c.reply_to_command.ensures.reply c.reply_to_command.ensures.events
