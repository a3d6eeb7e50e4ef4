use Rattle.std.proofs.Common.{◌∙◌}
use Rattle.house_reports.proofs.explain_lines.AddedLemmas.{all_kept_behind}
use Rattle.house_reports.proofs.explain_lines.explainer.Explainer.reply.Goals as goal

pub returns-in-Ok-clause-events : goal.returns-in-Ok-clause-events
returns-in-Ok-clause-events c = λ found all.
    let before = c.args.self.now in
    c.in-Ok.ensures
    ∙ all_kept_behind c.replies_tell_events.ensures before.config.now before.house.events c.reply_to-reply.new.house.events before.events c.args.line.now c.reply_to-reply.result
    (c.reply_to-reply.ensures.reply found) (c.reply_to-reply.ensures.events found) all
