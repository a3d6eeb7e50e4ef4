use Rattle.std.proofs.Common.{◌∙◌}
use Rattle.line_streams.specs.State.{state_of}
use Rattle.house_reports.proofs.explain_lines.StreamLemmas.{kept_all}
use Rattle.house_reports.proofs.explain_lines.streamed.explainer.StreamExplainer.reply.Goals as goal

pub returns-clause-events : goal.returns-clause-events
returns-clause-events c = λ all.
    let before = c.args.self.now in
    let stream = c.reply_to.new.self in
    c.in_ok-keep_done.ensures
    ∙ kept_all c.replies_tell_events.ensures (state_of before.stream) (state_of stream) before.events c.args.line.now _ stream c.in_ok-reply.reply
    c.in_ok-reply.ensures.ok c.in_ok-reply.ensures.given all
