use Rattle.std.proofs.Common.{rules, sym, subst, refl, ◌≡◌, ◌+◌, ◌<◌, ◌^◌, ℕ, List, [], ◌∷◌, Option, Some, None}
use Rattle.std.proofs.lemmas.Result.{IfOk-weaker}
use Rattle.line_causes.specs.RefusalNames.{refused_in}
use Rattle.line_causes.specs.StreamCauses.{IsCauseOfStreamLine}
use Rattle.line_streams.specs.Given.{done_by}
use Rattle.line_streams.specs.State.{state_of}
use Rattle.house_reports.specs.explain_lines.Table.{IsRow}
use Rattle.house_reports.specs.explain_lines.Inner.StreamStanding.{stream_standing}
use Rattle.house_reports.specs.explain_lines.Inner.StreamTelling.{Explains}
use Rattle.house_reports.proofs.explain_lines.StreamTableLemmas.{other_line, refused_line}
use Rattle.house_reports.proofs.explain_lines.streamed.explainer.StreamExplainerAnswerer.answer.Goals as goal

pub returns-in-Some-clause-ok : goal.returns-in-Some-clause-ok
returns-in-Some-clause-ok c =
    let before = stream_standing c.args.self.now in
    let middle = stream_standing c.reply.new.self in
    let after = stream_standing c.row.new.self in
    let stream = c.reply.new.self.stream in
    let reply = c.in_ok-reply.reply in
    let done = done_by stream reply in
    let name = refused_in done reply in
    let refused = c.replies_name_refusals.ensures before.state c.args.line.now stream reply c.in_ok-reply.ensures.given in
    let is : name ≡ Some c.in-Some.refusal.now = search rules in
    let counted : before.lines + 1 < 2 ^ 128 → after.lines ≡ before.lines + 1 = search rules in
    IfOk-weaker c.row.result _ _
    (λ text told. refused_line before middle after c.args.line.now text.items done name c.in_ok-reply.ensures.answered refused
    c.in_ok-reply.ensures.events c.row.ensures.rest.0 c.row.ensures.rest.1 counted c.in-Some.refusal.now is
    (subst (λ (n : ℕ). IsRow n c.in-Some.refusal.now (IsCauseOfStreamLine middle.state.house.config middle.kept done c.args.line.now) text.items) (sym c.row.ensures.rest.2) told)
    c.row.ensures.any)
    c.row.ensures.row

pub returns-clause-ok : goal.returns-clause-ok
returns-clause-ok c =
    let before = stream_standing c.args.self.now in
    let after = stream_standing c.reply.new.self in
    let stream = c.reply.new.self.stream in
    let reply = c.in_ok-reply.reply in
    let done = done_by stream reply in
    let name = refused_in done reply in
    let refused = c.replies_name_refusals.ensures before.state c.args.line.now stream reply c.in_ok-reply.ensures.given in
    let is : name ≡ None = search rules in
    let counted : before.lines + 1 < 2 ^ 128 → after.lines ≡ before.lines + 1 = search rules in
    other_line before after after c.args.line.now _ done name c.in_ok-reply.ensures.answered refused c.in_ok-reply.ensures.events
    refl refl counted is c.new.ensures.items c.in_ok-reply.ensures.rest.1
