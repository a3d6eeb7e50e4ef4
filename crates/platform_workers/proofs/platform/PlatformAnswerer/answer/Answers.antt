use Rattle.std.proofs.Common.{sym, ap, ◌∙◌}
use Rattle.std.proofs.lemmas.Result.{IfOk-weaker}
use Rattle.ocpi_types.specs.declared.config.Config.{Config}
use Rattle.request_lines.specs.AnswerText.{answer_text}
use Rattle.platform_workers.proofs.AnswerLemmas.{one_answered}
use Rattle.platform_workers.proofs.platform.PlatformAnswerer.answer.Goals as goal

pub returns-clause-ok : goal.returns-clause-ok
returns-clause-ok g c =
    let reply = c.reply-reply.result in
    let found = sym c.if-is_out_of_memory.ensures in
    IfOk-weaker c.answer_line.result _ _
    (λ text same. (
      c.reply-reply.ensures.pass,
      one_answered _ c.args.line.now _ _ reply text.items (c.reply-reply.ensures.replied found) found
          (same ∙ ap (λ (config : Config). answer_text config reply) c.config.ensures),
    ))
    c.answer_line.ensures
