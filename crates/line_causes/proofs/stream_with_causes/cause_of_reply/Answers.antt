use Rattle.std.proofs.Common.{◌∙◌, sym, subst}
use Rattle.std.proofs.lemmas.Result.{IfOk-weaker}
use Rattle.ocpi_types.specs.declared.config.Config.{Config}
use Rattle.line_causes.specs.OwnCauses.{IsOwnCause}
use Rattle.line_causes.proofs.ExplainedLemmas.{by_line, not_by_line}
use Rattle.line_causes.proofs.stream_with_causes.cause_of_reply.Goals as goal

pub returns-then-is_own : goal.returns-then-is_own
returns-then-is_own c =
    IfOk-weaker c.own_cause_of_line.result _ _ (λ why own state answer answered told.
    by_line state c.args.stream.now c.args.reply.now c.args.line.now why answer answered told (sym c.is_own.ensures ∙ c.if-is_own.true)
    (subst (λ (config : Config). IsOwnCause config c.args.line.now why) c.config.ensures own)) c.own_cause_of_line.ensures

pub returns : goal.returns
returns c = λ state answer answered told. not_by_line state c.args.stream.now c.args.reply.now c.args.line.now told (sym c.is_own.ensures ∙ c.if-is_own.false)
