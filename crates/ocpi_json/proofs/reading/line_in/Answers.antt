use Rattle.std.proofs.Common.{Some, ap, sym, ◌∙◌, arith}
use Rattle.ocpi_json.specs.Inner.Levels.{stays_within}
use Rattle.ocpi_json.proofs.Levels.{no_document, too_deep, value_of-tape}
use Rattle.ocpi_json.proofs.reading.line_in.Goals as goal

pub returns-in_err-tape-clause-invalid : goal.returns-in_err-tape-clause-invalid
returns-in_err-tape-clause-invalid c e = no_document c.args.text.now (c.in_err-tape.ensures.invalid (grind arith))

pub returns-then-not-stays_within-clause-invalid : goal.returns-then-not-stays_within-clause-invalid
returns-then-not-stays_within-clause-invalid c e =
    too_deep c.args.text.now
    (ap (stays_within 0) (sym c.in_ok-tape.ensures.ok.0 ∙ sym c.nodes.ensures.tokens) ∙ sym c.stays_within.ensures ∙ c.if-not-stays_within.true)

pub returns-clause-ok : goal.returns-clause-ok
returns-clause-ok c =
    value_of-tape c.args.text.now c.in_ok-tape.tape c.in_ok-tape.ensures.ok.0 c.in_ok-tape.ensures.ok.1
    (ap (stays_within 0) (sym c.nodes.ensures.tokens) ∙ sym c.stays_within.ensures ∙ c.if-not-stays_within.false)
    ∙ ap (λ j. Some j) (sym c.new-2.ensures)
