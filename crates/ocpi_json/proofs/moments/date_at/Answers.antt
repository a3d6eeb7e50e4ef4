use Rattle.std.proofs.Common.{◌∙◌, arith}
use Rattle.std.proofs.lemmas.Int.{ints}
use Rattle.ocpi_json.proofs.MomentParts.{date_at-new}
use Rattle.ocpi_json.proofs.moments.date_at.Goals as goal

pub returns : goal.returns
returns c =
    c.ok.ensures.value ∙ date_at-new c.args.year c.args.month c.args.day _ _ _ c.new.result c.requires.year_in
    (omega (arith, ints)) (omega (arith, ints)) (omega (arith, ints)) c.new.ensures.succeeds c.new.ensures.value
