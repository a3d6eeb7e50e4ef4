use Rattle.std.proofs.Common.{◌∙◌, arith}
use Rattle.std.proofs.lemmas.Int.{ints}
use Rattle.ocpi_json.proofs.MomentParts.{time_at-new}
use Rattle.ocpi_json.proofs.moments.time_at.Goals as goal

pub returns : goal.returns
returns c =
    c.ok.ensures.value ∙ time_at-new c.args.hour c.args.minute c.args.second c.args.nanos _ _ _ _ c.new.result
    (omega (arith, ints)) (omega (arith, ints)) (omega (arith, ints)) (omega (arith, ints)) c.new.ensures.succeeds c.new.ensures.value
