use Rattle.std.proofs.Common.{◌∙◌, arith}
use Rattle.std.proofs.lemmas.Int.{ints}
use Rattle.jiff.specs.Words.{civil_nanos}
use Rattle.ocpi_json.proofs.MomentParts.{instant_at-new}
use Rattle.ocpi_json.proofs.moments.instant_at.Goals as goal

pub returns : goal.returns
returns c =
    c.ok.ensures.value ∙ instant_at-new (civil_nanos c.args.shown) _ c.to_timestamp.result
    (omega (arith, ints)) c.to_timestamp.ensures.succeeds c.to_timestamp.ensures.value
