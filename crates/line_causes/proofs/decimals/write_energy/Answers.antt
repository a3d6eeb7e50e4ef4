use Rattle.std.proofs.Common.{◌%◌, ap}
use Rattle.std.proofs.Output.{has_written_of_eq}
use Rattle.std.specs.Fmt.{styled_decimal}
use Rattle.line_causes.proofs.SixDecimals.{written}
use Rattle.line_causes.proofs.decimals.write_energy.Goals as goal

pub returns : goal.returns
returns g c = λ plain ok.
    has_written_of_eq _ _ _ _ _ (written c.args.millionths _ (ap (λ s. styled_decimal s (c.args.millionths % 1000000)) c.laid_out.ensures))
    (c.write.ensures.writes plain ok)
