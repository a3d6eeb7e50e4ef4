use Rattle.std.proofs.Common.{length}
use Rattle.ocpi_json.proofs.moments.+digits_from.Given as goal

abbrev pub decreases-digits_from : goal.decreases-digits_from
decreases-digits_from l = length l.text.now
