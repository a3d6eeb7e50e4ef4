use Rattle.std.proofs.Common.{length}
use Rattle.kept_batches.proofs.header.+write_digits.Given as goal

abbrev pub decreases-write_digits : goal.decreases-write_digits
decreases-write_digits l = length l.room.now
