use Rattle.std.proofs.Output.{has_written_of_eq}
use Rattle.line_causes.proofs.ShownMoments.{shown_in_utc}
use Rattle.line_causes.proofs.moment.write_moment.Goals as goal

pub returns : goal.returns
returns g c = λ plain ok. has_written_of_eq _ _ _ _ _ (shown_in_utc c.to_datetime-shown.result c.args.moment c.to_datetime-shown.ensures) (c.write.ensures.writes plain ok)
