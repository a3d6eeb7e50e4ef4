use Rattle.marked_lines.proofs.Cutting.{marking_law}
use Rattle.marked_lines.proofs.marking.marking_is_marked_text.Goals as goal

pub returns : goal.returns
returns c = marking_law
