use Rattle.std.proofs.Common.{ap, ◌∙◌}
use Rattle.std.specs.Prelude.{option_map}
use Rattle.line_streams.specs.State.{shown_answered}
use Rattle.line_streams.proofs.AnsweredLemmas.{found_shown}
use Rattle.line_streams.proofs.answered.AnsweredLines.find.Goals as goal

pub returns-clause-shown : goal.returns-clause-shown
returns-clause-shown c = ap (option_map shown_answered) c.get.ensures.value ∙ found_shown c.args.key.now c.args.self.now.lines.entries
