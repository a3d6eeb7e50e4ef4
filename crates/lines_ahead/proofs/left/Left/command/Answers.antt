use Rattle.lines_ahead.specs.ReadLines.{IsRead}
use Rattle.lines_ahead.proofs.AheadLemmas.{of_others}
use Rattle.lines_ahead.proofs.left.Left.command.Goals as goal

pub returns-then-has_line-clause-left : goal.returns-then-has_line-clause-left
returns-then-has_line-clause-left c = λ config are. of_others (IsRead config c.args.self.now.bytes.value.items) _ _ _ c.next.ensures.items are

pub returns-else-has_line-clause-left : goal.returns-else-has_line-clause-left
returns-else-has_line-clause-left c = λ config are. of_others (IsRead config c.args.self.now.bytes.value.items) _ _ _ c.next.ensures.items are
