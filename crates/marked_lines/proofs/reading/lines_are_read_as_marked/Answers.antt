use Rattle.marked_lines.proofs.Accepted.{read_by_last_keys}
use Rattle.marked_lines.proofs.ReadingLaw.{reading_law}
use Rattle.marked_lines.proofs.reading.lines_are_read_as_marked.Goals as goal

pub returns-clause-every_key : goal.returns-clause-every_key
returns-clause-every_key c = reading_law

pub returns-clause-last_keys : goal.returns-clause-last_keys
returns-clause-last_keys c = read_by_last_keys
