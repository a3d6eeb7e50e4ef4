use Rattle.std.proofs.Common.{ap, map, ◌∙◌}
use Rattle.std.specs.Map.{lookup}
use Rattle.line_streams.specs.State.{same_key, shown_entry}
use Rattle.line_streams.proofs.AnsweredLemmas.{found_inserted, inserted_last}
use Rattle.line_streams.proofs.answered.AnsweredLines.add.Goals as goal

pub returns-clause-lines : goal.returns-clause-lines
returns-clause-lines c =
    let entries = rw c.unwrap.ensures at c.insert.ensures.entries in
    ap (map shown_entry) entries ∙ inserted_last c.args.key c.args.answered c.args.self.now.lines.entries c.requires.absent

pub returns-clause-added : goal.returns-clause-added
returns-clause-added c =
    let entries = rw c.unwrap.ensures at c.insert.ensures.entries in
    ap (lookup (same_key c.args.key)) entries ∙ found_inserted c.args.key c.args.answered c.args.self.now.lines.entries
