use Rattle.request_lines.specs.Inner.Progress.{rest_from}
use Rattle.std.proofs.Common.{[]}
use Rattle.request_lines.proofs.LineLaws.{are_lines, only_whole, lines_are}
use Rattle.request_lines.proofs.lines.lines_join_to_bytes.Goals as goal

pub returns-clause-some : goal.returns-clause-some
returns-clause-some c =
    let bytes = c.args.bytes.now in
    (rest_from [] bytes, are_lines bytes, lines_are bytes _ _ (are_lines bytes))

pub returns-clause-only : goal.returns-clause-only
returns-clause-only c whole last h =
    (only_whole c.args.bytes.now whole last h, lines_are c.args.bytes.now whole last h)
