-- The replies that are kept of a refused line.
use Rattle.std.specs.Prelude.{Option, Some, None, is_some, if◌then◌else◌}
use Rattle.line_causes.specs.RefusalNames.{refused_by, refused_by_answer}
use Rattle.line_streams.specs.declared.reply.StreamReply.{StreamReply}
use Rattle.plain_house.specs.declared.answer.Answer.{Answer}

-- an answer that refuses a request
abbrev pub if_refusing : Answer → Option Answer
if_refusing answer = if is_some (refused_by_answer answer) then Some answer else None

-- a reply that refuses a line
abbrev pub if_refused : StreamReply → Option StreamReply
if_refused reply = if is_some (refused_by reply) then Some reply else None
