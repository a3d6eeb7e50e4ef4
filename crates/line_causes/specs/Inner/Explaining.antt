-- How a stream with causes comes to the cause of a reply.
use Rattle.std.specs.Prelude.{Bool, false, Option, Some, None}
use Rattle.line_streams.specs.declared.reply.StreamReply.{StreamReply}
use Rattle.line_causes.specs.AnswersWithCauses.{is_by_line}

-- what was done is a refusal that the line and the configuration decide
abbrev pub is_own : Option StreamReply → Bool
is_own None = false
is_own (Some done) = is_by_line done
