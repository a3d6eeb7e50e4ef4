-- The names of refusals on answer lines: BLOCKED and NO_CREDIT, which refuse a request, among them.
use Rattle.std.specs.Prelude.{ℕ, List, Option, Some, None, Ok, Err, codes}
use Rattle.ocpi_types.specs.Refusal.{refusal_name}
use Rattle.plain_house.specs.Replies.{Reply}
use Rattle.plain_house.specs.declared.answer.Answer.{Answer}
use Rattle.plain_house.specs.declared.answer.Answer.TheVariants as answer
use Rattle.request_lines.specs.AnswerText.{answer_name}
use Rattle.line_streams.specs.declared.reply.LineReply.{LineReply}
use Rattle.line_streams.specs.declared.reply.LineReply.TheVariants as given
use Rattle.line_streams.specs.declared.reply.StreamReply.{StreamReply}
use Rattle.line_streams.specs.declared.reply.StreamReply.TheVariants as reply

-- ---- a script

abbrev pub refused_by_answer : Answer → Option (List ℕ)
refused_by_answer answer.Stored = None
refused_by_answer answer.Unchanged = None
refused_by_answer (answer.Allowed reference) = None
refused_by_answer answer.Blocked = Some (answer_name answer.Blocked)
refused_by_answer (answer.NoCredit over) = Some (answer_name (answer.NoCredit over))
refused_by_answer (answer.Released amount) = None
refused_by_answer (answer.Accepted amount period) = None
refused_by_answer (answer.Repeated amount period) = None
refused_by_answer (answer.Closed period positions) = None
refused_by_answer (answer.Settled amount) = None
refused_by_answer (answer.Exposure holds debts limit) = None
refused_by_answer (answer.Found amount period credited) = None
refused_by_answer (answer.Statement rows) = None

-- the name on the answer line of a reply that is a refusal, BLOCKED or NO_CREDIT
abbrev pub refused_by_reply : Reply → Option (List ℕ)
refused_by_reply (Ok replied) = refused_by_answer replied.answer
refused_by_reply (Err refused) = Some (refusal_name refused.refusal)

-- ---- a stream

-- the name on the answer line of a reply that refuses the line
abbrev pub refused_by : StreamReply → Option (List ℕ)
refused_by (reply.House given) = refused_by_reply given
refused_by (reply.Configured at) = None
refused_by (reply.Lowered at event kind) = None
refused_by (reply.Otherwise at event kind) = Some (codes "ComesOutOtherwise")

-- the name on the answer line of a line for which nothing was done
abbrev pub refused_undone : LineReply → Option (List ℕ)
refused_undone (given.Done answer) = None
refused_undone (given.Remembered key) = None
refused_undone (given.Repeated key) = None
refused_undone given.IdUsed = Some (codes "RequestIdUsed")

-- the name on the answer line, by the reply to what was done for the line; a repeated line is not refused again
abbrev pub refused_in : Option StreamReply → LineReply → Option (List ℕ)
refused_in None line = refused_undone line
refused_in (Some answer) line = refused_by answer
