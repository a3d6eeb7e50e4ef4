-- The lines that tell how calls ended: call, begin, point, end, and the answer.
use Rattle.std.specs.Prelude.{ℕ, ◌+◌, List, ◌++◌, codes, decimal, flat_map}
use Rattle.ocpi_types.specs.declared.config.Config.{Config}
use Rattle.house_core.specs.declared.finished.Done.{Done}
use Rattle.house_core.specs.declared.finished.Done.TheVariants as done
use Rattle.house_core.specs.declared.finished.Finished.{Finished}
use Rattle.request_lines.specs.AnswerText.{answer_text}

-- a number and a space
abbrev pub number_text : ℕ → List ℕ
number_text number = decimal number ++ codes " "

-- an answer ends with a newline of its own; an abandoned call has no point
abbrev pub done_text : Config → ℕ → Done → List ℕ
done_text config end (done.Answered point reply) = number_text point ++ (number_text end ++ answer_text config reply)
done_text config end done.Abandoned = codes "- " ++ (number_text end ++ codes "abandoned\n")

-- calls are numbered from 1 in a file
abbrev pub finished_text : Config → Finished → List ℕ
finished_text config call = number_text (call.call + 1) ++ (number_text call.begin ++ done_text config call.end call.done)

abbrev pub trace_text : Config → List Finished → List ℕ
trace_text config finished = flat_map (finished_text config) finished
