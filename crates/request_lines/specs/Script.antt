-- What a script answers, and the events after it.
use Rattle.std.specs.Prelude.{◌≡◌, ℕ, ◌⊎◌, List, [], ◌∷◌, ◌++◌, None, Result, Ok, Err}
use Rattle.ocpi_types.specs.declared.config.Config.{Config}
use Rattle.ocpi_types.specs.declared.refusal.Refusal.{Refusal}
use Rattle.cdr_checks.specs.declared.request.Command.{Command}
use Rattle.cdr_checks.specs.declared.request.Request.{Request}
use Rattle.cdr_checks.specs.Admission.{admission}
use Rattle.plain_house.specs.declared.event.Event.{Event}
use Rattle.plain_house.specs.House.{reply_of, events_after}
use Rattle.plain_house.specs.Replies.{Reply}
use Rattle.request_lines.specs.RequestText.{request_of}
use Rattle.request_lines.specs.AnswerText.{answer_text}
use Rattle.request_lines.specs.Lines.{lines_of}
use Rattle.request_lines.specs.Answering.{Rule}

-- ---- one line

abbrev pub admitted : Config → Result Request Refusal → Result Command Refusal
admitted config (Ok request) = admission config request
admitted config (Err refusal) = Err refusal

-- the command of a line, or why it is refused before a house is asked
unfoldable pub command_in : Config → List ℕ → Result Command Refusal
command_in config line = admitted config (request_of line)

abbrev pub reply_to : Config → List Event → Result Command Refusal → Reply
reply_to config events (Ok command) = reply_of config events command
reply_to config events (Err refusal) = Err (record { at = None; refusal = refusal })

abbrev pub list_with : Config → List Event → Result Command Refusal → List Event
list_with config events (Ok command) = events_after config events command
list_with config events (Err refusal) = events

unfoldable pub reply_in : Config → List Event → List ℕ → Reply
reply_in config events line = reply_to config events (command_in config line)

-- the answer to a line, and the events after it
unfoldable pub answer_of : Config → List Event → List ℕ → List ℕ
answer_of config events line = answer_text config (reply_in config events line)

unfoldable pub after : Config → List Event → List ℕ → List Event
after config events line = list_with config events (command_in config line)

-- ---- many lines

-- the answers to lines in turn, and the events after them
abbrev pub answers_to : Config → List Event → List (List ℕ) → List ℕ
answers_to config events [] = []
answers_to config events (line ∷ lines) = answer_of config events line ++ answers_to config (after config events line) lines

abbrev pub list_after : Config → List Event → List (List ℕ) → List Event
list_after config events [] = events
list_after config events (line ∷ lines) = list_after config (after config events line) lines

-- what is written for these bytes
abbrev pub script_text : Config → List Event → List ℕ → List ℕ
script_text config events bytes = answers_to config events (lines_of bytes)

-- the rule of a script, whose state is the list of events: where memory runs out at a line, its command stands or not
abbrev pub script_rule : Config → Rule (List Event)
script_rule config = record {
  answers = λ events lines text left. (text ≡ answers_to config events lines) × (left ≡ list_after config events lines);
  gives_up = λ events line left. (left ≡ events) ⊎ (left ≡ after config events line);
}
