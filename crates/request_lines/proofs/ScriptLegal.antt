-- The list after the lines of a script.
use Rattle.std.proofs.Common.{◌≡◌, ℕ, List, [], ◌∷◌, refl, Result, Ok, Err}
use Rattle.ocpi_types.specs.declared.config.Config.{Config}
use Rattle.ocpi_types.specs.declared.refusal.Refusal.{Refusal}
use Rattle.cdr_checks.specs.Admission.{IsAdmitted, admission}
use Rattle.cdr_checks.specs.declared.request.Command.{Command}
use Rattle.cdr_checks.specs.declared.request.Request.{Request}
use Rattle.plain_house.specs.declared.event.Event.{Event}
use Rattle.plain_house.specs.Legal.{CommandsKeepListsLegal, IsLegal}
use Rattle.request_lines.specs.Law.{ScriptsKeepListsLegal}
use Rattle.request_lines.specs.RequestText.{request_of}
use Rattle.request_lines.specs.Script.{admitted, after, command_in, list_with}

pub is_admitted : (config : Config) (line : List ℕ) (told : Command) → command_in config line ≡ Ok told → IsAdmitted config told
unfolding command_in IsAdmitted
is_admitted config line told h = by (request_of line) h
  where
    by : (asked : Result Request Refusal) → admitted config asked ≡ Ok told → (request : Request) × (admission config request ≡ Ok told)
    by (Ok request) e = (request, e)
    by (Err why) e = absurd (cc)

legal_with : CommandsKeepListsLegal → (config : Config) (events : List Event) (line : List ℕ) (m : Result Command Refusal) → command_in config line ≡ m → IsLegal config events → IsLegal config (list_with config events m)
legal_with law config events line (Ok told) e legal = law config events told legal (is_admitted config line told e)
legal_with law config events line (Err why) e legal = legal

legal_after : CommandsKeepListsLegal → (config : Config) (events : List Event) (line : List ℕ) → IsLegal config events → IsLegal config (after config events line)
unfolding after
legal_after law config events line legal = legal_with law config events line (command_in config line) refl legal

pub scripts_keep_lists_legal : CommandsKeepListsLegal → ScriptsKeepListsLegal
scripts_keep_lists_legal law config events [] legal = legal
scripts_keep_lists_legal law config events (line ∷ lines) legal = scripts_keep_lists_legal law config (after config events line) lines (legal_after law config events line legal)
