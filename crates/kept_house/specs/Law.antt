-- What follows from the definitions.
use Rattle.std.specs.Prelude.{◌≡◌, ◌≤◌, ℕ, List, [], ◌∷◌, length, take}
use Rattle.ocpi_types.specs.declared.config.Config.{Config}
use Rattle.kept_batches.specs.Verdict.{kept_in}
use Rattle.request_lines.specs.Answering.{Rule}
use Rattle.kept_answers.specs.Runs.{AreRuns, Run, all_received, count_received, last_left}
use Rattle.line_streams.specs.State.{StreamState, empty_under}

-- Over a store that begins without lines, what the client of a stream received in all runs together answers, by the rule of the stream,
-- the first lines that the last crash left: each answer once, in order, and of a line that is still there.
abbrev pub StreamsRunAsOne : Rule StreamState → Type 0
StreamsRunAsOne rule =
    (config : Config) (first file : List ℕ) (runs : List Run) →
    kept_in file ≡ first ∷ [] → AreRuns rule (empty_under config) first file 0 runs →
    (lines : List (List ℕ)) × (kept_in (last_left file runs) ≡ first ∷ lines) × (count_received runs ≤ length lines)
    × ((end : StreamState) × rule.answers (empty_under config) (take (count_received runs) lines) (all_received runs) end)
