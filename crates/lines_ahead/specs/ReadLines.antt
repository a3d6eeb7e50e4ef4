-- Lines that are read before they are answered.
use Rattle.std.specs.Prelude.{◌≡◌, ℕ, List, All, take, drop}
use Rattle.lines_ahead.specs.declared.read_batch.ReadBatch.{ReadBatch}
use Rattle.lines_ahead.specs.declared.read_batch.ReadLine.{ReadLine}
use Rattle.ocpi_types.specs.declared.config.Config.{Config}
use Rattle.request_lines.specs.Script.{command_in}

-- so many bytes from a place on
abbrev pub line_at : List ℕ → ℕ → ℕ → List ℕ
line_at bytes start count = take count (drop start bytes)

-- what is read of the line at its place in the bytes is its command, or why it is refused before a house is asked
abbrev pub IsRead : Config → List ℕ → ReadLine → Type 0
IsRead config bytes read = command_in config (line_at bytes read.start read.length) ≡ read.command

abbrev pub AreRead : Config → ReadBatch → Type 0
AreRead config batch = All (IsRead config batch.bytes.value.items) batch.lines.items
