-- The column at which a line stops being text or JSON.
use Rattle.std.specs.Prelude.{◌≡◌, ℕ, ◌+◌, Bool, true, false, ◌||◌, List, count_by, nat_le, nat_lt, take}
use Rattle.std.specs.Str.Lossy.{utf8_valid_len}
use Rattle.command_line.specs.JsonStop.{IsStop}
use Rattle.line_causes.specs.declared.line_cause.LineCause.{LineCause}
use Rattle.line_causes.specs.declared.line_cause.LineCause.TheVariants.{NotJson, NotUtf8}

-- the byte begins a character: it is no continuation of one (RFC 3629, section 3)
abbrev pub begins_character : ℕ → Bool
begins_character byte = nat_lt byte 128 || nat_le 192 byte

-- the column, from 1, after this many bytes
abbrev pub column_after : List ℕ → ℕ → ℕ
column_after line count = count_by begins_character (take count line) + 1

-- by whether the line is UTF-8: after the longest part of it that is, or after bytes with which some JSON text begins
abbrev pub IsNotJson : Bool → List ℕ → LineCause → Type 0
IsNotJson false line cause = cause ≡ NotUtf8 (column_after line (utf8_valid_len line))
IsNotJson true line cause = (count : ℕ) × IsStop line count × (cause ≡ NotJson (column_after line count))
