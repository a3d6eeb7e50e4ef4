-- A text that a cause has, of a bounded length.
use Rattle.std.specs.Prelude.{ℕ, ◌&&◌, List, [], length, nat_le, if◌then◌else◌}
use Rattle.ocpi_json.specs.Folded.{is_printable}

-- a text of at most 64 printable characters, and nothing in the place of another
abbrev pub short_text : List ℕ → List ℕ
short_text text = if is_printable text && nat_le (length text) 64 then text else []
