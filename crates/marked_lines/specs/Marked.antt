-- The marked text of a line as a function, for definitions that stand on it: the one that `Marks` relates to the line.
use Rattle.std.specs.Prelude.{◌≡◌, ℕ, ◌↔◌, List, Some}
use Rattle.marked_lines.specs.Cut.{Marks}
unfoldable pub use Rattle.marked_lines.specs.Inner.MarkedText.{marked_text}

abbrev pub MarkingIsMarkedText : Type 0
MarkingIsMarkedText = (bytes out : List ℕ) → Marks bytes out ↔ (marked_text bytes ≡ Some out)
