-- Where a line stops being text or JSON, by whether it is UTF-8.
use Rattle.std.proofs.Common.{◌≡◌, ℕ, List, Bool, true, false, refl, sym, subst, ap, ◌∙◌}
use Rattle.std.proofs.lemmas.Str.{IsUtf8-from_is_utf8, is_utf8-from_IsUtf8}
use Rattle.std.specs.Str.{IsUtf8, is_utf8}
use Rattle.std.specs.Str.Lossy.{utf8_valid_len}
use Rattle.command_line.specs.JsonStop.{IsStop}
use Rattle.line_causes.specs.NotJson.{IsNotJson, column_after}
use Rattle.line_causes.specs.declared.line_cause.LineCause.TheVariants.{NotJson, NotUtf8}

pub not_json : (line : List ℕ) (column count : ℕ) → IsUtf8 line → IsStop line count → column ≡ column_after line count
    → IsNotJson (is_utf8 line) line (NotJson column)
not_json line column count utf8 stops after =
    subst (λ (b : Bool). IsNotJson b line (NotJson column)) (sym (is_utf8-from_IsUtf8 line utf8)) (count, stops, ap (λ (n : ℕ). NotJson n) after)

by_bytes : (line : List ℕ) (column : ℕ) (b : Bool) → is_utf8 line ≡ b → (IsUtf8 line → ⊥) → column ≡ column_after line (utf8_valid_len line)
    → IsNotJson b line (NotUtf8 column)
by_bytes line column true is not_utf8 after = absurd (not_utf8 (IsUtf8-from_is_utf8 line is))
by_bytes line column false is not_utf8 after = ap (λ (n : ℕ). NotUtf8 n) after

pub not_utf8 : (line : List ℕ) (column : ℕ) → (IsUtf8 line → ⊥) → column ≡ column_after line (utf8_valid_len line)
    → IsNotJson (is_utf8 line) line (NotUtf8 column)
not_utf8 line column none after = by_bytes line column (is_utf8 line) refl none after
