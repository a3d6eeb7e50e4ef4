-- The texts of a line.
use Rattle.std.specs.Prelude.{ℕ, List, [], ◌∷◌, ◌++◌, string_bytes}
use Rattle.house_reports.specs.declared.balances.fields.AmountTexts.{AmountTexts}
use Rattle.house_reports.specs.declared.balances.fields.Fields.{Fields}
use Rattle.house_reports.specs.declared.balances.fields.KeyTexts.{KeyTexts}

abbrev pub texts_of_key : KeyTexts → List (List ℕ)
texts_of_key texts =
    string_bytes texts.period ∷ string_bytes texts.currency ∷ string_bytes texts.operator ∷ string_bytes texts.provider ∷ []

abbrev pub texts_of_amounts : AmountTexts → List (List ℕ)
texts_of_amounts texts =
    string_bytes texts.owed ∷ string_bytes texts.settled ∷ string_bytes texts.outstanding ∷ []

abbrev pub texts_of : Fields → List (List ℕ)
texts_of fields = texts_of_key fields.key ++ texts_of_amounts fields.amounts
