-- Members of the objects on an answer line.
use Rattle.std.specs.Prelude.{ℕ, ℤ, Bool, List, [], ◌∷◌, decimal}
use Rattle.json.specs.Token.{Token, key, string, number, boolean}
use Rattle.exact_money.specs.Amount.{amount_text}

unfoldable pub text_member : List ℕ → List ℕ → List Token
text_member called text = key called ∷ string text ∷ []

unfoldable pub number_member : List ℕ → ℕ → List Token
number_member called n = key called ∷ number (decimal n) ∷ []

-- an amount stands as a text with four decimals
unfoldable pub amount_member : List ℕ → ℤ → List Token
amount_member called amount = key called ∷ string (amount_text amount) ∷ []

unfoldable pub flag_member : List ℕ → Bool → List Token
flag_member called flag = key called ∷ boolean flag ∷ []
