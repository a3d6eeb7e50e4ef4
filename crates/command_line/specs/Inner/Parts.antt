-- A line in parts.
use Rattle.std.specs.Prelude.{ℕ, List, [], ◌∷◌, ◌++◌}
use Rattle.std.specs.Borrow.{Bor}

-- the parts, one behind the other
abbrev pub text_of : List (Bor (List ℕ)) → List ℕ
text_of [] = []
text_of (part ∷ parts) = part.now ++ text_of parts
