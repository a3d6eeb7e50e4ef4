-- Lines that are told in turn.
use Rattle.std.proofs.Common.{◌≡◌, ℕ, List, [], ◌∷◌, ◌++◌, refl, subst}
use Rattle.request_lines.specs.Streams.{Writing}
use Rattle.command_line.specs.Fault.{IsTold}
use Rattle.clear_cli.specs.Fault.{AreTold}

module _ {S : Type 0} (writing : Writing S) where
  -- lines behind others
  pub told_more : (xs ys : List (List ℕ)) (a b c : S) → AreTold writing a xs b → AreTold writing b ys c → AreTold writing a (xs ++ ys) c
  told_more [] ys a b c first second = subst (λ (s : S). AreTold writing s ys c) first second
  told_more (x ∷ xs) ys a b c first second = (first.0, first.1, told_more xs ys first.0 b c first.2 second)

  pub told_one : (line : List ℕ) (a b : S) → IsTold writing a line b → AreTold writing a (line ∷ []) b
  told_one line a b told = (b, told, refl)
