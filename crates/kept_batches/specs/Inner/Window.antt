-- The part of a file that is in memory.
use Rattle.std.specs.Prelude.{◌≡◌, ℕ, List, Option, Some, length, take, drop}
use Rattle.kept_batches.specs.declared.end.End.{End}
use Rattle.kept_batches.specs.declared.end.End.TheVariants.{Torn}

-- these are bytes of the file, from this place on
abbrev pub IsWindow : List ℕ → ℕ → List ℕ → Type 0
IsWindow file begin window = take (length window) (drop begin file) ≡ window

-- and all of them, before a torn end
abbrev pub IsShown : Option End → List ℕ → ℕ → List ℕ → Type 0
IsShown end file begin window = end ≡ Some Torn → drop begin file ≡ window
