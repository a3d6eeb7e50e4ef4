-- A value, where a test passes.
use Rattle.std.specs.Prelude.{Bool, true, false, IsTrue, refl, Option, Some, None}

abbrev pub some_if : {X : Type 0} (b : Bool) → (IsTrue b → X) → Option X
some_if true x = Some (x refl)
some_if false x = None
