-- What is refused is handed back, beside the cause.
use Rattle.std.specs.Prelude.{Result, Ok, Err}
use Rattle.cdr_checks.specs.declared.cause.Cause.{Cause}

abbrev pub handed_back : {X A : Type 0} → X → Result A Cause → Result A (X × Cause)
handed_back x (Ok a) = Ok a
handed_back x (Err cause) = Err (x, cause)
