-- What readers and writers state of themselves.
use Rattle.std.specs.Prelude.{ℕ, Bool, List}

-- `gives before calls bytes after`: this number of calls returned these bytes, from one state to the other. `at_end reader`: there
-- are no more bytes. `failed reader`: a call has failed.
pub record Reading (R : Type 0) : Type 1 where
  pub gives : R → ℕ → List ℕ → R → Type 0
  pub at_end : R → Type 0
  pub failed : R → Bool

-- `takes before bytes after`: calls took these bytes, from one state to the other. `failed writer`: a call has failed or took no
-- byte.
pub record Writing (W : Type 0) : Type 1 where
  pub takes : W → List ℕ → W → Type 0
  pub failed : W → Bool
