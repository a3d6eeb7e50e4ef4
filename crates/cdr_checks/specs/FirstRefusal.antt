-- Tests in order: the first that fails decides why.
use Rattle.std.specs.Prelude.{Bool, true, false, Option, Some, None, Result, Ok, Err}

infixl 10 ◌>>=◌
-- why the first fails is why all fail
abbrev pub ◌>>=◌ : {A B Why : Type 0} → Result A Why → (A → Result B Why) → Result B Why
(Ok x) >>= f = f x
(Err why) >>= f = Err why

-- nothing if it holds, and otherwise why
abbrev pub ensure : {Why : Type 0} → Bool → Why → Result Unit Why
ensure true why = Ok tt
ensure false why = Err why

-- nothing if nothing is found, and otherwise why, by what is found
abbrev pub unless : {X Why : Type 0} → Option X → (X → Why) → Result Unit Why
unless None why = Ok tt
unless (Some found) why = Err (why found)

-- the value, or why if there is none
abbrev pub or_refusal : {X Why : Type 0} → Why → Option X → Result X Why
or_refusal why None = Err why
or_refusal why (Some x) = Ok x
