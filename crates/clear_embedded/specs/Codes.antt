-- The numbers by which C knows what a call is answered.
use Rattle.std.specs.Prelude.{ℕ}
use Rattle.clear_embedded.specs.declared.code.Code.{Code}
use Rattle.clear_embedded.specs.declared.code.Code.TheVariants.{Done, NoMemory, Closed, Open, NoJson, Member, NoLine, Kept, TooSmall, NotWritten, NothingKept, NotRefused}

abbrev pub code_number : Code → ℕ
code_number Done = 0
code_number NoMemory = 1
code_number Closed = 3
code_number Open = 4
code_number NoJson = 5
code_number Member = 6
code_number NoLine = 7
code_number Kept = 8
code_number TooSmall = 9
code_number NotWritten = 10
code_number NothingKept = 11
code_number NotRefused = 12
