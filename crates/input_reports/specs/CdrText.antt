-- The CDR that a text of JSON is.
use Rattle.std.specs.Prelude.{ℕ, List, Bool, true, false, Option, Some, None, Result, Ok, Err}
use Rattle.json.specs.Json.{Json as Data}
use Rattle.ocpi_json.specs.MemberFaults.{name_of}
use Rattle.ocpi_json.specs.Reading.{data_of}
use Rattle.ocpi_json.specs.declared.member_fault.MemberFault.{MemberFault}
use Rattle.ocpi_types.specs.declared.cdr.Cdr.{Cdr}
use Rattle.ocpi_types.specs.declared.refusal.Refusal.TheVariants.{Syntax, Field}
use Rattle.ocpi_types.specs.Cdr.{cdr_at}
use Rattle.input_reports.specs.declared.rating_fault.RatingFault.{RatingFault}
use Rattle.input_reports.specs.declared.rating_fault.RatingFault.TheVariants.{NoAmount, Refused, CreditCdr, NoMemory}

abbrev pub is_no_memory : RatingFault → Bool
is_no_memory NoAmount = false
is_no_memory (Refused refusal) = false
is_no_memory CreditCdr = false
is_no_memory NoMemory = true

infixl 10 ◌>>=◌
-- the first fault is the fault of the whole
abbrev pub ◌>>=◌ : {A B : Type 0} → Result A RatingFault → (A → Result B RatingFault) → Result B RatingFault
(Ok x) >>= f = f x
(Err fault) >>= f = Err fault

abbrev pub cdr_or_fault : Result Cdr MemberFault → Result Cdr RatingFault
cdr_or_fault (Ok cdr) = Ok cdr
cdr_or_fault (Err fault) = Err (Refused (Field (name_of fault.member)))

abbrev pub cdr_if_json : Option Data → Result Cdr RatingFault
cdr_if_json None = Err (Refused Syntax)
cdr_if_json (Some node) = cdr_or_fault (cdr_at node)

unfoldable pub cdr_of : List ℕ → Result Cdr RatingFault
cdr_of text = cdr_if_json (data_of text)
