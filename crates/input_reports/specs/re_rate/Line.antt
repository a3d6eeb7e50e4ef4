-- A line of records: what was booked, a space, and the CDR as JSON.
use Rattle.std.specs.Prelude.{ℕ, ℤ, pos, int_div, int_rem, ◌==◌, List, Bool, Option, Some, None, option_and_then, Result, Ok, if◌then◌else◌}
use Rattle.std.specs.List.{before_first, after_first}
use Rattle.std.specs.Option.{ok_or}
use Rattle.std.specs.Ordering.{int_eq}
use Rattle.exact_money.specs.Millionths.{millionths_of}
use Rattle.ocpi_types.specs.declared.cdr.Cdr.{Cdr}
use Rattle.re_rating.specs.declared.records.Record.{Record}
use Rattle.input_reports.specs.CdrText.{◌>>=◌, cdr_of}
use Rattle.input_reports.specs.Ratable.{or_fault, ratable}
use Rattle.input_reports.specs.declared.rating_fault.RatingFault.{RatingFault}
use Rattle.input_reports.specs.declared.rating_fault.RatingFault.TheVariants.{NoAmount}

-- of millionths that make whole ten-thousandths, these
abbrev pub whole_ten_thousandths : ℤ → Option ℤ
whole_ten_thousandths millionths = if int_eq (int_rem millionths (pos 100)) (pos 0) then Some (int_div millionths (pos 100)) else None

-- the amount in ten-thousandths that a decimal number is
unfoldable pub amount_of : List ℕ → Option ℤ
amount_of text = option_and_then whole_ten_thousandths (millionths_of text)

abbrev pub is_space : ℕ → Bool
is_space byte = byte == 32

-- a CDR of which an amount says what the session costs, or that is not rated
unfoldable pub ratable_cdr_of : List ℕ → Result Cdr RatingFault
ratable_cdr_of text = do
  cdr ← cdr_of text
  _ ← or_fault (ratable cdr)
  Ok cdr

-- what was booked stands before the first space of the line, and the CDR behind it
unfoldable pub record_of : List ℕ → Result Record RatingFault
record_of line = do
  booked ← ok_or (amount_of (before_first is_space line)) NoAmount
  cdr ← ratable_cdr_of (after_first is_space line)
  Ok (record { cdr = cdr; booked = booked })
