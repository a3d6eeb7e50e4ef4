-- What a CDR costs that is given as JSON.
use Rattle.std.specs.Prelude.{ℕ, ℤ, List, Result, Err, if◌then◌else◌}
use Rattle.jiff.specs.Types.{TimeZone as PlainZone}
use Rattle.ocpi_types.specs.declared.cdr.Cdr.{Cdr}
use Rattle.ocpi_types.specs.Cdr.{is_credit}
use Rattle.input_reports.specs.CdrText.{◌>>=◌, cdr_of}
use Rattle.input_reports.specs.Ratable.{or_fault, rated_price}
use Rattle.input_reports.specs.declared.rating_fault.RatingFault.{RatingFault}
use Rattle.input_reports.specs.declared.rating_fault.RatingFault.TheVariants.{CreditCdr}

-- a Credit CDR is not rated
unfoldable pub rated_cdr : PlainZone → Cdr → Result ℤ RatingFault
rated_cdr zone cdr = if is_credit cdr then Err CreditCdr else or_fault (rated_price cdr zone)

-- the amount in ten-thousandths, or why there is none
unfoldable pub rated_text : List ℕ → PlainZone → Result ℤ RatingFault
rated_text text zone = do
  cdr ← cdr_of text
  rated_cdr zone cdr
