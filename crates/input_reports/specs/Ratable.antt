-- Of which CDRs an amount says what the session costs. A bound on current or power decides by what no CDR has, and reserved time has no
-- price, so an amount would pass over both.
use Rattle.std.specs.Prelude.{ℤ, ◌||◌, Result, Ok, Err, if◌then◌else◌}
use Rattle.jiff.specs.Types.{TimeZone as PlainZone}
use Rattle.ocpi_types.specs.declared.cdr.Cdr.{Cdr}
use Rattle.ocpi_types.specs.declared.refusal.Refusal.{Refusal}
use Rattle.ocpi_types.specs.Cdr.{is_credit}
use Rattle.cdr_rating.specs.Price.{price}
use Rattle.cdr_rating.specs.Pricing.{lacks_tariff}
use Rattle.cdr_checks.specs.declared.cause.Cause.{Cause}
use Rattle.cdr_checks.specs.Cause.{with_refusal}
use Rattle.cdr_checks.specs.CdrAdmission.{with_bound, with_reservation}
use Rattle.cdr_checks.specs.CdrConditions.{reservation, unsupported_tariff}
use Rattle.cdr_checks.specs.FirstRefusal.{◌>>=◌, unless}
use Rattle.input_reports.specs.declared.rating_fault.RatingFault.{RatingFault}
use Rattle.input_reports.specs.declared.rating_fault.RatingFault.TheVariants.{Refused}

-- the causes of refusals 8 and 9, as a posted CDR has them
abbrev pub all_rated : Cdr → Result Unit Cause
all_rated cdr = do
  _ ← unless (unsupported_tariff cdr) with_bound
  unless (reservation cdr) with_reservation

-- nothing is asked of a CDR that has no amount: a Credit CDR, and one of which a charging period lacks its tariff
abbrev pub ratable : Cdr → Result Unit Refusal
ratable cdr = if is_credit cdr || lacks_tariff cdr then Ok tt else with_refusal (all_rated cdr)

-- what the session costs, in ten-thousandths, or the first refusal by number
abbrev pub rated_price : Cdr → PlainZone → Result ℤ Refusal
rated_price cdr zone = do
  _ ← ratable cdr
  price cdr zone

-- the same with its refusal as a fault
abbrev pub or_fault : {A : Type 0} → Result A Refusal → Result A RatingFault
or_fault (Ok x) = Ok x
or_fault (Err refusal) = Err (Refused refusal)
