-- Why a request is not admitted: where a test fails and what was found there, and the refusal that it is.
use Rattle.std.specs.Prelude.{Result, Ok, Err}
use Rattle.ocpi_types.specs.declared.refusal.Refusal.{Refusal}
use Rattle.ocpi_types.specs.declared.refusal.Refusal.TheVariants as refusal
use Rattle.cdr_checks.specs.declared.cause.Cause.{Cause}
use Rattle.cdr_checks.specs.declared.cause.Reason.{Reason}
use Rattle.cdr_checks.specs.declared.cause.Reason.TheVariants as reason

abbrev pub refusal_by : Reason → Refusal
refusal_by (reason.NoOperator party) = refusal.UnknownParty
refusal_by (reason.NoProvider party) = refusal.UnknownParty
refusal_by (reason.NoParty party) = refusal.UnknownParty
refusal_by (reason.UnknownPlatform platform) = refusal.NotYours
refusal_by (reason.NoHub platform) = refusal.NotYours
refusal_by (reason.ActsNotFor platform party) = refusal.NotYours
refusal_by (reason.UnknownCurrency currency) = refusal.WrongCurrency
refusal_by (reason.OtherCurrency found cdr) = refusal.WrongCurrency
refusal_by (reason.BeforePreceding found preceding) = refusal.BadDates
refusal_by (reason.TariffNotGiven id) = refusal.TariffNotGiven
refusal_by reason.NotSupported = refusal.UnsupportedRestriction
refusal_by (reason.Reserved volume) = refusal.Reservation
refusal_by (reason.OtherEnergy found sum) = refusal.EnergyMismatch
refusal_by (reason.AmountTooLarge most) = refusal.AmountTooLarge
refusal_by (reason.FarFromRated declared rated) = refusal.CostMismatch rated

abbrev pub refusal_of : Cause → Refusal
refusal_of cause = refusal_by cause.reason

-- a result with the refusal in the place of its cause
abbrev pub with_refusal : {A : Type 0} → Result A Cause → Result A Refusal
with_refusal (Ok x) = Ok x
with_refusal (Err cause) = Err (refusal_of cause)
