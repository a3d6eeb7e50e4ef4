-- Why a house refuses a command, and the refusal that it is.
use Rattle.std.specs.Prelude.{Bool, true, false, Option, None, Some}
use Rattle.ocpi_types.specs.declared.refusal.Refusal.{Refusal}
use Rattle.ocpi_types.specs.declared.refusal.Refusal.TheVariants as refusal
use Rattle.cdr_checks.specs.declared.place.Place.{Place}
use Rattle.house_causes.specs.declared.house_cause.HouseCause.{HouseCause}
use Rattle.house_causes.specs.declared.house_cause.HouseReason.{HouseReason}
use Rattle.house_causes.specs.declared.house_cause.HouseReason.TheVariants as reason

-- the refusal; none of the answers BLOCKED and NO_CREDIT
abbrev pub refusal_by : HouseReason → Option Refusal
refusal_by reason.StoredOtherwise = Some refusal.Conflict
refusal_by (reason.BookedOtherwise amount) = Some refusal.Conflict
refusal_by (reason.OfAnotherOperator found operator) = Some refusal.TariffNotRegistered
refusal_by reason.RegisteredOtherwise = Some refusal.TariffNotRegistered
refusal_by (reason.NotRegistered last_updated) = Some refusal.TariffNotRegistered
refusal_by (reason.NotPut uid) = Some refusal.UnknownToken
refusal_by (reason.OfAnotherType found put) = Some refusal.UnknownToken
refusal_by (reason.NotValid uid) = None
refusal_by (reason.NotCovered over) = None
refusal_by (reason.NeverGiven reference) = Some refusal.UnknownHold
refusal_by (reason.GivenToAnother reference operator) = Some refusal.UnknownHold
refusal_by (reason.ReleasedAlready reference) = Some refusal.UnknownHold
refusal_by (reason.UsedUp reference cdr) = Some refusal.UnknownHold
refusal_by (reason.NoOriginal id) = Some refusal.UnknownOriginal
refusal_by (reason.OfCredit id) = Some refusal.CreditOfCredit
refusal_by (reason.CreditedAlready id credit) = Some refusal.AlreadyCredited
refusal_by (reason.BeforeWindow original current) = Some (refusal.TooLate original current)
refusal_by (reason.OtherProvider found cdr) = Some refusal.CreditDiffers
refusal_by (reason.OtherCurrency found cdr) = Some refusal.CreditDiffers
refusal_by (reason.AboveZero cost) = Some refusal.CreditDiffers
refusal_by (reason.FarFromNegated cost negated) = Some refusal.CreditDiffers
refusal_by (reason.ClosedAlready period current) = Some (refusal.NotCurrent current)
refusal_by (reason.NotCurrentYet period current) = Some (refusal.NotCurrent current)
refusal_by (reason.NotClosedYet period current) = Some refusal.PeriodOpen
refusal_by (reason.SettledAlready period) = Some refusal.AlreadySettled
refusal_by (reason.NoCdr id) = Some refusal.UnknownCdr
refusal_by (reason.Full what party limit) = Some (refusal.Full what)
refusal_by (reason.AboveLimit exposure limit pair) = Some (refusal.OverLimit exposure limit pair)

-- an event gives the reason
abbrev pub is_by_event : HouseReason → Bool
is_by_event reason.StoredOtherwise = true
is_by_event (reason.BookedOtherwise amount) = true
is_by_event (reason.OfAnotherOperator found operator) = false
is_by_event reason.RegisteredOtherwise = true
is_by_event (reason.NotRegistered last_updated) = false
is_by_event (reason.NotPut uid) = false
is_by_event (reason.OfAnotherType found put) = true
is_by_event (reason.NotValid uid) = false
is_by_event (reason.NotCovered over) = false
is_by_event (reason.NeverGiven reference) = false
is_by_event (reason.GivenToAnother reference operator) = true
is_by_event (reason.ReleasedAlready reference) = true
is_by_event (reason.UsedUp reference cdr) = true
is_by_event (reason.NoOriginal id) = false
is_by_event (reason.OfCredit id) = true
is_by_event (reason.CreditedAlready id credit) = true
is_by_event (reason.BeforeWindow original current) = false
is_by_event (reason.OtherProvider found cdr) = true
is_by_event (reason.OtherCurrency found cdr) = true
is_by_event (reason.AboveZero cost) = true
is_by_event (reason.FarFromNegated cost negated) = true
is_by_event (reason.ClosedAlready period current) = false
is_by_event (reason.NotCurrentYet period current) = false
is_by_event (reason.NotClosedYet period current) = false
is_by_event (reason.SettledAlready period) = true
is_by_event (reason.NoCdr id) = false
is_by_event (reason.Full what party limit) = false
is_by_event (reason.AboveLimit exposure limit pair) = false

-- a cause at a place of the request, by no event
abbrev pub cause_at : Place → HouseReason → HouseCause
cause_at place why = record { place = Some place; reason = why; event = None }
