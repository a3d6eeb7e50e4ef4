-- The refusals: name, number and status code (OCPI 2.2.1, section 'Status codes').
use Rattle.std.specs.Prelude.{ℕ, List, [], ◌++◌, codes, decimal, if◌then◌else◌}
use Rattle.exact_money.specs.Amount.{amount_text}
use Rattle.ocpi_json.specs.Name.{key_text}
use Rattle.ocpi_types.specs.declared.refusal.Store.{Store}
use Rattle.ocpi_types.specs.declared.refusal.Store.TheVariants.{Cdrs, Tariffs, Account, Order, Periods}
use Rattle.ocpi_types.specs.declared.refusal.Refusal.{Refusal}
use Rattle.ocpi_types.specs.declared.refusal.Refusal.TheVariants.{Syntax, Field, UnknownParty, NotYours, WrongCurrency, BadDates, TariffNotGiven, UnsupportedRestriction, Reservation, EnergyMismatch, AmountTooLarge, CostMismatch, Conflict, TariffNotRegistered, UnknownToken, UnknownHold, UnknownOriginal, CreditOfCredit, AlreadyCredited, CreditDiffers, NotCurrent, PeriodOpen, AlreadySettled, UnknownCdr, Full, OverLimit, NoMemory, TooLate}

abbrev pub store_name : Store → List ℕ
store_name Cdrs = codes "Cdrs"
store_name Tariffs = codes "Tariffs"
store_name Account = codes "Account"
store_name Order = codes "Order"
store_name Periods = codes "Periods"

-- what is written of a refusal
pub record RefusalRow : Type 0 where
  pub name : List ℕ
  pub number : ℕ
  pub status : ℕ

abbrev row : List ℕ → ℕ → ℕ → RefusalRow
row name number status = record { name = name; number = number; status = status }

-- 2001 invalid or missing parameters, 2004 unknown token, 3000 generic server error, 2000 generic client error
abbrev pub refusal_row : Refusal → RefusalRow
refusal_row Syntax = row (codes "Syntax") 1 2001
refusal_row (Field called) = row (codes "Field") 2 2001
refusal_row UnknownParty = row (codes "UnknownParty") 3 2000
refusal_row NotYours = row (codes "NotYours") 4 2000
refusal_row WrongCurrency = row (codes "WrongCurrency") 5 2000
refusal_row BadDates = row (codes "BadDates") 6 2000
refusal_row TariffNotGiven = row (codes "TariffNotGiven") 7 2000
refusal_row UnsupportedRestriction = row (codes "UnsupportedRestriction") 8 2000
refusal_row Reservation = row (codes "Reservation") 9 2000
refusal_row EnergyMismatch = row (codes "EnergyMismatch") 10 2000
refusal_row AmountTooLarge = row (codes "AmountTooLarge") 11 2000
refusal_row (CostMismatch rated) = row (codes "CostMismatch") 12 2000
refusal_row Conflict = row (codes "Conflict") 13 2000
refusal_row TariffNotRegistered = row (codes "TariffNotRegistered") 14 2000
refusal_row UnknownToken = row (codes "UnknownToken") 15 2004
refusal_row UnknownHold = row (codes "UnknownHold") 16 2000
refusal_row UnknownOriginal = row (codes "UnknownOriginal") 17 2000
refusal_row CreditOfCredit = row (codes "CreditOfCredit") 18 2000
refusal_row AlreadyCredited = row (codes "AlreadyCredited") 19 2000
refusal_row CreditDiffers = row (codes "CreditDiffers") 20 2000
refusal_row (NotCurrent current) = row (codes "NotCurrent") 21 2000
refusal_row PeriodOpen = row (codes "PeriodOpen") 22 2000
refusal_row AlreadySettled = row (codes "AlreadySettled") 23 2000
refusal_row UnknownCdr = row (codes "UnknownCdr") 24 2000
refusal_row (Full what) = row (codes "Full") 25 3000
refusal_row (OverLimit exposure limit pair) = row (codes "OverLimit") 26 2000
refusal_row NoMemory = row (codes "NoMemory") 27 3000
refusal_row (TooLate original current) = row (codes "TooLate") 28 2000

abbrev pub refusal_name : Refusal → List ℕ
refusal_name refusal = (refusal_row refusal).name

abbrev pub refusal_number : Refusal → ℕ
refusal_number refusal = (refusal_row refusal).number

abbrev pub refusal_status : Refusal → ℕ
refusal_status refusal = (refusal_row refusal).status

-- the message of a refusal: its name, and then its values
abbrev pub refusal_text : Refusal → List ℕ
refusal_text (Field called) = codes "Field " ++ key_text called
refusal_text (CostMismatch rated) = codes "CostMismatch rated " ++ amount_text rated
refusal_text (NotCurrent current) = codes "NotCurrent current " ++ decimal current
refusal_text (Full what) = codes "Full " ++ store_name what
refusal_text (OverLimit exposure limit pair) =
    codes "OverLimit exposure " ++ (amount_text exposure ++ (codes " limit " ++ (amount_text limit ++ (if pair then codes " pair" else []))))
refusal_text (TooLate original current) = codes "TooLate original " ++ (decimal original ++ (codes " current " ++ decimal current))
refusal_text refusal = refusal_name refusal
