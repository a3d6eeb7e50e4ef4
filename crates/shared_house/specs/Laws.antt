-- What follows from the definitions.
use Rattle.std.specs.Prelude.{◌≡◌, ◌≤◌, ◌≤ℤ◌, ◌<ℤ◌, ◌+ℤ◌, ℕ, ℤ, pos, neg_ℤ, Bool, true, false, List, ◌∷◌, ◌++◌, Some, None, Ok, Err}
use Rattle.ocpi_types.specs.declared.cdr.Cdr.{Cdr}
use Rattle.ocpi_types.specs.declared.config.Config.{Config}
use Rattle.ocpi_types.specs.declared.party.Party.{Party}
use Rattle.ocpi_types.specs.declared.refusal.Refusal.TheVariants as refusal
use Rattle.ocpi_types.specs.Cdr.{is_credit}
use Rattle.cdr_checks.specs.Admission.{IsAdmitted}
use Rattle.cdr_checks.specs.Checked.{Checked}
use Rattle.cdr_checks.specs.declared.request.Close.{Close}
use Rattle.cdr_checks.specs.declared.request.Command.{Command}
use Rattle.cdr_checks.specs.declared.request.Command.TheVariants as command
use Rattle.cdr_checks.specs.declared.request.ExposureOf.{ExposureOf}
use Rattle.netting_positions.specs.declared.positions.NetPosition.{NetPosition}
use Rattle.netting_positions.specs.Netting.{IsBalanced}
use Rattle.plain_house.specs.declared.answer.Answer.TheVariants as answer
use Rattle.plain_house.specs.declared.answer.Refused.{Refused}
use Rattle.plain_house.specs.declared.answer.Replied.{Replied}
use Rattle.plain_house.specs.declared.entry.AccountEntry.{AccountEntry}
use Rattle.plain_house.specs.declared.entry.BookEntry.{BookEntry}
use Rattle.plain_house.specs.declared.entry.BookEntry.TheVariants as book
use Rattle.plain_house.specs.Booked.{Booked}
use Rattle.plain_house.specs.Laws.{most_rows}
use Rattle.plain_house.specs.LegalEntries.{HasBookRoom}
use Rattle.plain_house.specs.LegalLists.{IsCharged, IsTakenBack, KeepsLimits}
use Rattle.plain_house.specs.Posting.{meets_original}
use Rattle.plain_house.specs.ReplyRoom.{FitsIn}
use Rattle.plain_house.specs.Replies.{Reply}
use Rattle.period_order.specs.Kept.{IsConfiguration}
use Rattle.shared_house.specs.Calls.{Returns}

-- ---- what stands under locks

-- no exposure is above its credit limit, by the entries and by each beginning of them
abbrev pub KeepsLimitsThroughout : Config → List AccountEntry → Type 0
KeepsLimitsThroughout config entries = (before later : List AccountEntry) → entries ≡ before ++ later → KeepsLimits config before

-- each CDR costs its price in its operator's zone, with its tariffs stored before it; each Credit CDR takes back one CDR, once, within
-- the credit window; each id is booked once; and there are no more of either kind than may be
pub record KeepsBookRules (config : Config) (entries : List BookEntry) : Type 0 where
  pub charged : (before later : List BookEntry) (cdr : Cdr) (cost period : ℕ) → entries ≡ before ++ book.Cdr cdr cost period ∷ later → IsCharged config before cdr cost
  pub taken_back : (before later : List BookEntry) (credit : Cdr) (amount : ℤ) (period : ℕ) → entries ≡ before ++ book.Credit credit amount period ∷ later → IsTakenBack config before period credit amount
  pub room : (operator : Party) → HasBookRoom config entries operator

-- ---- what calls return

-- at most one row for each currency and party
abbrev pub RepliesOfCallsFit : Type 0
RepliesOfCallsFit =
    (config : Config) (command : Command) (least : ℕ) (reply : Reply) (most : ℕ) → IsConfiguration config → most_rows config ≤ most →
    Returns config command least reply → FitsIn most reply

-- an exposure's holds and debts are together within its limit
abbrev pub ExposuresAreWithinLimits : Type 0
ExposuresAreWithinLimits =
    (config : Config) (ask : ExposureOf) (least : ℕ) (replied : Replied) (holds debts limit : ℤ) →
    Returns config (command.Exposure ask) least (Ok replied) → replied.answer ≡ answer.Exposure holds debts limit → (holds +ℤ debts) ≤ℤ limit

-- a close tells the period that it closes, and net positions that add up to 0 in each currency
abbrev pub ClosesBalance : Type 0
ClosesBalance =
    (config : Config) (close : Close) (least : ℕ) (replied : Replied) (period : ℕ) (positions : List NetPosition) → IsConfiguration config →
    Returns config (command.Close close) least (Ok replied) → replied.answer ≡ answer.Closed period positions → (period ≡ close.period) × IsBalanced positions

-- a CDR is accepted at what its session costs
abbrev pub AcceptedAtTheirCost : Type 0
AcceptedAtTheirCost =
    (config : Config) (checked : Checked) (cost : ℕ) (least : ℕ) (replied : Replied) (amount : ℤ) (period : ℕ) → checked.cost ≡ Some cost →
    Returns config (command.Post checked) least (Ok replied) → replied.answer ≡ answer.Accepted amount period → amount ≡ pos cost

-- a CDR that is booked already is told at what its session costs
abbrev pub RepeatedAtTheirCost : Type 0
RepeatedAtTheirCost =
    (config : Config) (checked : Checked) (cost : ℕ) (least : ℕ) (replied : Replied) (amount : ℤ) (period : ℕ) →
    IsAdmitted config (command.Post checked) → checked.cost ≡ Some cost →
    Returns config (command.Post checked) least (Ok replied) → replied.answer ≡ answer.Repeated amount period → amount ≡ pos cost

-- a CDR that is refused for an exposure above a limit is refused for one that is above it
abbrev pub OverLimitsAreAbove : Type 0
OverLimitsAreAbove =
    (config : Config) (checked : Checked) (least : ℕ) (refused : Refused) (exposure limit : ℤ) (pair : Bool) →
    Returns config (command.Post checked) least (Err refused) → refused.refusal ≡ refusal.OverLimit exposure limit pair → limit <ℤ exposure

-- a Credit CDR takes back some CDR at its amount, negated, which is at most 0: the provider and the currency are the same, and its own
-- total cost is at most 0 and within the tolerance of that
pub record IsDueBack (config : Config) (credit : Cdr) (amount : ℤ) : Type 0 where
  pub original : Booked
  pub no_credit : is_credit original.cdr ≡ false
  pub negated : amount ≡ neg_ℤ original.amount
  pub at_most_0 : amount ≤ℤ pos 0
  pub meets : meets_original config credit original ≡ true

-- so is each that is accepted
abbrev pub AcceptedAsDueBack : Type 0
AcceptedAsDueBack =
    (config : Config) (checked : Checked) (least : ℕ) (replied : Replied) (amount : ℤ) (period : ℕ) → checked.cost ≡ None →
    Returns config (command.Post checked) least (Ok replied) → replied.answer ≡ answer.Accepted amount period → IsDueBack config checked.cdr amount
