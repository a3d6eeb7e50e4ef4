-- What is replied to a CDR or a Credit CDR that an operator posts (OCPI 2.2.1, CDR object: a CDR is never edited, a Credit
-- CDR takes one back).
use Rattle.std.specs.Prelude.{ℕ, ◌+◌, ℤ, pos, neg_ℤ, int_le, nat_le, nat_lt, Bool, true, false, not, List, [], ◌∷◌, ◌++◌, Option, Some, None, is_none, option_and_then, Result, Ok, Err, if◌then◌else◌}
use Rattle.std.specs.Option.{option_or}
use Rattle.ocpi_types.specs.declared.cdr.Cdr.{Cdr}
use Rattle.ocpi_types.specs.declared.config.Config.{Config}
use Rattle.ocpi_types.specs.declared.refusal.Refusal.{Refusal}
use Rattle.ocpi_types.specs.declared.refusal.Refusal.TheVariants as refusal
use Rattle.ocpi_types.specs.Cdr.{is_credit}
use Rattle.ocpi_types.specs.Config.{limit_of, pair_limit_of}
use Rattle.ocpi_types.specs.Currency.{same_currency}
use Rattle.ocpi_types.specs.Party.{same_party}
use Rattle.ocpi_types.specs.SameCdr.{same_cdr}
use Rattle.cdr_checks.specs.FirstRefusal.{◌>>=◌, ensure, or_refusal}
use Rattle.cdr_checks.specs.CdrConditions.{is_within_tolerance}
use Rattle.plain_house.specs.declared.answer.Answer.{Answer}
use Rattle.plain_house.specs.declared.answer.Answer.TheVariants as answer
use Rattle.plain_house.specs.declared.entry.AccountEntry.{AccountEntry}
use Rattle.plain_house.specs.declared.entry.AccountEntry.TheVariants as account
use Rattle.plain_house.specs.declared.entry.BookEntry.{BookEntry}
use Rattle.plain_house.specs.declared.entry.Charge.{Charge}
use Rattle.plain_house.specs.declared.posting.CreditDifference.{CreditDifference}
use Rattle.plain_house.specs.declared.posting.CreditDifference.TheVariants.{Provider, Currency, AboveZero, Cost}
use Rattle.plain_house.specs.Booked.{Booked, booked_as, is_credited}
use Rattle.plain_house.specs.Exposure.{of_provider, of_pair, exposure_of}
use Rattle.plain_house.specs.Tariffs.{lacks_registered}
use Rattle.plain_house.specs.Verdict.{Case, first_reply}

-- ---- what the operator's book says

-- its id is booked already, with the same content or with another
abbrev pub booked_already : Cdr → Option Booked → Case
booked_already cdr None = None
booked_already cdr (Some found) =
    Some (if same_cdr found.cdr cdr then Ok (answer.Repeated found.amount found.period) else Err refusal.Conflict)

-- a tariff of it is not registered
abbrev pub unless_registered : Bool → Case
unless_registered true = Some (Err refusal.TariffNotRegistered)
unless_registered false = None

-- what the book replies to a CDR by itself
abbrev pub judged_cdr : Cdr → List BookEntry → Case
judged_cdr cdr entries =
    first_reply
    (booked_already cdr (booked_as cdr.operator cdr.id entries) ∷ unless_registered (lacks_registered cdr entries) ∷ [])

-- the CDR that a Credit CDR names
abbrev pub original_of : Cdr → List BookEntry → Option Booked
original_of credit entries = option_and_then (λ id. booked_as credit.operator id entries) credit.credit

-- the period of a Credit CDR is at most the credit window above its original's; without a window it always is
abbrev pub is_in_window : Option ℕ → ℕ → ℕ → Bool
is_in_window None original current = true
is_in_window (Some window) original current = nat_le current (original + window)

-- the first of these for a Credit CDR and its original: another provider, another currency, a total cost above 0, a total cost
-- farther than the tolerance from the negated amount
unfoldable pub credit_difference : Config → Cdr → Booked → Option CreditDifference
credit_difference config credit original =
    if same_party credit.cdr_token.provider original.cdr.cdr_token.provider
    then (if same_currency credit.currency original.cdr.currency
    then (if int_le credit.total_cost (pos 0)
    then (if is_within_tolerance config.tolerance credit.total_cost (neg_ℤ original.amount) then None else Some Cost)
    else Some AboveZero)
    else Some Currency)
    else Some Provider

-- none of these
abbrev pub meets_original : Config → Cdr → Booked → Bool
meets_original config credit original = is_none (credit_difference config credit original)

-- the negated amount of an original, or why it cannot be credited; with whether it is credited already
abbrev pub taken_back : Config → ℕ → Cdr → Bool → Booked → Result ℤ Refusal
taken_back config period credit credited original = do
  _ ← ensure (not (is_credit original.cdr)) refusal.CreditOfCredit
  _ ← ensure (not credited) refusal.AlreadyCredited
  _ ← ensure (is_in_window config.credit_window original.period period) (refusal.TooLate original.period period)
  _ ← ensure (meets_original config credit original) refusal.CreditDiffers
  Ok (neg_ℤ original.amount)

-- the amount of a Credit CDR
abbrev pub credited_amount : Config → ℕ → Cdr → List BookEntry → Result ℤ Refusal
credited_amount config period credit entries = do
  original ← or_refusal refusal.UnknownOriginal (original_of credit entries)
  taken_back config period credit (is_credited original.cdr.operator original.cdr.id entries) original

-- the amount, or what is replied by the book
abbrev pub judged_by : Case → Result ℤ Refusal → Result ℤ (Result Answer Refusal)
judged_by (Some reply) amount = Err reply
judged_by None (Ok amount) = Ok amount
judged_by None (Err refusal) = Err (Err refusal)

-- the amount at which the book takes a Credit CDR, or what it replies by itself
abbrev pub judged_credit : Config → ℕ → Cdr → List BookEntry → Result ℤ (Result Answer Refusal)
judged_credit config period credit entries =
    judged_by (booked_already credit (booked_as credit.operator credit.id entries)) (credited_amount config period credit entries)

-- ---- what the provider's account says

-- an exposure above its limit
abbrev pub above : ℕ → ℕ → Bool → Option Refusal
above limit exposure pair =
    if nat_lt limit exposure then Some (refusal.OverLimit (pos exposure) (pos limit) pair) else None

abbrev pub above_if_any : Option ℕ → ℕ → Option Refusal
above_if_any None exposure = None
above_if_any (Some limit) exposure = above limit exposure true

-- with the charge added, the exposure would be above the provider's limit, or its limit with the operator
abbrev pub over_limit : Config → Charge → List AccountEntry → Option Refusal
over_limit config charge entries =
    option_or
    (above (limit_of config charge.provider charge.currency) (exposure_of (of_provider charge.provider charge.currency) (entries ++ account.Charge charge ∷ [])) false)
    (above_if_any (pair_limit_of config charge.operator charge.provider charge.currency) (exposure_of (of_pair charge.operator charge.provider charge.currency) (entries ++ account.Charge charge ∷ [])))
