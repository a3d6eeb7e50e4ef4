-- The columns `cause`, `found` and `against` of a command that the house refuses.
use Rattle.std.specs.Prelude.{ℕ, List, Bool, true, false, Option, Some, None, codes}
use Rattle.ocpi_types.specs.declared.party.Party.{Party}
use Rattle.ocpi_types.specs.declared.refusal.Store.{Store}
use Rattle.ocpi_types.specs.declared.refusal.Store.TheVariants as store
use Rattle.house_causes.specs.declared.house_cause.HouseReason.{HouseReason}
use Rattle.house_causes.specs.declared.house_cause.HouseReason.TheVariants as house
use Rattle.line_causes.specs.declared.value.Value.{Value}
use Rattle.line_causes.specs.declared.value.Value.TheVariants as value

-- an exposure above the limit of a provider, or above that of a provider with one operator
abbrev pub limit_words : Bool → List ℕ
limit_words true = codes "above the limit with the operator"
limit_words false = codes "above the provider's limit"

-- the member of the configuration that has the limit
abbrev pub store_words : Store → List ℕ
store_words store.Cdrs = codes "limits.cdrs reached"
store_words store.Tariffs = codes "limits.tariffs reached"
store_words store.Account = codes "limits.entries reached"
store_words store.Order = codes "limits.order reached"
store_words store.Periods = codes "limits.periods reached"

abbrev pub house_words : HouseReason → List ℕ
house_words house.StoredOtherwise = codes "stored with another one"
house_words (house.BookedOtherwise amount) = codes "booked with another one"
house_words (house.OfAnotherOperator found operator) = codes "of another operator"
house_words house.RegisteredOtherwise = codes "stored with another one; {} and no restrictions differ"
house_words (house.NotRegistered last_updated) = codes "version that is not stored"
house_words (house.NotPut uid) = codes "token that is not put"
house_words (house.OfAnotherType found put) = codes "put as of another type"
house_words (house.NotValid uid) = codes "token that is not valid"
house_words (house.NotCovered over) = limit_words over.pair
house_words (house.NeverGiven reference) = codes "never given"
house_words (house.GivenToAnother reference operator) = codes "given to another operator"
house_words (house.ReleasedAlready reference) = codes "released already"
house_words (house.UsedUp reference cdr) = codes "used up by a CDR"
house_words (house.NoOriginal id) = codes "id of no CDR of the operator"
house_words (house.OfCredit id) = codes "id of a Credit CDR"
house_words (house.CreditedAlready id credit) = codes "credited already"
house_words (house.BeforeWindow original current) = codes "of a period before the credit window"
house_words (house.OtherProvider found cdr) = codes "not the provider of the CDR"
house_words (house.OtherCurrency found cdr) = codes "not the currency of the CDR"
house_words (house.AboveZero cost) = codes "above 0"
house_words (house.FarFromNegated cost negated) = codes "farther from the negated amount than the tolerance"
house_words (house.ClosedAlready period current) = codes "closed already"
house_words (house.NotCurrentYet period current) = codes "not the current one yet"
house_words (house.NotClosedYet period current) = codes "not closed yet"
house_words (house.SettledAlready period) = codes "settled already"
house_words (house.NoCdr id) = codes "id of no CDR of the operator"
house_words (house.Full what party limit) = store_words what
house_words (house.AboveLimit exposure limit pair) = limit_words pair

-- the party whose store is full; none if the store is the house's own
abbrev pub party_if : Option Party → Value
party_if None = value.Nothing
party_if (Some party) = value.Party party

abbrev pub house_found : HouseReason → Value
house_found house.StoredOtherwise = value.Nothing
house_found (house.BookedOtherwise amount) = value.Nothing
house_found (house.OfAnotherOperator found operator) = value.Party found
house_found house.RegisteredOtherwise = value.Nothing
house_found (house.NotRegistered last_updated) = value.Moment last_updated
house_found (house.NotPut uid) = value.Reference uid
house_found (house.OfAnotherType found put) = value.Kind found
house_found (house.NotValid uid) = value.Reference uid
house_found (house.NotCovered over) = value.Amount over.exposure
house_found (house.NeverGiven reference) = value.Reference reference
house_found (house.GivenToAnother reference operator) = value.Reference reference
house_found (house.ReleasedAlready reference) = value.Reference reference
house_found (house.UsedUp reference cdr) = value.Reference reference
house_found (house.NoOriginal id) = value.Id id
house_found (house.OfCredit id) = value.Id id
house_found (house.CreditedAlready id credit) = value.Id id
house_found (house.BeforeWindow original current) = value.Number original
house_found (house.OtherProvider found cdr) = value.Party found
house_found (house.OtherCurrency found cdr) = value.Currency found
house_found (house.AboveZero cost) = value.Decimal cost
house_found (house.FarFromNegated cost negated) = value.Decimal cost
house_found (house.ClosedAlready period current) = value.Number period
house_found (house.NotCurrentYet period current) = value.Number period
house_found (house.NotClosedYet period current) = value.Number period
house_found (house.SettledAlready period) = value.Number period
house_found (house.NoCdr id) = value.Id id
house_found (house.Full what party limit) = party_if party
house_found (house.AboveLimit exposure limit pair) = value.Amount exposure

abbrev pub house_against : HouseReason → Value
house_against house.StoredOtherwise = value.Nothing
house_against (house.BookedOtherwise amount) = value.Amount amount
house_against (house.OfAnotherOperator found operator) = value.Party operator
house_against house.RegisteredOtherwise = value.Nothing
house_against (house.NotRegistered last_updated) = value.Nothing
house_against (house.NotPut uid) = value.Nothing
house_against (house.OfAnotherType found put) = value.Kind put
house_against (house.NotValid uid) = value.Nothing
house_against (house.NotCovered over) = value.Amount over.limit
house_against (house.NeverGiven reference) = value.Nothing
house_against (house.GivenToAnother reference operator) = value.Party operator
house_against (house.ReleasedAlready reference) = value.Nothing
house_against (house.UsedUp reference cdr) = value.Id cdr
house_against (house.NoOriginal id) = value.Nothing
house_against (house.OfCredit id) = value.Nothing
house_against (house.CreditedAlready id credit) = value.Id credit
house_against (house.BeforeWindow original current) = value.Number current
house_against (house.OtherProvider found cdr) = value.Party cdr
house_against (house.OtherCurrency found cdr) = value.Currency cdr
house_against (house.AboveZero cost) = value.Nothing
house_against (house.FarFromNegated cost negated) = value.Amount negated
house_against (house.ClosedAlready period current) = value.Number current
house_against (house.NotCurrentYet period current) = value.Number current
house_against (house.NotClosedYet period current) = value.Number current
house_against (house.SettledAlready period) = value.Nothing
house_against (house.NoCdr id) = value.Nothing
house_against (house.Full what party limit) = value.Number limit
house_against (house.AboveLimit exposure limit pair) = value.Amount limit
