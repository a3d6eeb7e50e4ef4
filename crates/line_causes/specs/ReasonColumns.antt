-- The columns `cause`, `found` and `against` of a request that is not admitted.
use Rattle.std.specs.Prelude.{ℕ, List, codes}
use Rattle.cdr_checks.specs.declared.cause.Reason.{Reason}
use Rattle.cdr_checks.specs.declared.cause.Reason.TheVariants as reason
use Rattle.line_causes.specs.declared.value.Value.{Value}
use Rattle.line_causes.specs.declared.value.Value.TheVariants as value

abbrev pub reason_words : Reason → List ℕ
reason_words (reason.NoOperator party) = codes "configured as no operator"
reason_words (reason.NoProvider party) = codes "configured as no provider"
reason_words (reason.NoParty party) = codes "not configured"
reason_words (reason.UnknownPlatform platform) = codes "not configured"
reason_words (reason.NoHub platform) = codes "no hub"
reason_words (reason.ActsNotFor platform party) = codes "does not act for the party"
reason_words (reason.UnknownCurrency currency) = codes "not configured"
reason_words (reason.OtherCurrency found cdr) = codes "not the currency of the CDR"
reason_words (reason.BeforePreceding found preceding) = codes "before the moment in front of it"
reason_words (reason.TariffNotGiven id) = codes "id of no tariff of the CDR"
reason_words reason.NotSupported = codes "bounds on current and power are not supported"
reason_words (reason.Reserved volume) = codes "time of reservation"
reason_words (reason.OtherEnergy found sum) = codes "not the sum of ENERGY"
reason_words (reason.AmountTooLarge most) = codes "rated above the largest amount"
reason_words (reason.FarFromRated declared rated) = codes "farther from the rated cost than the tolerance"

abbrev pub reason_found : Reason → Value
reason_found (reason.NoOperator party) = value.Party party
reason_found (reason.NoProvider party) = value.Party party
reason_found (reason.NoParty party) = value.Party party
reason_found (reason.UnknownPlatform platform) = value.Reference platform
reason_found (reason.NoHub platform) = value.Reference platform
reason_found (reason.ActsNotFor platform party) = value.Reference platform
reason_found (reason.UnknownCurrency currency) = value.Currency currency
reason_found (reason.OtherCurrency found cdr) = value.Currency found
reason_found (reason.BeforePreceding found preceding) = value.Moment found
reason_found (reason.TariffNotGiven id) = value.Reference id
reason_found reason.NotSupported = value.Nothing
reason_found (reason.Reserved volume) = value.Decimal volume
reason_found (reason.OtherEnergy found sum) = value.Decimal found
reason_found (reason.AmountTooLarge most) = value.Nothing
reason_found (reason.FarFromRated declared rated) = value.Decimal declared

abbrev pub reason_against : Reason → Value
reason_against (reason.NoOperator party) = value.Nothing
reason_against (reason.NoProvider party) = value.Nothing
reason_against (reason.NoParty party) = value.Nothing
reason_against (reason.UnknownPlatform platform) = value.Nothing
reason_against (reason.NoHub platform) = value.Nothing
reason_against (reason.ActsNotFor platform party) = value.Party party
reason_against (reason.UnknownCurrency currency) = value.Nothing
reason_against (reason.OtherCurrency found cdr) = value.Currency cdr
reason_against (reason.BeforePreceding found preceding) = value.Moment preceding
reason_against (reason.TariffNotGiven id) = value.Nothing
reason_against reason.NotSupported = value.Nothing
reason_against (reason.Reserved volume) = value.Nothing
reason_against (reason.OtherEnergy found sum) = value.Energy sum
reason_against (reason.AmountTooLarge most) = value.Amount most
reason_against (reason.FarFromRated declared rated) = value.Amount rated
