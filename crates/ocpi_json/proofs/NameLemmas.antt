-- Names that are spelled alike are the same.
use Rattle.std.proofs.Common.{◌≡◌, ℕ, List, [], ◌∷◌, refl, sym, ap, ◌∙◌}
use Rattle.std.specs.Prelude.{find, unwrap_or}
use Rattle.std.specs.Str.{bytes_eq}
use Rattle.ocpi_json.specs.Name.{key_text}
use Rattle.ocpi_json.specs.declared.name.Name.{Name}
use Rattle.ocpi_json.specs.declared.name.Name.TheVariants as name

names : List Name
names =
    name.CountryCode ∷ name.PartyId ∷ name.Uid ∷ name.Type ∷ name.ContractId ∷ name.Valid ∷ name.Whitelist ∷ name.LastUpdated ∷
    name.Id ∷ name.Currency ∷ name.MinPrice ∷ name.MaxPrice ∷ name.ExclVat ∷ name.Elements ∷ name.PriceComponents ∷ name.Price ∷
    name.StepSize ∷ name.Restrictions ∷ name.StartTime ∷ name.EndTime ∷ name.StartDate ∷ name.EndDate ∷ name.MinKwh ∷
    name.MaxKwh ∷ name.MinDuration ∷ name.MaxDuration ∷ name.DayOfWeek ∷ name.Reservation ∷ name.MinCurrent ∷ name.MaxCurrent ∷
    name.MinPower ∷ name.MaxPower ∷ name.StartDateTime ∷ name.EndDateTime ∷ name.CdrToken ∷ name.AuthMethod ∷
    name.AuthorizationReference ∷ name.Tariffs ∷ name.ChargingPeriods ∷ name.Dimensions ∷ name.Volume ∷ name.TariffId ∷
    name.TotalCost ∷ name.TotalEnergy ∷ name.TotalTime ∷ name.Credit ∷ name.CreditReferenceId ∷ name.Version ∷ name.Tolerance ∷
    name.Currencies ∷ name.Operators ∷ name.Party ∷ name.Zone ∷ name.Providers ∷ name.Limits ∷ name.Limit ∷ name.Hold ∷
    name.Platforms ∷ name.Name ∷ name.Parties ∷ name.Hub ∷ name.Cdrs ∷ name.Entries ∷ name.Order ∷ name.Periods ∷
    name.PairLimits ∷ name.Operator ∷ name.Provider ∷ name.CreditWindow ∷ name.Platform ∷ name.Do ∷ name.Token ∷ name.Tariff ∷
    name.Cdr ∷ name.Reference ∷ name.Period ∷ name.Configuration ∷ name.RequestId ∷ []

-- the first of that spelling
spelled : List ℕ → Name
spelled text = unwrap_or (find (λ n. bytes_eq (key_text n) text) names) name.CountryCode

is_spelled : (n : Name) → spelled (key_text n) ≡ n
unfolding spelled names
is_spelled name.CountryCode = refl
is_spelled name.PartyId = refl
is_spelled name.Uid = refl
is_spelled name.Type = refl
is_spelled name.ContractId = refl
is_spelled name.Valid = refl
is_spelled name.Whitelist = refl
is_spelled name.LastUpdated = refl
is_spelled name.Id = refl
is_spelled name.Currency = refl
is_spelled name.MinPrice = refl
is_spelled name.MaxPrice = refl
is_spelled name.ExclVat = refl
is_spelled name.Elements = refl
is_spelled name.PriceComponents = refl
is_spelled name.Price = refl
is_spelled name.StepSize = refl
is_spelled name.Restrictions = refl
is_spelled name.StartTime = refl
is_spelled name.EndTime = refl
is_spelled name.StartDate = refl
is_spelled name.EndDate = refl
is_spelled name.MinKwh = refl
is_spelled name.MaxKwh = refl
is_spelled name.MinDuration = refl
is_spelled name.MaxDuration = refl
is_spelled name.DayOfWeek = refl
is_spelled name.Reservation = refl
is_spelled name.MinCurrent = refl
is_spelled name.MaxCurrent = refl
is_spelled name.MinPower = refl
is_spelled name.MaxPower = refl
is_spelled name.StartDateTime = refl
is_spelled name.EndDateTime = refl
is_spelled name.CdrToken = refl
is_spelled name.AuthMethod = refl
is_spelled name.AuthorizationReference = refl
is_spelled name.Tariffs = refl
is_spelled name.ChargingPeriods = refl
is_spelled name.Dimensions = refl
is_spelled name.Volume = refl
is_spelled name.TariffId = refl
is_spelled name.TotalCost = refl
is_spelled name.TotalEnergy = refl
is_spelled name.TotalTime = refl
is_spelled name.Credit = refl
is_spelled name.CreditReferenceId = refl
is_spelled name.Version = refl
is_spelled name.Tolerance = refl
is_spelled name.Currencies = refl
is_spelled name.Operators = refl
is_spelled name.Party = refl
is_spelled name.Zone = refl
is_spelled name.Providers = refl
is_spelled name.Limits = refl
is_spelled name.Limit = refl
is_spelled name.Hold = refl
is_spelled name.Platforms = refl
is_spelled name.Name = refl
is_spelled name.Parties = refl
is_spelled name.Hub = refl
is_spelled name.Cdrs = refl
is_spelled name.Entries = refl
is_spelled name.Order = refl
is_spelled name.Periods = refl
is_spelled name.PairLimits = refl
is_spelled name.Operator = refl
is_spelled name.Provider = refl
is_spelled name.CreditWindow = refl
is_spelled name.Platform = refl
is_spelled name.Do = refl
is_spelled name.Token = refl
is_spelled name.Tariff = refl
is_spelled name.Cdr = refl
is_spelled name.Reference = refl
is_spelled name.Period = refl
is_spelled name.Configuration = refl
is_spelled name.RequestId = refl

pub same_name : (a b : Name) → key_text a ≡ key_text b → a ≡ b
same_name a b e = sym (is_spelled a) ∙ ap spelled e ∙ is_spelled b
