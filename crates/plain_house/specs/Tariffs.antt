-- The tariff versions that books hold. A version is known by operator, id and `last_updated`.
use Rattle.std.specs.Prelude.{Bool, not, ◌&&◌, List, [], ◌∷◌, Option, find, flat_map}
use Rattle.std.specs.List.{list_any}
use Rattle.std.specs.Ordering.{int_eq}
use Rattle.ocpi_json.specs.Folded.{same_folded}
use Rattle.ocpi_types.specs.declared.cdr.Cdr.{Cdr}
use Rattle.ocpi_types.specs.declared.party.Party.{Party}
use Rattle.ocpi_types.specs.declared.tariff.Tariff.{Tariff}
use Rattle.ocpi_types.specs.Party.{same_party}
use Rattle.ocpi_types.specs.SameTariff.{same_tariff}
use Rattle.plain_house.specs.declared.entry.BookEntry.{BookEntry}
use Rattle.plain_house.specs.declared.entry.BookEntry.TheVariants as book

abbrev pub version_in : BookEntry → List Tariff
version_in (book.Tariff tariff) = tariff ∷ []
version_in (book.Cdr cdr cost period) = []
version_in (book.Credit cdr amount period) = []

abbrev pub tariff_versions : List BookEntry → List Tariff
tariff_versions entries = flat_map version_in entries

abbrev pub same_version : Tariff → Tariff → Bool
same_version tariff version =
    same_party tariff.operator version.operator && same_folded tariff.id version.id
    && int_eq tariff.last_updated.nanosecond version.last_updated.nanosecond

-- the stored version of that operator, id and moment
abbrev pub stored_version : Tariff → List BookEntry → Option Tariff
stored_version version entries = find (λ tariff. same_version tariff version) (tariff_versions entries)

-- the operator has stored a version with the content of this tariff
abbrev pub is_registered : Party → List BookEntry → Tariff → Bool
is_registered operator entries tariff =
    list_any (λ version. same_party version.operator operator && same_tariff version tariff) (tariff_versions entries)

-- one of the CDR's tariffs is no stored version of its operator
abbrev pub lacks_registered : Cdr → List BookEntry → Bool
lacks_registered cdr entries = list_any (λ tariff. not (is_registered cdr.operator entries tariff)) cdr.tariffs
