-- By what the tariff versions of entries are found.
use Rattle.std.specs.Prelude.{◌≡◌, List, Bool, false, ◌&&◌, Option, None, Some, ⊤}
use Rattle.std.specs.List.{position_from}
use Rattle.std.specs.Ordering.{int_eq}
use Rattle.indexmap.specs.IndexMap.{get}
use Rattle.ocpi_json.specs.Folded.{same_folded}
use Rattle.ocpi_types.specs.declared.party.Party.{Party}
use Rattle.ocpi_types.specs.declared.tariff.Tariff.{Tariff}
use Rattle.ocpi_types.specs.Party.{same_party}
use Rattle.ocpi_types.specs.SameTariff.{same_tariff}
use Rattle.plain_house.specs.Tariffs.{is_registered, stored_version}
use Rattle.plain_house.specs.declared.entry.BookEntry.{BookEntry}
use Rattle.plain_house.specs.declared.entry.BookEntry.TheVariants as book
use Rattle.operator_book.specs.declared.keys.VersionKey.{VersionKey}
use Rattle.operator_book.specs.declared.versions.Versions.{Versions}

abbrev pub same_version_key : VersionKey → VersionKey → Bool
same_version_key a b =
    same_party a.operator b.operator
    && (same_folded a.id b.id && int_eq a.last_updated.nanosecond b.last_updated.nanosecond)

-- the entry is a tariff version of that operator, id and moment
abbrev pub is_version_at : VersionKey → BookEntry → Bool
is_version_at key (book.Tariff tariff) =
    same_party tariff.operator key.operator && same_folded tariff.id key.id
    && int_eq tariff.last_updated.nanosecond key.last_updated.nanosecond
is_version_at key (book.Cdr cdr cost period) = false
is_version_at key (book.Credit cdr amount period) = false

-- each version is found by its operator, id and moment; the first where several have the same
abbrev pub FindsVersions : Versions → List BookEntry → Type 0
FindsVersions versions entries =
    (key : VersionKey) → get same_version_key versions.places.firsts key ≡ position_from (is_version_at key) 0 entries

-- the version is the operator's, and has the content of the tariff
abbrev pub registers : Party → Tariff → Option Tariff → Bool
registers operator tariff None = false
registers operator tariff (Some version) = same_party version.operator operator && same_tariff version tariff

-- the stored version of its operator, id and moment decides whether a tariff is registered
abbrev pub StoresEachOnce : List BookEntry → Type 0
StoresEachOnce entries =
    (operator : Party) (tariff : Tariff) → is_registered operator entries tariff ≡ registers operator tariff (stored_version tariff entries)

-- where the entry is a tariff version, it is not stored
abbrev pub IsNewVersion : List BookEntry → BookEntry → Type 0
IsNewVersion entries (book.Tariff tariff) = stored_version tariff entries ≡ None
IsNewVersion entries (book.Cdr cdr cost period) = ⊤
IsNewVersion entries (book.Credit cdr amount period) = ⊤
