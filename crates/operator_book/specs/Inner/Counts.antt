-- How many CDRs and tariff versions of each operator are counted.
use Rattle.std.specs.Prelude.{◌≡◌, ℕ, Bool, List, [], ◌∷◌, Option, None, Some, if◌then◌else◌, count_by, unwrap_or}
use Rattle.indexmap.specs.IndexMap.{get}
use Rattle.ocpi_types.specs.Party.{same_party}
use Rattle.ocpi_types.specs.declared.party.Party.{Party}
use Rattle.plain_house.specs.Full.{is_cdr_of, is_version_of}
use Rattle.plain_house.specs.declared.entry.BookEntry.{BookEntry}
use Rattle.operator_book.specs.declared.counts.CountsByOperator.{CountsByOperator}

abbrev pub counted : CountsByOperator → Party → ℕ
counted tally operator = unwrap_or (get same_party tally.counts operator) 0

-- the number of the first entry, if its key passes the test
abbrev pub first_if : {K : Type 0} → (K → Bool) → List (K × ℕ) → Option ℕ
first_if test [] = None
first_if test (entry ∷ entries) = if test entry.0 then Some entry.1 else None

-- those that the entries have
abbrev pub CountsCdrs : CountsByOperator → List BookEntry → Type 0
CountsCdrs tally entries = (operator : Party) → counted tally operator ≡ count_by (is_cdr_of operator) entries

abbrev pub CountsVersions : CountsByOperator → List BookEntry → Type 0
CountsVersions tally entries = (operator : Party) → counted tally operator ≡ count_by (is_version_of operator) entries
