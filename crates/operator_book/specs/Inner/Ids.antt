-- By which ids the CDRs and Credit CDRs of entries are found.
use Rattle.std.specs.Prelude.{◌≡◌, List, Bool, false, ◌&&◌}
use Rattle.std.specs.List.{position_from}
use Rattle.indexmap.specs.IndexMap.{get}
use Rattle.ocpi_json.specs.Folded.{same_folded}
use Rattle.ocpi_types.specs.Party.{same_party}
use Rattle.plain_house.specs.declared.entry.BookEntry.{BookEntry}
use Rattle.plain_house.specs.declared.entry.BookEntry.TheVariants as book
use Rattle.operator_book.specs.declared.ids.Ids.{Ids}
use Rattle.operator_book.specs.declared.keys.CdrKey.{CdrKey}

abbrev pub same_cdr_key : CdrKey → CdrKey → Bool
same_cdr_key a b = same_party a.operator b.operator && same_folded a.id b.id

-- the entry is a CDR or Credit CDR of that operator and id
abbrev pub is_cdr_at : CdrKey → BookEntry → Bool
is_cdr_at key (book.Tariff tariff) = false
is_cdr_at key (book.Cdr cdr cost period) = same_party cdr.operator key.operator && same_folded cdr.id key.id
is_cdr_at key (book.Credit cdr amount period) = same_party cdr.operator key.operator && same_folded cdr.id key.id

-- each CDR is found by its operator and id; the first where several have the same
abbrev pub FindsCdrs : Ids → List BookEntry → Type 0
FindsCdrs ids entries =
    (key : CdrKey) → get same_cdr_key ids.places.firsts key ≡ position_from (is_cdr_at key) 0 entries
