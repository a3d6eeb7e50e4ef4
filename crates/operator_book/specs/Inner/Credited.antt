-- Which CDRs are known as credited.
use Rattle.std.specs.Prelude.{◌≡◌, List}
use Rattle.indexmap.specs.IndexSet.{contains}
use Rattle.plain_house.specs.Booked.{is_credited}
use Rattle.plain_house.specs.declared.entry.BookEntry.{BookEntry}
use Rattle.operator_book.specs.Inner.Ids.{same_cdr_key}
use Rattle.operator_book.specs.declared.credited.Credited.{Credited}
use Rattle.operator_book.specs.declared.keys.CdrKey.{CdrKey}

-- those that the entries credit
abbrev pub KnowsCredited : Credited → List BookEntry → Type 0
KnowsCredited credited entries =
    (key : CdrKey) → contains same_cdr_key credited.keys key ≡ is_credited key.operator key.id entries
