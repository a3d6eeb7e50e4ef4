-- What contracts see of a book.
use Rattle.std.specs.Prelude.{Bool, List}
use Rattle.plain_house.specs.declared.entry.BookEntry.{BookEntry}

-- the entries, in the order put, and whether one more finds room without memory
pub record PlainBook : Type 0 where
  pub entries : List BookEntry
  pub has_room : Bool
