-- What contracts see of an account.
use Rattle.std.specs.Prelude.{Bool, List}
use Rattle.plain_house.specs.declared.entry.AccountEntry.{AccountEntry}

-- the entries, in the order put, and whether one more finds room without memory
pub record PlainAccount : Type 0 where
  pub entries : List AccountEntry
  pub has_room : Bool
