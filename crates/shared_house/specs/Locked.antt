-- What is so of a book and of an account whenever its lock is free.
use Rattle.std.specs.Prelude.{◌≡◌, ℕ, ◌+◌, List, length, Option, Some, None}
use Rattle.ocpi_types.specs.declared.config.Config.{Config}
use Rattle.plain_house.specs.declared.entry.AccountEntry.{AccountEntry}
use Rattle.plain_house.specs.declared.entry.BookEntry.{BookEntry}
use Rattle.plain_house.specs.LegalEntries.{IsLegalAccount, IsLegalBook}
use Rattle.shared_house.specs.Counts.{total_of_account, total_of_book}

-- what shares count: entries, and the sum of their amounts
pub record PlainShares : Type 0 where
  pub entries : ℕ
  pub amounts : ℕ

-- the shares, if any, with a count of entries and an amount added
abbrev pub raised : Option PlainShares → ℕ → ℕ → Option PlainShares
raised None count amount = None
raised (Some shares) count amount = Some (record { entries = shares.entries + count; amounts = shares.amounts + amount })

-- the entries are legal, and the shares are their number and the sum of their amounts
pub record IsCountedBook (config : Config) (entries : List BookEntry) (shares : PlainShares) : Type 0 where
  pub legal : IsLegalBook config entries
  pub counted : shares.entries ≡ length entries
  pub summed : shares.amounts ≡ total_of_book entries

pub record IsCountedAccount (config : Config) (entries : List AccountEntry) (shares : PlainShares) : Type 0 where
  pub legal : IsLegalAccount config entries
  pub counted : shares.entries ≡ length entries
  pub summed : shares.amounts ≡ total_of_account entries
