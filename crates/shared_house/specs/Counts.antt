-- The amounts that the ledgers sum: those of CDRs and Credit CDRs, however they are signed.
use Rattle.std.specs.Prelude.{ℕ, List, sum_by, unsigned_abs}
use Rattle.plain_house.specs.declared.entry.AccountEntry.{AccountEntry}
use Rattle.plain_house.specs.declared.entry.AccountEntry.TheVariants as account
use Rattle.plain_house.specs.declared.entry.BookEntry.{BookEntry}
use Rattle.plain_house.specs.declared.entry.BookEntry.TheVariants as book

-- what an entry of a book books, either way, in ten-thousandths
abbrev pub book_amount : BookEntry → ℕ
book_amount (book.Tariff tariff) = 0
book_amount (book.Cdr cdr cost period) = cost
book_amount (book.Credit cdr amount period) = unsigned_abs amount

-- and what an entry of an account does
abbrev pub account_amount : AccountEntry → ℕ
account_amount (account.Token token) = 0
account_amount (account.Hold hold) = 0
account_amount (account.Release release) = 0
account_amount (account.Charge charge) = charge.cost
account_amount (account.Credit credit) = unsigned_abs credit.amount
account_amount (account.Settlement settlement) = 0

abbrev pub total_of_book : List BookEntry → ℕ
total_of_book entries = sum_by book_amount entries

abbrev pub total_of_account : List AccountEntry → ℕ
total_of_account entries = sum_by account_amount entries
