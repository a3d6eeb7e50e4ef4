use Rattle.std.proofs.Common.{◌≡◌, vec_len, length, sum_by}
use Rattle.std.specs.Prelude.{All}
use Rattle.plain_house.specs.LegalEntries.{IsLegalBook}
use Rattle.shared_house.specs.Counts.{total_of_book}
use Rattle.shared_house.proofs.gathered.unlock_books.Given as goal

abbrev pub invariant-loop-lock : goal.invariant-loop-lock
invariant-loop-lock g l = record {
  entry_parts : l.entries.parts ≡ length l.yielded;
  amount_parts : l.amounts.parts ≡ length l.yielded;
  entries : l.entries.amount ≡ sum_by (λ book. length book.entries) l.books.items;
  amounts : l.amounts.amount ≡ sum_by (λ book. total_of_book book.entries) l.books.items;
  len : vec_len l.books ≡ length l.yielded;
  legal : All (λ book. IsLegalBook g.N.BookEntries.Configured.config book.entries) l.books.items;
}
