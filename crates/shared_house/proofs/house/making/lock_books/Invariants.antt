use Rattle.std.proofs.Common.{◌≡◌, ◌≤◌, ◌+◌, vec_capacity, vec_len}
use Rattle.shared_house.proofs.house.making.lock_books.Given as goal

abbrev pub invariant-loop-number : goal.invariant-loop-number
invariant-loop-number g l = record {
  entry_parts : l.entries.parts + l._number ≡ l.count;
  amount_parts : l.amounts.parts + l._number ≡ l.count;
  no_entries : l.entries.amount ≡ 0;
  no_amounts : l.amounts.amount ≡ 0;
  len : vec_len l.books ≡ l._number;
  places : l.count ≤ vec_capacity l.books;
}
