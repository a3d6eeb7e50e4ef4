use Rattle.std.proofs.Common.{◌≡◌, [], map, take}
use Rattle.period_order.specs.Resolved.{entries_of_books}
use Rattle.period_order.proofs.book_house.books.books.Given as goal

abbrev pub invariant-loop-operator : goal.invariant-loop-operator
invariant-loop-operator l = entries_of_books l.books.items ≡ map (λ operator. []) (take l._operator-index l.config.operators)
