use Rattle.std.proofs.Common.{◌≡◌, [], map, take}
use Rattle.period_order.specs.Resolved.{entries_of_accounts}
use Rattle.period_order.proofs.book_house.books.accounts.Given as goal

abbrev pub invariant-loop-provider : goal.invariant-loop-provider
invariant-loop-provider l = entries_of_accounts l.accounts.items ≡ map (λ provider. []) (take l._provider-index l.config.providers)
