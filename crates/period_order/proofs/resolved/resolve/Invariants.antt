use Rattle.std.proofs.Common.{◌≡◌, take}
use Rattle.plain_house.specs.Entries.{period_of}
use Rattle.period_order.specs.Resolved.{entries_of_accounts, entries_of_books}
use Rattle.period_order.specs.Resolves.{Resolves}
use Rattle.period_order.proofs.resolved.resolve.Given as goal

abbrev pub invariant-loop-entry : goal.invariant-loop-entry
invariant-loop-entry l =
    Resolves (entries_of_books l.books) (entries_of_accounts l.accounts) (take l.entry-index l.order) l.events.items
    × (l.period ≡ period_of l.events.items)
