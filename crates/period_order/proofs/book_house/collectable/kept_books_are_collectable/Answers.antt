use Rattle.std.proofs.Common.{List, subst, sym}
use Rattle.plain_house.specs.declared.entry.BookEntry.{BookEntry}
use Rattle.period_order.specs.Dues.{AreCollectable}
use Rattle.period_order.specs.Inner.Kept.{kept_events}
use Rattle.period_order.proofs.book_house.collectable.kept_books_are_collectable.Goals as goal

pub returns : goal.returns
returns c =
    let config = c.args.config.now in
    let events = kept_events c.args.books.now c.args.accounts.now c.args.order.now in
    subst (λ (books : List (List BookEntry)). AreCollectable config books events) (sym c.requires.books_are)
    (c.books_are_collectable.ensures config events c.is_bounded.ensures.operators c.is_bounded.ensures.cdrs c.has_distinct_parts.ensures.operators c.requires.legal)
