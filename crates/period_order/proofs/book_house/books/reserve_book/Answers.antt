use Rattle.std.proofs.Common.{◌<◌, ℕ, Option, IfSome, length, ap, sym, subst, slice_set, ◌∙◌}
use Rattle.period_order.specs.Inner.Kept.{BookHasRoom}
use Rattle.period_order.proofs.KeptLemmas.{borrowed, seen_as_before, stands_there}
use Rattle.period_order.proofs.book_house.books.reserve_book.Goals as goal

pub returns-in_ok-reserve-clause-entries : goal.returns-in_ok-reserve-clause-entries
returns-in_ok-reserve-clause-entries c =
    let within : c.in-Some.number < length c.args.books.now.items = subst (λ (o : Option ℕ). IfSome o (λ n. n < length c.args.books.now.items)) c.in-Some.is c.requires in
    let found = borrowed c.args.books.now.items c.in-Some.number c.index_mut.result.now within c.index_mut.ensures.value in
    seen_as_before (λ book. book.entries) c.args.books.now.items c.in-Some.number c.index_mut.result.now c.reserve.new.self found
    (ap (λ book. book.entries) c.in_ok-reserve.ensures.ok)

pub returns-in_ok-reserve-clause-room : goal.returns-in_ok-reserve-clause-room
returns-in_ok-reserve-clause-room c =
    let within : c.in-Some.number < length c.args.books.now.items = subst (λ (o : Option ℕ). IfSome o (λ n. n < length c.args.books.now.items)) c.in-Some.is c.requires in
    let found = borrowed c.args.books.now.items c.in-Some.number c.index_mut.result.now within c.index_mut.ensures.value in
    subst (BookHasRoom (slice_set c.args.books.now.items c.in-Some.number c.reserve.new.self)) (sym c.in-Some.is)
    (λ book h. ap (λ book. book.has_room) (sym (stands_there (λ book. book.entries) c.args.books.now.items c.in-Some.number c.index_mut.result.now c.reserve.new.self found book h))
    ∙ ap (λ book. book.has_room) c.in_ok-reserve.ensures.ok)
