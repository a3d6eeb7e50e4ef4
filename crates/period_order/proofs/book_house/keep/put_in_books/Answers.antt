use Rattle.std.proofs.Common.{◌≡◌, ◌<◌, ℕ, Option, IfSome, length, sym, subst, slice_set}
use Rattle.plain_house.specs.Entries.{book_entry}
use Rattle.period_order.specs.Kept.{with_added}
use Rattle.period_order.specs.Inner.Kept.{BookHasRoom, BookTakesAt}
use Rattle.period_order.specs.Resolved.{entries_of_books}
use Rattle.period_order.proofs.KeptLemmas.{borrowed, longer}
use Rattle.period_order.proofs.book_house.keep.put_in_books.Goals as goal

pub put_in_book-requires : goal.put_in_book-requires
put_in_book-requires c =
    let items = c.args.books.now.items in
    let within : c.in-Some.number < length items = subst (λ (o : Option ℕ). IfSome o (λ n. n < length items)) c.in-Some.is c.requires.number in
    let found = borrowed items c.in-Some.number c.index_mut.result.now within c.index_mut.ensures.value in
    let room = subst (BookHasRoom items) c.in-Some.is c.requires.room in
    let takes = subst (λ (o : Option ℕ). BookTakesAt items o c.args.event) c.in-Some.is c.requires.takes in
    record { room = room c.index_mut.result.now found; takes = takes c.index_mut.result.now found }

pub returns-in-Some : goal.returns-in-Some
returns-in-Some c =
    let items = c.args.books.now.items in
    let within : c.in-Some.number < length items = subst (λ (o : Option ℕ). IfSome o (λ n. n < length items)) c.in-Some.is c.requires.number in
    let found = borrowed items c.in-Some.number c.index_mut.result.now within c.index_mut.ensures.value in
    subst (λ (o : Option ℕ). entries_of_books (slice_set items c.in-Some.number c.put_in_book.new.book) ≡ with_added (entries_of_books items) o (book_entry c.args.event c.args.period)) (sym c.in-Some.is)
    (longer (λ book. book.entries) items c.in-Some.number c.index_mut.result.now c.put_in_book.new.book found (book_entry c.args.event c.args.period) c.put_in_book.ensures)
