use Rattle.std.proofs.Common.{List, arith, sym, subst}
use Rattle.std.specs.Prelude.{All}
use Rattle.std.proofs.lemmas.Grind.{common_steps}
use Rattle.std.proofs.lemmas.List.Elements.{All-push}
use Rattle.operator_book.specs.declared.book.Book.{Book}
use Rattle.plain_house.specs.LegalEntries.{IsLegalBook}
use Rattle.shared_house.proofs.gathered.unlock_books.Goals as goal

pub loop-lock-preserved : goal.loop-lock-preserved
loop-lock-preserved g c = record {
  entry_parts = grind (arith, common_steps);
  amount_parts = grind (arith, common_steps);
  entries = grind (arith, common_steps);
  amounts = grind (arith, common_steps);
  len = grind (arith, common_steps);
  legal = subst (λ (l : List Book). All (λ (book : Book). IsLegalBook g.N.BookEntries.Configured.config book.entries) l) (sym c.in_ok-push.ensures.items)
      (All-push (λ (book : Book). IsLegalBook g.N.BookEntries.Configured.config book.entries) c.loop-lock.books.items c.book.inside.book c.loop-lock.invariant.legal c.book.invariant.legal);
}
