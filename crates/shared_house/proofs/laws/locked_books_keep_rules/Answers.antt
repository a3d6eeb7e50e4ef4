use Rattle.std.proofs.Common.{List, subst}
use Rattle.plain_house.specs.declared.entry.BookEntry.{BookEntry}
use Rattle.plain_house.specs.LegalEntries.{IsLegalBook}
use Rattle.shared_house.proofs.laws.locked_books_keep_rules.Goals as goal

pub returns : goal.returns
returns g c =
    let config = g.N.BookEntries.Configured.config in
    let legal = c.entries-entries.ensures.legal in
    record {
      charged = λ before later cdr cost period is. c.legal_books_are_charged.ensures config before later cdr cost period (subst (λ (l : List BookEntry). IsLegalBook config l) is legal);
      taken_back = λ before later credit amount period is. c.legal_books_are_taken_back.ensures config before later credit amount period (subst (λ (l : List BookEntry). IsLegalBook config l) is legal);
      room = λ operator. c.legal_books_have_room.ensures config c.args.held.now.entries operator legal;
    }
