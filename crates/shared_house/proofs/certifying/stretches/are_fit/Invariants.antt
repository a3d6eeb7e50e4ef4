use Rattle.std.proofs.Common.{All, ◌≡◌, map, take}
use Rattle.period_order.specs.EntryBooks.{Keep}
use Rattle.shared_house.specs.Inner.Tables.{HasRightTable}
use Rattle.shared_house.specs.Inner.Turns.{AreFit, plain_turn}
use Rattle.shared_house.proofs.certifying.stretches.are_fit.Given as goal

abbrev pub invariant-loop-number : goal.invariant-loop-number
invariant-loop-number l = record {
  config : l.entry_books.config ≡ l.initial.entry_books.config;
  fit : All (λ turn. HasRightTable l.initial.entry_books.config l.events turn.call.now) l.turns →
      AreFit l.initial.entry_books.config l.events (take l.stretch.start (map plain_turn l.turns)) l.stretch.from →
      AreFit l.initial.entry_books.config l.events (take l.number (map plain_turn l.turns)) l.count × Keep l.entry_books (take l.count l.events);
}
