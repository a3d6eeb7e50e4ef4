use Rattle.house_core.proofs.laws.house_laws.Goals as goal

pub returns : goal.returns
returns c = record {
  own = c.verdicts_are_of_own_entries.ensures;
  legal = c.commands_keep_lists_legal.ensures;
  parties = c.commands_have_parties.ensures;
  counted = c.orders_are_counted.ensures;
  standing = c.parties_stand_at_their_numbers.ensures;
  kept = c.events_are_kept.ensures;
  resolved = c.orders_are_resolved.ensures;
  resolve = c.orders_resolve.ensures;
  own_dues = c.dues_are_of_own_books.ensures;
  collectable = c.books_are_collectable.ensures;
  collected = c.collected_owes_alike.ensures;
  stay = c.closed_periods_stay.ensures;
  dated = c.entries_are_dated.ensures;
  net = c.sums_decide_net_positions.ensures;
  no_larger = c.sums_are_no_larger.ensures;
  stated = c.sums_decide_statements.ensures;
}
