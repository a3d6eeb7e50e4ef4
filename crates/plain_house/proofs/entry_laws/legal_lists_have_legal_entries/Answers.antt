use Rattle.plain_house.proofs.ListEntryLemmas.{lists_have_entries}
use Rattle.plain_house.proofs.entry_laws.legal_lists_have_legal_entries.Goals as goal

pub returns : goal.returns
returns c = lists_have_entries c.verdicts_are_of_own_entries.ensures c.events_are_of_their_command.ensures c.books_are_of_own_entries.ensures
