use Rattle.std.proofs.Common.{refl}
use Rattle.plain_house.specs.declared.entry.AccountEntry.TheVariants as account
use Rattle.provider_account.proofs.ChargedLemmas.{places_kept}
use Rattle.provider_account.proofs.DebtsLemmas.{operators_kept, settled_set}
use Rattle.provider_account.proofs.debts.Debts.put_settlement.Goals as goal

pub returns : goal.returns
returns c =
    let entries = c.args.entries.now in
    let settlement = c.args.settlement.now in
    let self = c.args.self.now in
    let added = rw c.ended_by.ensures at c.settle.ensures.settled in
    record {
      owed = c.end_periods.ensures;
      ended = settled_set self.ended c.settle.new.self entries settlement added c.settle.ensures.credited c.requires.knows.ended;
      charged = places_kept self.charged entries (account.Settlement settlement) refl c.requires.knows.charged;
      operators = operators_kept self.operators.keys entries (account.Settlement settlement) refl c.requires.knows.operators;
    }
