use Rattle.std.proofs.Common.{refl}
use Rattle.provider_account.proofs.ChargedLemmas.{other_added}
use Rattle.provider_account.proofs.charged.ChargePlaces.put_other.Goals as goal

pub returns : goal.returns
returns c =
    let updated = rw (c.unwrap.ensures, c.count-nth.ensures, c.of-cdr.ensures) at c.insert.ensures.updates in
    other_added c.args.self.now _ c.args.entries.now c.args.charge.now c.requires.knows c.requires.some refl updated
