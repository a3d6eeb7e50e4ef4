use Rattle.provider_account.specs.Inner.Holds.{key_of_release}
use Rattle.provider_account.proofs.holds.Holds.begin.Goals as goal

pub returns-clause-opened : goal.returns-clause-opened
returns-clause-opened c release = (rw (c.unwrap.ensures, c.key_of.ensures) at c.insert.ensures.updates).0 (key_of_release release)
