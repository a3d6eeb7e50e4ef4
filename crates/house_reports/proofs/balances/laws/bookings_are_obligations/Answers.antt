use Rattle.house_reports.proofs.balances.ObligationLemmas.{are_obligations}
use Rattle.house_reports.proofs.balances.laws.bookings_are_obligations.Goals as goal

pub returns : goal.returns
returns c = are_obligations
