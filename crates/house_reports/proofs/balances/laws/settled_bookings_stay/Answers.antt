use Rattle.house_reports.proofs.balances.SquareLemmas.{bookings_stay}
use Rattle.house_reports.proofs.balances.laws.settled_bookings_stay.Goals as goal

pub returns : goal.returns
returns c = bookings_stay
