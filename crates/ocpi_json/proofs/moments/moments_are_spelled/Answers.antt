use Rattle.ocpi_json.proofs.MomentSpelling.{dates_spelled, clocks_spelled, instants_spelled}
use Rattle.ocpi_json.proofs.moments.moments_are_spelled.Goals as goal

pub returns-clause-dates : goal.returns-clause-dates
returns-clause-dates c = dates_spelled

pub returns-clause-clocks : goal.returns-clause-clocks
returns-clause-clocks c = clocks_spelled

pub returns-clause-instants : goal.returns-clause-instants
returns-clause-instants c = instants_spelled
