-- How large tallies grow: up to 1,000 periods, each with at most 10^33 units and 10^17 of the volume.
use Rattle.std.specs.Prelude.{◌≡◌, ◌+◌, ◌^◌, ◌≤◌}
use Rattle.cdr_rating.specs.declared.measure.Measure.{Measure}
use Rattle.cdr_rating.specs.declared.tally.Tally.{Tally}

-- a tally of this measure, to which one more period can be added
pub record HasRoom (measure : Measure) (tally : Tally) : Type 0 where
  pub same : tally.measure ≡ measure
  pub cost : tally.cost ≤ 10 ^ 36
  pub volume : tally.volume ≤ 10 ^ 20

-- a tally to which at most one period was added
pub record IsOneMore (old new : Tally) : Type 0 where
  pub cost : new.cost ≤ old.cost + 10 ^ 33
  pub volume : new.volume ≤ old.volume + 10 ^ 17
