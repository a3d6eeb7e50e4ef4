-- Sums over priced volumes, as they grow.
use Rattle.std.specs.Prelude.{ℕ, ◌+◌, ◌*◌, ◌^◌, nat_lt, List, Option, Some, None, if◌then◌else◌}
use Rattle.std.specs.Option.{option_map_or}
use Rattle.ocpi_types.specs.declared.component.PriceComponent.{PriceComponent}
use Rattle.cdr_rating.specs.declared.measure.Measure.{Measure}
use Rattle.cdr_rating.specs.declared.measure.Measure.TheVariants.{Energy, Time}
use Rattle.cdr_rating.specs.declared.tally.Priced.{Priced}
use Rattle.cdr_rating.specs.declared.tally.Tally.{Tally}
use Rattle.cdr_rating.specs.Price.{total_volume, cost_of, up_to_step, last_above_zero}

-- units for a price in millionths and one of the volume
abbrev pub factor_of : Measure → ℕ
factor_of Energy = 9
factor_of Time = 2500

-- how much of the volume one of a step size is
abbrev pub units_of : Measure → ℕ
units_of Energy = 1000
units_of Time = 1

-- the most that a period can have
abbrev pub most_of : Measure → ℕ
most_of Energy = 10 ^ 17
most_of Time = 4 * 10 ^ 14

-- the tally of a list
abbrev pub tally_of : Measure → List Priced → Tally
tally_of measure volumes = record {
  measure = measure;
  cost = cost_of (factor_of measure) volumes;
  volume = total_volume volumes;
  last = last_above_zero volumes;
}

abbrev pub with_one : Tally → Priced → Tally
with_one tally priced = record {
  measure = tally.measure;
  cost = tally.cost + factor_of tally.measure * priced.price * priced.volume;
  volume = tally.volume + priced.volume;
  last = if nat_lt 0 priced.volume then Some priced else tally.last;
}

-- nothing is added where no component is active
abbrev pub added : Tally → Option PriceComponent → ℕ → Tally
added tally None volume = tally
added tally (Some component) volume = with_one tally (record { price = component.price; step_size = component.step_size; volume = volume })

-- what rounding the whole up to its step costs
abbrev pub step_cost_of : Tally → ℕ
step_cost_of tally =
    option_map_or (λ last. factor_of tally.measure * last.price * up_to_step (units_of tally.measure * last.step_size) tally.volume) tally.last 0
