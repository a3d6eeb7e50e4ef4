use Rattle.std.proofs.Common.{◌<◌, Option, Some, None, arith}
use Rattle.std.proofs.lemmas.Bool.Decides.{Decides-and}
use Rattle.jiff.specs.Types.{Time}
use Rattle.tariff_elements.specs.LocalTime.{day_length}
use Rattle.tariff_elements.specs.Window.{time_or_midnight}
use Rattle.tariff_elements.proofs.LocalLemmas.{time_below}
use Rattle.tariff_elements.proofs.RestrictionLemmas.{none_is, in_bounds_is, between_dates_is, listed_is, within_is}
use Rattle.tariff_elements.proofs.laws.matches_in_force.Goals as goal

below : (t : Option Time) → time_or_midnight t < day_length
below None = omega arith
below (Some t) = time_below t

pub returns-clause-in_force : goal.returns-clause-in_force
returns-clause-in_force c r m t =
    let energy = Decides-and _ _ (none_is r.reservation) (in_bounds_is r.min_kwh r.max_kwh m.energy) in
    let duration = Decides-and _ _ energy (in_bounds_is r.min_duration r.max_duration m.seconds) in
    let dates = Decides-and _ _ duration (between_dates_is r.start_date r.end_date m.day) in
    let weekdays = Decides-and _ _ dates (listed_is m.day r.day_of_week) in
    let window = within_is _ _ m.time (below r.start_time) (below r.end_time) t in
    let all = Decides-and _ _ weekdays window in (
      λ h. let w = all.0 h in record {
        reservation = w.0.0.0.0.0;
        min_kwh = w.0.0.0.0.1.0;
        max_kwh = w.0.0.0.0.1.1;
        min_duration = w.0.0.0.1.0;
        max_duration = w.0.0.0.1.1;
        start_date = w.0.0.1.0;
        end_date = w.0.0.1.1;
        day_of_week = w.0.1;
        window = w.1;
      },
      λ f. all.1 (((((f.reservation, (f.min_kwh, f.max_kwh)), (f.min_duration, f.max_duration)), (f.start_date, f.end_date)), f.day_of_week), f.window),
    )
