-- The periods of events, with one event more.
use Rattle.std.proofs.Common.{◌≡◌, ◌∙◌, ℕ, ◌+◌, List, [], ◌∷◌, ◌++◌, ap, sym, arith, count_by}
use Rattle.plain_house.specs.Entries.{is_close, period_after, period_of}
use Rattle.plain_house.specs.declared.event.Event.{Event}
use Rattle.plain_house.proofs.PeriodsLemmas.{period_after-cons}
use Rattle.known_events.specs.Inner.Periods.{periods_from, periods_of}

more_from : (period : ℕ) (events : List Event) (event : Event)
    → periods_from period (events ++ event ∷ []) ≡ periods_from period events ++ (period + count_by is_close events) ∷ []
more_from period [] event = let same : period ≡ period + 0 = omega arith in ap (λ n. n ∷ []) same
more_from period (first ∷ events) event =
    ap (λ later. period ∷ later) (more_from (period_after period first) events event)
    ∙ ap (λ n. (period ∷ periods_from (period_after period first) events) ++ n ∷ []) (period_after-cons period first events)

pub periods_added : (events : List Event) (event : Event) → periods_of events ++ period_of events ∷ [] ≡ periods_of (events ++ event ∷ [])
periods_added events event =
    let same : period_of events ≡ 0 + period_of events = omega arith in
    ap (λ n. periods_of events ++ n ∷ []) same ∙ sym (more_from 0 events event)
