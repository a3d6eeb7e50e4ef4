-- Events after the one at a place.
use Rattle.std.specs.Prelude.{◌≡◌, ℕ, ◌+◌, Bool, true, List, Option, Some, drop, option_map, position}
use Rattle.cdr_checks.specs.declared.request.Release.{Release}
use Rattle.plain_house.specs.Happened.{gives}
use Rattle.plain_house.specs.declared.event.Event.{Event}
use Rattle.plain_house.specs.declared.event.Event.TheVariants as event
use Rattle.plain_house.specs.declared.event.Hold.{Hold}

-- the place of the first of them that passes a test
abbrev pub position_after : (Event → Bool) → ℕ → List Event → Option ℕ
position_after test at events = option_map (λ further. at + 1 + further) (position test (drop (at + 1) events))

-- the hold is of the release's provider and reference, and the event at this place is the first that gives such a hold
pub record IsFirstGiven (events : List Event) (release : Release) (at : ℕ) (hold : Hold) : Type 0 where
  pub keys : gives release (event.Authorised hold) ≡ true
  pub first : position (gives release) events ≡ Some at
