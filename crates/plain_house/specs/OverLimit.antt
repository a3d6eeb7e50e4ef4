-- Exposures that would be above a limit.
use Rattle.std.specs.Prelude.{ℕ, pos, Bool, true, Option, Some, None, nat_lt, if◌then◌else◌}
use Rattle.plain_house.specs.declared.over_limit.OverLimit.{OverLimit}

-- an exposure and its limit, which may be that with one operator
abbrev pub over : ℕ → ℕ → Bool → Option OverLimit
over limit exposure pair =
    if nat_lt limit exposure then Some (record { exposure = pos exposure; limit = pos limit; pair = pair }) else None

abbrev pub over_if_any : Option ℕ → ℕ → Option OverLimit
over_if_any None exposure = None
over_if_any (Some limit) exposure = over limit exposure true
