-- A day of the week (OCPI 2.2.1, DayOfWeek enum).
use Rattle.std.specs.Prelude.{ℕ, List, Bool, true, false, codes, Option, Some, None, if◌then◌else◌}
use Rattle.std.specs.Str.{bytes_eq}
use Rattle.ocpi_json.specs.Fields.{Kind, parsed}
use Rattle.ocpi_json.specs.declared.expected.Expected.TheVariants as expected
use Rattle.ocpi_types.specs.declared.day_of_week.DayOfWeek.{DayOfWeek}
use Rattle.ocpi_types.specs.declared.day_of_week.DayOfWeek.TheVariants.{Monday, Tuesday, Wednesday, Thursday, Friday, Saturday, Sunday}

-- the day that a text names
abbrev pub day_named : List ℕ → Option DayOfWeek
day_named text =
    if bytes_eq text (codes "MONDAY") then Some Monday
    else (if bytes_eq text (codes "TUESDAY") then Some Tuesday
    else (if bytes_eq text (codes "WEDNESDAY") then Some Wednesday
    else (if bytes_eq text (codes "THURSDAY") then Some Thursday
    else (if bytes_eq text (codes "FRIDAY") then Some Friday
    else (if bytes_eq text (codes "SATURDAY") then Some Saturday
    else (if bytes_eq text (codes "SUNDAY") then Some Sunday else None))))))

abbrev pub a_day : Kind DayOfWeek
a_day = parsed expected.Day day_named

-- how many days it comes after Monday
abbrev pub days_after_monday : DayOfWeek → ℕ
days_after_monday Monday = 0
days_after_monday Tuesday = 1
days_after_monday Wednesday = 2
days_after_monday Thursday = 3
days_after_monday Friday = 4
days_after_monday Saturday = 5
days_after_monday Sunday = 6

abbrev pub same_day : DayOfWeek → DayOfWeek → Bool
same_day Monday Monday = true
same_day Tuesday Tuesday = true
same_day Wednesday Wednesday = true
same_day Thursday Thursday = true
same_day Friday Friday = true
same_day Saturday Saturday = true
same_day Sunday Sunday = true
same_day a b = false
