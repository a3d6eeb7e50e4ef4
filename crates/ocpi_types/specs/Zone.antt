-- The time zone of an operator: an offset from UTC, or a rule of POSIX (IEEE 1003.1, Base Definitions, section 8.3)
-- that `jiff` reads.
use Rattle.std.specs.Prelude.{ℕ, ℤ, pos, neg_ℤ, ◌+◌, ◌-◌, ◌*◌, ◌==◌, ◌&&◌, nat_lt, int_le, Bool, List, [], ◌∷◌, replicate, Option, Some, None, option_map, option_and_then, if◌then◌else◌}
use Rattle.std.specs.Char.{is_ascii_digit}
use Rattle.std.specs.Option.{option_or}
use Rattle.jiff.specs.Types.{Offset, TimeZone as PlainZone, UTC, Unknown, Fixed, Posix, Tzif}
use Rattle.jiff.specs.Words.{fixed_zone, read_whole}
use Rattle.jiff_tz.specs.PosixDay.{is_rule_day}
use Rattle.jiff_tz.specs.PosixText.{DstText, TzText}
use Rattle.jiff_tz.specs.declared.abbreviation.Abbreviation.{Abbreviation}
use Rattle.jiff_tz.specs.declared.posix.Day.{Day}
use Rattle.jiff_tz.specs.declared.posix.DayTime.{DayTime}
use Rattle.jiff_tz.specs.declared.posix.Dst.{Dst}
use Rattle.jiff_tz.specs.declared.posix.TimeZone.{TimeZone as Rule}
use Rattle.ocpi_json.specs.Fields.{Kind, parsed}
use Rattle.ocpi_json.specs.SomeIf.{some_if}
use Rattle.ocpi_json.specs.declared.expected.Expected.TheVariants as expected
use Rattle.ocpi_types.specs.Inner.ZoneRanges as range

infixl 10 ◌>>=◌
abbrev pub ◌>>=◌ : {A B : Type 0} → Option A → (A → Option B) → Option B
o >>= f = option_and_then f o

-- the number lies from -most to most
abbrev pub is_within : ℕ → ℤ → Bool
is_within most n = int_le (neg_ℤ (pos most)) n && int_le n (pos most)

-- ---- fixed offsets

-- the number of two digits
abbrev pub two_digits : ℕ → ℕ → ℕ
two_digits tens ones = (tens - 48) * 10 + (ones - 48)

abbrev pub are_digits : ℕ → ℕ → ℕ → ℕ → Bool
are_digits a b c d = is_ascii_digit a && is_ascii_digit b && is_ascii_digit c && is_ascii_digit d

-- the number with the sign `+` or `-`
abbrev pub signed_by : ℕ → ℕ → Option ℤ
signed_by sign n = if sign == 43 then Some (pos n) else (if sign == 45 then Some (neg_ℤ (pos n)) else None)

-- hours to 23 and minutes to 59 behind a sign, in seconds
abbrev pub seconds_of : ℕ → ℕ → ℕ → Option ℤ
seconds_of sign hours minutes =
    if nat_lt hours 24 && nat_lt minutes 60 then signed_by sign (hours * 3600 + minutes * 60) else None

-- the seconds of `+HH:MM` or `-HH:MM`
unfoldable pub fixed_seconds : List ℕ → Option ℤ
fixed_seconds (sign ∷ h1 ∷ h2 ∷ colon ∷ m1 ∷ m2 ∷ []) =
    if (colon == 58) && are_digits h1 h2 m1 m2
    then seconds_of sign (two_digits h1 h2) (two_digits m1 m2)
    else None
fixed_seconds _ = None

-- the offset of so many seconds
unfoldable pub offset_of : ℤ → Option Offset
offset_of n = some_if (is_within 93_599 n) (λ h. record { seconds = n; in_range = range.offset_in n h })

-- the zone of one offset that a text names
unfoldable pub fixed_zone_of : List ℕ → Option PlainZone
fixed_zone_of text = do
  seconds ← fixed_seconds text
  offset ← offset_of seconds
  Some (fixed_zone offset)

-- ---- rules without the names of standard and daylight saving time, which decide no offset

abbrev pub no_name : Abbreviation
no_name = record { bytes = replicate 15 0; len = 0; fits = range.nothing_fits; text = range.nothing_is_text }

abbrev pub nameless_dst : Dst → Dst
nameless_dst dst = record { «abbrev» = no_name; offset = dst.offset; rule = dst.rule }

abbrev pub nameless_rule : Rule → Rule
nameless_rule rule = record {
  std_abbrev = no_name;
  std_offset = rule.std_offset;
  dst = option_map nameless_dst rule.dst;
}

abbrev pub nameless : PlainZone → PlainZone
nameless UTC = UTC
nameless Unknown = Unknown
nameless (Fixed offset) = Fixed offset
nameless (Posix rule) = Posix (nameless_rule rule)
nameless (Tzif table) = Tzif table

-- ---- the rule that a text reads as

-- a day of the year and seconds from its midnight
unfoldable pub day_time_of : Day × ℤ → Option DayTime
day_time_of when = some_if (is_rule_day when.0 && is_within 604_799 when.1) (λ h. record {
  date = when.0;
  time = when.1;
  date_in = range.day_in (is_rule_day when.0) (is_within 604_799 when.1) h;
  time_in = range.time_in (is_rule_day when.0) when.1 h;
})

unfoldable pub dst_of : DstText → Option Dst
dst_of text = do
  offset ← offset_of text.seconds
  start ← day_time_of text.start
  finish ← day_time_of text.finish
  Some (record { «abbrev» = no_name; offset = offset; rule = record { start = start; end = finish } })

abbrev pub dst_if_any : Option DstText → Option (Option Dst)
dst_if_any None = Some None
dst_if_any (Some text) = option_map Some (dst_of text)

unfoldable pub rule_of : TzText → Option Rule
rule_of text = do
  offset ← offset_of text.std_seconds
  dst ← dst_if_any text.dst
  Some (record { std_abbrev = no_name; std_offset = offset; dst = dst })

-- the zone of the rule that a text is
unfoldable pub rule_zone_of : List ℕ → Option PlainZone
rule_zone_of text = do
  read ← read_whole text
  rule ← rule_of read
  Some (Posix rule)

-- ---- the zone that a text names

unfoldable pub zone_of : List ℕ → Option PlainZone
zone_of text = option_or (fixed_zone_of text) (rule_zone_of text)

abbrev pub a_zone : Kind PlainZone
a_zone = parsed expected.Zone zone_of
