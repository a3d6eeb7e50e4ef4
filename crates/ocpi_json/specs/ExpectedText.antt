-- What a member has to be, in words.
use Rattle.std.specs.Prelude.{ℕ, List, [], ◌++◌, codes, decimal}
use Rattle.ocpi_json.specs.declared.expected.Expected.{Expected}
use Rattle.ocpi_json.specs.declared.expected.Expected.TheVariants as expected

-- what it is without its bounds
unfoldable pub kind_words : Expected → List ℕ
kind_words (expected.Ascii most) = codes "a string"
kind_words expected.Text = codes "a string"
kind_words expected.Flag = codes "true or false"
kind_words expected.Number = codes "a decimal without exponent of 1 to 9 digits and up to 30 decimals"
kind_words expected.NotBelow0 = codes "a decimal without exponent of 1 to 9 digits and up to 30 decimals and at least 0"
kind_words (expected.Whole least most) = codes "a whole number"
kind_words expected.Moment = codes "a string with a moment in UTC as 2024-07-01T10:00:00Z"
kind_words expected.Date = codes "a string with a date as 2024-07-01"
kind_words expected.Clock = codes "a string with a time from 00:00 to 23:59"
kind_words (expected.List least most) = codes "a list"
kind_words expected.Object = codes "an object"
kind_words expected.Party = codes "a string of two letters and / and three letters or digits as NL/CPA"
kind_words expected.Currency = codes "a string of three letters A to Z as EUR"
kind_words expected.Zone = codes "a string with an offset as +01:00 or a POSIX time zone rule as CET-1CEST,M3.5.0,M10.5.0/3 for Europe/Amsterdam"
kind_words expected.TokenKind = codes "one of AD_HOC_USER APP_USER OTHER RFID"
kind_words expected.AuthMethod = codes "one of AUTH_REQUEST COMMAND WHITELIST"
kind_words expected.ComponentKind = codes "one of ENERGY FLAT PARKING_TIME TIME"
kind_words expected.Day = codes "one of MONDAY TUESDAY WEDNESDAY THURSDAY FRIDAY SATURDAY SUNDAY"
kind_words expected.CdrId = codes "at most 36 characters without credit true"
kind_words expected.CdrNumber = codes "at least 0 without credit true"
kind_words expected.Command = codes "one of put_tariff put_token authorize release post close settle exposure find statement"
kind_words expected.Change = codes "configure"
kind_words expected.RequestId = codes "a string of 1 to 64 bytes"
kind_words expected.ListedCurrency = codes "one of the configured currencies as EUR"
kind_words expected.ListedOperator = codes "the party of a configured operator as NL/CPA"
kind_words expected.ListedProvider = codes "the party of a configured provider as NL/MSA"
kind_words expected.ListedParty = codes "the party of a configured operator or provider as NL/CPA"
kind_words expected.Different = codes "no two alike"
kind_words expected.Hub = codes "platforms of which one is a hub"

-- the bounds of a text's length, of a number and of a list's length
unfoldable pub bounds_text : Expected → List ℕ
bounds_text (expected.Ascii most) = codes " of 1 to " ++ decimal most ++ codes " printable ASCII characters"
bounds_text expected.Text = []
bounds_text expected.Flag = []
bounds_text expected.Number = []
bounds_text expected.NotBelow0 = []
bounds_text (expected.Whole least most) = codes " from " ++ decimal least ++ codes " to " ++ decimal most ++ codes " in digits alone"
bounds_text expected.Moment = []
bounds_text expected.Date = []
bounds_text expected.Clock = []
bounds_text (expected.List least most) = codes " of " ++ decimal least ++ codes " to " ++ decimal most ++ codes " items"
bounds_text expected.Object = []
bounds_text expected.Party = []
bounds_text expected.Currency = []
bounds_text expected.Zone = []
bounds_text expected.TokenKind = []
bounds_text expected.AuthMethod = []
bounds_text expected.ComponentKind = []
bounds_text expected.Day = []
bounds_text expected.CdrId = []
bounds_text expected.CdrNumber = []
bounds_text expected.Command = []
bounds_text expected.Change = []
bounds_text expected.RequestId = []
bounds_text expected.ListedCurrency = []
bounds_text expected.ListedOperator = []
bounds_text expected.ListedProvider = []
bounds_text expected.ListedParty = []
bounds_text expected.Different = []
bounds_text expected.Hub = []

abbrev pub expected_text : Expected → List ℕ
expected_text expected = kind_words expected ++ bounds_text expected
