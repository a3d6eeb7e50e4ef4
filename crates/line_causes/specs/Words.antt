-- The cause of a line in words: the column `cause` of the table.
use Rattle.std.specs.Prelude.{List, ℕ, [], codes, Bool, true, false, is_some}
use Rattle.ocpi_json.specs.declared.expected.Expected.{Expected}
use Rattle.ocpi_json.specs.declared.expected.Expected.TheVariants as expected
use Rattle.house_causes.specs.declared.request_cause.RequestCause.{RequestCause}
use Rattle.house_causes.specs.declared.request_cause.RequestCause.TheVariants.{NotAdmitted, ByHouse}
use Rattle.line_causes.specs.HouseColumns.{house_words}
use Rattle.line_causes.specs.ReasonColumns.{reason_words}
use Rattle.line_causes.specs.declared.line_cause.LineCause.{LineCause}
use Rattle.line_causes.specs.declared.line_cause.LineCause.TheVariants as line

abbrev pub request_words : RequestCause → List ℕ
request_words (NotAdmitted cause) = reason_words cause.reason
request_words (ByHouse cause) = house_words cause.reason

-- a member that has no value, or another one than it has to have
abbrev pub value_words : Bool → List ℕ
value_words false = codes "missing"
value_words true = codes "of a wrong kind or out of bounds"

-- the same, except for platforms without a hub
abbrev pub member_words : Expected → Bool → List ℕ
member_words expected.Hub is_found = codes "no hub"
member_words other is_found = value_words is_found

abbrev pub words_of : LineCause → List ℕ
words_of (line.NotUtf8 column) = codes "no UTF-8"
words_of (line.NotJson column) = codes "no JSON"
words_of (line.Member fault found of_stream) = member_words fault.expected (is_some found)
words_of (line.Request cause) = request_words cause
words_of (line.ComesOutOtherwise event kind) = codes "an event would come out otherwise"
words_of (line.IdOfAnotherLine id) = codes "given to another line"
words_of line.Unknown = []
