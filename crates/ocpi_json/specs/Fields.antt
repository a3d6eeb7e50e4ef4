-- The members of an object.
-- A kind says what a member has to be, and what its data stands for if it is that.
use Rattle.std.specs.Prelude.{ℕ, ℤ, pos, int_le, ◌+◌, Bool, List, [], ◌∷◌, ◌&&◌, nat_le, if◌then◌else◌, Option, Some, None, Result, Ok, is_some, option_map, option_and_then, unwrap_or, length}
use Rattle.std.specs.Char.{is_ascii_digit}
use Rattle.std.specs.List.{list_all}
use Rattle.std.specs.Str.Parse.{digits_value}
use Rattle.json.specs.Json.{Json as Data, Items, no_items, item, Members, no_members, member}
use Rattle.jiff.specs.Types.{Date, Time, Timestamp}
use Rattle.json.specs.Find.{get, is_null, as_bool, as_str, as_number as number_text, as_array, as_object}
use Rattle.exact_money.specs.Millionths.{millionths_of}
use Rattle.ocpi_json.specs.Folded.{is_printable}
use Rattle.ocpi_json.specs.MemberFaults.{fault_at, item_of, member_of}
use Rattle.ocpi_json.specs.Members.{or_fault, ◌>>=◌, each_from, if_any}
use Rattle.ocpi_json.specs.MomentText.{instant_of, date_of, clock_of}
use Rattle.ocpi_json.specs.Name as name
use Rattle.ocpi_json.specs.declared.expected.Expected.{Expected}
use Rattle.ocpi_json.specs.declared.expected.Expected.TheVariants as expected
use Rattle.ocpi_json.specs.declared.member_fault.MemberFault.{MemberFault}
use Rattle.ocpi_json.specs.declared.name.Name.{Name}

-- the member of that name
abbrev pub member_at : Name → Data → Option Data
member_at n node = get (name.key_text n) node

-- what a member has to be, and what its data stands for if it is that
pub record Kind (X : Type 0) : Type 0 where
  pub must_be : Expected
  pub means : Data → Option X

-- the fault of a member that is not of the kind
abbrev pub misfit : {X : Type 0} → Kind X → Name → MemberFault
misfit kind n = fault_at (member_of n) kind.must_be

-- a member that has to be there, and of the kind
abbrev pub required : {X : Type 0} → Kind X → Name → Data → Result X MemberFault
required kind n node = do
  d ← or_fault (misfit kind n) (member_at n node)
  or_fault (misfit kind n) (kind.means d)

-- null counts as no data
abbrev pub unless_null : Data → Option Data
unless_null d = if is_null d then None else Some d

-- the member of that name, if it is there and not null
abbrev pub present_at : Name → Data → Option Data
present_at n node = option_and_then unless_null (member_at n node)

-- a member that may be missing or null, and is of the kind where it is neither
abbrev pub optional : {X : Type 0} → Kind X → Name → Data → Result (Option X) MemberFault
optional kind n node = if_any (λ d. or_fault (misfit kind n) (kind.means d)) (present_at n node)

-- ---- what data stands for

-- a text
abbrev pub as_text : Data → Option (List ℕ)
as_text d = as_str d

-- a text that stands for a value
abbrev pub as_parsed : {X : Type 0} → (List ℕ → Option X) → Data → Option X
as_parsed of_text d = option_and_then of_text (as_text d)

-- the token of a number, as it is written
abbrev pub as_token : Data → Option (List ℕ)
as_token d = number_text d

abbrev pub if_ci : ℕ → List ℕ → Option (List ℕ)
if_ci max text = if nat_le 1 (length text) && nat_le (length text) max && is_printable text then Some text else None

-- a text of 1 to max printable ASCII characters: the CiString of OCPI 2.2.1, chapter Types
abbrev pub as_ci_text : ℕ → Data → Option (List ℕ)
as_ci_text max d = option_and_then (if_ci max) (as_text d)

-- a number, in millionths
abbrev pub as_number : Data → Option ℤ
as_number d = option_and_then millionths_of (as_token d)

abbrev pub if_not_negative : ℤ → Option ℤ
if_not_negative z = if int_le (pos 0) z then Some z else None

-- a number of at least 0, in millionths
abbrev pub as_unsigned : Data → Option ℤ
as_unsigned d = option_and_then if_not_negative (as_number d)

-- 1 to 18 digits
abbrev pub whole_value : List ℕ → Option ℕ
whole_value token =
    if nat_le 1 (length token) && nat_le (length token) 18 && list_all is_ascii_digit token
    then Some (digits_value 10 token) else None

abbrev pub if_within : ℕ → ℕ → ℕ → Option ℕ
if_within least most n = if nat_le least n && nat_le n most then Some n else None

-- a number of 1 to 18 digits, with no sign, point or exponent, from least to most
abbrev pub as_whole : ℕ → ℕ → Data → Option ℕ
as_whole least most d = option_and_then (if_within least most) (option_and_then whole_value (as_token d))

abbrev pub items_list : Items → List Data
items_list no_items = []
items_list (item d ds) = d ∷ items_list ds

abbrev pub if_between : ℕ → ℕ → List Data → Option (List Data)
if_between least most ds = if nat_le least (length ds) && nat_le (length ds) most then Some ds else None

-- the items of an array
abbrev pub as_items : Data → Option (List Data)
as_items d = option_map items_list (as_array d)

abbrev pub members_list : Members → List (List ℕ × Data)
members_list no_members = []
members_list (member k d ms) = (k, d) ∷ members_list ms

-- the members of an object, with their names
abbrev pub as_members : Data → Option (List (List ℕ × Data))
as_members d = option_map members_list (as_object d)

-- an array of least to most items
abbrev pub as_list : ℕ → ℕ → Data → Option (List Data)
as_list least most d = option_and_then (if_between least most) (as_items d)

-- an object
abbrev pub as_object_node : Data → Option Data
as_object_node d = if is_some (as_object d) then Some d else None

-- ---- kinds

abbrev pub text : Kind (List ℕ)
text = record { must_be = expected.Text; means = as_text }

-- a text of 1 to max printable ASCII characters
abbrev pub ascii : ℕ → Kind (List ℕ)
ascii max = record { must_be = expected.Ascii max; means = as_ci_text max }

-- a text that stands for a value
abbrev pub parsed : {X : Type 0} → Expected → (List ℕ → Option X) → Kind X
parsed must_be of_text = record { must_be = must_be; means = as_parsed of_text }

abbrev pub moment : Kind Timestamp
moment = parsed expected.Moment instant_of

abbrev pub date : Kind Date
date = parsed expected.Date date_of

abbrev pub clock : Kind Time
clock = parsed expected.Clock clock_of

abbrev pub flag : Kind Bool
flag = record { must_be = expected.Flag; means = as_bool }

abbrev pub number : Kind ℤ
number = record { must_be = expected.Number; means = as_number }

abbrev pub not_below_0 : Kind ℤ
not_below_0 = record { must_be = expected.NotBelow0; means = as_unsigned }

abbrev pub whole : ℕ → ℕ → Kind ℕ
whole least most = record { must_be = expected.Whole least most; means = as_whole least most }

abbrev pub list : ℕ → ℕ → Kind (List Data)
list least most = record { must_be = expected.List least most; means = as_list least most }

abbrev pub object : Kind Data
object = record { must_be = expected.Object; means = as_object_node }

-- the items of an array of up to so many, which may be missing or null
abbrev pub list_or_empty : ℕ → Name → Data → Result (List Data) MemberFault
list_or_empty most n node = do
  found ← optional (list 0 most) n node
  Ok (unwrap_or found [])

-- the items of the list in the member of that name, each of the kind
abbrev pub each_of : {X : Type 0} → Kind X → Name → ℕ → List Data → Result (List X) MemberFault
each_of kind n index [] = Ok []
each_of kind n index (d ∷ ds) = do
  x ← or_fault (fault_at (item_of n index) kind.must_be) (kind.means d)
  xs ← each_of kind n (index + 1) ds
  Ok (x ∷ xs)
