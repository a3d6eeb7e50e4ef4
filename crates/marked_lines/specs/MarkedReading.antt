-- What a line is where its marked text is read: `serde_json`'s value of that text, if every key in it is marked. A number
-- in a key's place is a key that begins with `n` there, so it is refused, as JSON has no such key.
use Rattle.std.specs.Prelude.{◌≡◌, ℕ, List, [], ◌∷◌, Bool, true, false, ◌==◌, ◌&&◌, if◌then◌else◌, Option, Some, None, option_map, option_and_then}
use Rattle.std.specs.Str.{is_utf8}
use Rattle.json.specs.Json as json
use Rattle.serde_json.specs.Data as serde
use Rattle.serde_json.specs.Read.{read}
use Rattle.marked_lines.specs.Marked.{marked_text}
use Rattle.ocpi_json.specs.Reading.{value_of, data_of}

-- ---- a value with its marks

-- A text and a key get an `s` (115), a number becomes a text that begins with `n` (110), and of equal keys the last one's
-- value stands.
abbrev mutual
  pub marked_value : json.Json → serde.Data
  marked_value json.null = serde.null
  marked_value (json.boolean b) = serde.boolean b
  marked_value (json.number token) = serde.string (110 ∷ token)
  marked_value (json.string text) = serde.string (115 ∷ text)
  marked_value (json.array items) = serde.array (marked_items items)
  marked_value (json.object members) = serde.object (marked_members members serde.no_members)

  pub marked_items : json.Items → serde.Items
  marked_items json.no_items = serde.no_items
  marked_items (json.item value items) = serde.item (marked_value value) (marked_items items)

  -- the members go in one after another, to those that were found before
  pub marked_members : json.Members → serde.Members → serde.Members
  marked_members json.no_members found = found
  marked_members (json.member key value members) found = marked_members members (serde.put (115 ∷ key) (marked_value value) found)

-- ---- which keys are marked

-- 115 is `s`
abbrev pub is_marked_key : List ℕ → Bool
is_marked_key [] = false
is_marked_key (byte ∷ key) = byte == 115

-- every key of a text's value, at any depth, begins with `s`: of equal keys each one, and those within their values
abbrev mutual
  pub all_keys_marked : json.Json → Bool
  all_keys_marked json.null = true
  all_keys_marked (json.boolean b) = true
  all_keys_marked (json.number token) = true
  all_keys_marked (json.string text) = true
  all_keys_marked (json.array items) = all_items_marked items
  all_keys_marked (json.object members) = all_members_marked members

  pub all_items_marked : json.Items → Bool
  all_items_marked json.no_items = true
  all_items_marked (json.item value items) = all_keys_marked value && all_items_marked items

  pub all_members_marked : json.Members → Bool
  all_members_marked json.no_members = true
  all_members_marked (json.member key value members) = is_marked_key key && (all_keys_marked value && all_members_marked members)

-- the same of `serde_json`'s value, where of equal keys the last one's value alone is left
abbrev mutual
  pub last_keys_marked : serde.Data → Bool
  last_keys_marked serde.null = true
  last_keys_marked (serde.boolean b) = true
  last_keys_marked (serde.number n) = true
  last_keys_marked (serde.string text) = true
  last_keys_marked (serde.array items) = last_items_marked items
  last_keys_marked (serde.object members) = last_members_marked members

  pub last_items_marked : serde.Items → Bool
  last_items_marked serde.no_items = true
  last_items_marked (serde.item value items) = last_keys_marked value && last_items_marked items

  pub last_members_marked : serde.Members → Bool
  last_members_marked serde.no_members = true
  last_members_marked (serde.member key value members) = is_marked_key key && (last_keys_marked value && last_members_marked members)

-- ---- what the marked text is read as

infixl 10 ◌>>=◌
abbrev ◌>>=◌ : {A B : Type 0} → Option A → (A → Option B) → Option B
o >>= f = option_and_then f o

-- the value, if the test holds of it
abbrev pub if_so : {A : Type 0} → (A → Bool) → A → Option A
if_so test x = if test x then Some x else None

-- there is a value, and every key in it is marked
abbrev pub keys_marked_if_some : Option json.Json → Bool
keys_marked_if_some None = false
keys_marked_if_some (Some value) = all_keys_marked value

-- what `serde_json` reads of the line's marked text, where every key in it is marked
abbrev pub marked_reading : List ℕ → Option serde.Data
marked_reading bytes = do
  marked ← marked_text bytes
  text ← if_so is_utf8 marked
  keyed ← if_so (λ t. keys_marked_if_some (value_of t)) text
  read keyed

-- the same, where the keys of what is read are marked: a member that a later equal key replaces is not tested
abbrev pub marked_reading_by_last_keys : List ℕ → Option serde.Data
marked_reading_by_last_keys bytes = do
  marked ← marked_text bytes
  text ← if_so is_utf8 marked
  value ← read text
  if_so last_keys_marked value

-- For every line: what it is, with its marks, is what its marked text is read as, and one is none where the other is.
abbrev pub LinesAreReadAsMarked : Type 0
LinesAreReadAsMarked = (bytes : List ℕ) → option_map marked_value (data_of bytes) ≡ marked_reading bytes

-- What is read of a line is read of its marked text as well, where only the last of equal keys is tested.
abbrev pub LinesAreReadByLastKeys : Type 0
LinesAreReadByLastKeys = (bytes : List ℕ) (value : json.Json) → data_of bytes ≡ Some value → marked_reading_by_last_keys bytes ≡ Some (marked_value value)
