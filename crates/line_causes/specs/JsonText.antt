-- The columns of a refused line as one JSON object, without spaces; a column that is empty has no member.
use Rattle.std.specs.Prelude.{ℕ, List, [], ◌∷◌, ◌++◌, Option, Some, None, codes, decimal}
use Rattle.json.specs.Print.{print}
use Rattle.json.specs.Token.{Token, begin_object, end_object, key, string, number}
use Rattle.line_causes.specs.Columns.{Columns, columns_of}
use Rattle.line_causes.specs.Event.{event_of}
use Rattle.line_causes.specs.declared.line_cause.LineCause.{LineCause}

-- a member with a text; none if the text is empty
unfoldable pub text_member : List ℕ → List ℕ → List Token
text_member called [] = []
text_member called (byte ∷ more) = key called ∷ string (byte ∷ more) ∷ []

-- the number of an event; none if there is no event
abbrev pub event_member : Option ℕ → List Token
event_member None = []
event_member (Some event) = key (codes "event") ∷ number (decimal event) ∷ []

-- the columns with a text
abbrev pub column_members : Columns → List Token
column_members columns =
    text_member (codes "place") columns.place
    ++ (text_member (codes "cause") columns.cause
    ++ (text_member (codes "found") columns.found ++ text_member (codes "against") columns.against))

unfoldable pub json_text : LineCause → List ℕ
json_text cause = print (begin_object ∷ (column_members (columns_of cause) ++ event_member (event_of cause)) ++ end_object ∷ [])
