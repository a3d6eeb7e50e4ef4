-- Net positions and the rows of statements on an answer line. Parties are written as they are configured.
use Rattle.std.specs.Prelude.{ℕ, List, [], ◌∷◌, ◌++◌, codes, flat_map}
use Rattle.json.specs.Token.{Token, begin_array, begin_object, end_array, end_object, key}
use Rattle.ocpi_types.specs.Config.{as_configured}
use Rattle.ocpi_types.specs.Party.{party_text}
use Rattle.ocpi_types.specs.declared.config.Config.{Config}
use Rattle.ocpi_types.specs.declared.party.Party.{Party}
use Rattle.netting_positions.specs.declared.positions.NetPosition.{NetPosition}
use Rattle.netting_positions.specs.declared.row.StatementRow.{StatementRow}
use Rattle.request_lines.specs.Members.{amount_member, text_member}

abbrev pub party_member : Config → List ℕ → Party → List Token
party_member config called party = text_member called (party_text (as_configured config party))

abbrev pub object : List Token → List Token
object members = begin_object ∷ (members ++ end_object ∷ [])

unfoldable pub position_object : Config → NetPosition → List Token
position_object config position =
    object
    (text_member (codes "currency") position.currency
    ++ (party_member config (codes "party") position.party ++ amount_member (codes "net") position.net))

abbrev pub sum_members : StatementRow → List Token
sum_members row =
    amount_member (codes "receivable") row.receivable
    ++ (amount_member (codes "payable") row.payable ++ amount_member (codes "net") row.net)

abbrev pub row_members : Config → StatementRow → List Token
row_members config row =
    text_member (codes "currency") row.currency
    ++ (party_member config (codes "counterpart") row.counterpart ++ sum_members row)

unfoldable pub row_object : Config → StatementRow → List Token
row_object config row = object (row_members config row)

unfoldable pub array_member : List ℕ → List Token → List Token
array_member called items = key called ∷ (begin_array ∷ (items ++ end_array ∷ []))

abbrev pub positions_member : Config → List NetPosition → List Token
positions_member config positions = array_member (codes "positions") (flat_map (position_object config) positions)

abbrev pub rows_member : Config → List StatementRow → List Token
rows_member config rows = array_member (codes "rows") (flat_map (row_object config) rows)
