-- What follows from the definitions.
use Rattle.std.specs.Prelude.{◌≡◌, ◌||◌, ℕ, ◌*◌, ◌≤◌, pos, List, length, map, filter_map, true}
use Rattle.std.specs.List.{list_all, list_any}
use Rattle.std.specs.List.Sorted.{IsStrictlySortedBy}
use Rattle.ocpi_types.specs.Config.{alike_operators, alike_providers, is_operator, is_provider}
use Rattle.ocpi_types.specs.Different.{all_different}
use Rattle.ocpi_types.specs.Party.{same_party}
use Rattle.ocpi_types.specs.declared.config.Config.{Config}
use Rattle.ocpi_types.specs.declared.party.Party.{Party}
use Rattle.netting_positions.specs.Netting.{IsBalanced, are_among, is_among, is_configured, net_position, net_positions, parties, total}
use Rattle.netting_positions.specs.Statement.{keys_of, statement_rows}
use Rattle.netting_positions.specs.StatementKeys.{key_of, key_order, same_key}
use Rattle.netting_positions.specs.declared.row.Key.{Key}
use Rattle.netting_positions.specs.declared.obligation.Obligation.{Obligation}

-- where all obligations are among parties of which no two are the same, the net positions in a currency add up to 0
abbrev pub PositionsBalance : Type 0
PositionsBalance =
    (parties : List Party) (obligations : List Obligation) (currency : List ℕ)
    → all_different same_party parties ≡ true → are_among parties obligations ≡ true
    → total (map (λ party. net_position party currency obligations) parties) ≡ pos 0

-- and the list of the net positions of all parties in some currencies is balanced
abbrev pub NetPositionsAreBalanced : Type 0
NetPositionsAreBalanced =
    (parties : List Party) (currencies : List (List ℕ)) (obligations : List Obligation)
    → all_different same_party parties ≡ true → are_among parties obligations ≡ true
    → IsBalanced (net_positions parties currencies obligations)

-- where no two operators and no two providers are the same party, no two of the parties are
abbrev pub PartiesAreDifferent : Type 0
PartiesAreDifferent =
    (config : Config) → all_different alike_operators config.operators ≡ true → all_different alike_providers config.providers ≡ true
    → all_different same_party (parties config) ≡ true

-- the parties are those that are operators or providers
abbrev pub PartiesAreConfigured : Type 0
PartiesAreConfigured =
    (config : Config) (party : Party) → is_among (parties config) party ≡ (is_operator config party || is_provider config party)

-- the keys of a statement rise, and a key is among them exactly where an obligation has it
abbrev pub StatementsAreInOrder : Type 0
StatementsAreInOrder =
    (party : Party) (obligations : List Obligation)
    → IsStrictlySortedBy key_order (keys_of party obligations)
    × ((key : Key) → list_any (same_key key) (keys_of party obligations) ≡ list_any (same_key key) (filter_map (key_of party) obligations))

-- a statement has at most one row for each of the parties and currencies
abbrev pub StatementsAreShort : Type 0
StatementsAreShort =
    (parties : List Party) (currencies : List (List ℕ)) (obligations : List Obligation) (party : Party)
    → list_all (is_configured parties currencies) obligations ≡ true
    → length (statement_rows party obligations) ≤ length currencies * length parties
