-- Parties in capital letters.
use Rattle.std.proofs.Common.{◌≡◌, ◌++◌, map, codes}
use Rattle.std.proofs.lemmas.List.{map-append}
use Rattle.std.specs.Char.{to_ascii_uppercase}
use Rattle.ocpi_types.specs.Party.{party_text}
use Rattle.ocpi_types.specs.declared.party.Party.{Party}
use Rattle.netting_positions.specs.StatementKeys.{in_capitals}

-- the text in capital letters is that of the party in capital letters
pub text_in_capitals : (party : Party) → map to_ascii_uppercase (party_text party) ≡ party_text (in_capitals party)
text_in_capitals party = map-append to_ascii_uppercase party.country_code (codes "/" ++ party.party_id)
