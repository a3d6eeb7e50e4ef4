use Rattle.std.proofs.Common.{◌≡◌, drop, flat_map, map}
use Rattle.json.specs.Tape.{node_token}
use Rattle.ocpi_json.specs.Tokens.{summed, string_of}
use Rattle.ocpi_json.proofs.fingerprint.strings_summed.Given as goal

abbrev pub invariant-loop-token : goal.invariant-loop-token
invariant-loop-token l =
    summed l.initial.sum (flat_map string_of (map node_token l.tokens)) ≡ summed l.sum (flat_map string_of (map node_token (drop l.token-index l.tokens)))
