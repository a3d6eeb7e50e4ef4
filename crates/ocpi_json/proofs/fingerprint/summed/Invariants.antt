use Rattle.std.proofs.Common.{◌≡◌, drop}
use Rattle.ocpi_json.specs.Tokens.{summed}
use Rattle.ocpi_json.proofs.fingerprint.summed.Given as goal

abbrev pub invariant-loop-byte : goal.invariant-loop-byte
invariant-loop-byte l = summed l.initial.sum l.text ≡ summed l.sum (drop l.byte-index l.text)
