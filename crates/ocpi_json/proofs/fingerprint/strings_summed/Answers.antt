use Rattle.std.proofs.Common.{get_or, sym, ap, ◌∙◌, arith}
use Rattle.json.specs.Tape.{node_token}
use Rattle.json.specs.declared.tape.Node.TheVariants.{Object}
use Rattle.ocpi_json.specs.Tokens.{summed, string_of}
use Rattle.ocpi_json.proofs.Fingerprints.{summed_next, no_string}
use Rattle.ocpi_json.proofs.fingerprint.strings_summed.Goals as goal
use Rattle.ocpi_json.proofs.fingerprint.strings_summed.Goals.{in-String, in_default}

pub loop-token-preserved : goal.loop-token-preserved
loop-token-preserved c =
    let ns = c.args.tokens.now in
    let i = c.loop-token.token-index in
    let sum = c.loop-token.sum in
    let n = get_or ns i (Object 0) in
    elim c.match-token.branch [
      | in-String w ↦
          let text = w.as_bytes.ensures.value ∙ sym (ap (λ n. string_of (node_token n)) w.in-String.is) in
          c.loop-token.invariant ∙ summed_next sum c.match-token.sum ns i (Object 0) (omega arith) (w.sum-is ∙ w.summed-sum.ensures ∙ ap (summed sum) text)
      | in_default w ↦
          c.loop-token.invariant
          ∙ summed_next sum c.match-token.sum ns i (Object 0) (omega arith) (w.sum-is ∙ sym (ap (summed sum) (no_string n w.in_default.not-String)))
    ]
