use Rattle.std.proofs.Common.{List, min, length, flat_map, map, drop, take, sym, ap, ◌∙◌}
use Rattle.json.specs.Tape.{node_token}
use Rattle.json.specs.declared.tape.Node.{Node}
use Rattle.json.specs.Tree.{json_tokens}
use Rattle.ocpi_json.specs.Inner.Begun.{begun}
use Rattle.ocpi_json.specs.Inner.Places.{tokens_from}
use Rattle.ocpi_json.specs.Tokens.{summed, string_of}
use Rattle.ocpi_json.proofs.Fingerprints.{all_from, sampled, fingerprint_is}
use Rattle.ocpi_json.proofs.Tapes.{has_begun}
use Rattle.ocpi_json.proofs.node.Node.fingerprint.Goals as goal

pub returns : goal.returns
returns c =
    let ns = c.tokens-tokens.result.now in
    let ts = tokens_from c.self.inside.place in
    let are = c.tokens-tokens.ensures (begun ts) (has_begun ts c.self.invariant.1.has) ∙ ap json_tokens c.self.view_is in
    let strings = λ (l : List Node). flat_map string_of (map node_token l) in
    c.strings_summed-2.ensures ∙ ap (λ l. summed c.strings_summed.result (strings l)) (all_from ns c.saturating_sub.result)
    ∙ ap (λ sum. summed sum (strings (drop c.saturating_sub.result ns))) c.strings_summed.ensures
    ∙ ap (λ n. summed (summed 0 (strings (take n ns))) (strings (drop c.saturating_sub.result ns))) c.min.ensures
    ∙ ap (λ n. summed (summed 0 (strings (take (min 8 (length ns)) ns))) (strings (drop n ns))) c.saturating_sub.ensures
    ∙ sampled ns (json_tokens c.args.self.now) are ∙ sym (fingerprint_is c.args.self.now)
