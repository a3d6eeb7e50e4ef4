use Rattle.std.proofs.Common.{rules, length, flat_map, ap, ◌∙◌}
use Rattle.json.specs.Tree.{json_tokens}
use Rattle.ocpi_json.specs.Tokens.{text_of}
use Rattle.ocpi_json.proofs.Keeping.{texts_count}
use Rattle.ocpi_json.proofs.kept_value.KeptValue.text_bytes.Goals as goal

pub returns : goal.returns
returns c =
    let tokens = c.self.inside.tokens in
    let count = texts_count tokens.marks.items tokens.texts.items c.self.invariant ∙ ap (λ j. length (flat_map text_of (json_tokens j))) c.self.view_is in
    search rules
