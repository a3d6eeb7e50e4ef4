use Rattle.std.proofs.Common.{rules, length, ap, ◌∙◌}
use Rattle.json.specs.Tree.{json_tokens}
use Rattle.ocpi_json.proofs.Keeping.{marks_count}
use Rattle.ocpi_json.proofs.kept_value.KeptValue.token_count.Goals as goal

pub returns : goal.returns
returns c =
    let tokens = c.self.inside.tokens in
    let count = marks_count tokens.marks.items tokens.texts.items c.self.invariant ∙ ap (λ j. length (json_tokens j)) c.self.view_is in
    search rules
