use Rattle.std.proofs.Common.{◌∙◌, List, ap, map, refl, rules, string_bytes, sym}
use Rattle.command_line.specs.Arguments.{PlainReading, Text, arguments_after, plain_reading}
use Rattle.command_line.proofs.ArgumentLemmas.{all_if_not_waiting, none_if_waiting}
use Rattle.command_line.proofs.arguments.Arguments.read.Goals as goal

pub returns-then-is_some-clause-refused : goal.returns-then-is_some-clause-refused
returns-then-is_some-clause-refused c =
    let words : List Text = map string_bytes c.args.words.now in
    let begun = ap (λ (r : PlainReading). arguments_after c.args.options.now r words) (sym c.begin-reading.ensures) in
    λ _. (refl, begun ∙ c.in_ok-add_all.ensures.added ∙ none_if_waiting c.args.options.now (plain_reading c.add_all.new.self) (search rules))

pub returns-clause-read : goal.returns-clause-read
returns-clause-read c =
    let words : List Text = map string_bytes c.args.words.now in
    let begun = ap (λ (r : PlainReading). arguments_after c.args.options.now r words) (sym c.begin-reading.ensures) in
    begun ∙ c.in_ok-add_all.ensures.added ∙ all_if_not_waiting c.args.options.now (plain_reading c.add_all.new.self) (search rules)
