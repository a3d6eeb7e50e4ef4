use Rattle.std.proofs.Common.{◌≡◌, ◌∙◌, None, rules, string_bytes}
use Rattle.command_line.specs.Arguments.{next_reading, plain_reading}
use Rattle.command_line.proofs.ArgumentLemmas.{one_word_more, one_word_refused}
use Rattle.command_line.proofs.arguments.Reading.add_all.Goals as goal

pub returns-in_err-add-clause-refused : goal.returns-in_err-add-clause-refused
returns-in_err-add-clause-refused c =
    let refused = λ (next : next_reading c.args.options.now (plain_reading c.loop-word.self) (string_bytes c.word-item.result) ≡ None).
    c.loop-word.invariant
    ∙ one_word_refused string_bytes c.args.options.now (plain_reading c.loop-word.self) c.args.words.now c.loop-word.word-index _ c.word-item.result c.word-item.is (search rules) next in
    search rules

pub loop-word-preserved : goal.loop-word-preserved
loop-word-preserved c =
    c.loop-word.invariant
    ∙ one_word_more string_bytes c.args.options.now (plain_reading c.loop-word.self) c.args.words.now c.loop-word.word-index _ c.word-item.result (plain_reading c.add.new.self) c.word-item.is (search rules) (search rules)
