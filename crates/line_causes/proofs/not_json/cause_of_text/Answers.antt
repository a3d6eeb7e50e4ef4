use Rattle.std.proofs.Common.{rules, ◌≡◌, ℕ, List}
use Rattle.std.specs.Str.Lossy.{utf8_valid_len}
use Rattle.line_causes.specs.NotJson.{column_after}
use Rattle.line_causes.proofs.NotJsonLemmas.{not_json, not_utf8}
use Rattle.line_causes.proofs.not_json.cause_of_text.Goals as goal

pub returns-in_ok-count-in-Ok : goal.returns-in_ok-count-in-Ok
returns-in_ok-count-in-Ok c =
    not_json c.args.line.now c.column_after-column.result c.in_ok-count-in-Ok.count c.in-Ok.ensures.cases.1 c.in_ok-count-in-Ok.ensures
    c.column_after-column.ensures

pub returns-in-Err : goal.returns-in-Err
returns-in-Err c =
    let column : c.column_after-column-in-Err.result ≡ column_after c.args.line.now (utf8_valid_len c.args.line.now) = search rules in
    not_utf8 c.args.line.now c.column_after-column-in-Err.result c.in-Err.ensures.cases.0 column
