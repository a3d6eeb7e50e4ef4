use Rattle.std.proofs.Common.{◌∙◌, ◌+◌, ap, sym, drop, drop-drop}
use Rattle.input_reports.proofs.re_rate.line.cut_at_space.Goals as goal

pub returns-in-Some-clause-behind : goal.returns-in-Some-clause-behind
returns-in-Some-clause-behind c =
    let line = c.args.line.now in
    sym (ap (drop 1) (sym c.split_at.ensures.back ∙ c.in-Some.ensures.cases.0))
    ∙ drop-drop 1 c.space_in.result line
    ∙ ap (λ n. drop (n + 1) line) c.space_in.ensures.first
