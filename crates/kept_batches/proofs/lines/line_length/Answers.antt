use Rattle.std.proofs.Common.{◌≡◌, ℕ, List, ◌∷◌, sym, subst, rules}
use Rattle.std.specs.Prelude.{IfSome}
use Rattle.kept_batches.specs.Inner.Lines.{BeginsLine}
use Rattle.kept_batches.proofs.LineLemmas.{begins_line}
use Rattle.kept_batches.proofs.lines.line_length.Goals as goal

pub returns-clause-some : goal.returns-clause-some
returns-clause-some c =
    let starts : c.args.text.now ≡ 43 ∷ c.in_ok-mark.after.now = search rules in
    subst (λ (l : List ℕ). IfSome c.memchr.result (BeginsLine l)) (sym starts) (begins_line c.in_ok-mark.after.now c.memchr.result c.memchr.ensures)
