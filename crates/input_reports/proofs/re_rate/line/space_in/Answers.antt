use Rattle.std.proofs.Common.{length, ap, sym, arith}
use Rattle.std.proofs.lemmas.List.Sums.{position_or_len_is}
use Rattle.input_reports.specs.re_rate.Line.{is_space}
use Rattle.input_reports.proofs.re_rate.line.space_in.Goals as goal

pub returns-then-byte-eq32-clause-first : goal.returns-then-byte-eq32-clause-first
returns-then-byte-eq32-clause-first c =
    sym (position_or_len_is is_space c.args.line.now c.loop-index.index 0 (omega arith) c.loop-index.invariant (λ _. ap is_space c.if-byte-eq32.true))

pub returns-clause-first : goal.returns-clause-first
returns-clause-first c =
    sym (position_or_len_is is_space c.args.line.now (length c.args.line.now) 0 (omega arith) (λ k inside. c.loop-index.invariant k (omega arith)) (λ beyond. absurd (omega arith)))
