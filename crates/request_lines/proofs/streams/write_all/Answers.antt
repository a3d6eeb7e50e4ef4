use Rattle.std.proofs.Common.{List, ℕ, ◌∙◌, subst, arith}
use Rattle.request_lines.proofs.LinesLemmas.{take_range}
use Rattle.std.proofs.lemmas.List.{append-nil}
use Rattle.std.proofs.lemmas.Grind.{common_steps}
use Rattle.request_lines.proofs.streams.write_all.Goals as goal

pub loop-at-preserved : goal.loop-at-preserved
loop-at-preserved g c = record {
  taken = rw take_range (g.met.W.Sink.takes_more _ _ _ _ _ c.loop-at.invariant.taken c.in-Ok.ensures.takes);
  bound = grind (arith, common_steps, c.in-Ok.ensures.bound);
  unfailed = c.in-Ok.ensures.ok ∙ c.loop-at.invariant.unfailed;
}

pub returns-in-Err-clause-err : goal.returns-in-Err-clause-err
returns-in-Err-clause-err g c =
    subst (λ (xs : List ℕ). g.W.Sink.writing.takes c.args.writer.now xs c.write.new.self) (append-nil _)
    (g.met.W.Sink.takes_more _ _ _ _ _ c.loop-at.invariant.taken c.in-Err.ensures.err_takes)
