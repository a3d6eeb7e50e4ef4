use Rattle.std.proofs.Common.{inl, refl, ap, [], arith}
use Rattle.kept_batches.specs.Verdict.{kept_in}
use Rattle.kept_answers.proofs.KeptLemmas.{no_lines}
use Rattle.kept_house.proofs.keeping.keep_under.Goals as goal

pub returns-in-Err : goal.returns-in-Err
returns-in-Err g c = record {
  told = (0, [], [], [], [], omega arith, g.met.R.Source.gives_none _, no_lines, g.met.W.Sink.takes_none _, λ clean. (inl (refl, λ file left. ap kept_in (c.requires.durable file left)), tt));
  clean = λ clean. clean;
  untouched = λ other. absurd (c.in-Err.ensures.other (c.of_record.ensures.other other));
  count = λ other clean. absurd (c.in-Err.ensures.other (c.of_record.ensures.other other));
  damaged = λ at is clean. absurd (c.in-Err.ensures.damaged at (c.of_record.ensures.damaged at is));
}
