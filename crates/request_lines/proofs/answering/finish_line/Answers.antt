use Rattle.std.proofs.Common.{◌≡◌, ◌<◌, [], length, take, refl, rules, arith}
use Rattle.std.proofs.lemmas.Grind.{common_steps}
use Rattle.request_lines.proofs.RunLemmas.{gave_up, only_sent}
use Rattle.request_lines.proofs.answering.finish_line.Goals as goal

pub returns-in-Err-clause-err : goal.returns-in-Err-clause-err
returns-in-Err-clause-err g c = λ others. record {
  text = [];
  taken = g.met.W.Sink.takes_none _;
  stops = gave_up _ _ _ _ others (g.met.A.Answerer.answers_none _) c.in-Err.ensures.err;
  has_failed = search rules;
  unfailed = λ _. refl;
  counted = λ _. omega arith;
}

pub returns-clause-err : goal.returns-clause-err
returns-clause-err g c =
    let sent = c.in-Err-write_all.sent in
    let below : sent < length c.as_slice.result.now = c.in-Err-write_all.ensures.part in
    let size : length (take sent c.as_slice.result.now) ≡ sent = grind (arith, common_steps) in
    λ others. record {
      text = take sent c.as_slice.result.now;
      taken = c.in-Err-write_all.ensures.err;
      stops = (omega (arith, size), only_sent _ _ _ _ _ _ _ others (g.met.A.Answerer.answers_none _) c.requires.short c.as_slice.ensures.value c.in-Ok.ensures.ok below);
      has_failed = λ _. c.in-Err-write_all.ensures.failed;
      unfailed = search rules;
      counted = search rules;
    }
