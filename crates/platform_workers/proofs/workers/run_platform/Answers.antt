use Rattle.std.proofs.Common.{refl, rules, sym}
use Rattle.platform_workers.proofs.WorkerLemmas.{worker_ran}
use Rattle.platform_workers.proofs.workers.run_platform.Goals as goal

pub returns : goal.returns
returns g c =
    let t = c.run_lines.ensures.told in
    worker_ran _ c.run_lines.new.answerer (λ a. a.pass.ghost_name) (λ a. a.pass.now) _ _
    (record {
      pass = c.args.pass.now;
      pass' = _;
      reader = c.args.reader.now;
      reader' = c.run_lines.new.reader;
      writer = c.args.writer.now;
      writer' = c.run_lines.new.writer;
      calls = t.0;
      bytes = t.1;
      written = t.2;
    })
    c.run_lines.result refl (λ same. search (rules, sym same)) t.3 t.4 t.5 t.6 c.run_lines.ensures.end c.run_lines.ensures.reader c.run_lines.ensures.unfailed c.run_lines.ensures.failed c.run_lines.ensures.kept
