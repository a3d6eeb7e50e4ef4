use Rattle.std.proofs.Common.{rules, ◌≡◌, ◌++◌, ℕ, true, List, take, get_or, refl, sym, ap₂, subst, ◌∙◌}
use Rattle.platform_workers.specs.declared.jobs.WorkerEnd.{WorkerEnd}
use Rattle.platform_workers.specs.declared.jobs.WorkerEnd.TheVariants.{Done}
use Rattle.clear_cli.specs.Fault.{AreTold}
use Rattle.clear_cli.specs.Run.{worker_line, worker_lines}
use Rattle.clear_cli.proofs.ToldLines.{told_more}
use Rattle.clear_cli.proofs.RunLemmas.{neither, one_worker_more}
use Rattle.clear_cli.proofs.run.tell_failed.Goals.{then-are_done, else-are_done}
use Rattle.clear_cli.proofs.run.tell_failed.Goals as goal

pub loop-place-preserved : goal.loop-place-preserved
loop-place-preserved g c =
    let place : ℕ = c.loop-place.place in
    let none : WorkerEnd = Done (record { lines = 0; bytes = 0 }) in
    let end : WorkerEnd = get_or c.args.ends.now place none in
    let longer = one_worker_more c.args.named.now c.args.ends.now place _ none c.index-named-place.result end c.index-named-place.is refl (search rules) (search rules) in
    let more = told_more g.F.Sink.writing (worker_lines (take place c.args.named.now) (take place c.args.ends.now)) (worker_line c.index-named-place.result end)
    c.args.faults.now c.loop-place.faults c.tell_if_failed-is_done.new.faults c.loop-place.invariant.told c.tell_if_failed-is_done.ensures.told in
    let both : c.if-are_done.are_done ≡ true → (c.loop-place.are_done ≡ true) × (c.tell_if_failed-is_done.result ≡ true) =
    elim c.if-are_done.branch as (λ _. c.if-are_done.are_done ≡ true → (c.loop-place.are_done ≡ true) × (c.tell_if_failed-is_done.result ≡ true)) [
      | then-are_done w ↦ λ e. (w.if-are_done.true, cc)
      | else-are_done w ↦ λ e. absurd cc
    ] in
    let then_both : c.loop-place.are_done ≡ true → c.tell_if_failed-is_done.result ≡ true → c.if-are_done.are_done ≡ true =
    elim c.if-are_done.branch as (λ _. c.loop-place.are_done ≡ true → c.tell_if_failed-is_done.result ≡ true → c.if-are_done.are_done ≡ true) [
      | then-are_done w ↦ λ d e. cc
      | else-are_done w ↦ λ d e. absurd cc
    ] in
    record {
      told = subst (λ (lines : List (List ℕ)). AreTold g.F.Sink.writing c.args.faults.now lines c.tell_if_failed-is_done.new.faults) (sym longer) more;
      done = (
        λ e. longer ∙ ap₂ (λ (x y : List (List ℕ)). x ++ y) (c.loop-place.invariant.done.0 (both e).0) (c.tell_if_failed-is_done.ensures.done.0 (both e).1),
        λ e. let none = neither (worker_lines (take place c.args.named.now) (take place c.args.ends.now)) (worker_line c.index-named-place.result end) (sym longer ∙ e) in
            then_both (c.loop-place.invariant.done.1 none.0) (c.tell_if_failed-is_done.ensures.done.1 none.1),
      );
    }
