use Rattle.std.proofs.Common.{ℕ, List, sym, subst}
use Rattle.kept_batches.specs.Recovery.{line_of, lines_left}
use Rattle.kept_house.specs.Record.{HasConfig}
use Rattle.kept_house.proofs.beginning.stored_config.Goals as goal

pub returns-in_ok-from_slice-in-Ok-true-clause-some : goal.returns-in_ok-from_slice-in-Ok-true-clause-some
returns-in_ok-from_slice-in-Ok-true-clause-some g c clean =
    let config : List ℕ = c.in_ok-config-in-Ok-true.config.now in
    let has : HasConfig c.line.result.now config = c.in_ok-config-in-Ok-true.ensures.ok in (
      line_of c.next_line.new.self,
      lines_left c.next_line.new.self,
      c.in-Ok-true.ensures.line c.in-Ok-true.field-0-test clean,
      subst (λ (l : List ℕ). HasConfig l c.in_ok-from_slice-in-Ok-true.field-0.items) c.line.ensures
          (subst (HasConfig c.line.result.now) (sym c.in_ok-from_slice-in-Ok-true.ensures.items) has),
    )
