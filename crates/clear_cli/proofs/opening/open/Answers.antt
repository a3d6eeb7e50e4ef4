use Rattle.std.proofs.Common.{ℕ, List, map, ◌++◌, refl, ap, subst}
use Rattle.clear_cli.specs.Fault.{AreTold}
use Rattle.clear_cli.specs.Opening.{given_file, unmade_lines, unopened_lines}
use Rattle.clear_cli.proofs.ToldLines.{told_more}
use Rattle.clear_cli.proofs.opening.open.Goals as goal

pub returns-clause-opened : goal.returns-clause-opened
returns-clause-opened g c =
    let made = c.add_all.ensures.made in
    let unopened : List (List ℕ) = unopened_lines 1 (map given_file c.args.files.items) in
    let told : AreTold g.F.Sink.writing c.args.faults.now unopened c.tell_unopened.new.faults =
    subst (λ (l : List (List ℕ)). AreTold g.F.Sink.writing c.args.faults.now l c.tell_unopened.new.faults) (ap (λ l. unopened_lines 1 (map given_file l)) c.as_slice.ensures.value) c.tell_unopened.ensures in (
      unopened ++ unmade_lines 1 made.fates,
      record { fates = made.fates; have = made.have; named_are = made.named_are; pairs_are = made.pairs_are; lines_are = refl },
      told_more g.F.Sink.writing unopened (unmade_lines 1 made.fates) c.args.faults.now c.tell_unopened.new.faults c.add_all.new.faults told made.told,
    )
