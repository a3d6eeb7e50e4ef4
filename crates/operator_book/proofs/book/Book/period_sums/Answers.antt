use Rattle.std.proofs.Common.{◌∙◌, ◌<◌, ◌+◌, ◌++◌, ◌^◌, List, ap₂, arith}
use Rattle.std.proofs.lemmas.List.Sums.{sum_by-append}
use Rattle.ocpi_types.specs.declared.config.Provider.{Provider}
use Rattle.netting_positions.specs.Netting.{size, total_size}
use Rattle.netting_positions.specs.State.{Scope}
use Rattle.operator_book.specs.Due.{due}
use Rattle.operator_book.specs.Together.{owed_by_all}
use Rattle.operator_book.proofs.AlikeLemmas.{rows_configured, rows_least}
use Rattle.operator_book.proofs.book.Book.period_sums.Goals as goal

pub add_providers-requires : goal.add_providers-requires
add_providers-requires g c =
    let operator = c.args.operator.now in
    let os = due operator c.args.period c.args.self.now.entries in
    let before = g.T.ObligationTable.obligations c.args.table.now in
    let scope : Scope = g.T.ObligationTable.scope c.args.table.now in
    let providers = c.as_slice-providers.result.now in
    let currencies = c.as_slice-currencies.result.now in
    let rows = owed_by_all operator os currencies providers in
    let least = rows_least operator os currencies providers c.as_slice-currencies.ensures.different c.as_slice-providers.ensures.different in
    let fits : total_size before + total_size os < 2 ^ 63 = c.requires.fits in
    record {
      due = omega arith;
      configured = rows_configured scope.parties scope.currencies operator os currencies providers c.requires.configured;
      fits = omega (arith, sum_by-append size before rows);
    }

pub returns-clause-obligations : goal.returns-clause-obligations
returns-clause-obligations g c =
    let operator = c.args.operator.now in
    let os = due operator c.args.period c.args.self.now.entries in
    let before = g.T.ObligationTable.obligations c.args.table.now in
    c.add_providers.ensures.obligations
    ∙ ap₂ (λ coins (ps : List Provider). before ++ owed_by_all operator os coins ps) c.as_slice-currencies.ensures.value c.as_slice-providers.ensures.value
