use Rattle.std.proofs.Common.{sym, subst}
use Rattle.ocpi_types.specs.declared.config.Config.{Config}
use Rattle.plain_house.specs.LegalEntries.{IsLegalBook}
use Rattle.shared_house.proofs.CollectLemmas.{due_configured, due_fits}
use Rattle.shared_house.proofs.house.collecting.collect_from.Goals as goal

pub period_sums-requires-clause-configured : goal.period_sums-requires-clause-configured
period_sums-requires-clause-configured g c =
    let legal = subst (λ (config : Config). IsLegalBook config c.held.inside.book.entries) (sym c.requires.config) c.held.invariant.legal in
    due_configured c.collecting_laws.ensures c.args.config.now c.is_configuration.ensures c.args.period c.args.operator.now c.held.inside.book.entries legal _ _ c.requires.parties c.requires.currencies

pub period_sums-requires-clause-fits : goal.period_sums-requires-clause-fits
period_sums-requires-clause-fits g c =
    let legal = subst (λ (config : Config). IsLegalBook config c.held.inside.book.entries) (sym c.requires.config) c.held.invariant.legal in
    due_fits c.collecting_laws.ensures c.args.config.now c.is_configuration.ensures c.args.period c.args.operator.now c.held.inside.book.entries (g.T.ObligationTable.obligations c.args.table.now) legal c.requires.fits
