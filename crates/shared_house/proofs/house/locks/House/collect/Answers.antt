use Rattle.std.proofs.Common.{◌<◌, ◌≤◌, ◌∙◌, arith, length, refl, subst}
use Rattle.ocpi_types.specs.declared.config.Config.{Config}
use Rattle.period_order.specs.Kept.{IsConfiguration}
use Rattle.shared_house.proofs.CollectLemmas.{collected_all, collecting_fits_at, collecting_next, collecting_none}
use Rattle.shared_house.proofs.house.locks.House.collect.Goals as goal

pub loop-number-init : goal.loop-number-init
loop-number-init g c = record {
  scope = refl;
  collecting = collecting_none g.N.BookEntries.Configured.config c.args.period (g.T.ObligationTable.obligations c.args.table.now) c.requires.empty;
}

pub collect_from-requires-clause-fits : goal.collect_from-requires-clause-fits
collect_from-requires-clause-fits g c =
    let config = g.N.BookEntries.Configured.config in
    let is_config = subst (λ (config : Config). IsConfiguration config) c.args.self.now.configured c.is_configuration.ensures in
    let each = c.args.self.now.locks.each_operator in
    let less : c.loop-number.number < length config.operators = omega (arith, each) in
    collecting_fits_at c.collecting_laws.ensures config is_config c.args.period c.loop-number.number (g.T.ObligationTable.obligations c.loop-number.table) c.loop-number.invariant.collecting less

pub loop-number-preserved : goal.loop-number-preserved
loop-number-preserved g c =
    let config = g.N.BookEntries.Configured.config in
    let each = c.args.self.now.locks.each_operator in
    let less : c.loop-number.number < length config.operators = omega (arith, each) in
    record {
      scope = c.collect_from.ensures.scope ∙ c.loop-number.invariant.scope;
      collecting = collecting_next config c.args.self.now.config c.args.self.now.configured c.args.period c.loop-number.number c.index-operators-number.result c.as_slice-operators.result.now
          c.as_slice-operators.ensures.value less c.deref.result.now.entries (g.T.ObligationTable.obligations c.loop-number.table) (g.T.ObligationTable.obligations c.collect_from.new.table)
          c.loop-number.invariant.collecting c.collect_from.ensures.legal c.collect_from.ensures.obligations;
    }

pub returns : goal.returns
returns g c =
    let config = g.N.BookEntries.Configured.config in
    let is_config = subst (λ (config : Config). IsConfiguration config) c.args.self.now.configured c.is_configuration.ensures in
    let each = c.args.self.now.locks.each_operator in
    let all : length config.operators ≤ c.loop-number.number = omega (arith, each) in
    record {
      scope = c.loop-number.invariant.scope;
      collected = collected_all c.collecting_laws.ensures config is_config c.args.period c.loop-number.number (g.T.ObligationTable.obligations c.loop-number.table) all c.loop-number.invariant.collecting;
    }
