use Rattle.std.proofs.Common.{refl, subst}
use Rattle.ocpi_types.specs.declared.config.Config.{Config}
use Rattle.period_order.specs.Kept.{IsConfiguration}
use Rattle.shared_house.proofs.ClosingLemmas.{ended_stated, ended_replied}
use Rattle.shared_house.proofs.house.locks.House.end_statement.Goals as goal
use Rattle.cdr_checks.specs.declared.request.Command.TheVariants as command

pub returns-in-Replied : goal.returns-in-Replied
returns-in-Replied g c =
    let is_config = subst (λ (config : Config). IsConfiguration config) c.args.self.now.configured c.is_configuration.ensures in
    λ least le. ended_replied c.house_laws.ensures c.collecting_laws.ensures g.N.BookEntries.Configured.config is_config (command.Statement c.args.ask.now) c.args.decided c.requires.decides c.stamped.result least le
    c.in-Replied.reply c.in-Replied.event c.in-Replied.is c.stamped.ensures

pub returns-in-Stated : goal.returns-in-Stated
returns-in-Stated g c =
    let is_config = subst (λ (config : Config). IsConfiguration config) c.args.self.now.configured c.is_configuration.ensures in
    λ least le. ended_stated c.house_laws.ensures c.collecting_laws.ensures g.N.BookEntries.Configured.config is_config (command.Statement c.args.ask.now) c.args.decided c.requires.decides c.stamped-in-Stated.result least le
    c.args.ask.now c.in-Stated.ask c.state-rows.result refl c.in-Stated.is c.state-rows.ensures c.stamped-in-Stated.ensures
