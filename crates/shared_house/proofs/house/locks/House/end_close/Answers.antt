use Rattle.std.proofs.Common.{refl, subst}
use Rattle.ocpi_types.specs.declared.config.Config.{Config}
use Rattle.period_order.specs.Kept.{IsConfiguration}
use Rattle.shared_house.proofs.ClosingLemmas.{ended_closed, ended_replied}
use Rattle.shared_house.proofs.house.locks.House.end_close.Goals as goal
use Rattle.cdr_checks.specs.declared.request.Command.TheVariants as command

pub returns-in-Replied : goal.returns-in-Replied
returns-in-Replied g c =
    let is_config = subst (λ (config : Config). IsConfiguration config) c.args.self.now.configured c.is_configuration.ensures in
    λ least le. ended_replied c.house_laws.ensures c.collecting_laws.ensures g.N.BookEntries.Configured.config is_config (command.Close c.args.close.now) c.args.decided c.requires.decides c.stamped.result least le
    c.in-Replied.reply c.in-Replied.event c.in-Replied.is c.stamped.ensures

pub returns-in-Closed : goal.returns-in-Closed
returns-in-Closed g c =
    let is_config = subst (λ (config : Config). IsConfiguration config) c.args.self.now.configured c.is_configuration.ensures in
    λ least le. ended_closed c.house_laws.ensures c.collecting_laws.ensures g.N.BookEntries.Configured.config is_config (command.Close c.args.close.now) c.args.decided c.requires.decides c.stamped-in-Closed.result least le
    c.args.close.now c.in-Closed.period c.net-positions.result refl c.in-Closed.is c.net-positions.ensures c.stamped-in-Closed.ensures
