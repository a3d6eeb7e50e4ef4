use Rattle.std.proofs.Common.{◌≡◌, ◌<◌, ◌^◌, true, take}
use Rattle.std.specs.List.{list_all}
use Rattle.netting_positions.specs.Netting.{is_configured, parties, total_size}
use Rattle.shared_house.proofs.certifying.tables.can_be_netted.Given as goal

abbrev pub invariant-loop-obligation : goal.invariant-loop-obligation
invariant-loop-obligation l = record {
  configured : list_all (is_configured (parties l.config) l.config.currencies) (take l.obligation-index l.owed) ≡ true;
  size : l.size ≡ total_size (take l.obligation-index l.owed);
  fits : l.size < 2 ^ 63;
}
