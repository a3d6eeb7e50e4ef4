-- What one more obligation changes in net positions, and what their table keeps.
use Rattle.std.specs.Prelude.{◌≡◌, ℕ, ◌+◌, ◌<◌, ◌^◌, ℤ, pos, ◌+ℤ◌, ◌-ℤ◌, unsigned_abs, List, Bool, true, if◌then◌else◌}
use Rattle.std.specs.List.{list_all}
use Rattle.ocpi_types.specs.declared.party.Party.{Party}
use Rattle.netting_positions.specs.Netting.{is_configured, is_payable, is_receivable, net_positions, size, total_size}
use Rattle.netting_positions.specs.declared.obligation.Obligation.{Obligation}
use Rattle.netting_positions.specs.declared.positions.NetPosition.{NetPosition}

-- the amount, where it passes the test
abbrev pub counted : (Obligation → Bool) → Obligation → ℤ
counted test obligation = if test obligation then obligation.amount else pos 0

-- ---- net positions

abbrev pub net_with : Obligation → NetPosition → ℤ
net_with obligation row =
    (row.net +ℤ counted (is_receivable row.party row.currency) obligation) -ℤ counted (is_payable row.party row.currency) obligation

abbrev pub with_net : Obligation → NetPosition → NetPosition
with_net obligation row = record { currency = row.currency; party = row.party; net = net_with obligation row }

-- the amount can be added to the net position or taken from it
abbrev pub HasRoom : Obligation → NetPosition → Type 0
HasRoom obligation row = unsigned_abs row.net + size obligation < 2 ^ 63

-- the rows are the net positions of obligations that are configured and fit in 63 bits
pub record IsNetted (rows : List NetPosition) (parties : List Party) (currencies : List (List ℕ)) (obligations : List Obligation) : Type 0 where
  pub rows_are : rows ≡ net_positions parties currencies obligations
  pub configured : list_all (is_configured parties currencies) obligations ≡ true
  pub fits : total_size obligations < 2 ^ 63
