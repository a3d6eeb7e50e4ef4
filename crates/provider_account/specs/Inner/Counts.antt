-- What is known of how many entries and holds each provider has.
use Rattle.std.specs.Prelude.{◌≡◌, ◌<◌, ◌-◌, ◌^◌, List, count_by}
use Rattle.indexmap.specs.IndexMap.{spare}
use Rattle.ocpi_types.specs.declared.party.Party.{Party}
use Rattle.ocpi_types.specs.Party.{same_party}
use Rattle.plain_house.specs.declared.entry.AccountEntry.{AccountEntry}
use Rattle.plain_house.specs.House.{is_hold_of}
use Rattle.plain_house.specs.Full.{is_entry_of}
use Rattle.provider_account.specs.declared.counts.AccountCounts.{AccountCounts}
use Rattle.provider_account.specs.declared.sums.SumsByKey.{SumsByKey}
use Rattle.provider_account.specs.Inner.Sums.{sum_at}

-- for every provider the counts are those of the entries
pub record KnowsCounts (counts : AccountCounts) (entries : List AccountEntry) : Type 0 where
  pub entries_of : (provider : Party) → sum_at same_party counts.entries provider ≡ count_by (is_entry_of provider) entries
  pub holds_of : (provider : Party) → sum_at same_party counts.holds provider ≡ count_by (is_hold_of provider) entries

-- one more can be counted
abbrev pub IsFew : SumsByKey Party → Type 0
IsFew counts = (provider : Party) → sum_at same_party counts provider < 2 ^ 64 - 1

-- room for what one more entry needs
abbrev pub HasRoomForCounts : AccountCounts → Type 0
HasRoomForCounts counts = (0 < spare counts.entries.cells) × (0 < spare counts.holds.cells)
