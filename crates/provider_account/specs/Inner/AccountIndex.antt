-- What is known of the entries of an account.
use Rattle.std.specs.Prelude.{ℕ, ◌<◌, ◌≤◌, ◌^◌, List}
use Rattle.indexmap.specs.IndexMap.{spare}
use Rattle.ocpi_types.specs.declared.party.Party.{Party}
use Rattle.plain_house.specs.declared.entry.AccountEntry.{AccountEntry}
use Rattle.plain_house.specs.Exposure.{exposure_of, of_provider}
use Rattle.provider_account.specs.declared.account_index.AccountIndex.{AccountIndex}
use Rattle.provider_account.specs.Inner.Counts.{HasRoomForCounts, KnowsCounts}
use Rattle.provider_account.specs.Inner.Debts.{HasRoomForDebts, KnowsDebts}
use Rattle.provider_account.specs.Inner.Holds.{HasRoomForHolds, KnowsHolds}
use Rattle.provider_account.specs.Inner.Tokens.{KnowsTokens}

-- each part says what the entries say
pub record Knows (parts : AccountIndex) (entries : List AccountEntry) : Type 0 where
  pub tokens : KnowsTokens parts.tokens entries
  pub counts : KnowsCounts parts.counts entries
  pub holds : KnowsHolds parts.holds entries
  pub debts : KnowsDebts parts.debts entries

-- room for what one more entry needs
pub record HasRoom (parts : AccountIndex) : Type 0 where
  pub tokens : 0 < spare parts.tokens.valid
  pub counts : HasRoomForCounts parts.counts
  pub holds : HasRoomForHolds parts.holds
  pub debts : HasRoomForDebts parts.debts

-- no provider has an exposure above the highest limit there can be
abbrev pub AreLimited : List AccountEntry → Type 0
AreLimited entries =
    (provider : Party) (currency : List ℕ) → exposure_of (of_provider provider currency) entries ≤ 10 ^ 15
