-- How many entries an operator's book, a provider's account and the order have, and which of them is full.
use Rattle.std.specs.Prelude.{ℕ, Bool, false, List, [], ◌∷◌, nat_le, count_by, filter, Option, Some, None, if◌then◌else◌}
use Rattle.ocpi_types.specs.declared.config.Config.{Config}
use Rattle.ocpi_types.specs.declared.party.Party.{Party}
use Rattle.ocpi_types.specs.declared.refusal.Store.{Store}
use Rattle.ocpi_types.specs.Party.{same_party}
use Rattle.plain_house.specs.declared.entry.AccountEntry.{AccountEntry}
use Rattle.plain_house.specs.declared.entry.AccountEntry.TheVariants as account
use Rattle.plain_house.specs.declared.entry.BookEntry.{BookEntry}
use Rattle.plain_house.specs.declared.entry.BookEntry.TheVariants as book

-- a CDR or Credit CDR of the operator
abbrev pub is_cdr_of : Party → BookEntry → Bool
is_cdr_of operator (book.Tariff tariff) = false
is_cdr_of operator (book.Cdr cdr cost period) = same_party cdr.operator operator
is_cdr_of operator (book.Credit cdr amount period) = same_party cdr.operator operator

-- a tariff version of the operator
abbrev pub is_version_of : Party → BookEntry → Bool
is_version_of operator (book.Tariff tariff) = same_party tariff.operator operator
is_version_of operator (book.Cdr cdr cost period) = false
is_version_of operator (book.Credit cdr amount period) = false

-- an entry of the provider's account
abbrev pub is_entry_of : Party → AccountEntry → Bool
is_entry_of provider (account.Token token) = same_party token.provider provider
is_entry_of provider (account.Hold hold) = same_party hold.provider provider
is_entry_of provider (account.Release release) = same_party release.provider provider
is_entry_of provider (account.Charge charge) = same_party charge.provider provider
is_entry_of provider (account.Credit credit) = same_party credit.provider provider
is_entry_of provider (account.Settlement settlement) = same_party settlement.provider provider

-- the entries of the provider's account
abbrev pub own_entries : Party → List AccountEntry → List AccountEntry
own_entries provider entries = filter (is_entry_of provider) entries

abbrev pub are_cdrs_full : Config → Party → List BookEntry → Bool
are_cdrs_full config operator entries = nat_le config.limits.cdrs (count_by (is_cdr_of operator) entries)

abbrev pub are_versions_full : Config → Party → List BookEntry → Bool
are_versions_full config operator entries = nat_le config.limits.tariffs (count_by (is_version_of operator) entries)

abbrev pub is_account_full : Config → Party → List AccountEntry → Bool
is_account_full config provider entries = nat_le config.limits.entries (count_by (is_entry_of provider) entries)

-- each event is one entry of the order
abbrev pub is_order_full : Config → ℕ → Bool
is_order_full config point = nat_le config.limits.order point

-- as many periods are closed as may be
abbrev pub are_periods_full : Config → ℕ → Bool
are_periods_full config period = nat_le config.limits.periods period

-- the first of these stores that is full
abbrev pub first_full : List (Store × Bool) → Option Store
first_full [] = None
first_full ((store, is_full) ∷ stores) = if is_full then Some store else first_full stores
