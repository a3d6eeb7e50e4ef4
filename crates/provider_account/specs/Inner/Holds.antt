-- What is known of open holds, and of what they hold together.
use Rattle.std.specs.Prelude.{◌≡◌, ◌<◌, ◌≤◌, ◌+◌, ◌-◌, ◌^◌, ℕ, Bool, true, false, ◌&&◌, List, Option, None, Some, count_by, find, if◌then◌else◌}
use Rattle.indexmap.specs.IndexMap.{get, spare}
use Rattle.ocpi_json.specs.Folded.{same_folded}
use Rattle.ocpi_types.specs.Currency.{same_currency}
use Rattle.ocpi_types.specs.Party.{same_party}
use Rattle.cdr_checks.specs.declared.request.Release.{Release}
use Rattle.plain_house.specs.declared.entry.AccountEntry.{AccountEntry}
use Rattle.plain_house.specs.declared.entry.AccountEntry.TheVariants as account
use Rattle.plain_house.specs.declared.entry.Charge.{Charge}
use Rattle.plain_house.specs.declared.event.Hold.{Hold}
use Rattle.plain_house.specs.declared.scope.Scope.{Scope}
use Rattle.plain_house.specs.Exposure.{ends_hold, holds_of, holds_within, open_holds, released_hold}
use Rattle.plain_house.specs.House.{is_hold_of, reference_text}
use Rattle.provider_account.specs.declared.holds.HoldKey.{HoldKey}
use Rattle.provider_account.specs.declared.holds.Holds.{Holds}
pub use Rattle.provider_account.specs.Inner.HoldKeys.{same_hold}
use Rattle.provider_account.specs.Inner.HoldSums.{hold_sum_at}

-- ---- keys

abbrev pub key_of_hold : Hold → HoldKey
key_of_hold hold = record { operator = hold.operator; provider = hold.provider; reference = hold.reference }

abbrev pub key_of_release : Release → HoldKey
key_of_release release = record { operator = release.operator; provider = release.provider; reference = release.reference }

-- ---- what the maps say

-- the open hold that the release ends
abbrev pub open_under : Holds → Release → Option Hold
open_under holds release = get same_hold holds.open (key_of_release release)

abbrev pub in_currency : List ℕ → Option Hold → Option Hold
in_currency currency None = None
in_currency currency (Some hold) = if same_currency currency hold.currency then Some hold else None

-- the same where a currency is given
abbrev pub in_any_currency : Option (List ℕ) → Option Hold → Option Hold
in_any_currency None found = found
in_any_currency (Some currency) found = in_currency currency found

abbrev pub used_under : Holds → Charge → Option (List ℕ) → Option Hold
used_under holds charge None = None
used_under holds charge (Some reference) =
    in_currency charge.currency (open_under holds (record { operator = charge.operator; provider = charge.provider; reference = reference }))

-- the open hold that the charge uses up
abbrev pub open_used : Holds → Charge → Option Hold
open_used holds charge = used_under holds charge charge.hold

-- the open hold that the entry ends
abbrev pub open_ended : Holds → AccountEntry → Option Hold
open_ended holds (account.Token token) = None
open_ended holds (account.Hold hold) = None
open_ended holds (account.Release release) = open_under holds release
open_ended holds (account.Charge charge) = open_used holds charge
open_ended holds (account.Credit credit) = None
open_ended holds (account.Settlement settlement) = None

-- the entry names the key
abbrev pub names_reference : Charge → HoldKey → Option (List ℕ) → Bool
names_reference charge key None = false
names_reference charge key (Some reference) = same_hold (record { operator = charge.operator; provider = charge.provider; reference = reference }) key

abbrev pub names_key : AccountEntry → HoldKey → Bool
names_key (account.Token token) key = false
names_key (account.Hold hold) key = false
names_key (account.Release release) key = same_hold (key_of_release release) key
names_key (account.Charge charge) key = names_reference charge key charge.hold
names_key (account.Credit credit) key = false
names_key (account.Settlement settlement) key = false

-- a sum within a scope, without the hold
abbrev pub without : Scope → Option Hold → ℕ → ℕ
without scope None sum = sum
without scope (Some hold) sum = if holds_within scope hold then sum - hold.amount else sum

-- an open hold is part of the sum within its scopes
abbrev pub IsCovered : Holds → Hold → Type 0
IsCovered holds hold = (scope : Scope) → holds_within scope hold ≡ true → hold.amount ≤ hold_sum_at holds.sums scope

abbrev pub AreCovered : Holds → Type 0
AreCovered holds = (release : Release) (hold : Hold) → open_under holds release ≡ Some hold → IsCovered holds hold

-- room for what one more entry needs
abbrev pub HasRoomForHolds : Holds → Type 0
HasRoomForHolds holds = (0 < spare holds.open) × (1 < spare holds.sums.cells)

-- ---- what the entries say

-- the open hold that an entry would end
abbrev pub ended_hold : List AccountEntry → AccountEntry → Option Hold
ended_hold entries entry = find (λ hold. ends_hold hold entry) (open_holds entries)

-- the hold has the number of its provider's next hold
abbrev pub IsNumbered : List AccountEntry → Hold → Type 0
IsNumbered entries hold =
    same_folded hold.reference (reference_text hold.provider (count_by (is_hold_of hold.provider) entries + 1)) ≡ true

-- where the entry is a hold, it has that number
abbrev pub IsNext : List AccountEntry → AccountEntry → Type 0
IsNext entries (account.Token token) = Unit {0}
IsNext entries (account.Hold hold) = IsNumbered entries hold
IsNext entries (account.Release release) = Unit {0}
IsNext entries (account.Charge charge) = Unit {0}
IsNext entries (account.Credit credit) = Unit {0}
IsNext entries (account.Settlement settlement) = Unit {0}

-- no release ends two open holds, and no open hold has a number that is still to come
pub record AreNumbered (entries : List AccountEntry) : Type 0 where
  pub one_each : (release : Release) → count_by (λ hold. ends_hold hold (account.Release release)) (open_holds entries) ≤ 1
  pub to_come : (release : Release) (number : ℕ) → count_by (is_hold_of release.provider) entries < number → number < 2 ^ 64
      → same_folded release.reference (reference_text release.provider number) ≡ true → released_hold entries release ≡ None

-- for every release and scope the maps say what the entries say
pub record KnowsHolds (holds : Holds) (entries : List AccountEntry) : Type 0 where
  pub found : (release : Release) → open_under holds release ≡ released_hold entries release
  pub sums : (scope : Scope) → hold_sum_at holds.sums scope ≡ holds_of scope entries
  pub numbered : AreNumbered entries
