-- The members that the objects of a configuration have, and which of them a misspelt name means.
use Rattle.std.specs.Cmp.Lexicographic.{pointwise}
use Rattle.std.specs.Prelude.{ℕ, ◌==◌, List, [], ◌∷◌, Bool, Option, None, find, map, nat_eq, nat_le, nat_lt, length, if◌then◌else◌, option_and_then, unwrap_or}
use Rattle.std.specs.Char.{to_ascii_lowercase}
use Rattle.std.specs.Str.{chars}
use Rattle.json.specs.Find.{get}
use Rattle.json.specs.Json.{Json as Data}
use Rattle.strsim.specs.Edits.{levenshtein_row}
use Rattle.ocpi_json.specs.Fields.{as_items}
use Rattle.ocpi_json.specs.Name.{key_text}
use Rattle.ocpi_json.specs.declared.name.Name.{Name}
use Rattle.ocpi_json.specs.declared.name.Name.TheVariants.{Version, Tolerance, Currencies, Providers, Limits, CreditWindow, Party, Zone, Name as NameMember, Parties, Hub, Operator, Provider, Currency, Limit, Hold, Cdrs, Tariffs, Entries, Order, Periods, Operators as OperatorsMember, Platforms as PlatformsMember, PairLimits as PairLimitsMember}
use Rattle.input_reports.specs.declared.check_config.objects.Listing.{Listing}
use Rattle.input_reports.specs.declared.check_config.objects.Listing.TheVariants.{Operators, Providers as ProvidersListing, Platforms, PairLimits}
use Rattle.input_reports.specs.declared.check_config.objects.ConfigObject.{ConfigObject}
use Rattle.input_reports.specs.declared.check_config.objects.ConfigObject.TheVariants.{Whole, Item, LimitOf, Limits as LimitsObject}

-- the member of a configuration that is the list
abbrev pub list_name : Listing → Name
list_name Operators = OperatorsMember
list_name ProvidersListing = Providers
list_name Platforms = PlatformsMember
list_name PairLimits = PairLimitsMember

-- the members by which the items of the list in the member of that name differ; of none, the items are texts that differ
abbrev pub item_keys : Name → List Name
item_keys OperatorsMember = Party ∷ []
item_keys Providers = Party ∷ []
item_keys PlatformsMember = NameMember ∷ []
item_keys PairLimitsMember = Operator ∷ Provider ∷ Currency ∷ []
item_keys Limits = Currency ∷ []
item_keys other = []

-- the items of that member, and none where it is no array
abbrev pub items_at : Name → Data → List Data
items_at called node = unwrap_or (option_and_then as_items (get (key_text called) node)) []

abbrev pub item_members : Listing → List Name
item_members Operators = Party ∷ Zone ∷ []
item_members ProvidersListing = Party ∷ Limits ∷ []
item_members Platforms = NameMember ∷ Parties ∷ Hub ∷ []
item_members PairLimits = Operator ∷ Provider ∷ Currency ∷ Limit ∷ []

-- the members of the object there, in the order in which they are read
abbrev pub members_of : ConfigObject → List Name
members_of Whole = Version ∷ Tolerance ∷ Currencies ∷ OperatorsMember ∷ Providers ∷ PlatformsMember ∷ Limits ∷ PairLimitsMember ∷ CreditWindow ∷ []
members_of (Item list index) = item_members list
members_of (LimitOf provider index) = Currency ∷ Limit ∷ Hold ∷ []
members_of LimitsObject = Cdrs ∷ Tariffs ∷ Entries ∷ Order ∷ Periods ∷ []

-- the member of that key, if the object there has one
abbrev pub known_by : List ℕ → ConfigObject → Option Name
known_by key object = find (λ called. pointwise ◌==◌ (key_text called) key) (members_of object)

-- the name is at most two letters away from the key: put in, left out or changed
abbrev pub is_near : List ℕ → Name → Bool
is_near key called = nat_le (levenshtein_row nat_eq (chars (key_text called)) (chars key) (length (chars key))) 2

-- the first of the names that is near the key, letters folded; none where the key is far too long
abbrev pub meant_by : List ℕ → List Name → Option Name
meant_by key names = if nat_lt 64 (length key) then None else find (is_near (map to_ascii_lowercase key)) names
