-- An event has a key if it is what the rule of that key says.
use Rattle.std.proofs.Common.{◌≡◌, ◌∙◌, ℕ, List, Bool, true, false, ◌&&◌, ◌||◌, ◌==◌, Option, Some, None, refl, sym, ap, option_map}
use Rattle.std.specs.Ordering.{int_eq}
use Rattle.std.proofs.Math.Bool.{and_assoc}
use Rattle.ocpi_json.specs.Folded.{same_folded}
use Rattle.ocpi_types.specs.Currency.{same_currency}
use Rattle.ocpi_types.specs.Party.{same_party}
use Rattle.ocpi_types.specs.declared.party.Party.{Party}
use Rattle.ocpi_types.specs.declared.tariff.Tariff.{Tariff}
use Rattle.cdr_checks.specs.declared.request.Authorize.{Authorize}
use Rattle.cdr_checks.specs.declared.request.Release.{Release}
use Rattle.cdr_checks.specs.declared.request.Settlement.{Settlement}
use Rattle.plain_house.specs.declared.event.Event.{Event}
use Rattle.plain_house.specs.declared.event.Event.TheVariants as event
use Rattle.plain_house.specs.declared.event.Hold.{Hold}
use Rattle.plain_house.specs.Exposure.{names}
use Rattle.plain_house.specs.Happened.{books, ends, gives, puts, settles, stores, takes_back}
use Rattle.known_events.specs.Inner.Firsts.{adds, credits, ends_by, is_key, same_credited, same_end}
use Rattle.known_events.specs.declared.keys.EndKey.{EndKey}
use Rattle.known_events.specs.declared.keys.EndKey.TheVariants as end
use Rattle.known_events.specs.declared.keys.OwnKey.TheVariants as own
use Rattle.operator_book.proofs.KeyLemmas.{or_false}

-- ---- tests of one entry

one : (b : Bool) → b ≡ (b || false)
one b = sym (or_false b)

one_of_three : (a b c : Bool) → (a && (b && c)) ≡ ((a && b && c) || false)
one_of_three a b c = sym (and_assoc a b c) ∙ one (a && b && c)

none : (a : Bool) → false ≡ ((a && false) || false)
none true = refl
none false = refl

one_of_four : (a b c d : Bool) → (a && (b && (c && d))) ≡ ((a && b && c && d) || false)
one_of_four true b c d = one_of_three b c d
one_of_four false b c d = refl

-- ---- what an event adds

pub adds_cdr : (operator : Party) (id : List ℕ) (e : Event) → adds (own.Cdr operator id) e ≡ books operator id e
adds_cdr operator id (event.Tariff tariff) = refl
adds_cdr operator id (event.Token token) = refl
adds_cdr operator id (event.Authorised hold) = refl
adds_cdr operator id (event.Released release) = refl
adds_cdr operator id (event.Cdr cdr cost) = one (same_party cdr.operator operator && same_folded cdr.id id)
adds_cdr operator id (event.Credit cdr amount) = one (same_party cdr.operator operator && same_folded cdr.id id)
adds_cdr operator id (event.Settled settlement) = refl
adds_cdr operator id (event.Closed period) = refl

pub adds_version : (tariff : Tariff) (e : Event) → adds (own.Version tariff.operator tariff.id tariff.last_updated) e ≡ stores tariff e
adds_version tariff (event.Tariff version) =
    one_of_three (same_party version.operator tariff.operator) (same_folded version.id tariff.id) (int_eq version.last_updated.nanosecond tariff.last_updated.nanosecond)
adds_version tariff (event.Token token) = refl
adds_version tariff (event.Authorised hold) = refl
adds_version tariff (event.Released release) = refl
adds_version tariff (event.Cdr cdr cost) = refl
adds_version tariff (event.Credit cdr amount) = refl
adds_version tariff (event.Settled settlement) = refl
adds_version tariff (event.Closed period) = refl

pub adds_token : (ask : Authorize) (e : Event) → adds (own.Token ask.provider ask.uid) e ≡ puts ask e
adds_token ask (event.Tariff tariff) = refl
adds_token ask (event.Token token) = one (same_party token.provider ask.provider && same_folded token.uid ask.uid)
adds_token ask (event.Authorised hold) = refl
adds_token ask (event.Released release) = refl
adds_token ask (event.Cdr cdr cost) = refl
adds_token ask (event.Credit cdr amount) = refl
adds_token ask (event.Settled settlement) = refl
adds_token ask (event.Closed period) = refl

pub adds_hold : (release : Release) (e : Event) → adds (own.Hold release.provider release.reference) e ≡ gives release e
adds_hold release (event.Tariff tariff) = refl
adds_hold release (event.Token token) = refl
adds_hold release (event.Authorised hold) = one (same_party hold.provider release.provider && same_folded hold.reference release.reference)
adds_hold release (event.Released other) = refl
adds_hold release (event.Cdr cdr cost) = refl
adds_hold release (event.Credit cdr amount) = refl
adds_hold release (event.Settled settlement) = refl
adds_hold release (event.Closed period) = refl

pub adds_settlement : (settlement : Settlement) (e : Event) → adds (own.Settlement settlement.provider settlement.currency settlement.period) e ≡ settles settlement e
adds_settlement settlement (event.Tariff tariff) = refl
adds_settlement settlement (event.Token token) = refl
adds_settlement settlement (event.Authorised hold) = refl
adds_settlement settlement (event.Released release) = refl
adds_settlement settlement (event.Cdr cdr cost) = refl
adds_settlement settlement (event.Credit cdr amount) = refl
adds_settlement settlement (event.Settled other) =
    one_of_three (same_party other.provider settlement.provider) (same_currency other.currency settlement.currency) (other.period == settlement.period)
adds_settlement settlement (event.Closed period) = refl

-- ---- what it credits

credits_one : (operator own : Party) (id : List ℕ) (credit : Option (List ℕ))
    → is_key same_credited (record { operator = operator; id = id }) (option_map (λ other. record { operator = own; id = other }) credit)
    ≡ ((same_party own operator && names id credit) || false)
credits_one operator own id None = none (same_party own operator)
credits_one operator own id (Some other) = one (same_party own operator && same_folded other id)

pub credits_cdr : (operator : Party) (id : List ℕ) (e : Event) → credits (record { operator = operator; id = id }) e ≡ takes_back operator id e
credits_cdr operator id (event.Tariff tariff) = refl
credits_cdr operator id (event.Token token) = refl
credits_cdr operator id (event.Authorised hold) = refl
credits_cdr operator id (event.Released release) = refl
credits_cdr operator id (event.Cdr cdr cost) = credits_one operator cdr.operator id cdr.credit
credits_cdr operator id (event.Credit cdr amount) = credits_one operator cdr.operator id cdr.credit
credits_cdr operator id (event.Settled settlement) = refl
credits_cdr operator id (event.Closed period) = refl

-- ---- which hold it ends

abbrev pub release_key : Hold → EndKey
release_key hold = end.Release hold.operator hold.provider hold.reference

abbrev pub use_key : Hold → EndKey
use_key hold = end.Use hold.operator hold.provider hold.currency hold.reference

none_of_four : (a b c : Bool) → false ≡ ((a && b && c && false) || false)
none_of_four a b c = none (a && b && c)

uses_one : (hold : Hold) (operator provider : Party) (currency : List ℕ) (reference : Option (List ℕ))
    → is_key same_end (use_key hold) (option_map (λ other. end.Use operator provider currency other) reference)
    ≡ ((same_party operator hold.operator && same_party provider hold.provider && same_currency currency hold.currency && names hold.reference reference) || false)
uses_one hold operator provider currency None =
    none_of_four (same_party operator hold.operator) (same_party provider hold.provider) (same_currency currency hold.currency)
uses_one hold operator provider currency (Some other) =
    one_of_four (same_party operator hold.operator) (same_party provider hold.provider) (same_currency currency hold.currency) (same_folded other hold.reference)

no_release : (hold : Hold) (operator provider : Party) (currency : List ℕ) (reference : Option (List ℕ))
    → is_key same_end (release_key hold) (option_map (λ other. end.Use operator provider currency other) reference) ≡ false
no_release hold operator provider currency None = refl
no_release hold operator provider currency (Some other) = refl

-- a release of it, or its use
pub ends_hold : (hold : Hold) (e : Event) → (ends_by (release_key hold) e || ends_by (use_key hold) e) ≡ ends hold e
ends_hold hold (event.Tariff tariff) = refl
ends_hold hold (event.Token token) = refl
ends_hold hold (event.Authorised other) = refl
ends_hold hold (event.Released release) =
    or_false (same_party release.operator hold.operator && (same_party release.provider hold.provider && same_folded release.reference hold.reference))
    ∙ one_of_three (same_party release.operator hold.operator) (same_party release.provider hold.provider) (same_folded release.reference hold.reference)
ends_hold hold (event.Cdr cdr cost) =
    ap (λ b. b || ends_by (use_key hold) (event.Cdr cdr cost)) (no_release hold cdr.operator cdr.cdr_token.provider cdr.currency cdr.authorization_reference)
    ∙ uses_one hold cdr.operator cdr.cdr_token.provider cdr.currency cdr.authorization_reference
ends_hold hold (event.Credit cdr amount) = refl
ends_hold hold (event.Settled settlement) = refl
ends_hold hold (event.Closed period) = refl
