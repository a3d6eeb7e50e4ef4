-- Each test of the same content decides equality, but for the case of letters.
use Rattle.std.proofs.Common.{◌≡◌, ℕ, Bool, true, false, ◌&&◌, ◌==◌, Option, Some, None, refl, ap}
use Rattle.std.specs.Bool.{Decides}
use Rattle.std.specs.Option.{option_eq}
use Rattle.std.specs.Str.{bytes_eq}
use Rattle.std.specs.Cmp.Lexicographic.{pointwise_decides, bytes_decides}
use Rattle.std.proofs.Props.{props}
use Rattle.std.proofs.lemmas.Bool.Decides.{Decides-eqb, Decides-int_eq}
use Rattle.std.proofs.lemmas.Slice.Eq.{bytes_eq-Decides}
use Rattle.std.specs.Cmp.{booleans_Decides}
use mathlib.Core.HLevel.{is_prop→PathP}
use Rattle.jiff.specs.Types.{Date, Time, Timestamp}
use Rattle.jiff.specs.Words.{IsTimestampNanos}
use Rattle.jiff.proofs.Family.{same_date as date_is, same_time as time_is}
use Rattle.ocpi_json.specs.Folded.{folded}
use Rattle.ocpi_types.specs.Component.{same_component_kind}
use Rattle.ocpi_types.specs.DayOfWeek.{same_day}
use Rattle.ocpi_types.specs.Party.{same_party}
use Rattle.ocpi_types.specs.Inner.SameTariff.{same_time, same_date, same_instant, same_component, same_bounds, same_restrictions, same_element, same_tariff}
use Rattle.ocpi_types.specs.SameTariff.{folded_party, folded_tariff}
use Rattle.ocpi_types.specs.declared.component.ComponentKind.{ComponentKind}
use Rattle.ocpi_types.specs.declared.component.ComponentKind.TheVariants.{Energy, Flat, ParkingTime, Time as PerTime}
use Rattle.ocpi_types.specs.declared.component.PriceComponent.{PriceComponent}
use Rattle.ocpi_types.specs.declared.day_of_week.DayOfWeek.{DayOfWeek}
use Rattle.ocpi_types.specs.declared.day_of_week.DayOfWeek.TheVariants.{Monday, Tuesday, Wednesday, Thursday, Friday, Saturday, Sunday}
use Rattle.ocpi_types.specs.declared.element.Element.{Element}
use Rattle.ocpi_types.specs.declared.party.Party.{Party}
use Rattle.ocpi_types.specs.declared.restrictions.ElectricBounds.{ElectricBounds}
use Rattle.ocpi_types.specs.declared.restrictions.Restrictions.{Restrictions}
use Rattle.ocpi_types.specs.declared.tariff.Tariff.{Tariff}

-- ---- tests of parts

-- two tests in a row
pub both : {P Q : Type 0} (a b : Bool) → Decides a P → Decides b Q → Decides (a && b) (P × Q)
both true true p q = (λ _. (p.0 refl, q.0 refl), λ _. refl)
both true false p q = (λ h. cc, λ h. q.1 h.1)
both false b p q = (λ h. cc, λ h. p.1 h.0)

-- a test decides what comes to the same
pub decides : {P Q : Type 0} (a : Bool) → Decides a P → (P → Q) → (Q → P) → Decides a Q
decides a d f g = (λ h. f (d.0 h), λ h. d.1 (g h))

options : {K : Type 0} (E : K → K → Bool) → ((x y : K) → Decides (E x y) (x ≡ y)) → (p q : Option K) → Decides (option_eq E p q) (p ≡ q)
options E d None None = (λ _. refl, λ _. refl)
options E d None (Some y) = (λ h. cc, λ e. cc)
options E d (Some x) None = (λ h. cc, λ e. cc)
options E d (Some x) (Some y) = (λ h. ap Some ((d x y).0 h), λ e. (d x y).1 cc)

-- ---- parts of a tariff

times : (a b : Time) → Decides (same_time a b) (a ≡ b)
times a b =
    decides (same_time a b)
    (both _ _ (both _ _ (both _ _ (Decides-eqb a.hour b.hour) (Decides-eqb a.minute b.minute)) (Decides-eqb a.second b.second)) (Decides-eqb a.subsec_nanosecond b.subsec_nanosecond))
    (λ p. time_is a b cc)
    (λ e. (((λ i. (e i).hour, λ i. (e i).minute), λ i. (e i).second), λ i. (e i).subsec_nanosecond))

dates : (a b : Date) → Decides (same_date a b) (a ≡ b)
dates a b =
    decides (same_date a b)
    (both _ _ (both _ _ (Decides-int_eq a.year b.year) (Decides-eqb a.month b.month)) (Decides-eqb a.day b.day))
    (λ p. date_is a b cc)
    (λ e. ((λ i. (e i).year, λ i. (e i).month), λ i. (e i).day))

pub instants : (a b : Timestamp) → Decides (same_instant a b) (a ≡ b)
instants a b =
    decides (same_instant a b) (Decides-int_eq a.nanosecond b.nanosecond)
    (λ p i. record {
      nanosecond = p i;
      in_range = is_prop→PathP (λ j. IsTimestampNanos (p j)) (λ j. hlevel props) a.in_range b.in_range i;
    })
    (λ e i. (e i).nanosecond)

days : (a b : DayOfWeek) → Decides (same_day a b) (a ≡ b)
days Monday Monday = (λ _. refl, λ _. refl)
days Tuesday Tuesday = (λ _. refl, λ _. refl)
days Wednesday Wednesday = (λ _. refl, λ _. refl)
days Thursday Thursday = (λ _. refl, λ _. refl)
days Friday Friday = (λ _. refl, λ _. refl)
days Saturday Saturday = (λ _. refl, λ _. refl)
days Sunday Sunday = (λ _. refl, λ _. refl)
days a b = (λ h. cc, λ e. cc)

kinds : (a b : ComponentKind) → Decides (same_component_kind a b) (a ≡ b)
kinds Energy Energy = (λ _. refl, λ _. refl)
kinds Flat Flat = (λ _. refl, λ _. refl)
kinds ParkingTime ParkingTime = (λ _. refl, λ _. refl)
kinds PerTime PerTime = (λ _. refl, λ _. refl)
kinds a b = (λ h. cc, λ e. cc)

components : (a b : PriceComponent) → Decides (same_component a b) (a ≡ b)
components a b =
    decides (same_component a b)
    (both _ _ (both _ _ (kinds a.kind b.kind) (Decides-eqb a.price b.price)) (Decides-eqb a.step_size b.step_size))
    (λ p i. record { kind = p.0.0 i; price = p.0.1 i; step_size = p.1 i })
    (λ e. ((λ i. (e i).kind, λ i. (e i).price), λ i. (e i).step_size))

bounds : (a b : ElectricBounds) → Decides (same_bounds a b) (a ≡ b)
bounds a b =
    decides (same_bounds a b)
    (both _ _ (both _ _ (both _ _ (booleans_Decides a.min_current b.min_current) (booleans_Decides a.max_current b.max_current)) (booleans_Decides a.min_power b.min_power)) (booleans_Decides a.max_power b.max_power))
    (λ p i. record { min_current = p.0.0.0 i; max_current = p.0.0.1 i; min_power = p.0.1 i; max_power = p.1 i })
    (λ e. (((λ i. (e i).min_current, λ i. (e i).max_current), λ i. (e i).min_power), λ i. (e i).max_power))

numbers : (p q : Option ℕ) → Decides (option_eq ◌==◌ p q) (p ≡ q)
numbers = options ◌==◌ Decides-eqb

restrictions : (a b : Restrictions) → Decides (same_restrictions a b) (a ≡ b)
unfolding same_restrictions
restrictions a b =
    let hours = both _ _ (options same_time times a.start_time b.start_time) (options same_time times a.end_time b.end_time) in
    let when = both _ _ (both _ _ hours (options same_date dates a.start_date b.start_date)) (options same_date dates a.end_date b.end_date) in
    let energy = both _ _ (both _ _ when (numbers a.min_kwh b.min_kwh)) (numbers a.max_kwh b.max_kwh) in
    let duration = both _ _ (both _ _ energy (numbers a.min_duration b.min_duration)) (numbers a.max_duration b.max_duration) in
    let listed = both _ _ duration (pointwise_decides days a.day_of_week b.day_of_week) in
    let reserved = both _ _ listed (options bytes_eq bytes_eq-Decides a.reservation b.reservation) in
    decides (same_restrictions a b) (both _ _ reserved (bounds a.electric b.electric))
    (λ p i. record {
      start_time = p.0.0.0.0.0.0.0.0.0.0 i;
      end_time = p.0.0.0.0.0.0.0.0.0.1 i;
      start_date = p.0.0.0.0.0.0.0.0.1 i;
      end_date = p.0.0.0.0.0.0.0.1 i;
      min_kwh = p.0.0.0.0.0.0.1 i;
      max_kwh = p.0.0.0.0.0.1 i;
      min_duration = p.0.0.0.0.1 i;
      max_duration = p.0.0.0.1 i;
      day_of_week = p.0.0.1 i;
      reservation = p.0.1 i;
      electric = p.1 i;
    })
    (λ e. ((((((((((λ i. (e i).start_time, λ i. (e i).end_time), λ i. (e i).start_date), λ i. (e i).end_date), λ i. (e i).min_kwh), λ i. (e i).max_kwh), λ i. (e i).min_duration), λ i. (e i).max_duration), λ i. (e i).day_of_week), λ i. (e i).reservation), λ i. (e i).electric))

elements : (a b : Element) → Decides (same_element a b) (a ≡ b)
unfolding same_element
elements a b =
    decides (same_element a b)
    (both _ _ (pointwise_decides components a.price_components b.price_components) (options same_restrictions restrictions a.restrictions b.restrictions))
    (λ p i. record { price_components = p.0 i; restrictions = p.1 i })
    (λ e. (λ i. (e i).price_components, λ i. (e i).restrictions))

-- ---- but for the case of letters

pub parties : (a b : Party) → Decides (same_party a b) (folded_party a ≡ folded_party b)
parties a b =
    decides (same_party a b)
    (both _ _ (bytes_decides (folded a.country_code) (folded b.country_code)) (bytes_decides (folded a.party_id) (folded b.party_id)))
    (λ p i. record { country_code = p.0 i; party_id = p.1 i })
    (λ e. (λ i. (e i).country_code, λ i. (e i).party_id))

pub tariffs : (a b : Tariff) → Decides (same_tariff a b) (folded_tariff a ≡ folded_tariff b)
unfolding same_tariff
tariffs a b =
    let named = both _ _ (both _ _ (parties a.operator b.operator) (bytes_decides (folded a.id) (folded b.id))) (bytes_eq-Decides a.currency b.currency) in
    let priced = both _ _ (both _ _ named (numbers a.min_price b.min_price)) (numbers a.max_price b.max_price) in
    let listed = both _ _ priced (pointwise_decides elements a.elements b.elements) in
    decides (same_tariff a b) (both _ _ listed (instants a.last_updated b.last_updated))
    (λ p i. record {
      operator = p.0.0.0.0.0.0 i;
      id = p.0.0.0.0.0.1 i;
      currency = p.0.0.0.0.1 i;
      min_price = p.0.0.0.1 i;
      max_price = p.0.0.1 i;
      elements = p.0.1 i;
      last_updated = p.1 i;
    })
    (λ e. ((((((λ i. (e i).operator, λ i. (e i).id), λ i. (e i).currency), λ i. (e i).min_price), λ i. (e i).max_price), λ i. (e i).elements), λ i. (e i).last_updated))
