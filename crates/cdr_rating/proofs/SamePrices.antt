-- A CDR costs what it costs with the letters of its parties, ids and references folded.
use Rattle.std.proofs.Common.{◌≡◌, ◌∙◌, ℕ, ◌+◌, List, [], ◌∷◌, ◌++◌, map, find, Bool, true, false, cond, Option, None, Some, refl, sym, ap, ap₂}
use Rattle.std.specs.Prelude.{flat_map, sum_by, is_some, not, ◌&&◌, ◌||◌, option_and_then, option_map}
use Rattle.std.specs.List.{list_any}
use Rattle.std.proofs.lemmas.List.Sums.{sum_by-cons}
use Rattle.std.proofs.lemmas.Str.Ascii.{lowercase-lowercase}
use Rattle.jiff.specs.Types.{TimeZone as PlainZone}
use Rattle.ocpi_json.specs.Folded.{folded, same_folded}
use Rattle.ocpi_types.specs.SameCdr.{SameCdrsAreEqualFolded, folded_period}
use Rattle.ocpi_types.specs.SameTariff.{folded_tariff}
use Rattle.ocpi_types.specs.declared.cdr.Cdr.{Cdr}
use Rattle.ocpi_types.specs.declared.charging_period.ChargingPeriod.{ChargingPeriod}
use Rattle.ocpi_types.specs.declared.component.ComponentKind.{ComponentKind}
use Rattle.ocpi_types.specs.declared.component.ComponentKind.TheVariants.{Energy, Flat, ParkingTime, Time}
use Rattle.ocpi_types.specs.declared.tariff.Tariff.{Tariff}
use Rattle.tariff_elements.specs.Active.{active}
use Rattle.cdr_rating.specs.Law.{SameCdrsCostTheSame}
use Rattle.cdr_rating.specs.Price.{bounded, first_tariff, flat_cost, price, sum_of}
use Rattle.cdr_rating.specs.Pricing.{active_after, lacks_its_tariff, lacks_tariff, moment_after, priced_at, priced_volumes, tariff_of}
use Rattle.cdr_rating.proofs.FoldedCdrs.{equal_folded, folded_cdr}
use Rattle.cdr_rating.specs.Volumes.{energy_of, volume_in, with_earlier}

-- ---- in general

find_mapped : {X Y : Type 0} (p : Y → Bool) (q : X → Bool) (f : X → Y) → ((x : X) → p (f x) ≡ q x) → (xs : List X) → find p (map f xs) ≡ option_map f (find q xs)
find_mapped p q f same [] = refl
find_mapped {X} {Y} p q f same (x ∷ xs) = ap (λ (b : Bool). cond b (Some (f x)) (find p (map f xs))) (same x) ∙ by (q x) (find_mapped p q f same xs)
  where
    by : (b : Bool) → find p (map f xs) ≡ option_map f (find q xs) → cond b (Some (f x)) (find p (map f xs)) ≡ option_map f (cond b (Some x) (find q xs))
    by true rest = refl
    by false rest = rest

any_mapped : {X Y : Type 0} (p : Y → Bool) (q : X → Bool) (f : X → Y) → ((x : X) → p (f x) ≡ q x) → (xs : List X) → list_any p (map f xs) ≡ list_any q xs
any_mapped p q f same [] = refl
any_mapped p q f same (x ∷ xs) = ap₂ (λ (a b : Bool). a || b) (same x) (any_mapped p q f same xs)

sum_mapped : {X Y : Type 0} (g : Y → ℕ) (h : X → ℕ) (f : X → Y) → ((x : X) → g (f x) ≡ h x) → (xs : List X) → sum_by g (map f xs) ≡ sum_by h xs
sum_mapped g h f same [] = refl
sum_mapped g h f same (x ∷ xs) =
    sum_by-cons g (f x) (map f xs) ∙ ap₂ (λ (a b : ℕ). a + b) (same x) (sum_mapped g h f same xs) ∙ sym (sum_by-cons h x xs)

flat_mapped : {X Y Z : Type 0} (g : Y → List Z) (h : X → List Z) (f : X → Y) → ((x : X) → g (f x) ≡ h x) → (xs : List X) → flat_map g (map f xs) ≡ flat_map h xs
flat_mapped g h f same [] = refl
flat_mapped {X} {Y} {Z} g h f same (x ∷ xs) = ap₂ (λ (a b : List Z). a ++ b) (same x) (flat_mapped g h f same xs)

mapped-append : {X Y : Type 0} (f : X → Y) (xs ys : List X) → map f (xs ++ ys) ≡ map f xs ++ map f ys
mapped-append f [] ys = refl
mapped-append {X} {Y} f (x ∷ xs) ys = ap (λ (l : List Y). f x ∷ l) (mapped-append f xs ys)

-- ---- folded texts

folded-folded : (text : List ℕ) → folded (folded text) ≡ folded text
folded-folded [] = refl
folded-folded (byte ∷ text) = ap₂ (λ (b : ℕ) (l : List ℕ). b ∷ l) (lowercase-lowercase byte) (folded-folded text)

same_in_folded : (a b : List ℕ) → same_folded (folded a) (folded b) ≡ same_folded a b
same_in_folded a b = rw (folded-folded a, folded-folded b) refl

-- ---- tariffs

module _ (cdr : Cdr) where
  its_tariff : (period : ChargingPeriod) → tariff_of (folded_cdr cdr) (folded_period period) ≡ option_map folded_tariff (tariff_of cdr period)
  its_tariff period = by period.tariff_id
    where
      by : (named : Option (List ℕ)) → option_and_then (λ id. find (λ tariff. same_folded tariff.id id) (map folded_tariff cdr.tariffs)) (option_map folded named)
          ≡ option_map folded_tariff (option_and_then (λ id. find (λ tariff. same_folded tariff.id id) cdr.tariffs) named)
      by None = refl
      by (Some id) =
          find_mapped (λ (tariff : Tariff). same_folded tariff.id (folded id)) (λ (tariff : Tariff). same_folded tariff.id id) folded_tariff
          (λ (tariff : Tariff). same_in_folded tariff.id id) cdr.tariffs

  is_some-mapped : {X Y : Type 0} (f : X → Y) (o : Option X) → is_some (option_map f o) ≡ is_some o
  is_some-mapped f None = refl
  is_some-mapped f (Some x) = refl

  lacks_same : (period : ChargingPeriod) → lacks_its_tariff (folded_cdr cdr) (folded_period period) ≡ lacks_its_tariff cdr period
  lacks_same period =
      ap₂ (λ (a b : Bool). a && not b) (is_some-mapped folded period.tariff_id)
      (ap is_some (its_tariff period) ∙ is_some-mapped folded_tariff (tariff_of cdr period))

  lacks_tariff_same : lacks_tariff (folded_cdr cdr) ≡ lacks_tariff cdr
  lacks_tariff_same = any_mapped (lacks_its_tariff (folded_cdr cdr)) (lacks_its_tariff cdr) folded_period lacks_same cdr.charging_periods

  -- ---- components

  module _ (zone : PlainZone) where
    active_same : (kind : ComponentKind) (energy : ℕ) (period : ChargingPeriod) → active_after (folded_cdr cdr) zone kind energy (folded_period period) ≡ active_after cdr zone kind energy period
    active_same kind energy period =
        ap (option_and_then (λ tariff. active tariff kind (moment_after cdr zone energy period))) (its_tariff period) ∙ by (tariff_of cdr period)
      where
        by : (o : Option Tariff) → option_and_then (λ tariff. active tariff kind (moment_after cdr zone energy period)) (option_map folded_tariff o)
            ≡ option_and_then (λ tariff. active tariff kind (moment_after cdr zone energy period)) o
        by None = refl
        by (Some tariff) = refl

    energy_same : (periods : List ChargingPeriod) → energy_of (map folded_period periods) ≡ energy_of periods
    energy_same periods = sum_mapped (volume_in Energy) (volume_in Energy) folded_period (λ period. refl) periods

    abbrev both_folded : List ChargingPeriod × ChargingPeriod → List ChargingPeriod × ChargingPeriod
    both_folded p = (map folded_period p.0, folded_period p.1)

    earlier_same : (earlier periods : List ChargingPeriod) → with_earlier (map folded_period earlier) (map folded_period periods) ≡ map both_folded (with_earlier earlier periods)
    earlier_same earlier [] = refl
    earlier_same earlier (period ∷ later) =
        ap (λ (l : List (List ChargingPeriod × ChargingPeriod)). (map folded_period earlier, folded_period period) ∷ l)
        (ap (λ (l : List ChargingPeriod). with_earlier l (map folded_period later)) (sym (mapped-append folded_period earlier (period ∷ [])))
        ∙ earlier_same (earlier ++ period ∷ []) later)

    volume_same : (kind : ComponentKind) (period : ChargingPeriod) → volume_in kind (folded_period period) ≡ volume_in kind period
    volume_same Energy period = refl
    volume_same ParkingTime period = refl
    volume_same Time period = refl
    volume_same Flat period = refl

    volumes_same : (kind : ComponentKind) → priced_volumes (folded_cdr cdr) zone kind ≡ priced_volumes cdr zone kind
    volumes_same kind =
        ap (flat_map (λ p. priced_at (active_after (folded_cdr cdr) zone kind (energy_of p.0) p.1) (volume_in kind p.1))) (earlier_same [] cdr.charging_periods)
        ∙ flat_mapped (λ p. priced_at (active_after (folded_cdr cdr) zone kind (energy_of p.0) p.1) (volume_in kind p.1))
        (λ p. priced_at (active_after cdr zone kind (energy_of p.0) p.1) (volume_in kind p.1)) both_folded
        (λ p. ap₂ priced_at
        (ap (λ (energy : ℕ). active_after (folded_cdr cdr) zone kind energy (folded_period p.1)) (energy_same p.0) ∙ active_same kind (energy_of p.0) p.1)
        (volume_same kind p.1)) (with_earlier [] cdr.charging_periods)

    flat_same : (periods : List ChargingPeriod) → flat_cost (folded_cdr cdr) zone (map folded_period periods) ≡ flat_cost cdr zone periods
    flat_same [] = refl
    flat_same (first ∷ later) = rw (active_same Flat 0 first) refl

    sum_same : sum_of (folded_cdr cdr) zone ≡ sum_of cdr zone
    sum_same = rw (volumes_same Energy, volumes_same ParkingTime, volumes_same Time, flat_same cdr.charging_periods) refl

    first_same : (periods : List ChargingPeriod) → first_tariff (folded_cdr cdr) (map folded_period periods) ≡ option_map folded_tariff (first_tariff cdr periods)
    first_same [] = refl
    first_same (first ∷ later) = its_tariff first

    bounded_same : (o : Option Tariff) (units : ℕ) → bounded (option_map folded_tariff o) units ≡ bounded o units
    bounded_same None units = refl
    bounded_same (Some tariff) units = refl

    folded_costs_the_same : price (folded_cdr cdr) zone ≡ price cdr zone
    unfolding price
    folded_costs_the_same =
        rw (lacks_tariff_same, sum_same, first_same cdr.charging_periods, bounded_same (first_tariff cdr cdr.charging_periods) (sum_of cdr zone)) refl

pub cost_the_same : SameCdrsAreEqualFolded → SameCdrsCostTheSame
cost_the_same law a b zone same =
    sym (folded_costs_the_same a zone) ∙ ap (λ (cdr : Cdr). price cdr zone) (equal_folded a b ((law a b).0 same)) ∙ folded_costs_the_same b zone
