-- The rows have the volumes, prices and steps of the rating, and cost what it adds up.
use Rattle.std.proofs.Common.{◌≡◌, ◌∙◌, ℕ, ◌+◌, ◌*◌, List, [], ◌∷◌, ◌++◌, map, reverse, find, length, Bool, true, false, cond, Option, None, Some, refl, ap, ap₂, sym, zero-add, arith}
use Rattle.std.specs.Prelude.{flat_map, sum_by, nat_lt, option_map}
use Rattle.std.specs.Option.{option_map_or}
use Rattle.std.proofs.lemmas.List.{map-append, reverse-append}
use Rattle.std.proofs.lemmas.Bool.Decides.{nat_tests}
use Rattle.std.proofs.lemmas.List.Folds.{find-append}
use Rattle.std.proofs.lemmas.List.Sums.{sum_by-append, sum_by-cons}
use Rattle.jiff.specs.Types.{TimeZone as PlainZone}
use Rattle.ocpi_types.specs.declared.cdr.Cdr.{Cdr}
use Rattle.ocpi_types.specs.declared.charging_period.ChargingPeriod.{ChargingPeriod}
use Rattle.ocpi_types.specs.declared.component.ComponentKind.{ComponentKind}
use Rattle.ocpi_types.specs.declared.component.ComponentKind.TheVariants.{Energy, Flat, ParkingTime, Time}
use Rattle.ocpi_types.specs.declared.component.PriceComponent.{PriceComponent}
use Rattle.cdr_rating.specs.declared.tally.Priced.{Priced}
use Rattle.cdr_rating.specs.Price.{cost_of, flat_cost, step_cost, total_volume, up_to_step}
use Rattle.cdr_rating.specs.Price.{last_above_zero as last_priced}
use Rattle.cdr_rating.specs.Pricing.{active_after, priced_at, priced_volumes}
use Rattle.cdr_rating.specs.Volumes.{energy_of, volume_in, with_earlier}
use Rattle.input_reports.specs.explain_cost.Costs.{factor_of, flat_rows, last_above_zero, row_at, step_row, step_rows, stepped_rows, time_rows, units_of, volume_rows, whole_cost, whole_volume}
use Rattle.input_reports.specs.explain_cost.Laws.{RowsAddUp}
use Rattle.input_reports.specs.declared.explain_cost.row.Row.{Row}
use Rattle.input_reports.specs.declared.explain_cost.row.Source.{Source}
use Rattle.input_reports.specs.declared.explain_cost.row.Source.TheVariants.{Once, Period}

-- ---- in general

reverse_mapped : {X Y : Type 0} (f : X → Y) (xs : List X) → reverse (map f xs) ≡ map f (reverse xs)
reverse_mapped f [] = refl
reverse_mapped {X} {Y} f (x ∷ xs) =
    reverse-append (f x ∷ []) (map f xs) ∙ ap (λ (l : List Y). l ++ f x ∷ []) (reverse_mapped f xs)
    ∙ sym (map-append f (reverse xs) (x ∷ [])) ∙ ap (map f) (sym (reverse-append (x ∷ []) xs))

find_mapped : {X Y : Type 0} (p : Y → Bool) (f : X → Y) (xs : List X) → find p (map f xs) ≡ option_map f (find (λ x. p (f x)) xs)
find_mapped p f [] = refl
find_mapped {X} {Y} p f (x ∷ xs) = by (p (f x)) (find_mapped p f xs)
  where
    by : (b : Bool) → find p (map f xs) ≡ option_map f (find (λ y. p (f y)) xs) → cond b (Some (f x)) (find p (map f xs)) ≡ option_map f (cond b (Some x) (find (λ y. p (f y)) xs))
    by true rest = refl
    by false rest = rest

sum_by-mapped : {X Y : Type 0} (g : Y → ℕ) (f : X → Y) (xs : List X) → sum_by g (map f xs) ≡ sum_by (λ x. g (f x)) xs
sum_by-mapped g f [] = refl
sum_by-mapped g f (x ∷ xs) = sum_by-cons g (f x) (map f xs) ∙ ap (λ (n : ℕ). g (f x) + n) (sum_by-mapped g f xs) ∙ sym (sum_by-cons (λ y. g (f y)) x xs)

-- ---- volumes

abbrev priced : Row → Priced
priced row = record { price = row.price; step_size = row.step_size; volume = row.volume }

priced_row : (kind : ComponentKind) (source : Source) (component : Option PriceComponent) (volume : ℕ) → map priced (row_at kind source component volume) ≡ priced_at component volume
priced_row kind source None volume = refl
priced_row kind source (Some component) volume = refl

row_cost : (kind : ComponentKind) (source : Source) (component : Option PriceComponent) (volume : ℕ) → whole_cost (row_at kind source component volume) ≡ cost_of (factor_of kind) (priced_at component volume)
row_cost kind source None volume = refl
row_cost kind source (Some component) volume = refl

module _ (cdr : Cdr) (zone : PlainZone) (kind : ComponentKind) where
  abbrev rows_of : List (List ChargingPeriod × ChargingPeriod) → List Row
  rows_of periods = flat_map (λ p. row_at kind (Period (length p.0)) (active_after cdr zone kind (energy_of p.0) p.1) (volume_in kind p.1)) periods

  abbrev priced_of : List (List ChargingPeriod × ChargingPeriod) → List Priced
  priced_of periods = flat_map (λ p. priced_at (active_after cdr zone kind (energy_of p.0) p.1) (volume_in kind p.1)) periods

  same_priced : (periods : List (List ChargingPeriod × ChargingPeriod)) → map priced (rows_of periods) ≡ priced_of periods
  same_priced [] = refl
  same_priced (p ∷ periods) =
      map-append priced (row_at kind (Period (length p.0)) (active_after cdr zone kind (energy_of p.0) p.1) (volume_in kind p.1)) (rows_of periods)
      ∙ ap₂ (λ (a b : List Priced). a ++ b) (priced_row kind (Period (length p.0)) (active_after cdr zone kind (energy_of p.0) p.1) (volume_in kind p.1)) (same_priced periods)

  same_costs : (periods : List (List ChargingPeriod × ChargingPeriod)) → whole_cost (rows_of periods) ≡ cost_of (factor_of kind) (priced_of periods)
  same_costs [] = refl
  same_costs (p ∷ periods) =
      sum_by-append (λ row. row.cost) (row_at kind (Period (length p.0)) (active_after cdr zone kind (energy_of p.0) p.1) (volume_in kind p.1)) (rows_of periods)
      ∙ ap₂ (λ (a b : ℕ). a + b) (row_cost kind (Period (length p.0)) (active_after cdr zone kind (energy_of p.0) p.1) (volume_in kind p.1)) (same_costs periods)
      ∙ sym (sum_by-append (λ (one : Priced). factor_of kind * one.price * one.volume) (priced_at (active_after cdr zone kind (energy_of p.0) p.1) (volume_in kind p.1)) (priced_of periods))

  volumes_are_priced : map priced (volume_rows cdr zone kind) ≡ priced_volumes cdr zone kind
  volumes_are_priced = same_priced (with_earlier [] cdr.charging_periods)

  volumes_cost : whole_cost (volume_rows cdr zone kind) ≡ cost_of (factor_of kind) (priced_volumes cdr zone kind)
  volumes_cost = same_costs (with_earlier [] cdr.charging_periods)

  same_volume : whole_volume (volume_rows cdr zone kind) ≡ total_volume (priced_volumes cdr zone kind)
  same_volume = sym (sum_by-mapped (λ (one : Priced). one.volume) priced (volume_rows cdr zone kind)) ∙ ap total_volume volumes_are_priced

  same_last : option_map priced (last_above_zero (volume_rows cdr zone kind)) ≡ last_priced (priced_volumes cdr zone kind)
  same_last =
      sym (find_mapped (λ (one : Priced). nat_lt 0 one.volume) priced (reverse (volume_rows cdr zone kind)))
      ∙ ap (find (λ (one : Priced). nat_lt 0 one.volume)) (sym (reverse_mapped priced (volume_rows cdr zone kind)) ∙ ap reverse volumes_are_priced)

-- ---- steps

abbrev step_at : ComponentKind → ℕ → Option Priced → ℕ
step_at kind volume last = option_map_or (λ one. factor_of kind * one.price * up_to_step (units_of kind * one.step_size) volume) last 0

step_by_last : (kind : ComponentKind) (volume : ℕ) (last : Option Row) → whole_cost (option_map_or (λ row. step_row kind volume row ∷ []) last []) ≡ step_at kind volume (option_map priced last)
step_by_last kind volume None = refl
step_by_last kind volume (Some row) = zero-add (factor_of kind * row.price * up_to_step (units_of kind * row.step_size) volume)

steps_cost : (cdr : Cdr) (zone : PlainZone) (kind : ComponentKind) → whole_cost (step_rows kind (volume_rows cdr zone kind)) ≡ step_cost (factor_of kind) (units_of kind) (priced_volumes cdr zone kind)
steps_cost cdr zone kind =
    step_by_last kind (whole_volume (volume_rows cdr zone kind)) (last_above_zero (volume_rows cdr zone kind))
    ∙ ap₂ (λ (volume : ℕ) (last : Option Priced). step_at kind volume last) (same_volume cdr zone kind) (same_last cdr zone kind)

-- ---- all

stepped_cost : (cdr : Cdr) (zone : PlainZone) (kind : ComponentKind) →
    whole_cost (stepped_rows cdr zone kind)
    ≡ cost_of (factor_of kind) (priced_volumes cdr zone kind) + step_cost (factor_of kind) (units_of kind) (priced_volumes cdr zone kind)
stepped_cost cdr zone kind =
    sum_by-append (λ row. row.cost) (volume_rows cdr zone kind) (step_rows kind (volume_rows cdr zone kind))
    ∙ ap₂ (λ (a b : ℕ). a + b) (volumes_cost cdr zone kind) (steps_cost cdr zone kind)

-- where there is no volume, none is above 0
none_above_zero : (volumes : List Priced) → nat_lt 0 (total_volume volumes) ≡ false → find (λ (one : Priced). nat_lt 0 one.volume) (reverse volumes) ≡ None
none_above_zero [] none = refl
none_above_zero (one ∷ volumes) none =
    let whole = sum_by-cons (λ (one : Priced). one.volume) one volumes in
    let first : nat_lt 0 one.volume ≡ false = grind (arith, nat_tests, whole) in
    let rest : nat_lt 0 (total_volume volumes) ≡ false = grind (arith, nat_tests, whole) in
    ap (find (λ (one : Priced). nat_lt 0 one.volume)) (reverse-append (one ∷ []) volumes)
    ∙ find-append (λ (one : Priced). nat_lt 0 one.volume) (reverse volumes) (one ∷ [])
    ∙ rw (none_above_zero volumes rest, first) refl

no_step : (volumes : List Priced) → nat_lt 0 (total_volume volumes) ≡ false → step_cost 2500 1 volumes ≡ 0
no_step volumes none = rw (none_above_zero volumes none) refl

time_both : (cdr : Cdr) (zone : PlainZone) →
    whole_cost (stepped_rows cdr zone ParkingTime) + whole_cost (time_rows cdr zone)
    ≡ cost_of 2500 (priced_volumes cdr zone ParkingTime) + cost_of 2500 (priced_volumes cdr zone Time)
    + cond (nat_lt 0 (total_volume (priced_volumes cdr zone ParkingTime))) (step_cost 2500 1 (priced_volumes cdr zone ParkingTime)) (step_cost 2500 1 (priced_volumes cdr zone Time))
time_both cdr zone = by (nat_lt 0 (total_volume (priced_volumes cdr zone ParkingTime))) refl (ap (nat_lt 0) (same_volume cdr zone ParkingTime))
  where
    by : (b : Bool) → nat_lt 0 (total_volume (priced_volumes cdr zone ParkingTime)) ≡ b → nat_lt 0 (whole_volume (volume_rows cdr zone ParkingTime)) ≡ b →
        whole_cost (stepped_rows cdr zone ParkingTime) + whole_cost (time_rows cdr zone)
        ≡ cost_of 2500 (priced_volumes cdr zone ParkingTime) + cost_of 2500 (priced_volumes cdr zone Time)
        + cond b (step_cost 2500 1 (priced_volumes cdr zone ParkingTime)) (step_cost 2500 1 (priced_volumes cdr zone Time))
    by true some is = rw is (omega (arith, stepped_cost cdr zone ParkingTime, volumes_cost cdr zone Time))
    by false none is = rw is (omega (arith, stepped_cost cdr zone ParkingTime, stepped_cost cdr zone Time, no_step (priced_volumes cdr zone ParkingTime) none))

flat_same : (cdr : Cdr) (zone : PlainZone) (periods : List ChargingPeriod) → whole_cost (flat_rows cdr zone periods) ≡ flat_cost cdr zone periods
flat_same cdr zone [] = refl
flat_same cdr zone (first ∷ later) = by (active_after cdr zone Flat 0 first)
  where
    by : (component : Option PriceComponent) → whole_cost (row_at Flat Once component 1) ≡ option_map_or (λ one. 9_000_000 * one.price) component 0
    by None = refl
    by (Some component) = omega arith

pub rows_add_up_lem : RowsAddUp
rows_add_up_lem cdr zone =
    let cost : Row → ℕ = λ row. row.cost in
    let energy = stepped_rows cdr zone Energy in
    let parking = stepped_rows cdr zone ParkingTime in
    let time = time_rows cdr zone in
    let flat = flat_rows cdr zone cdr.charging_periods in
    let all = sum_by-append cost (energy ++ parking ++ time) flat in
    let volumes = sum_by-append cost (energy ++ parking) time in
    let of_both = sum_by-append cost energy parking in
    omega (arith, all, volumes, of_both, stepped_cost cdr zone Energy, time_both cdr zone, flat_same cdr zone cdr.charging_periods)
