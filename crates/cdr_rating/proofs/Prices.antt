-- How priced volumes and their tally grow with one more period.
use Rattle.std.proofs.Common.{◌≡◌, ◌∙◌, ℕ, ◌+◌, ◌*◌, ◌^◌, ◌<◌, ◌≤◌, List, [], ◌∷◌, ◌++◌, length, take, get_or, Option, Some, None, refl, ap, sym, append_assoc, false, arith}
use Rattle.std.specs.Prelude.{flat_map, sum_by, nat_lt, if◌then◌else◌}
use Rattle.std.proofs.lemmas.List.{append-nil, take_more, reverse-append}
use Rattle.std.specs.List.{list_any}
use Rattle.std.proofs.lemmas.List.Folds.{list_any_more}
use Rattle.std.proofs.lemmas.List.Concat.{flat_map-append}
use Rattle.std.proofs.lemmas.List.Sums.{sum_by_push, sum_by_more}
use Rattle.jiff.specs.Types.{TimeZone as PlainZone}
use Rattle.ocpi_types.specs.declared.cdr.Cdr.{Cdr}
use Rattle.ocpi_types.specs.declared.charging_period.ChargingPeriod.{ChargingPeriod}
use Rattle.ocpi_types.specs.declared.component.ComponentKind.{ComponentKind}
use Rattle.ocpi_types.specs.declared.component.ComponentKind.TheVariants.{Energy}
use Rattle.ocpi_types.specs.declared.component.PriceComponent.{PriceComponent}
use Rattle.cdr_rating.specs.declared.measure.Measure.{Measure}
use Rattle.cdr_rating.specs.declared.tally.Priced.{Priced}
use Rattle.cdr_rating.specs.declared.tally.Tally.{Tally}
use Rattle.cdr_rating.specs.Price.{last_above_zero}
use Rattle.cdr_rating.specs.Pricing.{active_after, lacks_its_tariff, priced_at}
use Rattle.cdr_rating.specs.Inner.Room.{HasRoom, IsOneMore}
use Rattle.cdr_rating.specs.Inner.Tally.{tally_of, factor_of, with_one, added}
use Rattle.cdr_rating.specs.Volumes.{energy_of, volume_in, with_earlier}

-- the priced volumes of so many periods
abbrev pub priced_among : Cdr → PlainZone → ComponentKind → List ChargingPeriod → List Priced
priced_among cdr zone kind periods =
    flat_map (λ p. priced_at (active_after cdr zone kind (energy_of p.0) p.1) (volume_in kind p.1)) (with_earlier [] periods)

with_earlier-more : (earlier periods : List ChargingPeriod) (period : ChargingPeriod) → with_earlier earlier (periods ++ period ∷ []) ≡ with_earlier earlier periods ++ (earlier ++ periods, period) ∷ []
with_earlier-more earlier [] period = rw (append-nil earlier) refl
with_earlier-more earlier (q ∷ periods) period =
    rw (with_earlier-more (earlier ++ q ∷ []) periods period, append_assoc earlier (q ∷ []) periods) refl

pub priced-more : (cdr : Cdr) (zone : PlainZone) (kind : ComponentKind) (periods : List ChargingPeriod) (period : ChargingPeriod) → priced_among cdr zone kind (periods ++ period ∷ []) ≡ priced_among cdr zone kind periods ++ priced_at (active_after cdr zone kind (energy_of periods) period) (volume_in kind period)
priced-more cdr zone kind periods period =
    let one : (List ChargingPeriod × ChargingPeriod) → List Priced = λ p. priced_at (active_after cdr zone kind (energy_of p.0) p.1) (volume_in kind p.1) in
    rw (with_earlier-more [] periods period, flat_map-append one (with_earlier [] periods) ((periods, period) ∷ []), append-nil (one (periods, period))) refl

last-more : (xs : List Priced) (x : Priced) → last_above_zero (xs ++ x ∷ []) ≡ (if nat_lt 0 x.volume then Some x else last_above_zero xs)
last-more xs x = rw (reverse-append xs (x ∷ [])) refl

tally-more : (measure : Measure) (xs : List Priced) (x : Priced) → tally_of measure (xs ++ x ∷ []) ≡ with_one (tally_of measure xs) x
tally-more measure xs x =
    rw (sum_by_push (λ p. factor_of measure * p.price * p.volume) xs x, sum_by_push (λ p. p.volume) xs x, last-more xs x) refl

pub tally-added : (measure : Measure) (xs : List Priced) (component : Option PriceComponent) (volume : ℕ) → tally_of measure (xs ++ priced_at component volume) ≡ added (tally_of measure xs) component volume
tally-added measure xs None volume = rw (append-nil xs) refl
tally-added measure xs (Some component) volume = tally-more measure xs (record { price = component.price; step_size = component.step_size; volume = volume })

-- what one more period adds to the tally of a kind
pub tally-step : (measure : Measure) (cdr : Cdr) (zone : PlainZone) (kind : ComponentKind) (periods : List ChargingPeriod) (i : ℕ) (period : ChargingPeriod) → i < length periods → period ≡ get_or periods i period →
    tally_of measure (priced_among cdr zone kind (take (i + 1) periods)) ≡ added (tally_of measure (priced_among cdr zone kind (take i periods))) (active_after cdr zone kind (sum_by (volume_in Energy) (take i periods)) period) (volume_in kind period)
tally-step measure cdr zone kind periods i period inside here =
    let more : take (i + 1) periods ≡ take i periods ++ period ∷ [] = take_more periods i period inside ∙ ap (λ q. take i periods ++ q ∷ []) (sym here) in
    rw (more, priced-more cdr zone kind (take i periods) period) (tally-added measure (priced_among cdr zone kind (take i periods)) (active_after cdr zone kind (sum_by (volume_in Energy) (take i periods)) period) (volume_in kind period))

-- a tally that one more period was added to
pub tally_kept : (measure : Measure) (cdr : Cdr) (zone : PlainZone) (kind : ComponentKind) (periods : List ChargingPeriod) (i : ℕ) (period : ChargingPeriod) (energy : ℕ) (old new : Tally) → i < length periods → period ≡ get_or periods i period →
    energy ≡ sum_by (volume_in Energy) (take i periods) → old ≡ tally_of measure (priced_among cdr zone kind (take i periods)) →
    new ≡ added old (active_after cdr zone kind energy period) (volume_in kind period) → new ≡ tally_of measure (priced_among cdr zone kind (take (i + 1) periods))
tally_kept measure cdr zone kind periods i period energy old new inside here before was now =
    rw (tally-step measure cdr zone kind periods i period inside here, now, was, before) refl

-- the energy up to the next period
pub energy_kept : (periods : List ChargingPeriod) (i : ℕ) (period : ChargingPeriod) (energy more : ℕ) → i < length periods → period ≡ get_or periods i period →
    energy ≡ sum_by (volume_in Energy) (take i periods) → more ≡ volume_in Energy period → energy + more ≡ sum_by (volume_in Energy) (take (i + 1) periods)
energy_kept periods i period energy more inside here before is =
    rw (sum_by_more (volume_in Energy) periods i period inside, ← here, before, is) refl

-- one more period does not lack its tariff
pub given_kept : (cdr : Cdr) (periods : List ChargingPeriod) (i : ℕ) (period : ChargingPeriod) → i < length periods → period ≡ get_or periods i period →
    list_any (lacks_its_tariff cdr) (take i periods) ≡ false → false ≡ lacks_its_tariff cdr period → list_any (lacks_its_tariff cdr) (take (i + 1) periods) ≡ false
given_kept cdr periods i period inside here given has =
    rw (list_any_more (lacks_its_tariff cdr) periods i period inside, ← here, ← has, given) refl

-- a tally of so many periods
pub record IsWithinPeriods (periods : ℕ) (tally : Tally) : Type 0 where
  pub cost : tally.cost ≤ periods * 10 ^ 33
  pub volume : tally.volume ≤ periods * 10 ^ 17

pub within_periods-more : (periods : ℕ) (old new : Tally) → IsWithinPeriods periods old → IsOneMore old new → IsWithinPeriods (periods + 1) new
within_periods-more periods old new within more = record { cost = omega arith; volume = omega arith }

pub has_room : (measure : Measure) (periods : ℕ) (tally : Tally) (volumes : List Priced) → tally ≡ tally_of measure volumes → IsWithinPeriods periods tally → periods ≤ 1000 → HasRoom measure tally
has_room measure periods tally volumes is within few = record { same = ap (λ t. t.measure) is; cost = omega arith; volume = omega arith }
