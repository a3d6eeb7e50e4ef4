-- What the dimensions of a period count, and what no volume adds to a tally.
use Rattle.std.proofs.Common.{◌≡◌, ◌∙◌, ℕ, ◌+◌, ◌*◌, ◌/◌, ◌<◌, ◌⊎◌, inl, inr, Bool, true, false, Option, Some, None, List, [], ◌∷◌, length, take, get_or, refl, ap, sym, arith}
use Rattle.std.specs.Prelude.{filter, sum_by, unsigned_abs, if◌then◌else◌, cond}
use Rattle.std.proofs.lemmas.List.Elements.{filter_more}
use Rattle.std.proofs.lemmas.List.Sums.{sum_by-append}
use Rattle.ocpi_types.specs.declared.component.ComponentKind.{ComponentKind}
use Rattle.ocpi_types.specs.declared.component.PriceComponent.{PriceComponent}
use Rattle.ocpi_types.specs.declared.dimension.Dimension.{Dimension}
use Rattle.ocpi_types.specs.declared.tariff.Tariff.{Tariff}
use Rattle.tariff_elements.specs.Active.{active}
use Rattle.tariff_elements.specs.Clock.{IsActiveAnyTime}
use Rattle.tariff_elements.specs.LocalTime.{LocalMoment}
use Rattle.cdr_rating.specs.declared.tally.Tally.{Tally}
use Rattle.cdr_rating.specs.Inner.Clock.{IsCountedAnyTime, IsSameBut}
use Rattle.cdr_rating.specs.Inner.Counted.{millionths_of}
use Rattle.cdr_rating.specs.Inner.Tally.{added, factor_of, with_one}
use Rattle.cdr_rating.specs.Volumes.{charges_for}

-- ---- dimensions

-- the volumes of one kind among dimensions
abbrev pub counted : ComponentKind → List Dimension → ℕ
counted kind dimensions = sum_by (λ d. unsigned_abs d.volume) (filter (λ d. charges_for kind d.kind) dimensions)

one_counted : (counts : Bool) (d : Dimension) → sum_by (λ x. unsigned_abs x.volume) (cond counts (d ∷ []) []) ≡ (if counts then unsigned_abs d.volume else 0)
one_counted true d = omega arith
one_counted false d = refl

pub counted_more : (kind : ComponentKind) (dimensions : List Dimension) (i : ℕ) (d : Dimension) (total more : ℕ) → i < length dimensions → d ≡ get_or dimensions i d →
    total ≡ counted kind (take i dimensions) → more ≡ millionths_of kind d → total + more ≡ counted kind (take (i + 1) dimensions)
counted_more kind dimensions i d total more inside here before is =
    rw (
      filter_more (λ x. charges_for kind x.kind) dimensions i d inside,
      ← here,
      sum_by-append (λ x. unsigned_abs x.volume) (filter (λ x. charges_for kind x.kind) (take i dimensions)) (cond (charges_for kind d.kind) (d ∷ []) []),
      one_counted (charges_for kind d.kind) d,
      before,
      is,
    ) refl

-- ---- tallies

same_tally : (tally : Tally) (cost volume : ℕ) → cost ≡ tally.cost → volume ≡ tally.volume → tally ≡ record { measure = tally.measure; cost = cost; volume = volume; last = tally.last }
same_tally tally cost volume c v = λ i. record { measure = tally.measure; cost = sym c i; volume = sym v i; last = tally.last }

pub added_nothing : (tally : Tally) (component : Option PriceComponent) (volume : ℕ) → volume ≡ 0 → tally ≡ added tally component volume
added_nothing tally None volume none = refl
added_nothing tally (Some component) volume none =
    rw none (same_tally tally (tally.cost + factor_of tally.measure * component.price * 0) (tally.volume + 0) (omega arith) (omega arith))

-- ---- what a clock shows

pub active_as_asked : (tariff : Tariff) (kind : ComponentKind) (asks_clock : Bool) (m n : LocalMoment) → (asks_clock ≡ false → IsActiveAnyTime tariff kind) → IsSameBut asks_clock m n → active tariff kind m ≡ active tariff kind n
active_as_asked tariff kind true m n any same = ap (active tariff kind) (same.asked refl)
active_as_asked tariff kind false m n any same = any refl m n same.energy same.seconds

counted_alike : (tally : Tally) (tariff : Tariff) (kind : ComponentKind) (volume : ℕ) (m n : LocalMoment) → m.energy ≡ n.energy → m.seconds ≡ n.seconds → IsCountedAnyTime tariff kind volume →
    added tally (active tariff kind m) volume ≡ added tally (active tariff kind n) volume
counted_alike tally tariff kind volume m n e s any = elim any [
  | inl none ↦ sym (added_nothing tally (active tariff kind m) volume none) ∙ added_nothing tally (active tariff kind n) volume none
  | inr alike ↦ ap (λ c. added tally c volume) (alike m n e s)
]

pub added_as_asked : (tally : Tally) (tariff : Tariff) (kind : ComponentKind) (volume : ℕ) (asks_clock : Bool) (m n : LocalMoment) → (asks_clock ≡ false → IsCountedAnyTime tariff kind volume) → IsSameBut asks_clock m n →
    added tally (active tariff kind m) volume ≡ added tally (active tariff kind n) volume
added_as_asked tally tariff kind volume true m n any same = ap (λ x. added tally (active tariff kind x) volume) (same.asked refl)
added_as_asked tally tariff kind volume false m n any same = counted_alike tally tariff kind volume m n same.energy same.seconds (any refl)
