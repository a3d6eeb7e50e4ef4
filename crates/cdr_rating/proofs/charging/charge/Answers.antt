-- The components that are active at the moment are those that are active after the energy before.
use Rattle.std.proofs.Common.{◌≡◌, ◌∙◌, ℕ, Some, Option, sym, ap}
use Rattle.std.specs.Prelude.{option_and_then}
use Rattle.ocpi_types.specs.declared.component.ComponentKind.{ComponentKind}
use Rattle.ocpi_types.specs.declared.component.ComponentKind.TheVariants.{Energy, ParkingTime, Time}
use Rattle.ocpi_types.specs.declared.component.PriceComponent.{PriceComponent}
use Rattle.tariff_elements.specs.Active.{active}
use Rattle.tariff_elements.specs.LocalTime.{LocalMoment}
use Rattle.cdr_rating.specs.declared.tally.Tally.{Tally}
use Rattle.cdr_rating.specs.Inner.Tally.{added}
use Rattle.cdr_rating.specs.Pricing.{active_after, moment_after}
use Rattle.cdr_rating.proofs.Counted.{added_as_asked}
use Rattle.cdr_rating.proofs.charging.charge.Goals as goal

same_added : (tally : Tally) (a b : Option PriceComponent) (v w : ℕ) → a ≡ b → v ≡ w → added tally a v ≡ added tally b w
same_added tally a b v w p q = λ i. added tally (p i) (q i)

pub returns-in-Some-clause-charged : goal.returns-in-Some-clause-charged
returns-in-Some-clause-charged c =
    let tariff = c.in-Some.tariff.now in
    let after = moment_after c.args.cdr.now c.args.zone.now c.args.energy c.args.period.now in
    let here = c.moment_of-moment.result in
    let same = c.moment_of-moment.ensures in
    let asks = c.is_asked_in-asks_clock in
    let old = c.args.tallies in
    let sums = c.add_active.ensures in
    let counted = c.requires.volumes in
    let found : (kind : ComponentKind) → active tariff kind after ≡ active_after c.args.cdr.now c.args.zone.now kind c.args.energy c.args.period.now =
    λ kind. ap (option_and_then (λ t. active t kind after)) c.in-Some.ensures in
    record {
      energy = sums.energy ∙ added_as_asked old.energy tariff Energy _ asks.result here after asks.ensures.energy same ∙ same_added old.energy _ _ _ _ (found Energy) counted.energy;
      parking = sums.parking ∙ added_as_asked old.parking tariff ParkingTime _ asks.result here after asks.ensures.parking same ∙ same_added old.parking _ _ _ _ (found ParkingTime) counted.parking;
      time = sums.time ∙ added_as_asked old.time tariff Time _ asks.result here after asks.ensures.time same ∙ same_added old.time _ _ _ _ (found Time) counted.time;
      energy_within = sums.energy_within;
      parking_within = sums.parking_within;
      time_within = sums.time_within;
    }
