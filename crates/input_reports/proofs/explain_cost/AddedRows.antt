-- How rows grow with one more period.
use Rattle.std.proofs.Common.{◌≡◌, ◌∙◌, ℕ, ◌+◌, ◌<◌, List, [], ◌∷◌, ◌++◌, length, take, get_or, refl, ap, sym, append_assoc, length-take-le, arith}
use Rattle.std.specs.Prelude.{flat_map, sum_by}
use Rattle.std.proofs.lemmas.List.{append-nil, take_more}
use Rattle.std.proofs.lemmas.List.Concat.{flat_map-append}
use Rattle.jiff.specs.Types.{TimeZone as PlainZone}
use Rattle.ocpi_types.specs.declared.cdr.Cdr.{Cdr}
use Rattle.ocpi_types.specs.declared.charging_period.ChargingPeriod.{ChargingPeriod}
use Rattle.ocpi_types.specs.declared.component.ComponentKind.{ComponentKind}
use Rattle.ocpi_types.specs.declared.component.ComponentKind.TheVariants.{Energy}
use Rattle.cdr_rating.specs.Pricing.{active_after}
use Rattle.cdr_rating.specs.Volumes.{energy_of, volume_in, with_earlier}
use Rattle.input_reports.specs.explain_cost.Costs.{row_at}
use Rattle.input_reports.specs.declared.explain_cost.row.Row.{Row}
use Rattle.input_reports.specs.declared.explain_cost.row.Source.TheVariants.{Period}

abbrev one_row : Cdr → PlainZone → ComponentKind → (List ChargingPeriod × ChargingPeriod) → List Row
one_row cdr zone kind p = row_at kind (Period (length p.0)) (active_after cdr zone kind (energy_of p.0) p.1) (volume_in kind p.1)

-- the rows of so many periods
abbrev pub rows_among : Cdr → PlainZone → ComponentKind → List ChargingPeriod → List Row
rows_among cdr zone kind periods =
    flat_map (λ p. row_at kind (Period (length p.0)) (active_after cdr zone kind (energy_of p.0) p.1) (volume_in kind p.1)) (with_earlier [] periods)

with_earlier-more : (earlier periods : List ChargingPeriod) (period : ChargingPeriod) → with_earlier earlier (periods ++ period ∷ []) ≡ with_earlier earlier periods ++ (earlier ++ periods, period) ∷ []
with_earlier-more earlier [] period = rw (append-nil earlier) refl
with_earlier-more earlier (q ∷ periods) period =
    rw (with_earlier-more (earlier ++ q ∷ []) periods period, append_assoc earlier (q ∷ []) periods) refl

rows-more : (cdr : Cdr) (zone : PlainZone) (kind : ComponentKind) (periods : List ChargingPeriod) (period : ChargingPeriod) → rows_among cdr zone kind (periods ++ period ∷ []) ≡ rows_among cdr zone kind periods ++ one_row cdr zone kind (periods, period)
rows-more cdr zone kind periods period =
    rw (with_earlier-more [] periods period, flat_map-append (one_row cdr zone kind) (with_earlier [] periods) ((periods, period) ∷ []), append-nil (one_row cdr zone kind (periods, period))) refl

-- one more period, of which this row is given
pub rows_kept : (cdr : Cdr) (zone : PlainZone) (kind : ComponentKind) (periods : List ChargingPeriod) (i : ℕ) (period : ChargingPeriod) (energy : ℕ) (old new more : List Row) → i < length periods → period ≡ get_or periods i period →
    energy ≡ sum_by (volume_in Energy) (take i periods) → old ≡ rows_among cdr zone kind (take i periods) →
    more ≡ row_at kind (Period i) (active_after cdr zone kind energy period) (volume_in kind period) → new ≡ old ++ more →
    new ≡ rows_among cdr zone kind (take (i + 1) periods)
rows_kept cdr zone kind periods i period energy old new more inside here before was given now =
    let grown : take (i + 1) periods ≡ take i periods ++ period ∷ [] = take_more periods i period inside ∙ ap (λ q. take i periods ++ q ∷ []) (sym here) in
    let number : length (take i periods) ≡ i = length-take-le i periods (omega arith) in
    rw (grown, rows-more cdr zone kind (take i periods) period, number, now, was, given, before) refl
