use Rattle.std.proofs.Common.{ap, sym, ◌∙◌}
use Rattle.std.specs.List.{list_any}
use Rattle.tariff_elements.specs.Clock.{is_by_clock}
use Rattle.tariff_elements.proofs.ClockLemmas.{active_any_time}
use Rattle.tariff_elements.proofs.choice.asks_clock.Goals as goal

pub returns-clause-any_time : goal.returns-clause-any_time
returns-clause-any_time c e =
    active_any_time c.args.tariff.now c.args.kind
    (ap (list_any (is_by_clock c.args.kind)) (sym c.as_slice.ensures) ∙ sym c.any_is_by_clock.ensures ∙ e)
