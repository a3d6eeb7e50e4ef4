use Rattle.std.proofs.Common.{[], ◌∷◌, ap, sym, filter, ◌∙◌}
use Rattle.ocpi_types.specs.declared.cdr.Cdr.{Cdr}
use Rattle.plain_house.specs.declared.entry.Charge.{Charge}
use Rattle.plain_house.specs.declared.event.Event.{Event}
use Rattle.plain_house.specs.Entries.{account_entry, charge_of}
use Rattle.plain_house.specs.Exposure.{total_charged}
use Rattle.plain_house.specs.Inner.Scanned.{is_owed_in, owed_charges}
use Rattle.plain_house.proofs.debts.owed_by.Goals as goal

pub returns-in-Cdr : goal.returns-in-Cdr
returns-in-Cdr c =
    c.owed_on.ensures.value
    ∙ ap (λ (charge : Charge). total_charged (filter (is_owed_in c.args.sought.now c.args.events.now) (charge ∷ []))) c.charge_of.ensures
    ∙ ap (λ (cdr : Cdr). total_charged (filter (is_owed_in c.args.sought.now c.args.events.now) (charge_of cdr c.in-Cdr.cost c.args.period ∷ []))) c.deref.ensures
    ∙ ap (λ (e : Event). total_charged (owed_charges c.args.sought.now c.args.events.now (account_entry e c.args.period))) (sym c.in-Cdr.is)
