use Rattle.std.proofs.Common.{ap, sym, ◌∙◌, option_and_then}
use Rattle.provider_account.specs.Inner.Charged.{charge_at}
use Rattle.provider_account.proofs.charged.ChargePlaces.nth.Goals as goal

pub returns-in-Some : goal.returns-in-Some
returns-in-Some c =
    c.charge_at.ensures ∙ ap (option_and_then (charge_at c.args.entries.now)) (sym c.in-Some.is ∙ c.place.ensures)
    ∙ c.requires.charge (record { nth = c.args.nth; cdr = c.args.cdr.now })

pub returns-in-None : goal.returns-in-None
returns-in-None c =
    ap (option_and_then (charge_at c.args.entries.now)) (sym c.in-None.is ∙ c.place.ensures)
    ∙ c.requires.charge (record { nth = c.args.nth; cdr = c.args.cdr.now })
