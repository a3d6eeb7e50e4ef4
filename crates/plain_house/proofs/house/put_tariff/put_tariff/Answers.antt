use Rattle.std.proofs.Common.{List, [], ◌∷◌, Err, subst, rules}
use Rattle.ocpi_types.specs.declared.config.Config.{Config}
use Rattle.ocpi_types.specs.declared.refusal.Store.TheVariants as store
use Rattle.ocpi_types.specs.declared.tariff.Tariff.{Tariff}
use Rattle.plain_house.specs.declared.answer.Answer.TheVariants.{Stored}
use Rattle.plain_house.specs.declared.event.Event.TheVariants.{Tariff as TariffEvent}
use Rattle.plain_house.specs.declared.event.Event.{Event}
use Rattle.plain_house.specs.Full.{are_versions_full, first_full, is_order_full}
use Rattle.plain_house.specs.House.{stored_already}
use Rattle.plain_house.specs.Known.{known}
use Rattle.plain_house.specs.Replies.{Follows}
use Rattle.plain_house.specs.Tariffs.{stored_version}
use Rattle.plain_house.specs.Verdict.{Verdict, accepts, refused_at, unless}
use Rattle.plain_house.proofs.house.put_tariff.put_tariff.Goals as goal

abbrev put : Config → List Event → Tariff → Tariff → Verdict
put config events tariff kept =
    unless (stored_already tariff (stored_version tariff (known events).book)
    ∷ refused_at (first_full ((store.Tariffs, are_versions_full config kept.operator (known events).book) ∷ (store.Order, is_order_full config (known events).point) ∷ []))
    ∷ []) (accepts Stored (TariffEvent tariff))

pub returns-in-Some-full_for_tariff : goal.returns-in-Some-full_for_tariff
returns-in-Some-full_for_tariff c =
    let events = c.args.events.now.items in
    subst (λ (kept : Tariff). Follows (put c.args.config.now events c.args.tariff kept) events (Err c.refused-in-Some-full_for_tariff.result) events)
    c.deref-2.ensures (search rules)
