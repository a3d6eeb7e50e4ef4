use Rattle.std.proofs.Common.{◌≡◌, ◌∙◌, List, Some, Vec, Global, ap, ap₂, sym, rules, slice_get}
use Rattle.std.proofs.lemmas.Bool.{ltb-true}
use Rattle.std.proofs.lemmas.Option.{slice_get-get_or}
use Rattle.netting_positions.specs.declared.obligation.Obligation.{Obligation}
use Rattle.netting_positions.specs.Netting.{net_positions, parties}
use Rattle.shared_house.proofs.TableLemmas.{owed_at}
use Rattle.shared_house.proofs.certifying.tables.are_positions.Goals as goal

pub returns : goal.returns
returns c = λ same events are.
    let items : Vec Obligation Global → List Obligation = λ list. list.items in
    let config = c.args.config.now in
    let found : slice_get c.args.owed.now c.args.period ≡ Some c.in-Some.owed.now =
    slice_get-get_or c.args.owed.now c.args.period c.in-Some.owed.now (ltb-true _ _ (sym c.in-Some.ensures.lookup.0)) ∙ ap Some (sym c.in-Some.ensures.lookup.1) in
    let whole : c.add_each.new.table.parties ≡ parties config = search rules in
    let all : c.add_each.new.table.currencies ≡ config.currencies = search rules in
    let owed : c.add_each.new.table.obligations ≡ c.in-Some.owed.now.items = search rules in
    let told : c.args.told.now ≡ net_positions (parties config) config.currencies c.in-Some.owed.now.items =
    sym (c.is_same-2.ensures.0 same) ∙ c.into_list.ensures.value
    ∙ ap₂ (λ p l. net_positions p l c.add_each.new.table.obligations) whole all ∙ ap (net_positions (parties config) config.currencies) owed in
    told ∙ ap (net_positions (parties config) config.currencies) (owed_at items c.args.owed.now c.args.period c.in-Some.owed.now events are found)
