use Rattle.std.proofs.Common.{◌≡◌, ◌∙◌, List, Some, Vec, Global, ap, sym, slice_get}
use Rattle.std.proofs.lemmas.Bool.{ltb-true}
use Rattle.std.proofs.lemmas.Option.{slice_get-get_or}
use Rattle.netting_positions.specs.declared.obligation.Obligation.{Obligation}
use Rattle.netting_positions.specs.Statement.{statement_rows}
use Rattle.shared_house.proofs.TableLemmas.{owed_at}
use Rattle.shared_house.proofs.certifying.tables.are_rows.Goals as goal

pub returns : goal.returns
returns c = λ same events are.
    let items : Vec Obligation Global → List Obligation = λ list. list.items in
    let ask = c.args.ask in
    let found : slice_get c.args.owed.now ask.period ≡ Some c.in-Some.owed.now =
    slice_get-get_or c.args.owed.now ask.period c.in-Some.owed.now (ltb-true _ _ (sym c.in-Some.ensures.lookup.0)) ∙ ap Some (sym c.in-Some.ensures.lookup.1) in
    let told : c.args.told.now ≡ statement_rows ask.party c.in-Some.owed.now.items =
    sym (c.is_same-2.ensures.0 same) ∙ c.in_ok-rows_of.ensures ∙ ap (statement_rows ask.party) c.as_slice.ensures.value in
    told ∙ ap (statement_rows ask.party) (owed_at items c.args.owed.now ask.period c.in-Some.owed.now events are found)
