use Rattle.std.proofs.Common.{◌∙◌, [], ◌∷◌, List, Vec, Global, rules, ap, sym, subst, map}
use Rattle.std.proofs.lemmas.List.{length-map, map-append}
use Rattle.netting_positions.specs.declared.obligation.Obligation.{Obligation}
use Rattle.shared_house.specs.Inner.Tables.{AreOwed}
use Rattle.shared_house.proofs.TableLemmas.{goes_on, owed_first, owed_more}
use Rattle.shared_house.proofs.certifying.tables.owed_by_period.Goals as goal

pub loop-period-preserved : goal.loop-period-preserved
loop-period-preserved c =
    let items : Vec Obligation Global → List Obligation = λ list. list.items in
    let events = c.args.events.now in
    let period = c.loop-period._period in
    let before = c.loop-period.owed.items in
    let first = owed_first events c.loop-period.rest.now c.split_first_period.result.0.now period c.loop-period.invariant.rest c.split_first_period.ensures.first in
    let one = owed_more (map items before) c.in_ok-obligations_in.field-0.items events period c.loop-period.invariant.owed
    (length-map before items ∙ c.loop-period.invariant.count) (c.in_ok-obligations_in.ensures ∙ first) in
    record {
      owed = subst (λ (l : List (List Obligation)). AreOwed l events) (sym (ap (map items) (search rules) ∙ map-append items before (c.in_ok-obligations_in.field-0 ∷ []))) one;
      count = search rules;
      rest = goes_on events c.loop-period.rest.now c.split_first_period.result.1.now period c.loop-period.invariant.rest c.split_first_period.ensures.later;
    }
