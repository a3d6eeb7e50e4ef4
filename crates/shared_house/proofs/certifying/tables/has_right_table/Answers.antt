use Rattle.std.proofs.Common.{◌≡◌, true, List, Vec, Global, rules, map}
use Rattle.netting_positions.specs.declared.obligation.Obligation.{Obligation}
use Rattle.netting_positions.specs.declared.positions.NetPosition.{NetPosition}
use Rattle.plain_house.specs.declared.event.Event.{Event}
use Rattle.plain_house.specs.Entries.{book_entries}
use Rattle.plain_house.specs.House.{positions_in}
use Rattle.shared_house.specs.Inner.Tables.{AreOwed, HasRightTable}
use Rattle.shared_house.proofs.StandLemmas.{if_ok}
use Rattle.shared_house.proofs.TableLemmas.{right_positions}
use Rattle.shared_house.proofs.certifying.tables.has_right_table.Goals as goal

pub returns-in_default-Ok-Closed : goal.returns-in_default-Ok-Closed
returns-in_default-Ok-Closed c =
    let items : Vec Obligation Global → List Obligation = λ list. list.items in
    let lists : List (List Obligation) = map items c.args.owed.now in
    let period = c.in_default-Ok-Closed.period in
    let told : List NetPosition = c.in_default-Ok-Closed.positions in
    if_ok c.are_positions.result
    (λ are. are ≡ true → (events : List Event) → AreOwed lists events → told ≡ positions_in c.args.config.now (book_entries events) period)
    (λ has. has ≡ true → (events : List Event) → AreOwed lists events → HasRightTable c.args.config.now events c.args.call.now)
    (λ b are yes events all. right_positions c.args.config.now events c.args.call.now c.in_default-Ok-Closed.field-0-1.at period told (search rules) (are yes events all))
    c.are_positions.ensures

pub returns-in-Statement-Ok-Statement : goal.returns-in-Statement-Ok-Statement
returns-in-Statement-Ok-Statement c = search rules
