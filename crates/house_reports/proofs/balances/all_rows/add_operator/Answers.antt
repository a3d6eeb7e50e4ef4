use Rattle.std.proofs.Common.{◌≡◌, ◌++◌, ◌∙◌, [], List, ap, append-nil, rules, sym}
use Rattle.house_reports.specs.declared.balances.booking.Booking.{Booking}
use Rattle.house_reports.specs.declared.balances.row.Row.{Row}
use Rattle.house_reports.specs.balances.Inner.Narrowed.{rows_of_operator}
use Rattle.house_reports.proofs.balances.ListLemmas.{is_none}
use Rattle.house_reports.proofs.balances.RowsLemmas.{none_of_operator}
use Rattle.house_reports.proofs.balances.all_rows.add_operator.Goals as goal

pub returns-then-is_empty : goal.returns-then-is_empty
returns-then-is_empty c =
    let listed = c.args.listed.now in
    let before : List Row = c.args.rows.now.items in
    let none : c.args.bookings.now ≡ [] = is_none c.args.bookings.now (search rules) in
    sym (append-nil before)
    ∙ ap (λ (l : List Row). before ++ l) (sym (none_of_operator listed.settlements c.args.period c.args.currency.now c.args.operator.now listed.providers.items))
    ∙ ap (λ (bs : List Booking). before ++ rows_of_operator listed.settlements c.args.period c.args.currency.now c.args.operator.now listed.providers.items bs) (sym none)
