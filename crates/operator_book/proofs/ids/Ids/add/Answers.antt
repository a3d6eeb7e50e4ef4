use Rattle.std.proofs.Common.{◌∙◌, ap, Some, None, length, if◌then◌else◌}
use Rattle.std.specs.Option.{option_or}
use Rattle.plain_house.specs.Booked.{shown_booked}
use Rattle.operator_book.specs.Inner.Ids.{same_cdr_key}
use Rattle.operator_book.proofs.IdsLemmas.{cdr_added, none_added}
use Rattle.operator_book.proofs.ids.Ids.add.Goals as goal

pub returns-in-Some : goal.returns-in-Some
returns-in-Some c key =
    let entries = c.args.entries.now in
    c.put.ensures key
    ∙ ap (λ before. option_or before (if same_cdr_key (record { operator = c.in-Some.found.cdr.now.operator; id = c.in-Some.found.cdr.now.id }) key then Some (length entries) else None)) (c.requires.kept key)
    ∙ cdr_added key entries c.args.entry.now (shown_booked c.in-Some.found) c.in-Some.ensures

pub returns-in_default : goal.returns-in_default
returns-in_default c key = c.requires.kept key ∙ none_added key c.args.entries.now c.args.entry.now c.in_default.ensures
