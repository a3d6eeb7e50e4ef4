use Rattle.std.proofs.Common.{◌<◌, ◌≤◌, ◌∙◌, sym, ap, arith, length, option_map}
use Rattle.plain_house.specs.Booked.{shown_booked}
use Rattle.operator_book.specs.declared.keys.CdrKey.{CdrKey}
use Rattle.operator_book.proofs.IdsLemmas.{cdr_at, cdr_within, no_cdr}
use Rattle.operator_book.proofs.ids.Ids.find.Goals as goal

pub returns-in_err-place : goal.returns-in_err-place
returns-in_err-place c =
    let key : CdrKey = record { operator = c.args.operator.now; id = c.args.id.now } in
    ap (option_map shown_booked) c.from_residual.ensures
    ∙ sym (no_cdr key c.args.entries.now (sym (c.requires key) ∙ sym c.get.ensures ∙ c.in_err-place.was))

pub returns-in_err-get : goal.returns-in_err-get
returns-in_err-get c =
    let key : CdrKey = record { operator = c.args.operator.now; id = c.args.id.now } in
    let within : c.in_ok-place.place < length c.args.entries.now = cdr_within key c.args.entries.now c.in_ok-place.place (sym (c.requires key) ∙ sym c.get.ensures ∙ c.in_ok-place.was) in
    let past : length c.args.entries.now ≤ c.in_ok-place.place = c.in_err-get.ensures.lookup.3 in
    absurd (omega arith)

pub returns : goal.returns
returns c =
    let key : CdrKey = record { operator = c.args.operator.now; id = c.args.id.now } in
    cdr_at key c.args.entries.now c.in_ok-place.place c.in_ok-get.field-0.now (option_map shown_booked c.booked_in.result)
    (sym (c.requires key) ∙ sym c.get.ensures ∙ c.in_ok-place.was) (c.in_ok-get.ensures.lookup.4 (omega arith) c.in_ok-get.field-0.now) c.booked_in.ensures
