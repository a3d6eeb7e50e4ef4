use Rattle.std.proofs.Common.{◌<◌, ◌≤◌, ◌^◌, length, is_some, sym, ap, ◌∙◌, arith, rules}
use Rattle.provider_account.specs.Inner.DebtKeys.{charges_of}
use Rattle.provider_account.proofs.ChargedLemmas.{is_past, is_within, length-charges_of}
use Rattle.provider_account.proofs.charged.ChargePlaces.count.Goals as goal

pub overflow_add-nth : goal.overflow_add-nth
overflow_add-nth c =
    let found = charges_of c.args.cdr.now c.args.entries.now in
    let within = is_within found c.loop-nth.nth (sym (ap is_some c.nth.ensures) ∙ sym c.is_some.ensures ∙ c.loop-nth-test.true) in
    let most = length-charges_of c.args.cdr.now c.args.entries.now in
    let short : length c.args.entries.now < 2 ^ 64 = search rules in
    omega arith

pub loop-nth-smaller : goal.loop-nth-smaller
loop-nth-smaller c =
    let found = charges_of c.args.cdr.now c.args.entries.now in
    let within = is_within found c.loop-nth.nth (sym (ap is_some c.nth.ensures) ∙ sym c.is_some.ensures ∙ c.loop-nth-test.true) in
    omega arith

pub loop-nth-preserved : goal.loop-nth-preserved
loop-nth-preserved c =
    let found = charges_of c.args.cdr.now c.args.entries.now in
    let within = is_within found c.loop-nth.nth (sym (ap is_some c.nth.ensures) ∙ sym c.is_some.ensures ∙ c.loop-nth-test.true) in
    omega arith

pub returns : goal.returns
returns c =
    let found = charges_of c.args.cdr.now c.args.entries.now in
    let past = is_past found c.loop-nth.nth (sym (ap is_some c.nth.ensures) ∙ sym c.is_some.ensures ∙ c.loop-nth-test.false) in
    let most : c.loop-nth.nth ≤ length found = c.loop-nth.invariant in
    omega arith
