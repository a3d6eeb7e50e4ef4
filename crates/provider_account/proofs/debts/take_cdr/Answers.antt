use Rattle.std.proofs.Common.{◌≡◌, ◌+◌, ◌<◌, ◌^◌, length, filter, take, is_some, sym, ap, ◌∙◌, arith, rules}
use Rattle.std.proofs.Math.Seq.{take-length}
use Rattle.plain_house.specs.Exposure.{total_charged}
use Rattle.provider_account.specs.Inner.DebtKeys.{charges_of, is_owed_at}
use Rattle.provider_account.specs.Inner.Owed.{amount_of}
use Rattle.provider_account.proofs.ChargedLemmas.{is_past, is_within, length-charges_of}
use Rattle.provider_account.proofs.DebtsLemmas.{still_owed, taken_le, taken_more}
use Rattle.provider_account.proofs.debts.take_cdr.Goals as goal

pub take_owed-requires : goal.take_owed-requires
take_owed-requires c = λ key.
    let entries = c.args.entries.now in
    let cdr = c.args.cdr.now in
    let at = sym c.nth.ensures ∙ c.in-Some.is in
    let counted = still_owed c.args.ended.now entries c.requires.ended c.in-Some.charge key in
    let more = taken_more key entries (charges_of cdr entries) c.loop-nth.nth c.in-Some.charge at in
    let most = taken_le key entries cdr (c.loop-nth.nth + 1) in
    let taken = c.loop-nth.invariant.taken key in
    omega arith

pub overflow_add-nth : goal.overflow_add-nth
overflow_add-nth c =
    let found = charges_of c.args.cdr.now c.args.entries.now in
    let within = is_within found c.loop-nth.nth (ap is_some (sym c.nth.ensures ∙ c.in-Some.is)) in
    let most = length-charges_of c.args.cdr.now c.args.entries.now in
    let short : length c.args.entries.now < 2 ^ 64 = search rules in
    omega arith

pub loop-nth-smaller : goal.loop-nth-smaller
loop-nth-smaller c =
    let found = charges_of c.args.cdr.now c.args.entries.now in
    let within = is_within found c.loop-nth.nth (ap is_some (sym c.nth.ensures ∙ c.in-Some.is)) in
    omega arith

pub loop-nth-preserved : goal.loop-nth-preserved
loop-nth-preserved c =
    let entries = c.args.entries.now in
    let found = charges_of c.args.cdr.now entries in
    let at = sym c.nth.ensures ∙ c.in-Some.is in
    let within = is_within found c.loop-nth.nth (ap is_some at) in
    record {
      within = omega arith;
      taken = λ key.
          let counted = still_owed c.args.ended.now entries c.requires.ended c.in-Some.charge key in
          let more = taken_more key entries found c.loop-nth.nth c.in-Some.charge at in
          let taken = c.loop-nth.invariant.taken key in
          let left = c.take_owed.ensures key in
          omega arith;
    }

pub returns : goal.returns
returns c = λ key.
    let entries = c.args.entries.now in
    let found = charges_of c.args.cdr.now entries in
    let past = is_past found c.loop-nth.nth (ap is_some (sym c.nth.ensures ∙ c.in_default.is)) in
    let all : c.loop-nth.nth ≡ length found = omega (arith, c.loop-nth.invariant.within) in
    ap (λ n. amount_of c.loop-nth.owed.amounts key + total_charged (filter (is_owed_at key entries) n)) (sym (take-length found) ∙ ap (λ n. take n found) (sym all))
    ∙ c.loop-nth.invariant.taken key
