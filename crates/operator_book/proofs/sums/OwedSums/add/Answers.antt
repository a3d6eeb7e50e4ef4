use Rattle.std.proofs.Common.{◌∙◌, ◌≤◌, ◌^◌, ap, ap₂, sym, arith, pos, unwrap_or, Some, cond}
use Rattle.std.specs.Prelude.{◌+ℤ◌, unsigned_abs}
use Rattle.std.proofs.lemmas.Int.{ints}
use Rattle.plain_house.specs.Booked.{Booked}
use Rattle.plain_house.specs.Booked.{shown_booked}
use Rattle.operator_book.specs.Inner.Sums.{same_sum_key, sum_among}
use Rattle.operator_book.proofs.SumsLemmas.{small_as_before, still_small, sum_added, sum_fits, sum_key_of, nothing_due}
use Rattle.operator_book.proofs.sums.OwedSums.add.Goals as goal

pub add_to-requires-clause-fits : goal.add_to-requires-clause-fits
add_to-requires-clause-fits c =
    let key = sum_key_of (shown_booked c.in-Some.found) in
    sum_fits key c.args.entries.now _ (c.requires.kept.sums_are key) (c.requires.kept.small key.period) (omega arith)

pub returns : goal.returns
returns c =
    let x : Booked = shown_booked c.in-Some.found in
    let key = sum_key_of x in
    let entries = c.args.entries.now in
    let entry = c.args.entry.now in
    let small : unsigned_abs c.in-Some.found.amount ≤ 10 ^ 12 = omega (arith, ints) in
    record {
      sums_are = λ asked. c.add_to.ensures asked
          ∙ ap₂ (λ kept old. cond (same_sum_key key asked) (Some (unwrap_or kept (pos 0) +ℤ x.amount)) old) (c.requires.kept.sums_are key) (c.requires.kept.sums_are asked)
          ∙ sum_added asked entries entry x c.in-Some.ensures;
      small = λ period. still_small period entries entry x c.in-Some.ensures small (c.requires.kept.small period);
    }

pub returns-in_default : goal.returns-in_default
returns-in_default c =
    let entries = c.args.entries.now in
    let entry = c.args.entry.now in
    record {
      sums_are = λ asked. c.requires.kept.sums_are asked ∙ ap (sum_among asked) (sym (nothing_due asked.period entries entry c.in_default.ensures));
      small = λ period. small_as_before period entries entry c.in_default.ensures (c.requires.kept.small period);
    }
