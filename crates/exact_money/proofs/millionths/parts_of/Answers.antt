use Rattle.std.proofs.Common.{length, sym, ap, subst, ◌∙◌, arith}
use Rattle.exact_money.specs.Numeral.{IsWhole, IsFraction}
use Rattle.exact_money.proofs.Parts.{run_digits, same_parts, behind_is}
use Rattle.exact_money.proofs.millionths.parts_of.Goals as goal
use Rattle.exact_money.proofs.millionths.parts_of.Goals.{else-first-eq46-via-then-first-eq46+else-is_fraction, else-first-eq46-via-else-first-eq46}

pub is_whole-requires : goal.is_whole-requires
is_whole-requires c = rw c.split_at.ensures.front (run_digits c.args.text.now c.digits_len.result c.digits_len.ensures.longest)

pub returns-then-not-is_whole-clause-none : goal.returns-then-not-is_whole-clause-none
returns-then-not-is_whole-clause-none c whole fraction w f e =
    let same = same_parts c.args.text.now whole fraction c.digits_len.result w.digits e c.digits_len.ensures.longest in
    let yes = c.is_whole.ensures.1 (subst IsWhole (sym (c.split_at.ensures.front ∙ same.front)) w) in cc

pub returns-else-first-eq46-clause-none : goal.returns-else-first-eq46-clause-none
returns-else-first-eq46-clause-none c whole fraction w f e =
    let same = same_parts c.args.text.now whole fraction c.digits_len.result w.digits e c.digits_len.ensures.longest in
    let point = behind_is fraction c.in-Some.first.now c.in-Some.fraction.now (sym same.back ∙ sym c.split_at.ensures.back ∙ c.in-Some.ensures.cases.0) in
    elim c.else-first-eq46.branch [
      | else-first-eq46-via-then-first-eq46+else-is_fraction b ↦ let yes = b.is_fraction.ensures.1 (subst IsFraction (sym point.1) f, omega (arith, ap length point.1, point.2)) in cc
      | else-first-eq46-via-else-first-eq46 b ↦ b.if-first-eq46.false point.0
    ]
