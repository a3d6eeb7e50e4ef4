use Rattle.std.proofs.Common.{◌≡◌, ℕ, [], length, take, sym, ap, subst, ◌∙◌, refl, arith, IsTrue, nat_eq}
use Rattle.std.proofs.Math.Seq.{take-length}
use Rattle.std.proofs.lemmas.List.{append-nil}
use Rattle.std.proofs.lemmas.Bool.Decides.{nat_tests}
use Rattle.std.specs.Char.{is_ascii_digit}
use Rattle.std.specs.List.{prefix_len}
use Rattle.std.specs.Str.Parse.{AllDigits}
use Rattle.exact_money.proofs.Parts.{run_digits, digits_run}
use Rattle.exact_money.proofs.millionths.are_digits.Goals as goal

same_number : (a b : ℕ) → IsTrue (nat_eq a b) → a ≡ b
same_number a b h = grind (arith, nat_tests)

equal_test : (a b : ℕ) → a ≡ b → IsTrue (nat_eq a b)
equal_test a b h = grind (arith, nat_tests)

pub returns : goal.returns
returns c = (
  λ h. subst (AllDigits 10) (ap (λ n. take n c.args.text.now) (same_number _ _ h) ∙ take-length c.args.text.now) (run_digits c.args.text.now c.digits_len.result c.digits_len.ensures.longest),
  λ d. equal_test c.digits_len.result (length c.args.text.now) (c.digits_len.ensures.longest ∙ ap (prefix_len is_ascii_digit) (sym (append-nil c.args.text.now)) ∙ digits_run c.args.text.now [] d refl),
)
