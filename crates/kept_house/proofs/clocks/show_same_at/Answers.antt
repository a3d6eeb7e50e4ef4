use Rattle.std.proofs.Common.{◌≡◌, ℤ, ◌∙◌, sym, ap, arith}
use Rattle.std.specs.Prelude.{◌+ℤ◌}
use Rattle.std.proofs.lemmas.Int.{ints}
use Rattle.std.proofs.lemmas.Bool.Decides.{Decides-int_eq}
use Rattle.jiff.specs.Words.{civil_nanos, nanos_of_seconds, offset_at}
use Rattle.kept_house.proofs.clocks.show_same_at.Goals as goal

-- equal times are of equal offsets
offset_is : (n x y a b : ℤ) → a ≡ n +ℤ nanos_of_seconds x → b ≡ n +ℤ nanos_of_seconds y → a ≡ b → x ≡ y
offset_is n x y a b ours theirs same = omega (arith, ints)

pub returns : goal.returns
returns c =
    let n = c.args.instant.nanosecond in
    let shown = civil_nanos c.local.result in
    let other = civil_nanos c.local-2.result in
    let decides = Decides-int_eq shown other in (
      λ same. offset_is n (offset_at c.args.ours.now n) (offset_at c.args.theirs.now n) shown other c.local.ensures c.local-2.ensures (decides.0 (sym c.eq.ensures ∙ same)),
      λ same. c.eq.ensures ∙ decides.1 (c.local.ensures ∙ ap (λ (s : ℤ). n +ℤ nanos_of_seconds s) same ∙ sym c.local-2.ensures),
    )
