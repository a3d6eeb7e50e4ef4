use Rattle.std.proofs.Common.{◌≡◌, ℕ, Bool, true, false, List, refl, sym, ap, ◌∙◌}
use Rattle.std.specs.Prelude.{nat_eq}
use Rattle.std.specs.Cmp.Lexicographic.{pointwise, same_text, other_text}
use Rattle.ocpi_json.specs.Inner.Cells.{padded, refilled, written}
use Rattle.ocpi_json.proofs.ci_text.CiText.is_written_like.Goals as goal

told_same : (told : Bool) (a b : List ℕ) → told ≡ pointwise nat_eq a b → a ≡ b → told ≡ true
told_same true a b e same = refl
told_same false a b e same = absurd (other_text a b e same)

pub returns : goal.returns
returns g c =
    let most = g.row.MOST in
    let ours = refilled most c.self.inside.cells c.self.invariant in
    let theirs = refilled most c.other.inside.cells c.other.invariant in (
      λ e. sym c.self.view_is ∙ ap written (same_text c.self.inside.cells c.other.inside.cells (sym e ∙ c.eq.ensures)) ∙ c.other.view_is,
      λ e. told_same c.eq.result _ _ c.eq.ensures (sym ours ∙ ap (padded most) (c.self.view_is ∙ e ∙ sym c.other.view_is) ∙ theirs),
    )
