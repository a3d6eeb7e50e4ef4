-- The rows of all lines that a new house answers.
use Rattle.std.proofs.Common.{◌≡◌, ℕ, ◌+◌, ◌<◌, ◌^◌, Bool, ◌||◌, List, [], length, sym, ap, ◌∙◌, subst, zero-add}
use Rattle.plain_house.specs.declared.event.Event.{Event}
use Rattle.house_reports.specs.explain_lines.Rows.{AreTold, is_any_refused}
use Rattle.house_reports.specs.explain_lines.Inner.Telling.{IsNew, Standing, Tells}

module _ (start reached : Standing) (lines : List (List ℕ)) (rows : List ℕ) (is_new : IsNew start) (tells : Tells start reached lines rows) where
  pub rows_told : (count : ℕ) → count ≡ length lines → count < 2 ^ 128 → AreTold start.config [] 0 lines rows
  rows_told count counted fits =
      let all : count ≡ start.lines + length lines = counted ∙ sym (zero-add (length lines)) ∙ ap (λ (n : ℕ). n + length lines) (sym is_new.no_line) in
      subst (λ (l : List Event). AreTold start.config l 0 lines rows) is_new.no_event
      (subst (λ (n : ℕ). AreTold start.config start.events n lines rows) is_new.no_line
      (tells.told (is_new.none_kept ∙ sym is_new.no_event) (subst (λ (n : ℕ). n < 2 ^ 128) all fits)))

  pub any_told : reached.any ≡ is_any_refused start.config [] lines
  any_told =
      tells.any_is
      ∙ ap (λ (b : Bool). b || is_any_refused start.config start.events lines) is_new.no_refusal
      ∙ ap (λ (l : List Event). is_any_refused start.config l lines) is_new.no_event
