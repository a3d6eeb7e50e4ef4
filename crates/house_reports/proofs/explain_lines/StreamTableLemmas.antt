-- The row of one line of a stream, and the rows of all.
use Rattle.std.proofs.Common.{◌≡◌, ℕ, ◌+◌, ◌<◌, ◌^◌, Bool, true, false, ◌||◌, List, [], ◌∷◌, length, refl, sym, ap, subst, ◌∙◌, zero-add, Option, Some, None}
use Rattle.std.proofs.lemmas.List.{append-nil}
use Rattle.std.specs.Prelude.{is_some}
use Rattle.plain_house.specs.declared.event.Event.{Event}
use Rattle.line_streams.specs.State.{StreamState}
use Rattle.line_streams.specs.Stream.{IsAnswered}
use Rattle.line_streams.specs.declared.reply.StreamReply.{StreamReply}
use Rattle.line_causes.specs.Refused.{IsRefused}
use Rattle.line_causes.specs.StreamCauses.{IsCauseOfStreamLine}
use Rattle.line_causes.specs.declared.line_cause.LineCause.{LineCause}
use Rattle.house_reports.specs.explain_lines.Rows.{IsTold}
use Rattle.house_reports.specs.explain_lines.StreamRows.{AreRows}
use Rattle.house_reports.specs.explain_lines.Table.{IsRow}
use Rattle.house_reports.specs.explain_lines.Inner.StreamTelling.{Explains, IsStart, StreamStanding}
use Rattle.house_reports.specs.explain_lines.Inner.Telling.{or_false}

or_true : (b : Bool) → true ≡ (b || true)
or_true true = refl
or_true false = refl

-- by the standing between the answer to a line and its row
module _ (before middle after : StreamStanding) (line row : List ℕ) (done : Option StreamReply) (name : Option (List ℕ))
    (answered : (answer : List ℕ) × IsAnswered before.state line answer middle.state) (refused : IsRefused before.state line done name)
    (kept : before.kept ≡ before.state.house.events → middle.kept ≡ middle.state.house.events)
    (state_is : after.state ≡ middle.state) (kept_is : after.kept ≡ middle.kept)
    (counted : before.lines + 1 < 2 ^ 128 → after.lines ≡ before.lines + 1) where
  abbrev IsCause : StreamState → LineCause → Type 0
  IsCause state = IsCauseOfStreamLine state.house.config state.house.events done line

  -- a line, by its number and the name of its refusal
  pub one_line : IsTold after.lines name (IsCauseOfStreamLine middle.state.house.config middle.kept done line) row
      → after.any ≡ (before.any || is_some name) → Explains before after (line ∷ []) row
  one_line told any = record {
    kept_are = λ all. kept_is ∙ kept all ∙ sym (ap (λ (s : StreamState). s.house.events) state_is);
    lines_are = counted;
    told = λ all fits. record {
      any = is_some name;
      rows = record {
        row = row;
        others = [];
        here = is_some name;
        later = false;
        middle = after.state;
        rows_are = sym (append-nil row);
        any_is = or_false (is_some name);
        first = record {
          answer = answered.0;
          done = done;
          name = name;
          answered = subst (λ (s : StreamState). IsAnswered before.state line answered.0 s) (sym state_is) answered.1;
          refused = refused;
          row_is =
              subst (λ (s : StreamState). IsTold (before.lines + 1) name (IsCause s) row) (sym state_is)
              (subst (λ (events : List Event). IsTold (before.lines + 1) name (IsCauseOfStreamLine middle.state.house.config events done line) row) (kept all)
              (subst (λ (n : ℕ). IsTold n name (IsCauseOfStreamLine middle.state.house.config middle.kept done line) row) (counted fits) told));
          any_is = refl;
        };
        rest = (refl, refl, refl);
      };
      any_is = any;
    };
  }

  -- a line that is refused by this name
  pub refused_line : (refusal : List ℕ) → name ≡ Some refusal
      → IsRow after.lines refusal (IsCauseOfStreamLine middle.state.house.config middle.kept done line) row → after.any ≡ true → Explains before after (line ∷ []) row
  refused_line refusal is told any =
      one_line
      (subst (λ (found : Option (List ℕ)). IsTold after.lines found (IsCauseOfStreamLine middle.state.house.config middle.kept done line) row) (sym is) told)
      (any ∙ or_true before.any ∙ ap (λ (found : Option (List ℕ)). before.any || is_some found) (sym is))

  -- a line that is not refused
  pub other_line : name ≡ None → row ≡ [] → after.any ≡ before.any → Explains before after (line ∷ []) row
  other_line is none any =
      one_line
      (subst (λ (found : Option (List ℕ)). IsTold after.lines found (IsCauseOfStreamLine middle.state.house.config middle.kept done line) row) (sym is) none)
      (any ∙ or_false before.any ∙ ap (λ (found : Option (List ℕ)). before.any || is_some found) (sym is))

pub rows_of_all : (start reached : StreamStanding) (lines : List (List ℕ)) (rows : List ℕ) → IsStart start → Explains start reached lines rows
    → (count : ℕ) → count ≡ length lines → count < 2 ^ 128 → AreRows start.state 0 lines rows reached.any reached.state
rows_of_all start reached lines rows is_start explains count counted fits =
    let all : count ≡ start.lines + length lines = counted ∙ sym (zero-add (length lines)) ∙ ap (λ (n : ℕ). n + length lines) (sym is_start.no_line) in
    let told = explains.told is_start.all_kept (subst (λ (n : ℕ). n < 2 ^ 128) all fits) in
    let any : told.any ≡ reached.any = sym (told.any_is ∙ ap (λ (b : Bool). b || told.any) is_start.no_refusal) in
    subst (λ (b : Bool). AreRows start.state 0 lines rows b reached.state) any
    (subst (λ (n : ℕ). AreRows start.state n lines rows told.any reached.state) is_start.no_line told.rows)
