-- How far an explainer of a stream is, and the rows that it wrote on the way.
use Rattle.std.specs.Prelude.{◌≡◌, ℕ, ◌+◌, ◌<◌, ◌^◌, Bool, false, ◌||◌, List, [], ◌∷◌, ◌++◌, length, refl}
use Rattle.std.proofs.Common.{sym, ap, subst, ◌∙◌, append_assoc, length-append, add_assoc, add-zero, le-add_right, lt_of_le_of_lt}
use Rattle.plain_house.specs.declared.event.Event.{Event}
use Rattle.line_streams.specs.State.{StreamState}
use Rattle.house_reports.specs.explain_lines.StreamRows.{AreRows}
use Rattle.house_reports.specs.explain_lines.Inner.Telling.{behind_one, or_assoc, or_false}

-- the state of the stream, the events that are kept of it, the number of answered lines, and whether one of them was refused
pub record StreamStanding : Type 0 where
  pub state : StreamState
  pub kept : List Event
  pub lines : ℕ
  pub any : Bool

-- no line was answered
pub record IsStart (standing : StreamStanding) : Type 0 where
  pub all_kept : standing.kept ≡ standing.state.house.events
  pub no_line : standing.lines ≡ 0
  pub no_refusal : standing.any ≡ false

pub record HasRows (before after : StreamStanding) (lines : List (List ℕ)) (text : List ℕ) : Type 0 where
  pub any : Bool
  pub rows : AreRows before.state before.lines lines text any after.state
  pub any_is : after.any ≡ (before.any || any)

-- the lines were answered on the way from one standing to another; if all events were kept, all are, and this text is the rows of the
-- lines if their count fits
pub record Explains (before after : StreamStanding) (lines : List (List ℕ)) (text : List ℕ) : Type 0 where
  pub kept_are : before.kept ≡ before.state.house.events → after.kept ≡ after.state.house.events
  pub lines_are : before.lines + length lines < 2 ^ 128 → after.lines ≡ before.lines + length lines
  pub told : before.kept ≡ before.state.house.events → before.lines + length lines < 2 ^ 128 → HasRows before after lines text

pub explains_none : (standing : StreamStanding) → Explains standing standing [] []
explains_none standing = record {
  kept_are = λ all. all;
  lines_are = λ fits. sym (add-zero standing.lines);
  told = λ all fits. record { any = false; rows = (refl, refl, refl); any_is = or_false standing.any };
}

rows_more : (a b c : StreamState) (number reached : ℕ) (xs ys : List (List ℕ)) (t u : List ℕ) (p q : Bool) → reached ≡ number + length xs
    → AreRows a number xs t p b → AreRows b reached ys u q c → AreRows a number (xs ++ ys) (t ++ u) (p || q) c
rows_more a b c number reached [] ys t u p q e h k =
    subst (λ (x : List ℕ). AreRows a number ys (x ++ u) (p || q) c) (sym h.0)
    (subst (λ (x : Bool). AreRows a number ys u (x || q) c) (sym h.1)
    (subst (λ (s : StreamState). AreRows s number ys u q c) h.2
    (subst (λ (n : ℕ). AreRows b n ys u q c) (e ∙ add-zero number) k)))
rows_more a b c number reached (x ∷ xs) ys t u p q e h k = record {
  row = h.row;
  others = h.others ++ u;
  here = h.here;
  later = h.later || q;
  middle = h.middle;
  rows_are = ap (λ (s : List ℕ). s ++ u) h.rows_are ∙ append_assoc h.row h.others u;
  any_is = ap (λ (s : Bool). s || q) h.any_is ∙ or_assoc h.here h.later q;
  first = h.first;
  rest = rows_more h.middle b c (number + 1) reached xs ys h.others u h.later q (e ∙ behind_one number xs x) h.rest k;
}

-- the rows of some lines and then of others are the rows of all
pub explains_more : (a b c : StreamStanding) (xs ys : List (List ℕ)) (t u : List ℕ) → Explains a b xs t → Explains b c ys u → Explains a c (xs ++ ys) (t ++ u)
explains_more a b c xs ys t u p q =
    let joined : a.lines + length (xs ++ ys) ≡ a.lines + length xs + length ys = ap (λ (l : ℕ). a.lines + l) (length-append xs ys) ∙ sym (add_assoc a.lines (length xs) (length ys)) in
    let whole : a.lines + length (xs ++ ys) < 2 ^ 128 → a.lines + length xs + length ys < 2 ^ 128 = λ fits. subst (λ (l : ℕ). l < 2 ^ 128) joined fits in
    let first : a.lines + length (xs ++ ys) < 2 ^ 128 → a.lines + length xs < 2 ^ 128 = λ fits. lt_of_le_of_lt (le-add_right (a.lines + length xs) (length ys)) (whole fits) in
    let middle : a.lines + length (xs ++ ys) < 2 ^ 128 → b.lines ≡ a.lines + length xs = λ fits. p.lines_are (first fits) in
    let second : a.lines + length (xs ++ ys) < 2 ^ 128 → b.lines + length ys < 2 ^ 128 = λ fits. subst (λ (l : ℕ). l + length ys < 2 ^ 128) (sym (middle fits)) (whole fits) in
    record {
      kept_are = λ all. q.kept_are (p.kept_are all);
      lines_are = λ fits. q.lines_are (second fits) ∙ ap (λ (l : ℕ). l + length ys) (middle fits) ∙ sym joined;
      told = λ all fits.
          let here = p.told all (first fits) in
          let there = q.told (p.kept_are all) (second fits) in
          record {
            any = here.any || there.any;
            rows = rows_more a.state b.state c.state a.lines b.lines xs ys t u here.any there.any (middle fits) here.rows there.rows;
            any_is = there.any_is ∙ ap (λ (z : Bool). z || there.any) here.any_is ∙ or_assoc a.any here.any there.any;
          };
    }
