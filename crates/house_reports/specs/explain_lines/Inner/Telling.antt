-- How far an explainer of a script is, and the rows that it wrote on the way.
use Rattle.std.specs.Prelude.{◌≡◌, ℕ, ◌+◌, ◌<◌, ◌^◌, Bool, true, false, ◌||◌, List, [], ◌∷◌, ◌++◌, length, is_some, refl}
use Rattle.std.proofs.Common.{sym, ap, subst, ◌∙◌, append_assoc, length-append, add_assoc, add-zero, add-suc, suc-add, add-one, le-add_right, lt_of_le_of_lt}
use Rattle.ocpi_types.specs.declared.config.Config.{Config}
use Rattle.plain_house.specs.declared.event.Event.{Event}
use Rattle.request_lines.specs.Script.{after, list_after, reply_in}
use Rattle.house_reports.specs.explain_lines.Rows.{AreTold, is_any_refused}
use Rattle.line_causes.specs.RefusalNames.{refused_by_reply}

-- the events of a house, the events that are kept of it, the number of answered lines, and whether one of them was refused
pub record Standing : Type 0 where
  pub config : Config
  pub events : List Event
  pub kept : List Event
  pub lines : ℕ
  pub any : Bool

-- no line was answered
pub record IsNew (standing : Standing) : Type 0 where
  pub no_event : standing.events ≡ []
  pub none_kept : standing.kept ≡ []
  pub no_line : standing.lines ≡ 0
  pub no_refusal : standing.any ≡ false

-- the lines were answered on the way from one standing to another; if all events were kept, all are, and this text is the rows of the
-- lines if their count fits
pub record Tells (before behind : Standing) (lines : List (List ℕ)) (text : List ℕ) : Type 0 where
  pub same : behind.config ≡ before.config
  pub events_are : behind.events ≡ list_after before.config before.events lines
  pub kept_are : before.kept ≡ before.events → behind.kept ≡ behind.events
  pub any_is : behind.any ≡ (before.any || is_any_refused before.config before.events lines)
  pub lines_are : before.lines + length lines < 2 ^ 128 → behind.lines ≡ before.lines + length lines
  pub told : before.kept ≡ before.events → before.lines + length lines < 2 ^ 128 → AreTold before.config before.events before.lines lines text

pub or_false : (b : Bool) → b ≡ (b || false)
or_false true = refl
or_false false = refl

pub or_assoc : (a b c : Bool) → ((a || b) || c) ≡ (a || (b || c))
or_assoc true b c = refl
or_assoc false b c = refl

pub tells_none : (standing : Standing) → Tells standing standing [] []
tells_none standing = record {
  same = refl;
  events_are = refl;
  kept_are = λ all. all;
  any_is = or_false standing.any;
  lines_are = λ fits. sym (add-zero standing.lines);
  told = λ all fits. refl;
}

list_after_more : (config : Config) (events : List Event) (xs ys : List (List ℕ)) → list_after config events (xs ++ ys) ≡ list_after config (list_after config events xs) ys
list_after_more config events [] ys = refl
list_after_more config events (x ∷ xs) ys = list_after_more config (after config events x) xs ys

any_more : (config : Config) (events : List Event) (xs ys : List (List ℕ)) →
    is_any_refused config events (xs ++ ys) ≡ (is_any_refused config events xs || is_any_refused config (list_after config events xs) ys)
any_more config events [] ys = refl
any_more config events (x ∷ xs) ys =
    let here = is_some (refused_by_reply (reply_in config events x)) in
    let behind = after config events x in
    ap (λ (b : Bool). here || b) (any_more config behind xs ys)
    ∙ sym (or_assoc here (is_any_refused config behind xs) (is_any_refused config (list_after config behind xs) ys))

-- a number after one line more, and after the lines that follow it
pub behind_one : (number : ℕ) (lines : List (List ℕ)) (line : List ℕ) → number + length (line ∷ lines) ≡ number + 1 + length lines
behind_one number lines line =
    add-suc number (length lines) ∙ sym (suc-add number (length lines)) ∙ ap (λ (n : ℕ). n + length lines) (sym (add-one number))

told_more : (config : Config) (events : List Event) (number reached : ℕ) (xs ys : List (List ℕ)) (t u : List ℕ) →
    reached ≡ number + length xs → AreTold config events number xs t → AreTold config (list_after config events xs) reached ys u →
    AreTold config events number (xs ++ ys) (t ++ u)
told_more config events number reached [] ys t u e h k =
    subst (λ (s : List ℕ). AreTold config events number ys (s ++ u)) (sym h)
    (subst (λ (n : ℕ). AreTold config events n ys u) (e ∙ add-zero number) k)
told_more config events number reached (x ∷ xs) ys t u e h k = (
  h.0,
  h.1 ++ u,
  ap (λ (s : List ℕ). s ++ u) h.2 ∙ append_assoc h.0 h.1 u,
  h.3,
  told_more config (after config events x) (number + 1) reached xs ys h.1 u (e ∙ behind_one number xs x) h.4 k,
)

-- the rows of some lines and then of others are the rows of all
pub tells_more : (a b c : Standing) (xs ys : List (List ℕ)) (t u : List ℕ) → Tells a b xs t → Tells b c ys u → Tells a c (xs ++ ys) (t ++ u)
tells_more a b c xs ys t u p q =
    let joined : a.lines + length (xs ++ ys) ≡ a.lines + length xs + length ys = ap (λ (l : ℕ). a.lines + l) (length-append xs ys) ∙ sym (add_assoc a.lines (length xs) (length ys)) in
    let whole : a.lines + length (xs ++ ys) < 2 ^ 128 → a.lines + length xs + length ys < 2 ^ 128 = λ fits. subst (λ (l : ℕ). l < 2 ^ 128) joined fits in
    let first : a.lines + length (xs ++ ys) < 2 ^ 128 → a.lines + length xs < 2 ^ 128 = λ fits. lt_of_le_of_lt (le-add_right (a.lines + length xs) (length ys)) (whole fits) in
    let middle : a.lines + length (xs ++ ys) < 2 ^ 128 → b.lines ≡ a.lines + length xs = λ fits. p.lines_are (first fits) in
    let second : a.lines + length (xs ++ ys) < 2 ^ 128 → b.lines + length ys < 2 ^ 128 = λ fits. subst (λ (l : ℕ). l + length ys < 2 ^ 128) (sym (middle fits)) (whole fits) in
    let any_between : is_any_refused b.config b.events ys ≡ is_any_refused a.config (list_after a.config a.events xs) ys =
    ap (λ (z : Config). is_any_refused z b.events ys) p.same ∙ ap (λ (z : List Event). is_any_refused a.config z ys) p.events_are in
    record {
      same = q.same ∙ p.same;
      events_are = q.events_are ∙ ap (λ (z : Config). list_after z b.events ys) p.same ∙ ap (λ (z : List Event). list_after a.config z ys) p.events_are ∙ sym (list_after_more a.config a.events xs ys);
      kept_are = λ all. q.kept_are (p.kept_are all);
      any_is = q.any_is ∙ ap (λ (z : Bool). z || is_any_refused b.config b.events ys) p.any_is
          ∙ or_assoc a.any (is_any_refused a.config a.events xs) (is_any_refused b.config b.events ys)
          ∙ ap (λ (z : Bool). a.any || (is_any_refused a.config a.events xs || z)) any_between
          ∙ ap (λ (z : Bool). a.any || z) (sym (any_more a.config a.events xs ys));
      lines_are = λ fits. q.lines_are (second fits) ∙ ap (λ (l : ℕ). l + length ys) (middle fits) ∙ sym joined;
      told = λ all fits. told_more a.config a.events a.lines b.lines xs ys t u (middle fits) (p.told all (first fits))
          (subst (λ (z : List Event). AreTold a.config z b.lines ys u) p.events_are (subst (λ (z : Config). AreTold z b.events b.lines ys u) p.same (q.told (p.kept_are all) (second fits))));
    }
