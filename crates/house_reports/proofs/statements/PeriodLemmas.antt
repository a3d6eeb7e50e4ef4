-- Statements that are written period by period.
use Rattle.std.proofs.Common.{◌≡◌, ℕ, zero, suc, ◌+◌, ◌-◌, ◌<◌, List, [], ◌++◌, refl, sym, ap, subst, ◌∙◌, arith, append-nil, append_assoc}
use Rattle.ocpi_types.specs.declared.party.Party.{Party}
use Rattle.command_line.specs.declared.fault.Fault.{Fault}
use Rattle.plain_house.specs.declared.event.Event.{Event}
use Rattle.plain_house.specs.Entries.{book_entries}
use Rattle.plain_house.specs.Obligations.{GoesOnFrom, obligations}
use Rattle.request_lines.specs.Streams.{Writing}
use Rattle.house_reports.specs.ended_house.Writing.{IsCutOff}
use Rattle.house_reports.specs.statements.StatementsText.{period_text, periods_text}
use Rattle.house_reports.proofs.ended_house.CutLemmas.{cut_behind, cut_in_front}

pub one_period_more : (events : List Event) (among : List Party) (period : ℕ) → periods_text events among (period + 1) ≡ periods_text events among period ++ period_text events among period
one_period_more events among period = ap (periods_text events among) (next period)
  where
    next : (n : ℕ) → n + 1 ≡ suc n
    next n = omega arith

-- where what is owed in the first period of the rest is what is owed in this period of all
pub owed_first : (events rest first : List Event) (period : ℕ) → GoesOnFrom events period rest → obligations 0 (book_entries first) ≡ obligations 0 (book_entries rest)
    → obligations 0 (book_entries first) ≡ obligations period (book_entries events)
owed_first events rest first period from same = same ∙ from 0 ∙ ap (λ n. obligations n (book_entries events)) (none period)
  where
    none : (n : ℕ) → n + 0 ≡ n
    none n = omega arith

pub goes_on : (events rest later : List Event) (period : ℕ) → GoesOnFrom events period rest → GoesOnFrom rest 1 later → GoesOnFrom events (period + 1) later
goes_on events rest later period from next = λ number. next number ∙ from (1 + number) ∙ ap (λ n. obligations n (book_entries events)) (sum period number)
  where
    sum : (m n : ℕ) → m + (1 + n) ≡ (m + 1) + n
    sum m n = omega arith

later_periods : (events : List Event) (among : List Party) (m n : ℕ) → (more : List ℕ) × (periods_text events among (n + m) ≡ periods_text events among m ++ more)
later_periods events among m zero =
    let same : 0 + m ≡ m = omega arith in ([], ap (periods_text events among) same ∙ sym (append-nil (periods_text events among m)))
later_periods events among m (suc n) =
    let earlier = later_periods events among m n in
    let last : List ℕ = period_text events among (n + m) in
    let next : suc n + m ≡ suc (n + m) = omega arith in
    (earlier.0 ++ last, ap (periods_text events among) next ∙ ap (λ (l : List ℕ). l ++ last) earlier.1 ∙ append_assoc (periods_text events among m) earlier.0 last)

-- the statements of the periods before one are written, and not all of that one
pub cut_in_period : {W : Type 0} (writing : Writing W) → ((a b c : W) (xs ys : List ℕ) → writing.takes a xs b → writing.takes b ys c → writing.takes a (xs ++ ys) c)
    → (events : List Event) (among : List Party) (period periods : ℕ) (a b c : W) (cause : Fault) → period < periods
    → writing.takes a (periods_text events among period) b → IsCutOff writing (period_text events among period) b c cause → IsCutOff writing (periods_text events among periods) a c cause
cut_in_period {W} writing joined events among period periods a b c cause within before cut =
    let n : ℕ = periods - (period + 1) in
    let sum : n + (period + 1) ≡ periods = omega (arith, within) in
    let more = later_periods events among (period + 1) n in
    let whole : periods_text events among periods ≡ (periods_text events among period ++ period_text events among period) ++ more.0 =
    ap (periods_text events among) (sym sum) ∙ more.1 ∙ ap (λ (l : List ℕ). l ++ more.0) (one_period_more events among period) in
    subst (λ (l : List ℕ). IsCutOff writing l a c cause) (sym whole)
    (cut_in_front writing (periods_text events among period ++ period_text events among period) more.0 a c cause
    (cut_behind writing joined (periods_text events among period) (period_text events among period) a b c cause before cut))
