use Rattle.std.proofs.Common.{◌≡◌, ℕ, ◌+◌, ◌-◌, List, inr, refl, take, drop, sym, ◌∙◌, ap, subst, arith}
use Rattle.kept_batches.specs.Text.{lines_in, marked}
use Rattle.kept_batches.specs.Heads.{heads_from}
use Rattle.kept_batches.specs.File.{header}
use Rattle.kept_batches.specs.Inner.Finding.{BeginsWith}
use Rattle.kept_batches.proofs.FindLemmas.{too_short, too_large, no_lines_there, other_front, there, same_size}
use Rattle.kept_batches.proofs.finding.find_batch.Goals as goal

pub returns-then-text-lt75-clause-none : goal.returns-then-text-lt75-clause-none
returns-then-text-lt75-clause-none c none = too_short c.args.text.now c.args.head.now (omega (arith, c.if-text-lt75.true))

pub returns-then-text-size-clause-none : goal.returns-then-text-size-clause-none
returns-then-text-size-clause-none c none = too_large c.args.text.now c.args.head.now (inr (omega (arith, c.if-text-size.true, c.number_in-size.ensures)))

pub returns-then-not-are_lines-clause-none : goal.returns-then-not-are_lines-clause-none
returns-then-not-are_lines-clause-none c none =
    let cut = same_size c.args.text.now c.number_in-size.result c.number_in-size.ensures in
    no_lines_there c.args.text.now c.args.head.now (λ e. absurd (cc (c.if-not-are_lines.ensures.1 (cut ∙ e ∙ sym (ap (λ (l : List ℕ). marked (lines_in l)) cut)))))

pub returns-then-not-is_header-clause-none : goal.returns-then-not-is_header-clause-none
returns-then-not-is_header-clause-none c none before h =
    let cut = same_size c.args.text.now c.number_in-size.result c.number_in-size.ensures in
    let next_is = c.head_after-next.ensures ∙ ap (λ (l : List ℕ). heads_from c.args.head.now (lines_in l)) cut in
    other_front c.args.text.now c.args.head.now before h c.head_after-next.result next_is
    (λ e. absurd (cc (c.if-not-is_header.ensures.1 (e ∙ ap (λ (n : ℕ). header n c.head_after-next.result) (sym c.number_in-size.ensures)))))

pub returns-clause-some : goal.returns-clause-some
returns-clause-some c before h =
    let text = c.args.text.now in
    let cut = same_size text c.number_in-size.result c.number_in-size.ensures in
    let next_is = c.head_after-next.ensures ∙ ap (λ (l : List ℕ). heads_from c.args.head.now (lines_in l)) cut in
    let are = sym cut ∙ c.if-not-are_lines.ensures.0 refl ∙ ap (λ (l : List ℕ). marked (lines_in l)) cut in
    let front = c.if-not-is_header.ensures.0 refl ∙ ap (λ (n : ℕ). header n c.head_after-next.result) c.number_in-size.ensures in
    subst (λ (k : ℕ). BeginsWith before text k c.head_after-next.result) (sym c.number_in-size.ensures)
    (there text c.args.head.now before h c.head_after-next.result next_is
    (omega (arith, c.number_in-size.ensures, c.if-text-size.false, c.if-text-lt75.false)) (omega (arith, c.number_in-size.ensures, c.if-size-gt-MOST_BATCH_BYTES.false)) are front)

pub returns-clause-lines : goal.returns-clause-lines
returns-clause-lines c =
    let text = c.args.text.now in
    let n = c.number_in-size.result in
    let cut : take (75 + n - 75) (drop 75 text) ≡ take n (drop 75 text) = ap (λ (k : ℕ). take k (drop 75 text)) (let same : 75 + n - 75 ≡ n = omega arith in same) in
    record {
      within = omega (arith, c.if-text-size.false, c.if-text-lt75.false);
      are = sym cut ∙ c.if-not-are_lines.ensures.0 refl ∙ ap (λ (l : List ℕ). marked (lines_in l)) cut;
    }
