use Rattle.std.proofs.Common.{◌≡◌, List, ℕ, ◌∷◌, length, drop, sym, ap, ◌∙◌}
use Rattle.kept_batches.specs.Heads.{head}
use Rattle.kept_batches.specs.Verdict.{damage_in, kept_in, readable, verdict}
use Rattle.kept_batches.specs.Recovery.{disk_of, lines_left}
use Rattle.kept_answers.proofs.KeptLemmas.{all_readable, reads_on}
use Rattle.kept_answers.proofs.keeping.read_past_first.Goals as goal

pub returns-in_err-go_past_first-clause-reads : goal.returns-in_err-go_past_first-clause-reads
returns-in_err-go_past_first-clause-reads g c = c.in_err-go_past_first.ensures.reads

pub returns-in_err-count-clause-reads : goal.returns-in_err-count-clause-reads
returns-in_err-count-clause-reads g c = reads_on g.D.Disk _ (disk_of c.go_past_first.new.recovery) _ c.in_ok-go_past_first.ensures.reads c.in_err-count.ensures.reads

pub returns-in_err-go_past_first-2-clause-reads : goal.returns-in_err-go_past_first-2-clause-reads
returns-in_err-go_past_first-2-clause-reads g c =
    reads_on g.D.Disk _ (disk_of c.count_lines.new.recovery) _ (reads_on g.D.Disk _ (disk_of c.go_past_first.new.recovery) _ c.in_ok-go_past_first.ensures.reads c.in_ok-count.ensures.reads) c.in_err-go_past_first-2.ensures.reads

pub returns-clause-reads : goal.returns-clause-reads
returns-clause-reads g c =
    reads_on g.D.Disk _ (disk_of c.count_lines.new.recovery) _ (reads_on g.D.Disk _ (disk_of c.go_past_first.new.recovery) _ c.in_ok-go_past_first.ensures.reads c.in_ok-count.ensures.reads) c.in_ok-go_past_first-2.ensures.reads

pub returns-clause-held : goal.returns-clause-held
returns-clause-held g c clean =
    let counted = c.in_ok-count.ensures in
    let second = c.in_ok-go_past_first-2.ensures.lines clean in
    let clean_count = c.in_ok-go_past_first-2.ensures.reads.clean clean in
    let first = c.in_ok-go_past_first.ensures.lines (counted.reads.clean clean_count) in
    let opened = g.D.Disk.seen (disk_of c.args.recovery.now) in
    let start : g.D.Disk.seen (disk_of c.go_past_first.new.recovery) ≡ opened = c.in_ok-go_past_first.ensures.reads.seen in
    let seen : g.D.Disk.seen (disk_of c.count_lines.new.recovery) ≡ opened = counted.reads.seen ∙ start in
    let again : readable (verdict opened) ≡ second.0 ∷ lines_left c.go_past_first-2.new.recovery = ap (λ (file : List ℕ). readable (verdict file)) (sym seen) ∙ second.1 in
    let kept : kept_in opened ≡ second.0 ∷ lines_left c.go_past_first-2.new.recovery = sym (all_readable opened (ap damage_in (sym start) ∙ counted.whole clean_count)) ∙ again in
    let same : lines_left c.go_past_first.new.recovery ≡ lines_left c.go_past_first-2.new.recovery = ap (λ (l : List (List ℕ)). drop 1 l) (sym first.1 ∙ again) in (
      second.0,
      kept,
      record {
        count_is = counted.count clean_count ∙ ap length same;
        head_is = c.head-head.ensures ∙ counted.head clean_count ∙ ap (λ (file : List ℕ). head (kept_in file)) start ∙ ap head kept;
      },
    )
