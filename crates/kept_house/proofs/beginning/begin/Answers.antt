use Rattle.std.proofs.Common.{◌+◌, inl, length, ◌∙◌, ap, subst, rules}
use Rattle.kept_batches.specs.Batch.{lines_of, text_of}
use Rattle.kept_batches.specs.Recovery.{IsAtEnd}
use Rattle.kept_house.specs.Beginning.{EndsWithin}
use Rattle.kept_house.specs.Record.{first_record}
use Rattle.kept_house.proofs.BeginningLemmas.{at_most_begun, is_unbegun, none_at_end}
use Rattle.kept_house.proofs.beginning.begin.Goals as goal

pub returns-in-Ok-check_beginning-clause-any_moment : goal.returns-in-Ok-check_beginning-clause-any_moment
returns-in-Ok-check_beginning-clause-any_moment g c now file left =
    let was = c.check_beginning.ensures.reads.clean (c.begin_empty.ensures.clean now) in
    let end : IsAtEnd c.new-recovery.result c.stored_config.new.recovery = search rules in
    let none = none_at_end c.args.disk c.new-recovery.result c.stored_config.new.recovery c.new-recovery.ensures.disk c.new-recovery.ensures.lines end in
    at_most_begun _ _ _ (lines_of c.in-Ok.beginning.0) file none.0 c.in-Ok.ensures.0 (c.begin_empty.ensures.any_moment now file left)

pub returns-in-Ok-check_beginning-clause-unbegun : goal.returns-in-Ok-check_beginning-clause-unbegun
returns-in-Ok-check_beginning-clause-unbegun g c now =
    let cleared = c.begin_empty.ensures.clean now in
    let was = c.check_beginning.ensures.reads.clean cleared in
    let end : IsAtEnd c.new-recovery.result c.stored_config.new.recovery = search rules in
    let none = none_at_end c.args.disk c.new-recovery.result c.stored_config.new.recovery c.new-recovery.ensures.disk c.new-recovery.ensures.lines end in
    let same = c.stored_config.ensures.reads.seen ∙ ap g.D.Disk.seen c.new-recovery.ensures.disk in
    let within = subst (EndsWithin (79 + length (text_of c.in-Ok.beginning.0))) same (c.in-Ok-check_beginning.ensures.within cleared) in
    inl (is_unbegun (first_record c.args.program.now c.args.given.now) (g.D.Disk.seen c.args.disk) c.in-Ok.beginning.0 none c.in-Ok.ensures.0 within)
