use Rattle.std.proofs.Common.{inl, inr, refl, sym, ◌∙◌, ap, subst, ℕ, List, [], arith}
use Rattle.std.proofs.lemmas.Result.{IfErr-at_err, IfErr-weaker, IfOk-at_ok}
use Rattle.request_lines.specs.Answering.{Rule}
use Rattle.line_streams.specs.State.{StreamState}
use Rattle.kept_batches.specs.Verdict.{damage_in, kept_in}
use Rattle.kept_answers.proofs.KeptLemmas.{if_err_both, no_lines, on_ok_then, reads_on}
use Rattle.kept_house.specs.Beginning.{HasBegun}
use Rattle.kept_house.proofs.BeginningLemmas.{begun_fits, begun_whole, untouched_then}
use Rattle.kept_house.proofs.KeepingLemmas.{BegunOrNone, begun_or_none, house_all_kept, house_kept}
use Rattle.kept_house.proofs.keeping.keep_house.Goals as goal

pub returns-in-Err-clause-told : goal.returns-in-Err-clause-told
returns-in-Err-clause-told g c =
    (0, [], [], [], [], omega arith, g.met.R.Source.gives_none _, no_lines, g.met.W.Sink.takes_none _, λ clean. (inl (refl, λ file left. inl (ap kept_in (c.requires.durable file left))), tt))

pub returns-clause-told : goal.returns-clause-told
returns-clause-told g c = (0, [], [], [], [], omega arith, g.met.R.Source.gives_none _, no_lines, g.met.W.Sink.takes_none _, λ clean. (inl (refl, c.begin-disk.ensures.any_moment clean), tt))

pub returns-clause-untouched : goal.returns-clause-untouched
returns-clause-untouched g c = λ other clean. untouched_then c.in-Err-result.fault other (IfErr-at_err _ c.in-Err-result.is c.begin-disk.ensures.untouched clean)

pub returns-in-Ok-result-clause-told : goal.returns-in-Ok-result-clause-told
returns-in-Ok-result-clause-told g c =
    let told = c.keep_under.ensures.told in
    let rule : Rule StreamState = g.A.LineStream.state_rule in
    let program : List ℕ = c.args.program.now in
    let given : List ℕ = c.args.given.now in
    let text : List ℕ = c.as_slice.result.now in
    let old : List (List ℕ) = kept_in (g.D.Disk.seen c.args.disk) in
    let lines : List (List ℕ) = kept_in (g.D.Disk.seen c.begin-disk.result.disk) in (
      told.0,
      told.1,
      told.2,
      told.3,
      told.4,
      told.5,
      told.6,
      told.7,
      told.8,
      λ clean.
          let both = told.9 clean in
          let was = c.keep_under.ensures.clean clean in
          let begun : BegunOrNone program given old lines text =
          begun_or_none g.D.Disk c.args.disk c.begin-disk.result.disk program given text
          (λ whole. subst (HasBegun program given old lines) (sym c.as_slice.ensures.value) (IfOk-at_ok _ c.in-Ok-result.is c.begin-disk.ensures.ok was whole))
          (c.begin-disk.ensures.unbegun was) in (
            house_kept rule program given text old lines told.2 c.args.from told.4 (g.D.Disk.may_leave c.keep_under.result.disk) begun both.0,
            on_ok_then c.keep_under.result.result both.1 (λ all. (all.0, all.1, house_all_kept rule program given text old lines told.2 c.args.from told.4 (g.D.Disk.seen c.keep_under.result.disk) begun all.2)),
          ),
    )

pub returns-in-Ok-result-clause-untouched : goal.returns-in-Ok-result-clause-untouched
returns-in-Ok-result-clause-untouched g c =
    let old : List (List ℕ) = kept_in (g.D.Disk.seen c.args.disk) in
    let lines : List (List ℕ) = kept_in (g.D.Disk.seen c.begin-disk.result.disk) in
    if_err_both c.keep_under.result.result c.keep_under.ensures.untouched c.keep_under.ensures.count (λ fault reads count other clean.
    let was = c.keep_under.ensures.clean clean in
    elim (c.begin-disk.ensures.unbegun was) [
      | inl unbegun ↦
          absurd (begun_fits c.args.program.now c.args.given.now c.args.from old lines _ unbegun.none (IfOk-at_ok _ c.in-Ok-result.is c.begin-disk.ensures.ok was unbegun.whole)
          (IfOk-at_ok _ c.in-Ok-result.is c.begin-disk.ensures.fits was unbegun.whole unbegun.none) (count other clean))
      | inr before ↦ reads_on g.D.Disk _ _ _ before (reads other)
    ])

pub returns-in-Ok-result-clause-damaged : goal.returns-in-Ok-result-clause-damaged
returns-in-Ok-result-clause-damaged g c =
    IfErr-weaker c.keep_under.result.result _ _ (λ fault found at is clean.
    let was = c.keep_under.ensures.clean clean in
    let both = found at is clean in
    elim (c.begin-disk.ensures.unbegun was) [
      | inl unbegun ↦ absurd (begun_whole c.args.program.now c.args.given.now (g.D.Disk.seen c.args.disk) (g.D.Disk.seen c.begin-disk.result.disk) _ at unbegun.none (IfOk-at_ok _ c.in-Ok-result.is c.begin-disk.ensures.ok was unbegun.whole) both.1)
      | inr before ↦ (reads_on g.D.Disk _ _ _ before both.0, ap damage_in (sym before.seen) ∙ both.1)
    ]) c.keep_under.ensures.damaged
