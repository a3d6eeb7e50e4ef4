use Rattle.std.proofs.Common.{List, ℕ}
use Rattle.request_lines.specs.Answering.{Rule}
use Rattle.request_lines.proofs.SeenRuns.{Shows}
use Rattle.line_streams.specs.State.{StreamState}
use Rattle.kept_batches.specs.Verdict.{kept_in}
use Rattle.kept_answers.proofs.KeptLemmas.{on_ok_then}
use Rattle.kept_house.proofs.SeenLemmas.{all_kept_seen, kept_seen}
use Rattle.kept_house.proofs.keeping.keep_stream.Goals as goal

pub returns : goal.returns
returns g c =
    let told = c.keep.ensures.told in
    let rule : Rule g.row.A.Denot = g.A.Answerer.rule in
    let shown : Rule StreamState = g.A.LineStream.state_rule in
    let seen : g.row.A.Denot → StreamState = g.A.LineStream.state in
    let Stays : g.row.A.Denot → Type 0 = λ a. Unit {0} in
    let shows : Shows rule shown seen Stays = record {
      answers = λ a b lines text k h. (tt, g.met.A.LineStream.answers_in_state a b lines text h);
      gives_up = λ a b line k h. (tt, g.met.A.LineStream.gives_up_in_state a b line h);
    } in
    let start = c.args.stream.now in
    let lines : List (List ℕ) = kept_in (g.D.Disk.seen c.args.disk) in
    record {
      told = (
        told.0,
        told.1,
        told.2,
        told.3,
        told.4,
        told.5,
        told.6,
        told.7,
        told.8,
        λ clean.
            let both = told.9 clean in (
              kept_seen rule shown seen Stays shows start (g.D.Disk.may_leave c.keep.result.disk) lines told.2 c.args.from told.4 tt both.0,
              on_ok_then c.keep.result.result both.1 (λ all. (all.0, all.1, (all_kept_seen rule shown seen Stays shows start c.keep.new.answerer (g.D.Disk.seen c.keep.result.disk) lines told.2 c.args.from told.4 tt all.2).1)),
            ),
      );
      clean = c.keep.ensures.clean;
      untouched = c.keep.ensures.untouched;
      count = c.keep.ensures.count;
      damaged = c.keep.ensures.damaged;
      damage = c.keep.ensures.damage;
    }
