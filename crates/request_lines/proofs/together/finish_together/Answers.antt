use Rattle.std.proofs.Common.{inl, inr, [], refl, ap, sym, ◌∙◌}
use Rattle.std.proofs.lemmas.List.{append-nil}
use Rattle.std.proofs.lemmas.Result.{err_from_is_err_and}
use Rattle.request_lines.specs.Answering.{is_write_fault}
use Rattle.request_lines.specs.Inner.Chain.{chain_rule}
use Rattle.request_lines.specs.Inner.Progress.{read_last}
use Rattle.request_lines.specs.Lines.{last_line}
use Rattle.request_lines.proofs.GatheredLemmas.{all_err, both_ok, gathers_and_sends}
use Rattle.request_lines.proofs.RunLemmas.{last_short}
use Rattle.request_lines.proofs.StoppedLemmas.{answered_together, stopped_at_send, stopped_at_write, stopped_with_all}
use Rattle.request_lines.proofs.TogetherLemmas.{fault_ahead, stops_ahead, stops_seen}
use Rattle.request_lines.proofs.together.finish_together.Goals as goal

pub returns-in_default-clause-ok : goal.returns-in_default-clause-ok
returns-in_default-clause-ok g c =
    let h = c.in_default.ensures.ok in
    let sent = gathers_and_sends g.W.Sink.writing g.met.W.Sink.takes_more _ _ _ _ _ _ h.text h.taken.1 c.send.ensures.gathers in
    both_ok c.send.result c.send.ensures.ok c.send.ensures.unfailed (λ none unfailed.
    answered_together g.A.Answerer.rule g.met.A.Answerer.answers_more g.met.A.Answerer.answers_none g.W.Sink.writing _ _ _ _ _ _ _ h.text _ _ h.answered.1 h.written_is h.lines_are sent c.requires.waits none (unfailed ∙ h.unfailed))

pub returns-in_default-clause-err : goal.returns-in_default-clause-err
returns-in_default-clause-err g c =
    let h = c.in_default.ensures.ok in
    let sent = gathers_and_sends g.W.Sink.writing g.met.W.Sink.takes_more _ _ _ _ _ _ h.text h.taken.1 c.send.ensures.gathers in
    all_err c.send.result _ _ c.send.ensures.err c.send.ensures.some c.send.ensures.failed (λ fault is some failed.
    stopped_at_send g.A.Answerer.rule g.W.Sink.writing (read_last c.args.part.now) _ _ _ _ _ _ fault h.text _ _
    (λ count less. stops_ahead g.A.Answerer.rule g.met.A.Answerer.answers_more g.met.A.Answerer.answers_none _ _ _ (read_last c.args.part.now) _ ([]) h.text count h.answered.1 less (sym (append-nil (last_line c.args.part.now))) (λ place k. inr tt) (last_short c.args.part.now c.requires.short) (inl refl))
    h.written_is sent c.requires.waits is some failed)

pub returns-in-Some-clause-err : goal.returns-in-Some-clause-err
returns-in-Some-clause-err g c =
    let h = c.in-Err.ensures.err in
    let seen = stops_seen _ (chain_rule g.A.Answerer.rule) (λ b. b.answerer.now) (λ b. Unit {0}) (record { answers = λ a b lines text s k. (tt, k.1); gives_up = λ a b line s k. (tt, k.1) }) (read_last c.args.part.now) _ _ c.in-Err.fault _ tt h.stops in
    stopped_at_write g.A.Answerer.rule g.met.A.Answerer.answers_more g.met.A.Answerer.answers_none g.W.Sink.writing (read_last c.args.part.now) _ _ _ _ _ _ _ c.in-Some.answered h.text _ _
    (rw c.in-Some.ensures at seen.1) h.taken.1 c.requires.waits c.cut_short.ensures (h.has_failed (ap is_write_fault c.in-Some.ensures))

pub returns-in_err-send-clause-err : goal.returns-in_err-send-clause-err
returns-in_err-send-clause-err g c =
    let p = err_from_is_err_and c.from_residual.result c.from_residual.ensures.1 in
    let h = c.in-Err.ensures.err in
    let fine = c.in_default-count_of.ensures in
    let seen = stops_seen _ (chain_rule g.A.Answerer.rule) (λ b. b.answerer.now) (λ b. Unit {0}) (record { answers = λ a b lines text s k. (tt, k.1); gives_up = λ a b line s k. (tt, k.1) }) (read_last c.args.part.now) _ _ c.in-Err.fault _ tt h.stops in
    let sent = gathers_and_sends g.W.Sink.writing g.met.W.Sink.takes_more _ _ _ _ _ _ h.text h.taken.1 c.in_err-send.ensures.gathers in
    rw (p.1, p.2) (stopped_at_send g.A.Answerer.rule g.W.Sink.writing (read_last c.args.part.now) _ _ _ _ _ _ _ h.text _ _
    (λ count less. fault_ahead g.A.Answerer.rule g.met.A.Answerer.answers_more g.met.A.Answerer.answers_none (read_last c.args.part.now) _ _ c.in-Err.fault _ count (inr tt) fine seen.1 less)
    (h.counted fine) sent c.requires.waits c.in_err-send.ensures.err c.in_err-send.ensures.some c.in_err-send.ensures.failed)

pub returns-clause-err : goal.returns-clause-err
returns-clause-err g c =
    let h = c.in-Err.ensures.err in
    let fine = c.in_default-count_of.ensures in
    let seen = stops_seen _ (chain_rule g.A.Answerer.rule) (λ b. b.answerer.now) (λ b. Unit {0}) (record { answers = λ a b lines text s k. (tt, k.1); gives_up = λ a b line s k. (tt, k.1) }) (read_last c.args.part.now) _ _ c.in-Err.fault _ tt h.stops in
    let sent = gathers_and_sends g.W.Sink.writing g.met.W.Sink.takes_more _ _ _ _ _ _ h.text h.taken.1 c.in_ok-send.ensures.gathers in
    stopped_with_all g.A.Answerer.rule g.met.A.Answerer.answers_more g.met.A.Answerer.answers_none g.W.Sink.writing (read_last c.args.part.now) _ _ _ _ _ _ c.in-Err.fault h.text _ _
    fine seen.1 sent c.requires.waits c.in_ok-send.ensures.ok (c.in_ok-send.ensures.unfailed ∙ h.unfailed fine)
