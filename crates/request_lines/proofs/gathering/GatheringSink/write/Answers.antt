use Rattle.std.proofs.Common.{[], take, refl}
use Rattle.std.proofs.lemmas.Result.{IfOk-weaker, on_err_weaker}
use Rattle.request_lines.proofs.GatheredLemmas.{gathers_at_once}
use Rattle.request_lines.specs.Inner.Gathered.{waiting}
use Rattle.request_lines.proofs.gathering.GatheringSink.write.Goals as goal

pub returns-clause-takes : goal.returns-clause-takes
returns-clause-takes g c =
    let e = c.in_ok-send.ensures in
    let sent = rw (c.if-keep.ensures.writer, c.if-keep.ensures.same refl) at e.gathers in
    IfOk-weaker c.write.result _ _ (λ n k. (
      search,
      gathers_at_once g.W.Sink.writing g.met.W.Sink.takes_more c.args.self.now.writer.now c.send.new.self.writer.now c.write.new.self
          (waiting c.args.self.now.text.now.items c.args.self.now.sent) (waiting c.send.new.self.text.now.items c.send.new.self.sent) (take n c.args.bytes.now) sent e.ok k,
    )) c.write.ensures.takes

pub returns-clause-err_takes : goal.returns-clause-err_takes
returns-clause-err_takes g c =
    let e = c.in_ok-send.ensures in
    let sent = rw (c.if-keep.ensures.writer, c.if-keep.ensures.same refl) at e.gathers in
    on_err_weaker c.write.result (λ k. (
      search,
      gathers_at_once g.W.Sink.writing g.met.W.Sink.takes_more c.args.self.now.writer.now c.send.new.self.writer.now c.write.new.self
          (waiting c.args.self.now.text.now.items c.args.self.now.sent) (waiting c.send.new.self.text.now.items c.send.new.self.sent) [] sent e.ok k,
    )) c.write.ensures.err_takes
