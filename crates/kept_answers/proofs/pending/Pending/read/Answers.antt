use Rattle.std.proofs.Common.{◌≡◌, ◌+◌, ◌++◌, take, drop, length, ◌∙◌, ap, arith}
use Rattle.std.proofs.lemmas.List.{length-drop, length-take-le, take_at}
use Rattle.std.proofs.Math.Seq.{take-add}
use Rattle.kept_answers.proofs.pending.Pending.read.Goals as goal

pub returns-in-Ok-clause-some : goal.returns-in-Ok-clause-some
returns-in-Ok-clause-some g c =
    let held = c.self.inside.count in
    let n = c.in-Ok.n in
    let after = c.read_after.new.buffer in
    let front : take held after ≡ c.args.self.now =
    c.in-Ok.ensures.front ∙ ap (take held) c.as_mut_slice.ensures.value ∙ c.in_ok-make_room.ensures.front ∙ c.self.view_is in
    -- the buffer is what the read call left
    let whole : take c.make_room.new.buffer.len (after ++ drop (length after) c.make_room.new.buffer.items) ≡ after =
    take_at after (drop (length after) c.make_room.new.buffer.items) c.make_room.new.buffer.len (c.read_after.auto.buffer ∙ c.as_mut_slice.ensures.len) in (
      take n (drop held after),
      c.in-Ok.ensures.gives,
      ap (take (held + n)) whole ∙ take-add held n after ∙ ap (λ l. l ++ take n (drop held after)) front,
      length-take-le n (drop held after) (omega (arith, c.in-Ok.ensures.bound, length-drop held after)),
    )
