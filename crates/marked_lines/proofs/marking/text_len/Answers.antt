use Rattle.std.proofs.Common.{◌≡◌, ◌+◌, [], ◌∷◌, take, get_or, ◌∙◌, arith, false}
use Rattle.std.proofs.lemmas.List.{take_more}
use Rattle.marked_lines.specs.Cut.{inside}
use Rattle.marked_lines.proofs.Pieces.{inside-more, inside-kept, inside-free}
use Rattle.marked_lines.proofs.marking.text_len.Goals as goal
use Rattle.marked_lines.proofs.marking.text_len.Goals.{then-kept, else-kept+else-byte-eq34}

pub loop-index-preserved : goal.loop-index-preserved
loop-index-preserved c =
    let more : inside false (take (c.loop-index.index + 1) c.args.bytes.now) ≡ inside c.loop-index.kept (get_or c.args.bytes.now c.loop-index.index 0 ∷ []) =
    rw (take_more c.args.bytes.now c.loop-index.index 0 (omega arith)) (inside-more false (take c.loop-index.index c.args.bytes.now) (get_or c.args.bytes.now c.loop-index.index 0) c.loop-index.kept c.loop-index.invariant) in
    more ∙ elim c.if-kept.branch [
      | then-kept w ↦ inside-kept _ _ _ w.if-kept.true w.kept-is
      | else-kept+else-byte-eq34 w ↦ inside-free _ _ _ w.if-kept.false w.if-byte-eq34.false w.kept-is
    ]
