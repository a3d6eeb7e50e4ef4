use Rattle.std.proofs.Common.{List, ℕ, [], ◌∷◌, ◌++◌, take, ◌∙◌, ap, append_assoc}
use Rattle.std.proofs.lemmas.List.Elements.{All-push}
use Rattle.kept_batches.specs.Batch.{lines_of}
use Rattle.kept_batches.specs.Text.{IsLine}
use Rattle.kept_batches.proofs.Parsing.{line_before}
use Rattle.kept_batches.proofs.Batches.{one_more_pushed, all_pushed}
use Rattle.kept_batches.proofs.batch.Batch.push_lines.Goals as goal

pub loop-end-preserved : goal.loop-end-preserved
loop-end-preserved c =
    let so_far = c.loop-end.invariant in
    let line = take c.in-Some.end c.loop-end.rest.now in (
      so_far.0 ++ line ∷ [],
      All-push IsLine so_far.0 line so_far.1 (line_before c.loop-end.rest.now c.in-Some.end c.in-Some.ensures),
      c.in_ok-push.ensures.ok ∙ ap (λ (l : List (List ℕ)). l ++ line ∷ []) so_far.2 ∙ append_assoc (lines_of c.args.self.now) so_far.0 (line ∷ []),
      one_more_pushed c.args.text.now c.loop-end.rest.now so_far.0 c.in-Some.end so_far.3 c.in-Some.ensures,
    )

pub returns : goal.returns
returns c =
    let so_far = c.loop-end.invariant in
    all_pushed (lines_of c.args.self.now) (lines_of c.loop-end.self) c.args.text.now c.loop-end.rest.now so_far.0 so_far.1 so_far.2 so_far.3 c.in_default.ensures
