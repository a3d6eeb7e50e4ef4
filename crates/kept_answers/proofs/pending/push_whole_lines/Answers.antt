use Rattle.std.proofs.Common.{List, ℕ, ◌-◌, [], ◌∷◌, ◌++◌, drop, length, map, refl, ◌∙◌, ap, sym, subst, append_assoc}
use Rattle.std.proofs.lemmas.List.Elements.{All-push}
use Rattle.kept_batches.specs.Batch.{lines_of}
use Rattle.request_lines.specs.Lines.{AreLines, HasNoNewline}
use Rattle.kept_answers.proofs.KeptLemmas.{lines_and_part, one_more_line, one_more_size, rest_is}
use Rattle.kept_answers.proofs.pending.push_whole_lines.Goals as goal

pub loop-line-preserved : goal.loop-line-preserved
loop-line-preserved c =
    let so_far = c.loop-line.invariant in
    let line = c.in-Some.line.now in (
      so_far.0 ++ line ∷ [],
      All-push HasNoNewline so_far.0 line so_far.1 c.in-Some.ensures.1,
      c.in_ok-push.ensures.ok ∙ ap (λ (l : List (List ℕ)). l ++ line ∷ []) so_far.2 ∙ append_assoc (lines_of c.args.batch.now) so_far.0 (line ∷ []),
      one_more_line c.args.bytes.now c.loop-line.rest.now line c.in-Some.others.now so_far.0 so_far.3 c.in-Some.ensures.0,
      one_more_size c.args.sizes.now.items c.loop-line.sizes.items c.add_size.new.sizes.items (length line) so_far.0 line so_far.4 c.in_ok-add_size.ensures refl,
    )

pub returns-clause-sizes : goal.returns-clause-sizes
returns-clause-sizes c =
    let so_far = c.loop-line.invariant in
    let all = c.lines_join_to_bytes.ensures.only so_far.0 c.loop-line.rest.now (lines_and_part c.args.bytes.now c.loop-line.rest.now so_far.0 so_far.3 so_far.1 c.in_default.ensures) in
    so_far.4 ∙ ap (λ (l : List (List ℕ)). c.args.sizes.now.items ++ map length l) all.0

pub returns-clause-lines : goal.returns-clause-lines
returns-clause-lines c =
    let so_far = c.loop-line.invariant in
    let all = c.lines_join_to_bytes.ensures.only so_far.0 c.loop-line.rest.now (lines_and_part c.args.bytes.now c.loop-line.rest.now so_far.0 so_far.3 so_far.1 c.in_default.ensures) in
    so_far.2 ∙ ap (λ (l : List (List ℕ)). lines_of c.args.batch.now ++ l) all.0

pub returns-clause-part : goal.returns-clause-part
returns-clause-part c =
    let so_far = c.loop-line.invariant in
    let are = lines_and_part c.args.bytes.now c.loop-line.rest.now so_far.0 so_far.3 so_far.1 c.in_default.ensures in
    let all = c.lines_join_to_bytes.ensures.only so_far.0 c.loop-line.rest.now are in
    subst (λ (l : List (List ℕ)). AreLines c.args.bytes.now l (drop (length c.args.bytes.now - length c.loop-line.rest.now) c.args.bytes.now)) all.0
    (subst (λ (l : List ℕ). AreLines c.args.bytes.now so_far.0 l) (sym (rest_is c.args.bytes.now c.loop-line.rest.now so_far.0 so_far.3)) are)
