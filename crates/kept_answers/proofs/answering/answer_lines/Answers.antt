use Rattle.std.proofs.Common.{◌≡◌, List, ℕ, [], ◌∷◌, ◌++◌, refl, sym, ◌∙◌, ap, subst, append_assoc}
use Rattle.std.proofs.lemmas.List.{append-nil}
use Rattle.request_lines.specs.Lines.{whole_lines}
use Rattle.kept_answers.proofs.KeptLemmas.{next_fits, next_line_is, next_of, none_left, rest_after}
use Rattle.kept_answers.proofs.answering.answer_lines.Goals as goal

pub loop-size-init : goal.loop-size-init
loop-size-init g c =
    let some = c.lines_join_to_bytes.ensures.some in record {
      done = [];
      others = whole_lines c.args.bytes.now;
      part = some.0;
      all = refl;
      sizes = c.requires.sizes;
      rest = some.1.joined;
      answers = subst (λ (l : List ℕ). g.A.Answerer.rule.answers c.args.answerer.now [] l c.args.answerer.now) (sym c.requires.text) (g.met.A.Answerer.answers_none _);
    }

pub line_of_size-requires : goal.line_of_size-requires
line_of_size-requires g c =
    let v = c.loop-size.invariant in
    let next = next_of v.others c.in-Some.size.now c.in-Some.later.now (sym c.in-Some.ensures.cases.0 ∙ v.sizes) in
    next_fits c.loop-size.rest.now v.part v.others c.in-Some.size.now c.in-Some.later.now v.rest next

pub loop-size-preserved : goal.loop-size-preserved
loop-size-preserved g c =
    let v = c.loop-size.invariant in
    let size = c.in-Some.size.now in
    let later = c.in-Some.later.now in
    let next = next_of v.others size later (sym c.in-Some.ensures.cases.0 ∙ v.sizes) in
    let line_is : c.line_of_size.result.0.now ≡ next.line = c.line_of_size.ensures.line ∙ next_line_is c.loop-size.rest.now v.part v.others size later v.rest next in record {
      done = v.done ++ next.line ∷ [];
      others = next.others;
      part = v.part;
      all = v.all ∙ ap (λ (l : List (List ℕ)). v.done ++ l) next.is ∙ sym (append_assoc v.done (next.line ∷ []) next.others);
      sizes = next.later_is;
      rest = c.line_of_size.ensures.others ∙ rest_after c.loop-size.rest.now v.part v.others size later v.rest next;
      answers = subst (λ (l : List ℕ). g.A.Answerer.rule.answers c.args.answerer.now (v.done ++ next.line ∷ []) l c.answer.new.self)
          (sym (c.in_ok-extend_from_slice.ensures.items ∙ ap (λ (l : List ℕ). c.loop-size.text.items ++ l) c.as_slice.ensures.value))
          (g.met.A.Answerer.answers_more _ _ _ _ _ _ _ v.answers
          (subst (λ (l : List ℕ). g.A.Answerer.rule.answers c.loop-size.answerer (l ∷ []) c.in_ok-answer.answer.items c.answer.new.self) line_is c.in_ok-answer.ensures.ok));
    }

pub returns-clause-answers : goal.returns-clause-answers
returns-clause-answers g c =
    let v = c.loop-size.invariant in
    let none = none_left v.others c.loop-size.left.now v.sizes c.in_default.ensures.cases in
    let all = v.all ∙ ap (λ (l : List (List ℕ)). v.done ++ l) none ∙ append-nil v.done in
    subst (λ (l : List (List ℕ)). g.A.Answerer.rule.answers c.args.answerer.now l c.loop-size.text.items c.loop-size.answerer) (sym all) v.answers
