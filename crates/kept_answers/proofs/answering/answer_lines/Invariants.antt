use Rattle.std.proofs.Common.{◌≡◌, ◌++◌, List, ℕ, length, map}
use Rattle.std.specs.List.{flat_map}
use Rattle.request_lines.specs.Lines.{whole_lines, with_newline}
use Rattle.kept_answers.proofs.answering.answer_lines.Given as goal

-- some lines are answered, and the rest has the others, of which these are the sizes
abbrev pub invariant-loop-size : goal.invariant-loop-size
invariant-loop-size g l = record {
  done : List (List ℕ);
  others : List (List ℕ);
  part : List ℕ;
  all : whole_lines l.bytes ≡ done ++ others;
  sizes : l.left ≡ map length others;
  rest : l.rest ≡ flat_map with_newline others ++ part;
  answers : g.A.Answerer.rule.answers l.initial.answerer done l.text.items l.answerer;
}

abbrev pub decreases-loop-size : goal.decreases-loop-size
decreases-loop-size g l = length l.left
