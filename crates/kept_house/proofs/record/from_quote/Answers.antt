use Rattle.std.proofs.Common.{ℕ, List, ◌++◌, ◌∙◌, sym, ap, take}
use Rattle.std.proofs.lemmas.List.{take-append-drop}
use Rattle.kept_house.proofs.RecordLemmas.{quote_before}
use Rattle.kept_house.proofs.record.from_quote.Goals as goal

pub returns : goal.returns
returns c = (_, quote_before c.args.text.now c.in_ok-memchr.field-0 c.in_ok-memchr.ensures, sym (take-append-drop c.in_ok-memchr.field-0 c.args.text.now) ∙ ap (λ (l : List ℕ). take c.in_ok-memchr.field-0 c.args.text.now ++ l) (sym c.in_ok-rest.ensures.cases.2))
