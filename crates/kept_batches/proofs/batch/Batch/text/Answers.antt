use Rattle.std.proofs.Common.{List, ℕ, drop, ◌∙◌, ap}
use Rattle.std.proofs.lemmas.List.{take_rest}
use Rattle.kept_batches.proofs.batch.Batch.text.Goals as goal

pub returns-clause-text : goal.returns-clause-text
returns-clause-text c = take_rest c.deref.result.now 75 ∙ ap (λ (l : List ℕ). drop 75 l) c.deref.ensures.value

pub returns-clause-whole : goal.returns-clause-whole
returns-clause-whole c = take_rest c.deref.result.now 75 ∙ ap (λ (l : List ℕ). drop 75 l) c.deref.ensures.value ∙ c.args.self.now.whole
