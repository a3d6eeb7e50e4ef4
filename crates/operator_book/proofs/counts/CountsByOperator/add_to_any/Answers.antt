use Rattle.std.proofs.Common.{ℕ, ap, ◌∙◌, cond, Some, unwrap_or}
use Rattle.std.specs.Prelude.{Option}
use Rattle.indexmap.specs.IndexMap.{get}
use Rattle.ocpi_types.specs.Party.{same_party}
use Rattle.operator_book.proofs.KeyLemmas.{lookup_same, one_more, party_laws}
use Rattle.operator_book.proofs.counts.CountsByOperator.add_to_any.Goals as goal

pub returns : goal.returns
returns c asked =
    let old = c.args.self.now.counts in
    let same = same_party c.args.operator asked in
    let updates = rw c.unwrap.ensures at c.insert.ensures.updates in
    ap (λ value. unwrap_or value 0) (updates.0 asked ∙ ap (λ map. cond {A = Option ℕ} same (Some 1) (get same_party map asked)) c.get_mut.follows.holds-at-none)
    ∙ one_more same (get same_party old asked) (get same_party old c.args.operator) 0
    (lookup_same party_laws c.args.operator asked old.entries) (ap (λ value. unwrap_or value 0) c.in_default.ensures.value)
