use Rattle.std.proofs.Common.{◌≡◌, ℕ, ◌+◌, is_some, not, true, unwrap_or, cond, sym, ap, ◌∙◌, arith}
use Rattle.provider_account.specs.Inner.Sums.{first_if, sum_at}
use Rattle.provider_account.proofs.SumsLemmas.{first_set, first_value}
use Rattle.provider_account.proofs.sums.SumsByKey.raise_first.Goals as goal

pub overflow_add-sum : goal.overflow_add-sum
overflow_add-sum g c =
    let entries = c.args.self.now.cells.entries in
    let there : is_some (first_if (g.K.PartialEq.eq c.args.key.now) entries) ≡ true =
    ap is_some (sym c.first.ensures) ∙ c.is_none.ensures ∙ ap not c.if-is_none.false in
    let sum = ap (λ value. unwrap_or value 0) (first_value (g.K.PartialEq.eq c.args.key.now) entries c.in-Some.sum.now there c.in-Some.ensures.value) in
    omega (arith, sum, c.requires)

pub returns-in-Some-clause-raised : goal.returns-in-Some-clause-raised
returns-in-Some-clause-raised g c raised other =
    let entries = c.args.self.now.cells.entries in
    let eq = g.K.PartialEq.eq in
    let key = c.args.key.now in
    let there : is_some (first_if (eq key) entries) ≡ true =
    ap is_some (sym c.first.ensures) ∙ c.is_none.ensures ∙ ap not c.if-is_none.false in
    let sum = ap (λ value. unwrap_or value 0) (first_value (eq key) entries c.in-Some.sum.now there c.in-Some.ensures.value) in
    first_set g.met.K.Eq.laws key entries (c.in-Some.sum.now + c.args.amount) there other
    ∙ ap (λ (n : ℕ). cond (eq key other) (n + c.args.amount) (sum_at eq c.args.self.now other)) (sym sum)
