use Rattle.std.proofs.Common.{◌≡◌, ℕ, ◌+◌, [], List, length, take, false, Some, None, refl, ap, ◌∙◌, subst, arith}
use Rattle.std.proofs.Math.Seq.{take-length}
use Rattle.ocpi_types.specs.declared.party.Party.{Party}
use Rattle.provider_account.specs.declared.debt_keys.DebtKey.{DebtKey}
use Rattle.provider_account.specs.declared.debt_keys.PeriodKey.{PeriodKey}
use Rattle.provider_account.specs.Inner.Debts.{is_done, owed_once}
use Rattle.provider_account.specs.Inner.Owed.{amount_of, in_period, part_of}
use Rattle.std.specs.Prelude.{Option}
use Rattle.provider_account.proofs.SettledLemmas.{all_done, first_done, may_end, next_done, one_done, same_done}
use Rattle.provider_account.proofs.debts.end_periods.Goals as goal

-- what a call takes from each key
abbrev Takes : Option Party → (DebtKey → ℕ) → (DebtKey → ℕ) → PeriodKey → Type 0
Takes operator before after period =
    let ended = before (in_period period (Some period.period) operator) in
    (key : DebtKey) → after key + part_of (in_period period None operator) key ended + part_of (in_period period (Some period.period) operator) key ended ≡ before key

pub end_period-requires : goal.end_period-requires
end_period-requires c =
    rw c.ended_by-period.ensures
    (may_end c.args.settlement.now c.args.entries.now None (λ key. amount_of c.args.owed.now.amounts key) (λ other. false) c.requires.owed)

pub loop-operator-init : goal.loop-operator-init
loop-operator-init c =
    let before : DebtKey → ℕ = λ key. amount_of c.args.owed.now.amounts key in
    let after : DebtKey → ℕ = λ key. amount_of c.end_period.new.self.amounts key in
    let taken = subst (Takes None before after) c.ended_by-period.ensures c.end_period.ensures in
    one_done c.args.settlement.now c.args.entries.now None before after
    (λ other. false) (is_done []) c.requires.owed taken first_done (λ other e. refl)

pub end_period-requires-in-loop-operator : goal.end_period-requires-in-loop-operator
end_period-requires-in-loop-operator c =
    rw c.ended_by-period.ensures
    (may_end c.args.settlement.now c.args.entries.now (Some c.operator-item.result) (λ key. amount_of c.loop-operator.owed.amounts key)
    (is_done (take c.loop-operator.operator-index c.args.operators.now)) c.loop-operator.invariant)

pub loop-operator-preserved : goal.loop-operator-preserved
loop-operator-preserved c =
    let operators = c.args.operators.now in
    let i = c.loop-operator.operator-index in
    let operator = c.operator-item.result in
    let before : DebtKey → ℕ = λ key. amount_of c.loop-operator.owed.amounts key in
    let after : DebtKey → ℕ = λ key. amount_of c.end_period-in-loop-operator.new.self.amounts key in
    let taken = subst (Takes (Some operator) before after) c.ended_by-period.ensures c.end_period-in-loop-operator.ensures in
    one_done c.args.settlement.now c.args.entries.now (Some operator) before after (is_done (take i operators)) (is_done (take (i + 1) operators))
    c.loop-operator.invariant taken (next_done operators i operator c.loop-operator-test.true c.operator-item.is) (same_done (take i operators) operator)

pub returns : goal.returns
returns c = λ key.
    let operators = c.args.operators.now in
    let end : c.loop-operator.operator-index ≡ length operators = omega arith in
    let all : take c.loop-operator.operator-index operators ≡ operators = ap (λ n. take n operators) end ∙ take-length operators in
    c.loop-operator.invariant key ∙ ap (λ (done : List Party). owed_once done c.args.settlement.now key c.args.entries.now) all
    ∙ all_done c.args.settlement.now c.args.entries.now operators c.requires.operators key
