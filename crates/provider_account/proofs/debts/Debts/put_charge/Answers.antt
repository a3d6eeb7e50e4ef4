use Rattle.std.proofs.Common.{◌≤◌, ◌^◌, ◌+◌, ℕ, subst, sym, ap, ◌∙◌, refl}
use Rattle.plain_house.specs.declared.entry.AccountEntry.TheVariants as account
use Rattle.provider_account.specs.Inner.DebtKeys.{owed_at}
use Rattle.provider_account.specs.Inner.Debts.{still_counted}
use Rattle.provider_account.proofs.DebtsLemmas.{ended_kept, operators_added, owed_at-bounded, owed_at-charge, still_owed}
use Rattle.provider_account.proofs.debts.Debts.put_charge.Goals as goal

pub add_owed-requires-clause-fits : goal.add_owed-requires-clause-fits
add_owed-requires-clause-fits c = λ key.
    subst (λ (n : ℕ). n ≤ 10 ^ 15) (sym (c.requires.knows.owed key)) (owed_at-bounded key c.args.entries.now c.requires.bound)

pub returns : goal.returns
returns c =
    let entries = c.args.entries.now in
    let charge = c.args.charge.now in
    let self = c.args.self.now in
    let updated = rw c.unwrap.ensures at c.insert.ensures.updates in
    record {
      owed = λ key.
          c.add_owed.ensures key ∙ ap (λ n. n + still_counted self.ended charge key) (c.requires.knows.owed key)
          ∙ ap (λ n. owed_at key entries + n) (still_owed self.ended entries c.requires.knows.ended charge key)
          ∙ sym (owed_at-charge key entries charge);
      ended = ended_kept self.ended entries (account.Charge charge) (λ key. refl) (λ key. refl) c.requires.knows.ended;
      charged = c.put.ensures;
      operators = operators_added self.operators.keys c.insert.new.self.keys entries charge updated.0 c.requires.knows.operators;
    }
