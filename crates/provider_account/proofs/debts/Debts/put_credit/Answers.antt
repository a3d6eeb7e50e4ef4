use Rattle.std.proofs.Common.{refl, arith}
use Rattle.plain_house.specs.declared.entry.AccountEntry.TheVariants as account
use Rattle.provider_account.proofs.ChargedLemmas.{places_kept}
use Rattle.provider_account.proofs.DebtsLemmas.{credited_at, credited_set, debts_kept, operators_kept, uncredited}
use Rattle.provider_account.proofs.debts.Debts.put_credit.Goals as goal

pub returns-in-Some : goal.returns-in-Some
returns-in-Some c =
    let entries = c.args.entries.now in
    let credit = c.args.credit.now in
    let self = c.args.self.now in
    record {
      owed = λ key.
          let taken = c.take_cdr.ensures key in
          let ended = credited_at key entries credit c.in-Some.original c.in-Some.is in
          omega arith;
      ended = credited_set self.ended c.credit.new.self entries credit c.in-Some.original c.in-Some.is c.credit.ensures.credited c.credit.ensures.settled c.requires.knows.ended;
      charged = places_kept self.charged entries (account.Credit credit) refl c.requires.knows.charged;
      operators = operators_kept self.operators.keys entries (account.Credit credit) refl c.requires.knows.operators;
    }

pub returns-in_default : goal.returns-in_default
returns-in_default c =
    debts_kept c.args.self.now c.args.entries.now (account.Credit c.args.credit.now) refl
    (λ key. uncredited key c.args.credit.now c.in_default.is) (λ key. refl) c.requires.knows
