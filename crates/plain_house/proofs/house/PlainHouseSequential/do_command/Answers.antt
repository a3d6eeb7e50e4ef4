use Rattle.std.proofs.Common.{refl, subst, sym}
use Rattle.cdr_checks.specs.Admission.{IsAdmitted}
use Rattle.plain_house.specs.Replies.{is_no_memory}
use Rattle.plain_house.specs.State.{State}
use Rattle.plain_house.proofs.LegalLemmas.{legal_given}
use Rattle.plain_house.proofs.ListEntryLemmas.{legal_keeps, lists_can_be_netted}
use Rattle.plain_house.proofs.house.PlainHouseSequential.do_command.Goals as goal

pub reply-requires : goal.reply-requires
reply-requires c = record {
  limits = legal_keeps _ _ c.self.invariant;
  netting = lists_can_be_netted c.posts_are_checked.ensures _ _ c.is_bounded.ensures.operators c.is_bounded.ensures.cdrs c.self.invariant;
}

pub invariant_of-self : goal.invariant_of-self
invariant_of-self c =
    let admitted = subst (λ (house : State). IsAdmitted house.config c.args.command) (sym c.self.view_is) c.requires in
    legal_given _ _ c.args.command c.reply.result _ (is_no_memory c.reply.result) refl c.self.invariant admitted c.reply.ensures
