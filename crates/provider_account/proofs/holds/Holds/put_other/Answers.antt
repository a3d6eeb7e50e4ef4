use Rattle.std.proofs.Common.{◌≤◌, ◌&&◌, Option, None, Some, cond, is_some, subst, sym, ap, ap₂, ◌∙◌}
use Rattle.plain_house.specs.declared.event.Hold.{Hold}
use Rattle.provider_account.specs.Inner.HoldSums.{hold_sum_at}
use Rattle.provider_account.specs.Inner.Holds.{key_of_release, names_key, open_ended, open_under, without}
use Rattle.provider_account.proofs.HoldsKnown.{covered_ended, covered_hold, ended_found, ended_known, named, same_holds, unended_known}
use Rattle.provider_account.proofs.holds.Holds.put_other.Goals as goal

pub take_off-requires : goal.take_off-requires
take_off-requires c scope within =
    let known = c.args.self.now in
    let covered = covered_hold known (open_ended known c.args.entry.now) c.in-Some.hold (covered_ended known c.requires.covered c.args.entry.now) (sym c.take_ended.ensures.ended ∙ c.in-Some.is) in
    subst (λ sums. c.in-Some.hold.amount ≤ hold_sum_at sums scope) (sym c.take_ended.ensures.sums) (covered scope within)

pub returns-in-Some : goal.returns-in-Some
returns-in-Some c entries knows =
    let known = c.args.self.now in
    let x = c.args.entry.now in
    let found = sym (ended_found known entries knows x) ∙ sym c.take_ended.ensures.ended ∙ c.in-Some.is in
    ended_known entries x c.requires.other known knows c.in-Some.hold found _
    (λ release. c.take_ended.ensures.left release
    ∙ ap₂ (λ (o : Option Hold) b. cond {A = Option Hold} (is_some o && b) None (open_under known release)) c.in-Some.is
    (named entries x c.requires.other known knows c.in-Some.hold found (key_of_release release)))
    (λ scope. c.take_off.ensures scope ∙ ap (λ sums. without scope (Some c.in-Some.hold) (hold_sum_at sums scope)) c.take_ended.ensures.sums)

pub returns-in_default : goal.returns-in_default
returns-in_default c entries knows =
    let known = c.args.self.now in
    let x = c.args.entry.now in
    let found = sym (ended_found known entries knows x) ∙ sym c.take_ended.ensures.ended ∙ c.in_default.is in
    unended_known entries x c.requires.other c.take_ended.new.self
    (same_holds known c.take_ended.new.self entries
    (λ release. c.take_ended.ensures.left release
    ∙ ap (λ (o : Option Hold). cond {A = Option Hold} (is_some o && names_key x (key_of_release release)) None (open_under known release)) c.in_default.is)
    c.take_ended.ensures.sums knows) found
