use Rattle.std.proofs.Common.{◌≡◌, None, Ok, Err, sym}
use Rattle.std.specs.Map.{lookup}
use Rattle.line_streams.specs.Given.{done_in}
use Rattle.line_streams.specs.State.{same_request, shown_house, shown_key, shown_lines}
use Rattle.line_streams.specs.Inner.Allowed.{allow}
use Rattle.line_streams.specs.Inner.Seen.{seen}
use Rattle.line_streams.specs.declared.reply.LineReply.TheVariants as given
use Rattle.line_streams.proofs.AllowedLemmas.{given_first, given_refused, once_refused}
use Rattle.line_streams.proofs.once.do_once.Goals as goal

pub returns-in-Err-clause-ok : goal.returns-in-Err-clause-ok
returns-in-Err-clause-ok c =
    let none : lookup (same_request (shown_key c.args.key)) (shown_lines c.args.answered.now) ≡ None = sym c.in_default.ensures.shown in
    let is : allow c.args.in_force.now.config c.args.asked ≡ Err c.in-Err.refusal = cc (c.deref.ensures, c.in-Err.ensures.allow) in
    once_refused (seen c.args.in_force.now.config c.args.house.now c.args.answered.now) (shown_key c.args.key) c.args.asked c.in-Err.refusal c.args.line.now _ c.refused.result
    none is c.refused.ensures

pub returns-in-Err-clause-given : goal.returns-in-Err-clause-given
returns-in-Err-clause-given c =
    let none : lookup (same_request (shown_key c.args.key)) (shown_lines c.args.answered.now) ≡ None = sym c.in_default.ensures.shown in
    let is : allow c.args.in_force.now.config c.args.asked ≡ Err c.in-Err.refusal = cc (c.deref.ensures, c.in-Err.ensures.allow) in
    given_refused (shown_house c.args.in_force.now.config c.args.house.now) (shown_lines c.args.answered.now) c.args.asked c.in-Err.refusal c.args.line.now _ c.args.answered.now c.refused.result
    none is c.refused.ensures

pub returns-clause-given : goal.returns-clause-given
returns-clause-given c =
    let none : lookup (same_request (shown_key c.args.key)) (shown_lines c.args.answered.now) ≡ None = sym c.in_default.ensures.shown in
    let is : allow c.args.in_force.now.config c.args.asked ≡ Ok c.in-Ok.allowed = cc (c.deref.ensures, c.in-Ok.ensures.allow) in
    given_first (shown_house c.args.in_force.now.config c.args.house.now) (shown_lines c.args.answered.now) c.args.asked c.in-Ok.allowed c.args.line.now _
    (done_in c.do_first.new.answered (given.Remembered c.args.key)) (given.Remembered c.args.key) none is c.in_ok-do_first.ensures.given
