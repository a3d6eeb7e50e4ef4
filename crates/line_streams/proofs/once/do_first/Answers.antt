use Rattle.std.proofs.Common.{ap, sym, subst, ◌∙◌, ◌∷◌, [], ◌++◌}
use Rattle.ocpi_types.specs.declared.config.Config.{Config}
use Rattle.line_streams.specs.Inner.Allowed.{IsAllowedDone}
use Rattle.line_streams.specs.State.{RememberedLines, reply_text, shown_answered, shown_house, shown_key, shown_lines}
use Rattle.line_streams.specs.Inner.Seen.{seen}
use Rattle.line_streams.specs.declared.answered.Answered.{Answered}
use Rattle.line_streams.proofs.RequestIdLemmas.{first_done}
use Rattle.line_streams.proofs.once.do_first.Goals as goal

pub returns-clause-ok : goal.returns-clause-ok
returns-clause-ok c =
    let key = shown_key c.args.key in
    let unanswered = c.in_ok-unanswered.unanswered in
    let kept = shown_answered (record { digest = unanswered.digest; config = unanswered.config; reply = c.in_ok-reply.reply }) in
    let house = shown_house c.args.in_force.now.config c.args.house.now in
    let now = shown_house c.do_allowed.new.in_force.config c.do_allowed.new.house in
    first_done (seen c.args.in_force.now.config c.args.house.now c.args.answered.now) (seen c.do_allowed.new.in_force.config c.do_allowed.new.house c.add.new.self) key c.args.allowed
    c.args.line.now kept c.requires.absent c.in_ok-unanswered.ensures.digest c.in_ok-unanswered.ensures.config
    (subst (λ (g : Config). IsAllowedDone house c.args.allowed (reply_text g c.in_ok-reply.reply) now) (sym c.in_ok-unanswered.ensures.config) c.in_ok-reply.ensures.ok)
    (c.add.ensures.lines ∙ ap (λ (done : Answered). shown_lines c.reserve.new.self ++ (key, shown_answered done) ∷ []) c.with_reply.ensures
    ∙ ap (λ (l : RememberedLines). l ++ (key, kept) ∷ []) c.in_ok-reserve.ensures.lines)
