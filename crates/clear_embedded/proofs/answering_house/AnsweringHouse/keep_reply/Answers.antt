use Rattle.std.proofs.Common.{rules, ◌≡◌, ap, ◌∙◌, ℕ, List, Option, option_map}
use Rattle.line_causes.specs.RefusalNames.{refused_in}
use Rattle.line_streams.specs.Given.{IsGiven, done_by}
use Rattle.line_streams.specs.State.{line_text, shown_lines, state_of}
use Rattle.line_streams.specs.Stream as stream
use Rattle.clear_embedded.specs.Answering.{refused_with}
use Rattle.clear_embedded.specs.Standing.{Refused, shown_refused}
use Rattle.clear_embedded.proofs.AnsweringLemmas.{kept_by}
use Rattle.clear_embedded.proofs.answering_house.AnsweringHouse.keep_reply.Goals as goal

pub returns-clause-ok : goal.returns-clause-ok
returns-clause-ok c =
    let reply = c.in_ok-reply.reply in
    let now = c.reply_to.new.self in
    let done = done_by now reply in
    let name = refused_in done reply in
    let line = c.args.line.now in
    let text : List ℕ = line_text now.in_force.config (shown_lines now.answered) reply in
    let copied : c.in_ok-copy.copy.items ≡ line = search rules in
    let answered : stream.IsAnswered c.args.self.now.stream line text (state_of now) = search rules in
    let given : IsGiven c.args.self.now.stream line done reply = search rules in
    let refused : option_map shown_refused c.refused_line.result ≡ refused_with line done name =
    c.refused_line.ensures ∙ ap (λ (bytes : List ℕ). refused_with bytes done name) copied in
    let is = c.replies_name_refusals.ensures c.args.self.now.stream line now reply given in
    (text, kept_by c.args.self.now line text (state_of now) (option_map shown_refused c.refused_line.result) done name c.requires answered is refused)
