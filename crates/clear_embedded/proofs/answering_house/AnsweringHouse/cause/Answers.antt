use Rattle.std.proofs.Common.{rules, ◌≡◌, ◌∙◌, Option, Some, string_bytes}
use Rattle.line_streams.specs.State.{StreamState, state_of}
use Rattle.clear_embedded.specs.Answering.{IsCauseText}
use Rattle.clear_embedded.specs.Standing.{Refused, shown_refused}
use Rattle.clear_embedded.proofs.AnsweringLemmas.{cause_of_last, explained_by}
use Rattle.clear_embedded.proofs.answering_house.AnsweringHouse.cause.Goals as goal

pub returns : goal.returns
returns c =
    let found = c.in-Ok.ensures in
    let state = state_of c.self.inside.stream in
    let refused = shown_refused c.in-Some.refused in
    let text = c.as_bytes.result.now in
    let stream_is : c.args.self.now.stream ≡ state = search rules in
    let refused_is : c.args.self.now.refused ≡ Some refused = search rules in
    let text_is : text ≡ string_bytes c.in-Ok.text = search rules in
    let is : IsCauseText c.args.self.now text = cause_of_last c.args.self.now state refused found.0 text stream_is refused_is found.1 (text_is ∙ found.2) in
    explained_by c.put_text.result.code c.args.self.now text _ is c.put_text.ensures
