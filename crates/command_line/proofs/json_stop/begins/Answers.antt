use Rattle.std.proofs.Common.{◌≡◌, ◌∙◌, ℕ, List, ◌++◌, ap, sym, is_some}
use Rattle.ocpi_json.specs.Reading.{data_of}
use Rattle.command_line.proofs.json_stop.begins.Goals as goal

pub returns-in-Ok : goal.returns-in-Ok
returns-in-Ok c = λ read.
    let text = c.args.text.now in
    let rest = c.args.rest.now in
    let first : c.extend_from_slice.new.self.items ≡ text =
    c.in_ok-extend_from_slice.ensures.items ∙ ap (λ (l : List ℕ). l ++ text) c.in_ok-whole.ensures.items in
    let whole : c.as_slice.result.now ≡ text ++ rest =
    c.as_slice.ensures.value ∙ c.in_ok-extend_from_slice-2.ensures.items ∙ ap (λ (l : List ℕ). l ++ rest) first in
    (rest, ap (λ (l : List ℕ). is_some (data_of l)) (sym whole) ∙ ap is_some c.in-Ok.ensures.value)
