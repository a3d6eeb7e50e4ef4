use Rattle.std.proofs.Common.{◌≡◌, ℕ, List, ◌++◌, ◌∙◌, ap, codes}
use Rattle.std.specs.Prelude.{decimal, string_bytes}
use Rattle.std.proofs.lemmas.Result.{IfOk-weaker}
use Rattle.hex.specs.Hex.{encode_lower}
use Rattle.kept_answers.proofs.keeping.greeting_text.Goals as goal

-- the text of a number and of a head in hex
told : ℕ → List ℕ → List ℕ
told count head = codes "{\"kept\":" ++ (decimal count ++ (codes ",\"head\":\"" ++ (head ++ codes "\"}\n")))

pub returns : goal.returns
unfolding told
returns c = IfOk-weaker c.format.result _ _
    (λ text made first lines held.
    let hex = c.as_str.ensures.value ∙ c.in_ok-head.ensures ∙ ap encode_lower (c.as_slice.ensures ∙ held.head_is) in
    let is : string_bytes text ≡ told c.args.held.count c.as_str.result.now = made in
    is ∙ ap (λ (count : ℕ). told count c.as_str.result.now) held.count_is ∙ ap (told _) hex)
    c.format.ensures.ok
