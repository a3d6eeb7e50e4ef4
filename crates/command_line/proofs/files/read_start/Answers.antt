use Rattle.std.proofs.Common.{◌≡◌, ℕ, List, [], ◌++◌, take, Option, Some, None, option_map, IfSome, subst, ◌∙◌, ap}
use Rattle.command_line.proofs.files.read_start.Goals as goal

-- what is known of the first bytes
first_of : (known : Option (List ℕ)) (n : ℕ) (items : List ℕ) → IfSome (option_map (take n) known) (λ xs. items ≡ xs) → IfSome known (λ bytes. items ≡ take n bytes)
first_of None n items h = tt
first_of (Some bytes) n items h = h

after_none : (known : Option (List ℕ)) (n : ℕ) (old items : List ℕ) → old ≡ [] → IfSome (option_map (take n) known) (λ xs. items ≡ old ++ xs) → IfSome (option_map (take n) known) (λ xs. items ≡ xs)
after_none None n old items e h = tt
after_none (Some bytes) n old items e h = h ∙ ap (λ (front : List ℕ). front ++ take n bytes) e

taken : {R : Type 0} (remaining : R → Option (List ℕ)) (inner reader : R) (limit n : ℕ) (old items : List ℕ) → inner ≡ reader → limit ≡ n → old ≡ [] →
    IfSome (option_map (take limit) (remaining inner)) (λ xs. items ≡ old ++ xs) → IfSome (remaining reader) (λ bytes. items ≡ take n bytes)
taken remaining inner reader limit n old items inner_is limit_is old_is h =
    let at_inner : IfSome (remaining inner) (λ bytes. items ≡ take limit bytes) = first_of (remaining inner) limit items (after_none (remaining inner) limit old items old_is h) in
    let at_reader = subst (λ r. IfSome (remaining r) (λ bytes. items ≡ take limit bytes)) inner_is at_inner in
    subst (λ (m : ℕ). IfSome (remaining reader) (λ bytes. items ≡ take m bytes)) limit_is at_reader

pub returns-in-Ok-clause-start : goal.returns-in-Ok-clause-start
returns-in-Ok-clause-start g c =
    taken g.R.Read.remaining c.take.result.inner c.args.reader c.take.result.limit 1048577 c.new-file.result.items c.read_to_end.new.buf.items
    c.take.ensures.inner c.take.ensures.limit c.new-file.ensures.items c.in-Ok.ensures.bytes
