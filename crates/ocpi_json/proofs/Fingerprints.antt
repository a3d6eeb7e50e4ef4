-- Sums over the strings of tokens.
use Rattle.std.proofs.Common.{◌≡◌, ℕ, ◌+◌, ◌*◌, ◌%◌, ◌^◌, ◌-◌, ◌<◌, min, List, [], ◌∷◌, ◌++◌, length, flat_map, map, drop, take, get_or, refl, sym, ap, ◌∙◌}
use Rattle.std.proofs.lemmas.List.{drop_more, drop-map, length-drop, length-map, take-map, take_min}
use Rattle.std.proofs.lemmas.Grind.{flat_map-append}
use Rattle.std.proofs.Math.Seq.{take-length}
use Rattle.std.specs.Borrow.{Bor}
use Rattle.json.specs.Json.{Json as Data}
use Rattle.json.specs.Token.{Token}
use Rattle.json.specs.Tree.{json_tokens}
use Rattle.json.specs.Tape.{node_token}
use Rattle.json.specs.declared.tape.Node.{Node}
use Rattle.json.specs.declared.tape.Node.TheVariants as node
use Rattle.ocpi_json.specs.Tokens.{summed, string_of, fingerprint_of}

pub summed-append : (sum : ℕ) (xs ys : List ℕ) → summed sum (xs ++ ys) ≡ summed (summed sum xs) ys
summed-append sum [] ys = refl
summed-append sum (x ∷ xs) ys = summed-append ((sum * 31 + x) % 2 ^ 32) xs ys

pub summed_next : (sum next : ℕ) (ns : List Node) (i : ℕ) (d : Node) → i < length ns → next ≡ summed sum (string_of (node_token (get_or ns i d)))
    → summed sum (flat_map string_of (map node_token (drop i ns))) ≡ summed next (flat_map string_of (map node_token (drop (i + 1) ns)))
summed_next sum next ns i d within is =
    let rest = flat_map string_of (map node_token (drop (i + 1) ns)) in
    ap (λ l. summed sum (flat_map string_of (map node_token l))) (drop_more ns i d within) ∙ summed-append sum (string_of (node_token (get_or ns i d))) rest
    ∙ ap (λ n. summed n rest) (sym is)

pub no_string : (n : Node) → ((x : Bor (List ℕ)) → n ≡ node.String x → ⊥) → string_of (node_token n) ≡ []
no_string (node.Object a) never = refl
no_string node.EndObject never = refl
no_string (node.Array a) never = refl
no_string node.EndArray never = refl
no_string (node.Key s) never = refl
no_string (node.String s) never = absurd (never s refl)
no_string (node.Number s) never = refl
no_string (node.Bool b) never = refl
no_string node.Null never = refl

pub all_from : (ns : List Node) (k : ℕ) → take (length ns - k) (drop k ns) ≡ drop k ns
all_from ns k = ap (λ n. take n (drop k ns)) (sym (length-drop k ns)) ∙ take-length (drop k ns)

-- the strings among the first 8 and the last 2 tokens
pub sampled : (ns : List Node) (ts : List Token) → map node_token ns ≡ ts
    → summed (summed 0 (flat_map string_of (map node_token (take (min 8 (length ns)) ns)))) (flat_map string_of (map node_token (drop (length ns - 2) ns)))
    ≡ summed 0 (flat_map string_of (take 8 ts ++ drop (length ts - 2) ts))
sampled ns ts are =
    let strings = λ (l : List Token). flat_map string_of l in
    let front : map node_token (take (min 8 (length ns)) ns) ≡ take 8 ts = ap (map node_token) (take_min 8 ns) ∙ sym (take-map node_token 8 ns) ∙ ap (take 8) are in
    let back : map node_token (drop (length ns - 2) ns) ≡ drop (length ts - 2) ts =
    sym (drop-map node_token (length ns - 2) ns) ∙ ap (λ l. drop (length ns - 2) l) are ∙ ap (λ n. drop (n - 2) ts) (sym (length-map ns node_token) ∙ ap length are) in
    ap (λ l. summed (summed 0 (strings l)) (strings (map node_token (drop (length ns - 2) ns)))) front ∙ ap (λ l. summed (summed 0 (strings (take 8 ts))) (strings l)) back
    ∙ sym (summed-append 0 (strings (take 8 ts)) (strings (drop (length ts - 2) ts)))
    ∙ ap (summed 0) (sym (flat_map-append string_of (take 8 ts) (drop (length ts - 2) ts)))

pub fingerprint_is : (j : Data) → fingerprint_of j ≡ summed 0 (flat_map string_of (take 8 (json_tokens j) ++ drop (length (json_tokens j) - 2) (json_tokens j)))
unfolding fingerprint_of
fingerprint_is j = refl
