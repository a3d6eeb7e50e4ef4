-- A record has one configuration.
use Rattle.std.proofs.Common.{◌≡◌, ◌≢◌, inl, inr, ℕ, List, [], ◌∷◌, ◌++◌, length, drop, refl, sym, ◌∙◌, ap, arith}
use Rattle.std.specs.Prelude.{codes, slice_index}
use Rattle.std.proofs.Math.Seq.{drop-append_seam}
use Rattle.std.proofs.lemmas.List.Elements.{All-head, All-tail}
use Rattle.kept_house.specs.Record.{HasNoQuote, RecordsHaveOneConfig}

abbrev NoQuote : ℕ → Type 0
NoQuote byte = byte ≢ 34

cancel : (xs ys zs : List ℕ) → xs ++ ys ≡ xs ++ zs → ys ≡ zs
cancel xs ys zs is = sym (drop-append_seam xs ys) ∙ ap (λ (l : List ℕ). drop (length xs) l) is ∙ drop-append_seam xs zs

not_ended : (xs : List ℕ) (byte : ℕ) → [] ≡ xs ++ byte ∷ [] → ⊥
not_ended [] byte is = absurd (omega (arith, ap (λ (l : List ℕ). length l) is))
not_ended (x ∷ xs) byte is = absurd (omega (arith, ap (λ (l : List ℕ). length l) is))

cancel_last : (a b : List ℕ) (last : ℕ) → a ++ last ∷ [] ≡ b ++ last ∷ [] → a ≡ b
cancel_last [] [] last is = refl
cancel_last [] (y ∷ b) last is = absurd (not_ended b last (ap (λ (l : List ℕ). drop 1 l) is))
cancel_last (x ∷ a) [] last is = absurd (not_ended a last (sym (ap (λ (l : List ℕ). drop 1 l) is)))
cancel_last (x ∷ a) (y ∷ b) last is =
    let head : x ≡ y = ap (λ (l : List ℕ). slice_index l 0) is in
    let tail : a ≡ b = cancel_last a b last (ap (λ (l : List ℕ). drop 1 l) is) in
    ap (λ (n : ℕ). n ∷ a) head ∙ ap (λ (l : List ℕ). y ∷ l) tail

-- what comes after the program and its quotation mark
rest_is : (p q x y : List ℕ) → HasNoQuote p → HasNoQuote q → p ++ 34 ∷ x ≡ q ++ 34 ∷ y → x ≡ y
rest_is [] [] x y one other is = ap (λ (l : List ℕ). drop 1 l) is
rest_is [] (c ∷ q) x y one other is = absurd (All-head NoQuote c q other (sym (ap (λ (l : List ℕ). slice_index l 0) is)))
rest_is (c ∷ p) [] x y one other is = absurd (All-head NoQuote c p one (ap (λ (l : List ℕ). slice_index l 0) is))
rest_is (c ∷ p) (d ∷ q) x y one other is = rest_is p q x y (All-tail NoQuote c p one) (All-tail NoQuote d q other) (ap (λ (l : List ℕ). drop 1 l) is)

abbrev start : List ℕ
start = codes "{\"format\":1,\"program\":\""

-- what is after the program's quotation mark, in either form
abbrev first_end : List ℕ → List ℕ
first_end config = codes ",\"config\":" ++ (config ++ codes "}")

abbrev later_end : List ℕ → List ℕ
later_end config = codes ",\"stream\":[\"configure\",\"request_id\"],\"config\":" ++ (config ++ codes "}")

same_end : (line p q x y : List ℕ) → HasNoQuote p → HasNoQuote q → line ≡ start ++ (p ++ 34 ∷ x) → line ≡ start ++ (q ++ 34 ∷ y) → x ≡ y
same_end line p q x y one two a b = rest_is p q x y one two (cancel start (p ++ 34 ∷ x) (q ++ 34 ∷ y) (sym a ∙ b))

pub one_config : RecordsHaveOneConfig
one_config line config other (p, one, inl a) (q, two, inl b) =
    cancel_last config other 125 (cancel (codes ",\"config\":") (config ++ codes "}") (other ++ codes "}") (same_end line p q (first_end config) (first_end other) one two a b))
one_config line config other (p, one, inr a) (q, two, inr b) =
    cancel_last config other 125 (cancel (codes ",\"stream\":[\"configure\",\"request_id\"],\"config\":") (config ++ codes "}") (other ++ codes "}") (same_end line p q (later_end config) (later_end other) one two a b))
one_config line config other (p, one, inl a) (q, two, inr b) =
    absurd (let differ : 99 ≡ 115 = ap (λ (l : List ℕ). slice_index l 2) (same_end line p q (first_end config) (later_end other) one two a b) in omega (arith, differ))
one_config line config other (p, one, inr a) (q, two, inl b) =
    absurd (let differ : 115 ≡ 99 = ap (λ (l : List ℕ). slice_index l 2) (same_end line p q (later_end config) (first_end other) one two a b) in omega (arith, differ))
