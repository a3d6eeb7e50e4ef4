-- The lexemes of a line and of its marked text.
use Rattle.std.proofs.Common.{◌≡◌, ◌⊎◌, inl, inr, ℕ, List, [], ◌∷◌, ◌++◌, map, length, Bool, true, false, cond, ◌==◌, ◌&&◌, ◌||◌, Option, Some, None, IsSome, refl, sym, ap, ap₂, ◌∙◌}
use Rattle.std.proofs.lemmas.Bool.{false≢true, and_parts}
use Rattle.std.specs.List.{prefix_len, flat_map, AllByRecursion}
use Rattle.std.specs.Char.{is_ascii_digit}
use Rattle.json.specs.Token.{Token}
use Rattle.json.specs.Text.{plain, content, prepend}
use Rattle.json.specs.Lex.{Lexeme, token, comma, colon, operator_lexeme, string_token, between, in_word, in_string, lex_byte, lex}
use Rattle.json.specs.Word.{ends_word, after_number, number_before}
use Rattle.marked_lines.specs.Cut.{begins_number, is_number_byte, inside, Piece, marked, IsSound}
use Rattle.marked_lines.specs.Inner.Marks.{mark_token}
use Rattle.marked_lines.proofs.Places.{mark_lexeme}
use Rattle.marked_lines.proofs.Good.{sane, good}
use Rattle.marked_lines.proofs.Strings.{passes_text, same_content, open_content}
use Rattle.marked_lines.proofs.Tokens.{AllNum, greedy, number_class, is_word, at_number, ends_between, passes_word, inside_num, content_num}

abbrev pub relabel : List Lexeme → List Lexeme
relabel ls = map mark_lexeme ls

abbrev pub marked_of : List Piece → List ℕ
marked_of ps = flat_map marked ps

-- what is shown of each cut
abbrev pub Relexed : List ℕ → List Piece → Type 0
Relexed bytes ps = AllByRecursion IsSound ps × (lex between (marked_of ps) ≡ relabel (lex between bytes))

-- ---- strings

text-mark : (o : Option (List ℕ)) → string_token (prepend (115 ∷ []) o) ≡ mark_token (string_token o)
text-mark None = refl
text-mark (Some s) = refl

pub good_rest : (t : Token) (ls : List Lexeme) → good (token t ∷ ls) ≡ true → good ls ≡ true
good_rest t ls h = (and_parts (sane t) (good ls) h).1

pub closed_good : (t rest : List ℕ) → inside false t ≡ Some false → good (lex between (34 ∷ (t ++ 34 ∷ rest))) ≡ true → good (lex between rest) ≡ true
unfolding lex
closed_good t rest h g = ap good (sym (passes_text false t rest h)) ∙ good_rest (string_token (content plain (t ++ 34 ∷ rest))) (lex in_string (t ++ 34 ∷ rest)) g

pub closed_lex : (t rest more : List ℕ) → inside false t ≡ Some false → lex between more ≡ relabel (lex between rest) → lex between (34 ∷ 115 ∷ (t ++ 34 ∷ more)) ≡ relabel (lex between (34 ∷ (t ++ 34 ∷ rest)))
unfolding lex content
closed_lex t rest more h ih =
    ap₂ (λ a l. token a ∷ l) (ap (λ o. string_token (prepend (115 ∷ []) o)) (same_content more rest plain t h) ∙ text-mark (content plain (t ++ 34 ∷ rest)))
    (passes_text false t more h ∙ ih ∙ ap relabel (sym (passes_text false t rest h)))

pub open_bad : (t : List ℕ) → IsSome (inside false t) → good (lex between (34 ∷ t)) ≡ true → ⊥
unfolding lex
open_bad t h g = false≢true (sym (ap (λ o. sane (string_token o) && good (lex in_string t)) (open_content plain t h)) ∙ g)

-- ---- numbers

pub digit_or_minus : (x : ℕ) → begins_number x ≡ true → is_number_byte x ≡ true
digit_or_minus x h = step (x == 45) (is_ascii_digit x) (x == 43) (x == 46) (x == 101) (x == 69) h
  where
    step : (m d b c e f : Bool) → (m || d) ≡ true → (d || m || b || c || e || f) ≡ true
    step m true b c e f g = refl
    step true false b c e f g = refl
    step false false b c e f g = absurd (false≢true g)

number_lex : (x : ℕ) (u rest : List ℕ) → AllNum (x ∷ u) → lex between ((x ∷ u) ++ rest) ≡ token (number_before ((x ∷ u) ++ rest) (after_number ((x ∷ u) ++ rest))) ∷ lex in_word (u ++ rest)
unfolding lex
number_lex x u rest h =
    ap (λ c. lex_byte between c x (u ++ rest) (λ n. lex n (u ++ rest))) (number_class x h.0) ∙ ap (λ w. token w ∷ lex in_word (u ++ rest)) (is_word x (u ++ rest) h.0)

-- the number token, and what comes behind it
pub number_there : (x : ℕ) (u rest : List ℕ) → AllNum (x ∷ u) → ends_word rest ≡ true → number_before ((x ∷ u) ++ rest) (after_number ((x ∷ u) ++ rest)) ≡ Token.number (x ∷ u)
    → lex between ((x ∷ u) ++ rest) ≡ token (Token.number (x ∷ u)) ∷ lex between rest
number_there x u rest nums e n = number_lex x u rest nums ∙ ap₂ (λ w l. token w ∷ l) n (passes_word u rest nums.1 ∙ ends_between rest e)

pub number_text : (t more : List ℕ) → AllNum t → lex between (34 ∷ 110 ∷ (t ++ 34 ∷ more)) ≡ token (Token.string (110 ∷ t)) ∷ lex between more
unfolding lex content
number_text t more h =
    ap₂ (λ o l. token (string_token (prepend (110 ∷ []) o)) ∷ l) (content_num t more h) (passes_text false t more (inside_num t h))

pub record Numbered (t rest : List ℕ) : Type 0 where
  pub sound : after_number t ≡ Some []
  pub goes_on : good (lex between rest) ≡ true
  pub same : (more : List ℕ) → lex between more ≡ relabel (lex between rest) → lex between (34 ∷ 110 ∷ (t ++ 34 ∷ more)) ≡ relabel (lex between (t ++ rest))

pub number_case : (x : ℕ) (u rest : List ℕ) → prefix_len is_number_byte ((x ∷ u) ++ rest) ≡ length (x ∷ u) → good (lex between ((x ∷ u) ++ rest)) ≡ true → Numbered (x ∷ u) rest
number_case x u rest long g =
    let parts = greedy (x ∷ u) rest long in let nums = parts.0 in
    step nums (at_number (x ∷ u) rest nums parts.1)
  where
    step : AllNum (x ∷ u) → ((after_number (x ∷ u) ≡ Some []) × (ends_word rest ≡ true) × (number_before ((x ∷ u) ++ rest) (after_number ((x ∷ u) ++ rest)) ≡ Token.number (x ∷ u))) ⊎ (number_before ((x ∷ u) ++ rest) (after_number ((x ∷ u) ++ rest)) ≡ Token.bad) → Numbered (x ∷ u) rest
    step nums (inr e) = absurd (false≢true (sym (ap good (number_lex x u rest nums) ∙ ap (λ w. sane w && good (lex in_word (u ++ rest))) e) ∙ g))
    step nums (inl e) =
        let there : lex between ((x ∷ u) ++ rest) ≡ token (Token.number (x ∷ u)) ∷ lex between rest = number_there x u rest nums e.1 e.2 in
        record { sound = e.0; goes_on = sym (ap good there) ∙ g; same = λ more ih. number_text (x ∷ u) more nums ∙ ap (λ l. token (Token.string (110 ∷ x ∷ u)) ∷ l) ih ∙ ap relabel (sym there) }

-- ---- operators

pub operator-mark : (x : ℕ) → mark_lexeme (operator_lexeme x) ≡ operator_lexeme x
operator-mark x = step (x == 123) (x == 125) (x == 91) (x == 93) (x == 44)
  where
    at : Bool → Bool → Bool → Bool → Bool → Lexeme
    at a b c d e = cond a (token Token.begin_object) (cond b (token Token.end_object) (cond c (token Token.begin_array) (cond d (token Token.end_array) (cond e comma colon))))

    step : (a b c d e : Bool) → mark_lexeme (at a b c d e) ≡ at a b c d e
    step true b c d e = refl
    step false true c d e = refl
    step false false true d e = refl
    step false false false true e = refl
    step false false false false true = refl
    step false false false false false = refl

pub operator-good : (x : ℕ) (ls : List Lexeme) → good (operator_lexeme x ∷ ls) ≡ true → good ls ≡ true
operator-good x ls h = step (x == 123) (x == 125) (x == 91) (x == 93) (x == 44) h
  where
    at : Bool → Bool → Bool → Bool → Bool → Lexeme
    at a b c d e = cond a (token Token.begin_object) (cond b (token Token.end_object) (cond c (token Token.begin_array) (cond d (token Token.end_array) (cond e comma colon))))

    step : (a b c d e : Bool) → good (at a b c d e ∷ ls) ≡ true → good ls ≡ true
    step true b c d e g = g
    step false true c d e g = g
    step false false true d e g = g
    step false false false true e g = g
    step false false false false true g = g
    step false false false false false g = g
