-- What comes after the beginning of a text, and words that are read in turn.
use Rattle.std.proofs.Common.{◌≡◌, ◌≢◌, ◌∙◌, ◌+◌, ◌<◌, ℕ, Bool, true, false, List, [], ◌∷◌, ◌++◌, MatchOption, IsCharBoundary, None, Option, Some, ap, drop, get_or, if◌then◌else◌, length, map, option_map, refl, sym, take, take-append-drop}
use Rattle.std.proofs.Math.Seq.{take-append_seam}
use Rattle.std.proofs.lemmas.List.{at_drop_more}
use Rattle.std.proofs.lemmas.Slice.Eq.{bytes_eq-Decides}
use Rattle.std.specs.Borrow.{Bor}
use Rattle.std.specs.Prelude.{is_some, option_and_then}
use Rattle.std.specs.Str.{bytes_eq}
use Rattle.command_line.specs.Arguments.{PlainArguments, PlainReading, Text, after, arguments_after, next_reading}
use Rattle.command_line.specs.declared.arguments.CommandOption.{CommandOption}

after_found : (n s : List ℕ) → s ≡ n ++ drop (length n) s → after n s ≡ Some (drop (length n) s)
after_found n s e =
    let begins : take (length n) s ≡ n = ap (λ (l : List ℕ). take (length n) l) e ∙ take-append_seam n (drop (length n) s) in
    ap (λ (b : Bool). if b then Some (drop (length n) s) else None) ((bytes_eq-Decides (take (length n) s) n).1 begins)

after_none : (n s : List ℕ) → ((rest : List ℕ) → s ≢ n ++ rest) → after n s ≡ None
after_none n s lacks = by_test (bytes_eq (take (length n) s) n) refl
  where
    by_test : (b : Bool) → bytes_eq (take (length n) s) n ≡ b → after n s ≡ None
    by_test true e =
        absurd (lacks (drop (length n) s) (sym (take-append-drop (length n) s) ∙ ap (λ (l : List ℕ). l ++ drop (length n) s) ((bytes_eq-Decides (take (length n) s) n).0 e)))
    by_test false e = ap (λ (b : Bool). if b then Some (drop (length n) s) else None) e

-- what `strip_prefix` says of a text before another
pub after_is : (n s : List ℕ) (r : Option (Bor (List ℕ)))
    → MatchOption r ((rest : List ℕ) → s ≢ n ++ rest)
    (λ x. (k : ℕ) × ((k ≡ length n) × (s ≡ n ++ drop k s) × IsCharBoundary s (length n)) × (x.now ≡ drop k s) × (length x.now + k ≡ length s))
    → option_map (λ (rest : Bor (List ℕ)). rest.now) r ≡ after n s
after_is n s None h = sym (after_none n s h)
after_is n s (Some x) h =
    let at : h.0 ≡ length n = h.1.0 in
    ap (λ (l : List ℕ). Some l) (h.2 ∙ ap (λ (k : ℕ). drop k s) at) ∙ sym (after_found n s (h.1.1 ∙ ap (λ (k : ℕ). n ++ drop k s) at))

-- ---- words in turn

abbrev then_read : List CommandOption → List Text → Option PlainReading → Option PlainArguments
then_read options rest reading = option_and_then (λ (next : PlainReading). arguments_after options next rest) reading

module _ {S : Type 0} (bytes : S → Text) (options : List CommandOption) (a : PlainReading) (words : List S) (i : ℕ) (d item : S) where
  -- the word at a place is the first of those that are left
  at_word : item ≡ get_or words i d → i < length words →
      arguments_after options a (map bytes (drop i words)) ≡ then_read options (map bytes (drop (i + 1) words)) (next_reading options a (bytes item))
  unfolding arguments_after
  at_word is within =
      at_drop_more (λ (l : List S). arguments_after options a (map bytes l)) words i d within
      ∙ ap (λ (x : S). then_read options (map bytes (drop (i + 1) words)) (next_reading options a (bytes x))) (sym is)

  pub one_word_more : (b : PlainReading) → item ≡ get_or words i d → i < length words → next_reading options a (bytes item) ≡ Some b →
      arguments_after options a (map bytes (drop i words)) ≡ arguments_after options b (map bytes (drop (i + 1) words))
  unfolding arguments_after
  one_word_more b is within next = at_word is within ∙ ap (then_read options (map bytes (drop (i + 1) words))) next

  pub one_word_refused : item ≡ get_or words i d → i < length words → next_reading options a (bytes item) ≡ None → arguments_after options a (map bytes (drop i words)) ≡ None
  unfolding arguments_after
  one_word_refused is within next = at_word is within ∙ ap (then_read options (map bytes (drop (i + 1) words))) next

pub none_if_waiting : (options : List CommandOption) (a : PlainReading) → is_some a.waiting ≡ true → arguments_after options a [] ≡ None
unfolding arguments_after
none_if_waiting options a waits = ap (λ (b : Bool). if b then None else Some a.arguments) waits

pub all_if_not_waiting : (options : List CommandOption) (a : PlainReading) → is_some a.waiting ≡ false → arguments_after options a [] ≡ Some a.arguments
unfolding arguments_after
all_if_not_waiting options a waits = ap (λ (b : Bool). if b then None else Some a.arguments) waits
