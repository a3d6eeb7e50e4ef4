-- One line after another, from a window on a file.
use Rattle.std.proofs.Common.{◌≡◌, ◌≢◌, inl, inr, ℕ, ◌+◌, ◌-◌, ◌<◌, ◌≤◌, List, [], ◌∷◌, ◌++◌, length, take, drop, refl, sym, ◌∙◌, ap, arith, append_assoc, length-append, length-drop, take-append-drop}
use Rattle.std.specs.Prelude.{slice_index}
use Rattle.std.specs.List.{All}
use Rattle.std.proofs.Math.Seq.{take-add}
use Rattle.std.proofs.lemmas.List.{append-nil, take_all, take-append-le, length-take, length-take-le, drop-append-le, drop-drop}
use Rattle.std.proofs.lemmas.List.Elements.{All-push}
use Rattle.std.proofs.lemmas.Bool.{cases_eq, cases_lt}
use Rattle.kept_lines.specs.File.{IsLine, kept_in, marked, BeginsTooLong}
use Rattle.kept_lines.specs.Inner.Window.{IsWindow, IsPlace, BeginsLine, BeginsNoLine}
use Rattle.kept_lines.specs.Reading.{IsFrontOf}
use Rattle.kept_lines.proofs.Parsing.{parts, closed, unended_line, kept_in-line, kept_in_nothing, marked-append}

-- whole lines are what they keep
pub marked_is : (front : List ℕ) (lines : List (List ℕ)) → All IsLine lines → front ≡ marked lines → front ≡ marked (kept_in front)
marked_is front lines are is =
    is ∙ ap marked (sym (ap kept_in (is ∙ sym (append-nil (marked lines))) ∙ kept_in_nothing lines [] are refl))

module _ (file window : List ℕ) (begin next : ℕ) (is : IsWindow file begin window) (within : next ≤ length window) where
  abbrev text : List ℕ
  text = drop next window

  abbrev more : List ℕ
  more = drop (length window) (drop begin file)

  split : drop (begin + next) file ≡ text ++ more
  split =
      sym (drop-drop next begin file)
      ∙ ap (λ (l : List ℕ). drop next l) (sym (take-append-drop (length window) (drop begin file)) ∙ ap (λ (l : List ℕ). l ++ more) is)
      ∙ drop-append-le next window more within

  module _ (count : ℕ) (b : BeginsLine text count) where
    abbrev line : List ℕ
    line = take count (drop 1 text)

    abbrev rest : List ℕ
    rest = drop (count + 2) text ++ more

    begins : drop (begin + next) file ≡ 43 ∷ line ++ 10 ∷ rest
    begins =
        split ∙ ap (λ (l : List ℕ). l ++ more) b.split ∙ ap (λ (l : List ℕ). 43 ∷ l) (append_assoc line (10 ∷ drop (count + 2) text) more)

    after : drop (begin + (next + 1 + count + 1)) file ≡ rest
    after =
        (let same : begin + (next + 1 + count + 1) ≡ begin + next + (count + 2) = omega arith in ap (λ (n : ℕ). drop n file) same)
        ∙ sym (drop-drop (count + 2) (begin + next) file)
        ∙ ap (λ (l : List ℕ). drop (count + 2) l) split
        ∙ drop-append-le (count + 2) text more b.within

    line_is : take (next + 1 + count - (next + 1)) (drop (next + 1) window) ≡ line
    line_is =
        (let same : next + 1 + count - (next + 1) ≡ count = omega arith in ap (λ (n : ℕ). take n (drop (next + 1) window)) same)
        ∙ ap (λ (l : List ℕ). take count l) (sym (drop-drop 1 next window))

    pub next_is : kept_in (drop (begin + next) file) ≡ take (next + 1 + count - (next + 1)) (drop (next + 1) window) ∷ kept_in (drop (begin + (next + 1 + count + 1)) file)
    next_is =
        ap kept_in begins ∙ kept_in-line line rest b.line
        ∙ ap (λ (l : List ℕ). l ∷ kept_in rest) (sym line_is)
        ∙ ap (λ (l : List ℕ). take (next + 1 + count - (next + 1)) (drop (next + 1) window) ∷ kept_in l) (sym after)

    size : length line ≡ count
    size = let low = b.within in length-take-le count (drop 1 text) (omega (arith, low, length-drop 1 text))

    pub is_too_long : (limit : ℕ) → limit < count → BeginsTooLong limit (drop (begin + next) file)
    is_too_long limit long = (line, 10 ∷ rest, begins, b.line, omega (arith, size, long))

    inside : begin + length window ≤ length file
    inside =
        let low = b.within in
        omega (arith, low, length-drop next window, length-drop begin file, length-take (length window) (drop begin file), ap (λ (l : List ℕ). length l) is)

    taken : take (count + 2) (drop (begin + next) file) ≡ marked (line ∷ [])
    taken =
        ap (λ (l : List ℕ). take (count + 2) l) begins
        ∙ (let all : count + 2 ≡ length (43 ∷ line ++ 10 ∷ []) = omega (arith, size, length-append line (10 ∷ [])) in
        ap (λ (n : ℕ). take n (43 ∷ line ++ 10 ∷ rest)) all
        ∙ ap (λ (l : List ℕ). take (length (43 ∷ line ++ 10 ∷ [])) (43 ∷ l)) (sym (append_assoc line (10 ∷ []) rest))
        ∙ take-append-le (length (43 ∷ line ++ 10 ∷ [])) (43 ∷ line ++ 10 ∷ []) rest (omega arith)
        ∙ take_all (length (43 ∷ line ++ 10 ∷ [])) (43 ∷ line ++ 10 ∷ []) (omega arith))

    pub place_is : IsPlace file (begin + next) → IsPlace file (begin + (next + 1 + count + 1))
    place_is place = record {
      within = let low = b.within in omega (arith, low, inside, length-drop next window);
      front =
          let before = kept_in (take (begin + next) file) in
          marked_is (take (begin + (next + 1 + count + 1)) file) (before ++ line ∷ []) (All-push IsLine before line (parts (take (begin + next) file)).are b.line)
          ((let same : begin + (next + 1 + count + 1) ≡ begin + next + (count + 2) = omega arith in ap (λ (n : ℕ). take n file) same)
          ∙ take-add (begin + next) (count + 2) file
          ∙ ap (λ (l : List ℕ). l ++ take (count + 2) (drop (begin + next) file)) place.front
          ∙ ap (λ (l : List ℕ). marked before ++ l) taken
          ∙ sym (marked-append before (line ∷ [])));
    }

-- a line begins that has no newline so far
pub over : (limit : ℕ) (left text : List ℕ) → IsFrontOf limit left text → BeginsNoLine text → (slice_index text 0 ≡ 43) × (limit + 1 < length text) → BeginsTooLong limit left
over limit left [] front none long = let high = long.1 in absurd (omega (arith, high))
over limit left (byte ∷ text) front none long = (
  text,
  drop (length (byte ∷ text)) left,
  sym (take-append-drop (length (byte ∷ text)) left) ∙ ap (λ (l : List ℕ). l ++ drop (length (byte ∷ text)) left) front.front ∙ ap (λ (b : ℕ). b ∷ text ++ drop (length (byte ∷ text)) left) long.0,
  none long.0,
  (let high = long.1 in omega (arith, high)),
)

nothing_in : (text : List ℕ) → BeginsNoLine text → kept_in text ≡ []
nothing_in [] none = refl
nothing_in (byte ∷ text) none = elim (cases_eq byte 43) [
  | inl is ↦ ap (λ (b : ℕ). kept_in (b ∷ text)) is ∙ unended_line text (none is)
  | inr not ↦ closed byte text not
]

nothing_after : (limit : ℕ) (left text : List ℕ) → IsFrontOf limit left text → slice_index text 0 ≢ 43 → kept_in left ≡ []
nothing_after limit left [] front not = ap kept_in (sym (front.whole (omega arith)))
nothing_after limit left (byte ∷ text) front not =
    ap kept_in (sym (take-append-drop (length (byte ∷ text)) left) ∙ ap (λ (l : List ℕ). l ++ drop (length (byte ∷ text)) left) front.front) ∙ closed byte (text ++ drop (length (byte ∷ text)) left) not

-- no line is left
pub nothing_left : (limit : ℕ) (left text : List ℕ) → IsFrontOf limit left text → BeginsNoLine text → ((slice_index text 0 ≡ 43) × (limit + 1 < length text) → ⊥) → kept_in left ≡ []
nothing_left limit left text front none short = elim (cases_eq (slice_index text 0) 43) [
  | inl is ↦ elim (cases_lt (limit + 1) (length text)) [
    | inl long ↦ absurd (short (is, long))
    | inr low ↦ ap kept_in (sym (front.whole low)) ∙ nothing_in text none
  ]
  | inr not ↦ nothing_after limit left text front not
]
