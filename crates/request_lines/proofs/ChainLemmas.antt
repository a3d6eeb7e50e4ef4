-- Lines that are answered one by one, and the place of a byte in their answers.
use Rattle.std.proofs.Common.{◌≡◌, ℕ, ◌+◌, ◌-◌, ◌<◌, ◌≤◌, ◌⊎◌, inl, inr, List, [], ◌∷◌, ◌++◌, length, take, refl, ap, sym, ◌∙◌, append_assoc, arith, length-append}
use Rattle.std.proofs.lemmas.List.{take-append-le}
use Rattle.std.proofs.Math.Seq.{take-append-add}
use Rattle.request_lines.specs.Answering.{Rule}
use Rattle.request_lines.specs.Inner.Chain.{Chain}
use Rattle.request_lines.proofs.RunLemmas.{Joins}

abbrev pub Begins : {A : Type 0} → Rule A → Type 0
Begins {A = A} rule = (a : A) → rule.answers a [] [] a

-- lines that are answered one by one are answered
pub joined : {A : Type 0} (rule : Rule A) → Joins rule → Begins rule → (a b : A) (lines : List (List ℕ)) (text : List ℕ) → Chain rule a lines text b → rule.answers a lines text b
joined rule more none a b [] text h = rw (h.0, h.1) (none a)
joined rule more none a b (line ∷ lines) text h = rw h.4 (more a h.0 b (line ∷ []) lines h.1 h.2 h.3 (joined rule more none h.0 b lines h.2 h.5))

-- the line in whose answer a place of the text lies
pub record Cut {A : Type 0} (rule : Rule A) (start : A) (lines : List (List ℕ)) (text : List ℕ) (sent : ℕ) (now : A) : Type 0 where
  pub before : List (List ℕ)
  pub line : List ℕ
  pub further : List (List ℕ)
  pub middle : A
  pub left : A
  pub text_before : List ℕ
  pub answer : List ℕ
  pub place : ℕ
  pub unwritten : List ℕ
  pub split : lines ≡ before ++ line ∷ further
  pub answered : rule.answers start before text_before middle
  pub answered_last : rule.answers middle (line ∷ []) answer left
  pub place_is_less : place < length answer
  pub sent_is : take sent text ≡ text_before ++ take place answer
  pub answered_further : rule.answers left further unwritten now

less_or_le : (m n : ℕ) → (m < n) ⊎ (n ≤ m)
less_or_le m n = grind arith

sent_later : (sent : ℕ) (answer others text_before : List ℕ) (last : List ℕ) → length answer ≤ sent → take (sent - length answer) others ≡ text_before ++ last → take sent (answer ++ others) ≡ (answer ++ text_before) ++ last
sent_later sent answer others text_before last above e =
    let size : sent ≡ length answer + (sent - length answer) = omega (arith, above) in
    ap (λ (n : ℕ). take n (answer ++ others)) size ∙ take-append-add answer others (sent - length answer) ∙ ap (λ (t : List ℕ). answer ++ t) e ∙ sym (append_assoc answer text_before last)

pub cut : {A : Type 0} (rule : Rule A) → Joins rule → Begins rule → (a b : A) (lines : List (List ℕ)) (text : List ℕ) (sent : ℕ) → Chain rule a lines text b → sent < length text → Cut rule a lines text sent b
cut rule more none a b [] text sent h less = absurd (let empty : length text ≡ 0 = ap length h.0 in omega (arith, less, empty))
cut rule more none a b (line ∷ lines) text sent h less = rw h.4 (by rule more none a b line lines h.0 h.1 h.2 sent h.3 h.5 (λ below. cut rule more none h.0 b lines h.2 (sent - length h.1) h.5 below) (let size = ap length h.4 ∙ length-append h.1 h.2 in omega (arith, less, size)) (less_or_le sent (length h.1)))
  where
    by : {A : Type 0} (rule : Rule A) → Joins rule → Begins rule → (a b : A) (line : List ℕ) (lines : List (List ℕ)) (middle : A) (answer others : List ℕ) (sent : ℕ) → rule.answers a (line ∷ []) answer middle → Chain rule middle lines others b →
        (sent - length answer < length others → Cut rule middle lines others (sent - length answer) b) → sent < length answer + length others → (sent < length answer) ⊎ (length answer ≤ sent) → Cut rule a (line ∷ lines) (answer ++ others) sent b
    by rule more none a b line lines middle answer others sent first rest later less (inl here) = record {
      before = [];
      line = line;
      further = lines;
      middle = a;
      left = middle;
      text_before = [];
      answer = answer;
      place = sent;
      unwritten = others;
      split = refl;
      answered = none a;
      answered_last = first;
      place_is_less = here;
      sent_is = take-append-le sent answer others (omega (arith, here));
      answered_further = joined rule more none middle b lines others rest;
    }
    by rule more none a b line lines middle answer others sent first rest later less (inr above) =
        let r = later (omega (arith, less, above)) in record {
          before = line ∷ r.before;
          line = r.line;
          further = r.further;
          middle = r.middle;
          left = r.left;
          text_before = answer ++ r.text_before;
          answer = r.answer;
          place = r.place;
          unwritten = r.unwritten;
          split = ap (λ (ls : List (List ℕ)). line ∷ ls) r.split;
          answered = more a middle r.middle (line ∷ []) r.before answer r.text_before first r.answered;
          answered_last = r.answered_last;
          place_is_less = r.place_is_less;
          sent_is = sent_later sent answer others r.text_before (take r.place r.answer) above r.sent_is;
          answered_further = r.answered_further;
        }
