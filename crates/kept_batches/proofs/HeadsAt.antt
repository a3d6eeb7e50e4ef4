-- The head after some lines of a file.
use Rattle.std.proofs.Common.{◌≡◌, ℕ, ◌+◌, ◌<◌, ◌≤◌, List, [], ◌∷◌, ◌++◌, None, length, take, drop, sym, ◌∙◌, ap, arith, append_assoc, length-append, length-drop, take-append-drop}
use Rattle.std.proofs.lemmas.List.{take_at, length-take-le}
use Rattle.sha2.specs.Sha256.{sha256}
use Rattle.kept_batches.specs.Heads.{head}
use Rattle.kept_batches.specs.Verdict.{Verdict, accepts, damage, accepted, readable, damaged_at, verdict, damage_in}
use Rattle.kept_batches.specs.Reading.{IsHeadAt, HasFewer}
use Rattle.kept_batches.proofs.LineLemmas.{head-push}

pub head_more : (file last line next : List ℕ) (rest : List (List ℕ)) (count : ℕ) → IsHeadAt file count last → drop count (readable (verdict file)) ≡ line ∷ rest → next ≡ sha256 (last ++ line) → IsHeadAt file (count + 1) next
head_more file last line next rest count h there next_is =
    let lines = readable (verdict file) in
    let size : length (take count lines) ≡ count = length-take-le count lines h.within in
    let split : lines ≡ (take count lines ++ line ∷ []) ++ rest =
    sym (take-append-drop count lines) ∙ ap (λ (l : List (List ℕ)). take count lines ++ l) there ∙ sym (append_assoc (take count lines) (line ∷ []) rest) in
    let front : take (count + 1) lines ≡ take count lines ++ line ∷ [] =
    ap (λ (l : List (List ℕ)). take (count + 1) l) split ∙ take_at (take count lines ++ line ∷ []) rest (count + 1) (omega (arith, size, length-append (take count lines) (line ∷ []))) in
    record {
      within = omega (arith, ap length there, length-drop count lines);
      is = next_is ∙ ap (λ (l : List ℕ). sha256 (l ++ line)) h.is ∙ sym (ap head front ∙ head-push (take count lines) line);
    }

-- without damage, the lines that can be read are kept
all_kept : (v : Verdict) → damaged_at v ≡ None → length (accepted v) ≤ length (readable v)
all_kept (accepts lines) none = omega arith
all_kept (damage place before) none = omega arith

pub has_fewer : (file : List ℕ) (lent count : ℕ) → damage_in file ≡ None → drop lent (readable (verdict file)) ≡ [] → lent < count → HasFewer file count
has_fewer file lent count whole none more = record { whole = whole; fewer = omega (arith, all_kept (verdict file) whole, more, ap length none, length-drop lent (readable (verdict file))) }
