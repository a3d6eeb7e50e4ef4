-- Texts of which a writer took the beginning.
use Rattle.std.proofs.Common.{◌≡◌, ◌⊎◌, inl, inr, ℕ, zero, suc, true, List, [], ◌∷◌, ◌++◌, take, drop, refl, sym, ap, ◌∙◌, append_assoc}
use Rattle.command_line.specs.declared.fault.Fault.{Fault}
use Rattle.command_line.specs.declared.fault.Fault.TheVariants as fault
use Rattle.request_lines.specs.Streams.{Writing}
use Rattle.house_reports.specs.ended_house.Writing.{IsCutOff}

take_drop : (n : ℕ) (xs : List ℕ) → xs ≡ take n xs ++ drop n xs
take_drop zero xs = refl
take_drop (suc n) [] = refl
take_drop (suc n) (x ∷ xs) = ap (λ (l : List ℕ). x ∷ l) (take_drop n xs)

module _ {W : Type 0} (writing : Writing W) where
  -- the writer failed after some bytes
  pub cut_at : (text : List ℕ) (n : ℕ) (a b : W) → writing.takes a (take n text) b → writing.failed b ≡ true → IsCutOff writing text a b fault.CannotWrite
  cut_at text n a b took failed =
      record { written = take n text; left = drop n text; split = take_drop n text; took = took; cut_by = inr (refl, failed) }

  -- nothing was written
  pub cut_none : (text : List ℕ) (a : W) → writing.takes a [] a → IsCutOff writing text a a fault.NoMemory
  cut_none text a took = record { written = []; left = text; split = refl; took = took; cut_by = inl refl }

  pub cut_in_front : (xs ys : List ℕ) (a b : W) (cause : Fault) → IsCutOff writing xs a b cause → IsCutOff writing (xs ++ ys) a b cause
  cut_in_front xs ys a b cause cut = record {
    written = cut.written;
    left = cut.left ++ ys;
    split = ap (λ (l : List ℕ). l ++ ys) cut.split ∙ append_assoc cut.written cut.left ys;
    took = cut.took;
    cut_by = cut.cut_by;
  }

  pub cut_behind : ((a b c : W) (xs ys : List ℕ) → writing.takes a xs b → writing.takes b ys c → writing.takes a (xs ++ ys) c)
      → (xs ys : List ℕ) (a b c : W) (cause : Fault) → writing.takes a xs b → IsCutOff writing ys b c cause → IsCutOff writing (xs ++ ys) a c cause
  cut_behind more xs ys a b c cause first cut = record {
    written = xs ++ cut.written;
    left = cut.left;
    split = ap (λ (l : List ℕ). xs ++ l) cut.split ∙ sym (append_assoc xs cut.written cut.left);
    took = more a b c xs cut.written first cut.took;
    cut_by = cut.cut_by;
  }
