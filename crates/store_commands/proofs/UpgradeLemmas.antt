-- Lines that are copied from one store to another.
use Rattle.std.proofs.Common.{◌≡◌, ℕ, List, [], ◌∷◌, ◌++◌, refl, ◌∙◌, ap, sym, append_assoc}
use Rattle.std.specs.Prelude.{IsTrue}
use Rattle.sqlite_disk.specs.declared.Disk.{Ghosts}
use Rattle.kept_lines.specs.Reading.{OnlyReads}

-- calls that only read, and more of them
pub reads_on : {D : Type 0} (g : Ghosts D) (first second third : D) → OnlyReads g first second → OnlyReads g second third → OnlyReads g first third
reads_on g first second third before after = record {
  seen = after.seen ∙ before.seen;
  crash = λ c left. before.crash c (after.crash c left);
  usable = after.usable;
  clean = λ clean. before.clean (after.clean clean);
}

pub reads_nothing : {D : Type 0} (g : Ghosts D) (disk : D) → IsTrue (g.is_usable disk) → OnlyReads g disk disk
reads_nothing g disk usable = record { seen = refl; crash = λ c left. left; usable = usable; clean = λ clean. clean }

-- one more line of those that are left is in the batch
pub one_more_copied : (kept held more_kept more_held left others all : List (List ℕ)) (line : List ℕ) → (kept ++ held) ++ left ≡ all → left ≡ line ∷ others
    → more_kept ++ more_held ≡ kept ++ (held ++ line ∷ []) → (more_kept ++ more_held) ++ others ≡ all
one_more_copied kept held more_kept more_held left others all line is split put =
    ap (λ (l : List (List ℕ)). l ++ others) (put ∙ sym (append_assoc kept held (line ∷ [])))
    ∙ append_assoc (kept ++ held) (line ∷ []) others
    ∙ ap (λ (l : List (List ℕ)). (kept ++ held) ++ l) (sym split)
    ∙ is
