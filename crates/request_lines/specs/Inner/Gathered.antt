-- Bytes that wait to be written together.
use Rattle.std.specs.Prelude.{◌≡◌, List, ℕ, [], ◌++◌, drop}
use Rattle.std.proofs.Common.{sym, ap, ◌∙◌, append_assoc}
use Rattle.std.proofs.lemmas.List.{append-nil}
use Rattle.request_lines.specs.Streams.{Writing}

-- the bytes of a text that wait, where the first ones are written
abbrev pub waiting : List ℕ → ℕ → List ℕ
waiting text sent = drop sent text

-- Bytes came after those that waited. Of all of them the writer took the first ones, and the others wait.
pub record Gathers {W : Type 0} (writing : Writing W) (writer : W) (waits bytes : List ℕ) (writer' : W) (waits' : List ℕ) : Type 0 where
  pub given : List ℕ
  pub taken : writing.takes writer given writer'
  pub same : waits ++ bytes ≡ given ++ waits'

pub gathers_none : {W : Type 0} (writing : Writing W) → ((a : W) → writing.takes a [] a) → (a : W) (waits : List ℕ) → Gathers writing a waits [] a waits
gathers_none writing none a waits = record { given = []; taken = none a; same = append-nil waits }

pub gathers_more : {W : Type 0} (writing : Writing W) → ((a b c : W) (xs ys : List ℕ) → writing.takes a xs b → writing.takes b ys c → writing.takes a (xs ++ ys) c) →
    (a b c : W) (us vs ws xs ys : List ℕ) → Gathers writing a us xs b vs → Gathers writing b vs ys c ws → Gathers writing a us (xs ++ ys) c ws
gathers_more writing more a b c us vs ws xs ys h k = record {
  given = h.given ++ k.given;
  taken = more a b c h.given k.given h.taken k.taken;
  same = sym (append_assoc us xs ys) ∙ ap (λ (t : List ℕ). t ++ ys) h.same ∙ append_assoc h.given vs ys ∙ ap (λ (t : List ℕ). h.given ++ t) k.same ∙ sym (append_assoc h.given k.given ws);
}
