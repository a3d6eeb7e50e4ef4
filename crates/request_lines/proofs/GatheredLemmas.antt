-- Bytes that wait, and then others.
use Rattle.std.proofs.Common.{◌≡◌, ℕ, ◌+◌, List, [], ◌++◌, length, take, ap, sym, ◌∙◌, length-append, Result, Ok, Err, OnOk, OnErr, IfErr}
use Rattle.std.proofs.lemmas.List.{append-nil}
use Rattle.std.proofs.Math.Seq.{take-append_seam}
use Rattle.request_lines.specs.Streams.{Writing}
use Rattle.request_lines.specs.Inner.Gathered.{Gathers, gathers_more}

-- bytes that are taken one after another
abbrev pub TakesMore : {W : Type 0} → Writing W → Type 0
TakesMore {W = W} writing = (a b c : W) (xs ys : List ℕ) → writing.takes a xs b → writing.takes b ys c → writing.takes a (xs ++ ys) c

-- nothing waits any more, and then the writer takes bytes at once
pub gathers_at_once : {W : Type 0} (writing : Writing W) → TakesMore writing → (a b c : W) (us vs xs : List ℕ) → Gathers writing a us [] b vs → vs ≡ [] → writing.takes b xs c → Gathers writing a us xs c vs
gathers_at_once writing more a b c us vs xs h e k =
    let all : us ≡ h.given = sym (append-nil us) ∙ h.same ∙ ap (λ (t : List ℕ). h.given ++ t) e ∙ append-nil h.given in record {
      given = h.given ++ xs;
      taken = more a b c h.given xs h.taken k;
      same = ap (λ (t : List ℕ). t ++ xs) all ∙ sym (append-nil (h.given ++ xs)) ∙ ap (λ (t : List ℕ). (h.given ++ xs) ++ t) (sym e);
    }

-- bytes are gathered, and then what waits is written as far as it goes
pub gathers_and_sends : {W : Type 0} (writing : Writing W) → TakesMore writing → (a b c : W) (us vs ws text : List ℕ) → Gathers writing a us text b vs → Gathers writing b vs [] c ws → Gathers writing a us text c ws
gathers_and_sends writing more a b c us vs ws text h k = rw (append-nil text) at (gathers_more writing more a b c us vs ws text [] h k)

-- where nothing waited, the bytes are those that are given and those that wait
pub parted : {W : Type 0} (writing : Writing W) (a b : W) (us vs text : List ℕ) (h : Gathers writing a us text b vs) → us ≡ [] → text ≡ h.given ++ vs
parted writing a b us vs text h e = sym (ap (λ (t : List ℕ). t ++ text) e) ∙ h.same

pub all_given : {W : Type 0} (writing : Writing W) (a b : W) (us vs text : List ℕ) (h : Gathers writing a us text b vs) → us ≡ [] → vs ≡ [] → text ≡ h.given
all_given writing a b us vs text h e f = parted writing a b us vs text h e ∙ ap (λ (t : List ℕ). h.given ++ t) f ∙ append-nil h.given

pub first_given : (text given waits : List ℕ) → text ≡ given ++ waits → take (length given) text ≡ given
first_given text given waits e = ap (take (length given)) e ∙ take-append_seam given waits

pub length_parted : (text given waits : List ℕ) → text ≡ given ++ waits → length text ≡ length given + length waits
length_parted text given waits e = ap length e ∙ length-append given waits

-- ---- several facts of one result

pub both_ok : {T E P Q S : Type 0} (r : Result T E) → OnOk r P → OnOk r Q → (P → Q → S) → OnOk r S
both_ok (Ok x) p q f = f p q
both_ok (Err e) p q f = tt

pub all_err : {T E P Q : Type 0} (r : Result T E) (F G : E → Type 0) → IfErr r F → OnErr r P → OnErr r Q → ((e : E) → F e → P → Q → G e) → IfErr r G
all_err (Ok x) F G k p q f = tt
all_err (Err e) F G k p q f = f e k p q
