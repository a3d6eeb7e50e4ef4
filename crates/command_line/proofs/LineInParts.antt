-- A line that a sink takes in parts.
use Rattle.std.proofs.Common.{◌≡◌, ℕ, zero, suc, ◌+◌, ◌<◌, ◌≤◌, true, List, [], ◌∷◌, ◌++◌, length, take, get_or, Result, Ok, Err, OnOk, IfErr, OnErr, inl, inr, refl, sym, ap, subst, ◌∙◌, arith, length-append, append_assoc, append-nil}
use Rattle.std.specs.Borrow.{Bor}
use Rattle.std.specs.Result.{is_err}
use Rattle.std.proofs.lemmas.List.{take-append-le, take_more}
use Rattle.std.proofs.Math.Seq.{take-append-add}
use Rattle.request_lines.specs.Streams.{Writing}
use Rattle.command_line.specs.Fault.{IsTold}
use Rattle.command_line.specs.Inner.Parts.{text_of}

-- what a call on all bytes of a part says
pub record IsWritten {S T : Type 0} (writing : Writing S) (a : S) (part : List ℕ) (b : S) (result : Result T ℕ) : Type 0 where
  pub ok : OnOk result (writing.takes a part b)
  pub unfailed : OnOk result (writing.failed b ≡ writing.failed a)
  pub err : IfErr result (λ n. writing.takes a (take n part) b)
  pub less : IfErr result (λ n. n < length part)
  pub failed_is : OnErr result (writing.failed b ≡ true)

-- the sink failed within the line's first part
pub told_in_front : {S T : Type 0} (writing : Writing S) (a b : S) (front rest : List ℕ) (result : Result T ℕ) →
    IsWritten writing a front b result → is_err result ≡ true → IsTold writing a (front ++ rest) b
told_in_front writing a b front rest (Ok done) h e = absurd cc
told_in_front writing a b front rest (Err n) h e =
    let less : n < length front = h.less in
    let fits : n ≤ length front = omega arith in
    inr (n, omega (arith, length-append front rest), rw (take-append-le n front rest fits) h.err, h.failed_is)

module _ {S : Type 0} (writing : Writing S) where
  -- the line's first part is taken, and the rest is told
  pub told_behind : ((a b c : S) (xs ys : List ℕ) → writing.takes a xs b → writing.takes b ys c → writing.takes a (xs ++ ys) c) →
      (a b c : S) (front rest : List ℕ) → writing.takes a front b → writing.failed b ≡ writing.failed a → IsTold writing b rest c → IsTold writing a (front ++ rest) c
  told_behind more a b c front rest took kept (inl told) = inl (more a b c front rest took told.0, told.1 ∙ kept)
  told_behind more a b c front rest took kept (inr told) =
      let less : told.0 < length rest = told.1 in
      inr (length front + told.0, omega (arith, length-append front rest), rw (take-append-add front rest told.0) (more a b c front (take told.0 rest) took told.2), told.3)

-- ---- parts

text_of_more : (xs ys : List (Bor (List ℕ))) → text_of (xs ++ ys) ≡ text_of xs ++ text_of ys
text_of_more [] ys = refl
text_of_more (x ∷ xs) ys = ap (λ (l : List ℕ). x.now ++ l) (text_of_more xs ys) ∙ sym (append_assoc x.now (text_of xs) (text_of ys))

split_at : (parts : List (Bor (List ℕ))) (i : ℕ) (d : Bor (List ℕ)) → i < length parts → (later : List (Bor (List ℕ))) × (parts ≡ take i parts ++ get_or parts i d ∷ later)
split_at [] i d within = absurd (omega (arith, within))
split_at (part ∷ parts) zero d within = (parts, refl)
split_at (part ∷ parts) (suc i) d within = let rest = split_at parts i d (omega (arith, within)) in (rest.0, ap (λ (l : List (Bor (List ℕ))). part ∷ l) rest.1)

-- the parts before one are taken, and the sink failed within that one
pub told_to_part : {S T : Type 0} (writing : Writing S) →
    ((a b c : S) (xs ys : List ℕ) → writing.takes a xs b → writing.takes b ys c → writing.takes a (xs ++ ys) c) →
    (parts : List (Bor (List ℕ))) (i : ℕ) (d : Bor (List ℕ)) (bytes : List ℕ) → bytes ≡ (get_or parts i d).now → (a b c : S) (result : Result T ℕ) → i < length parts →
    writing.takes a (text_of (take i parts)) b → writing.failed b ≡ writing.failed a → IsWritten writing b bytes c result → is_err result ≡ true →
    IsTold writing a (text_of parts) c
told_to_part writing more parts i d bytes is a b c result within took kept part e =
    let split = split_at parts i d within in
    let whole : text_of parts ≡ text_of (take i parts) ++ (bytes ++ text_of split.0) =
    ap text_of split.1 ∙ text_of_more (take i parts) (get_or parts i d ∷ split.0) ∙ ap (λ (l : List ℕ). text_of (take i parts) ++ (l ++ text_of split.0)) (sym is) in
    subst (λ (l : List ℕ). IsTold writing a l c) (sym whole)
    (told_behind writing more a b c (text_of (take i parts)) (bytes ++ text_of split.0) took kept
    (told_in_front writing b c bytes (text_of split.0) result part e))

pub one_part_more : (parts : List (Bor (List ℕ))) (i : ℕ) (d : Bor (List ℕ)) (bytes : List ℕ) → bytes ≡ (get_or parts i d).now → i < length parts →
    text_of (take (i + 1) parts) ≡ text_of (take i parts) ++ bytes
one_part_more parts i d bytes is within =
    ap text_of (take_more parts i d within) ∙ text_of_more (take i parts) (get_or parts i d ∷ [])
    ∙ ap (λ (l : List ℕ). text_of (take i parts) ++ l) (append-nil (get_or parts i d).now ∙ sym is)
