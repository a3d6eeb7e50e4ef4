-- What a window on a file shows of it.
use Rattle.std.proofs.Common.{◌≡◌, ℕ, ◌-◌, ◌<◌, List, [], ◌∷◌, ◌++◌, length, take, drop, Result, Ok, Err, sym, ◌∙◌, ap, arith, length-drop}
use Rattle.std.specs.Prelude.{min, OnOk, OnErr}
use Rattle.std.proofs.lemmas.List.{take_at, take_min, length-take}
use Rattle.sqlite_disk.specs.Disk.{Holds}
use Rattle.kept_batches.specs.Inner.Window.{IsWindow}
use Rattle.kept_batches.proofs.Steps.{written_range}

-- a read of as many bytes as there are, at most so many
pub read_is : (file buf items : List ℕ) (begin most len : ℕ) → length buf ≡ min (length file - begin) most → len ≡ length buf → (0 < length buf → Holds file begin buf)
    → take len (buf ++ drop (length buf) items) ≡ take most (drop begin file)
read_is file buf items begin most len size same holds =
    take_at buf (drop (length buf) items) len (sym same) ∙ from buf size holds
  where
    from : (bytes : List ℕ) → length bytes ≡ min (length file - begin) most → (0 < length bytes → Holds file begin bytes) → bytes ≡ take most (drop begin file)
    from [] size holds = ap (λ (n : ℕ). take n (drop begin file)) (let none : 0 ≡ min most (length (drop begin file)) = omega (arith, size, length-drop begin file) in none) ∙ take_min most (drop begin file)
    from (byte ∷ bytes) size holds =
        sym (written_range begin (byte ∷ bytes) file (holds (omega arith)))
        ∙ ap (λ (n : ℕ). take n (drop begin file)) (let all : length (byte ∷ bytes) ≡ min most (length (drop begin file)) = omega (arith, size, length-drop begin file) in all)
        ∙ take_min most (drop begin file)

-- what was read is a window
pub window_read : {T E P : Type 0} (result : Result T E) (file other : List ℕ) (begin most : ℕ) (items : List ℕ) → OnOk result (P → items ≡ take most (drop begin file)) → OnErr result (items ≡ []) → other ≡ file → P → IsWindow other begin items
window_read (Ok x) file other begin most items ok err same now =
    let is = ok now in
    ap (λ (f : List ℕ). take (length items) (drop begin f)) same
    ∙ ap (λ (n : ℕ). take n (drop begin file)) (let size : length items ≡ min most (length (drop begin file)) = omega (arith, ap length is, length-take most (drop begin file)) in size)
    ∙ take_min most (drop begin file)
    ∙ sym is
window_read (Err e) file other begin most items ok err same now = ap (λ (l : List ℕ). take (length l) (drop begin other)) err ∙ sym err
