-- The hex text of a head.
use Rattle.std.proofs.Common.{◌≡◌, ℕ, zero, suc, ◌/◌, ◌%◌, ◌^◌, ◌<◌, List, [], ◌∷◌, ◌++◌, arith, reverse}
use Rattle.hex.specs.Hex.{IsBytes, encode_lower}
use Rattle.hex.proofs.HexLemmas.{decode_of-encode_lower}
use Rattle.std.specs.Prelude.{slice_index}
use Rattle.std.specs.Int.{w32, bytes_high_first, to_be_bytes}
use Rattle.sha2.specs.Sha256.{sha256, digest_bytes}
use Rattle.kept_batches.specs.Heads.{head, head_back}

bytes-append : (xs ys : List ℕ) → IsBytes xs → IsBytes ys → IsBytes (xs ++ ys)
bytes-append [] ys is is_too i = is_too i
bytes-append (x ∷ xs) ys is is_too zero = is zero
bytes-append (x ∷ xs) ys is is_too (suc i) = bytes-append xs ys (λ k. is (suc k)) is_too i

low : (n : ℕ) → n % 256 < 256
low n = omega arith

bytes-high : (k n : ℕ) → IsBytes (bytes_high_first k n)
bytes-high zero n i = omega arith
bytes-high (suc zero) n zero = omega arith
bytes-high (suc (suc k)) n zero = low (n / 256 ^ suc k)
bytes-high (suc k) n (suc i) = bytes-high k n i

bytes-digest : (h : List ℕ) (n : ℕ) → IsBytes (digest_bytes h n)
unfolding digest_bytes
bytes-digest h zero = λ i. let z : 0 < 256 = omega arith in z
bytes-digest h (suc n) = bytes-append (digest_bytes h n) (to_be_bytes w32 (slice_index h n)) (bytes-digest h n) (bytes-high 4 (slice_index h n))

bytes-sha256 : (m : List ℕ) → IsBytes (sha256 m)
unfolding sha256
bytes-sha256 m = bytes-digest _ 8

bytes-back : (lines : List (List ℕ)) → IsBytes (head_back lines)
bytes-back [] = bytes-sha256 []
bytes-back (line ∷ before) = bytes-sha256 (head_back before ++ line)

head-bytes : (lines : List (List ℕ)) → IsBytes (head lines)
head-bytes lines = bytes-back (reverse lines)

ok_same : (a b : List ℕ) → encode_lower a ≡ encode_lower b → IsBytes a → IsBytes b → a ≡ b
ok_same a b e is is_too = cc (decode_of-encode_lower a is, decode_of-encode_lower b is_too, e)

pub head-same : (xs ys : List (List ℕ)) → encode_lower (head xs) ≡ encode_lower (head ys) → head xs ≡ head ys
head-same xs ys e = ok_same (head xs) (head ys) e (head-bytes xs) (head-bytes ys)
