-- A digest is 32 bytes.
use Rattle.std.proofs.Common.{ℕ, zero, suc, ◌<◌, List, [], ◌∷◌, ◌++◌, arith, slice_index}
use Rattle.std.specs.Int.{w32, to_be_bytes}
use Rattle.sha2.specs.Sha256.{sha256, digest_bytes, final_hash, initial_hash_256}
use Rattle.sha2.proofs.Facts256.{length-sha256}
use Rattle.journal_records.specs.Encoding.{IsByteList}

AreBytes : List ℕ → Type 0
AreBytes xs = (i : ℕ) → slice_index xs i < 256

append_bytes : (xs ys : List ℕ) → AreBytes xs → AreBytes ys → AreBytes (xs ++ ys)
unfolding AreBytes
append_bytes [] ys h k i = k i
append_bytes (x ∷ xs) ys h k zero = h 0
append_bytes (x ∷ xs) ys h k (suc i) = append_bytes xs ys (λ j. h (suc j)) k i

word_bytes : (n : ℕ) → AreBytes (to_be_bytes w32 n)
unfolding AreBytes
word_bytes n zero = omega arith
word_bytes n (suc zero) = omega arith
word_bytes n (suc (suc zero)) = omega arith
word_bytes n (suc (suc (suc zero))) = omega arith
word_bytes n (suc (suc (suc (suc i)))) = omega arith

digest_are_bytes : (h : List ℕ) (n : ℕ) → AreBytes (digest_bytes h n)
unfolding AreBytes digest_bytes
digest_are_bytes h zero = λ i. omega arith
digest_are_bytes h (suc n) = append_bytes (digest_bytes h n) (to_be_bytes w32 (slice_index h n)) (digest_are_bytes h n) (word_bytes (slice_index h n))

pub sha256_bytes : (bytes : List ℕ) → IsByteList 32 (sha256 bytes)
unfolding sha256 AreBytes
sha256_bytes bytes = (length-sha256 bytes, digest_are_bytes (final_hash initial_hash_256 bytes) 8)
