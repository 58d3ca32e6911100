-- Bytes as the prefix of an array of zeros.
use Rattle.std.proofs.Common.{◌≡◌, ℕ, ◌-◌, List, ◌++◌, length, drop, replicate, refl}
use Rattle.std.proofs.lemmas.List.{length-append, length-replicate, drop-replicate}
use Rattle.std.proofs.Math.Seq.{take-append_seam}
use Rattle.std.proofs.Math.Nat.{add-sub_cancel_left}
use Rattle.fz_ast.specs.Kept.{IsPadded}

zeros_after : (xs : List ℕ) (m : ℕ) → IsPadded (length xs) (xs ++ replicate m 0)
zeros_after xs m =
    let e : length (xs ++ replicate m 0) - length xs ≡ m = rw (length-append xs (replicate m 0), length-replicate {A = ℕ} m 0) (add-sub_cancel_left (length xs) m) in
    rw (take-append_seam xs (replicate m 0), e) refl

pub padded_prefix : (n : ℕ) (xs held : List ℕ) → held ≡ xs ++ drop (length xs) (replicate n 0) → IsPadded (length xs) held
padded_prefix n xs held e = rw (e, drop-replicate {X = ℕ} (length xs) n 0) (zeros_after xs (n - length xs))
