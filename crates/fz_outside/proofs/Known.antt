-- Bytes that are told or not, with some before or behind them.
use Rattle.std.specs.Prelude.{◌≡◌, ℕ, List, ◌++◌, Option, None, Some, refl, take, drop, length, ◌+◌, ◌-◌}
use Rattle.std.proofs.Common.{ap, sym, ◌∙◌, append_assoc, arith}
use Rattle.std.proofs.lemmas.Grind.{common_steps}
use Rattle.std.proofs.Math.Seq.{take-add}
use Rattle.std.specs.Io.KnownBytes.{append_known, prepend_known}

-- bytes behind known ones, in two goes
pub append_known-++ : (known : Option (List ℕ)) (xs ys : List ℕ) → append_known (append_known known xs) ys ≡ append_known known (xs ++ ys)
append_known-++ None xs ys = refl
append_known-++ (Some bytes) xs ys = ap Some (append_assoc bytes xs ys)

-- bytes in front of known ones, in two goes
pub prepend_known-++ : (known : Option (List ℕ)) (xs ys : List ℕ) → prepend_known xs (prepend_known ys known) ≡ prepend_known (xs ++ ys) known
prepend_known-++ None xs ys = refl
prepend_known-++ (Some bytes) xs ys = ap Some (sym (append_assoc xs ys bytes))

-- a piece that is written in two goes, the second one from `bytes[m..]`
pub written-further : (old mid new : Option (List ℕ)) (m n : ℕ) (bytes : List ℕ)
    → mid ≡ append_known old (take m bytes) → new ≡ append_known mid (take n (take (length bytes - m) (drop m bytes)))
    → new ≡ append_known old (take (m + n) bytes)
written-further old mid new m n bytes first second =
    let rest : take (length bytes - m) (drop m bytes) ≡ drop m bytes = grind (arith, common_steps) in
    second ∙ ap (λ xs. append_known mid (take n xs)) rest
    ∙ ap (λ known. append_known known (take n (drop m bytes))) first
    ∙ append_known-++ old (take m bytes) (take n (drop m bytes))
    ∙ ap (append_known old) (sym (take-add m n bytes))

-- what was taken before, and then what was taken now, was in front of what is left
pub taken-further : (old mid new : Option (List ℕ)) (xs ys : List ℕ)
    → old ≡ prepend_known xs mid → mid ≡ prepend_known ys new → old ≡ prepend_known (xs ++ ys) new
taken-further old mid new xs ys first second = first ∙ ap (prepend_known xs) second ∙ prepend_known-++ new xs ys
