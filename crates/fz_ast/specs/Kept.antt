-- Bytes that are kept as the prefix of an array of fixed length, with zeros after them.
use Rattle.std.specs.Prelude.{◌≡◌, ℕ, ◌-◌, List, ◌++◌, length, take, replicate}

abbrev pub kept : ℕ → List ℕ → List ℕ
kept n xs = take n xs

abbrev pub IsPadded : ℕ → List ℕ → Type 0
IsPadded n xs = xs ≡ take n xs ++ replicate (length xs - n) 0
