-- Whether words say that each journal is kept on two disks.
use Rattle.std.specs.Prelude.{ℕ, Bool, List, codes, bytes_eq}
use Rattle.std.specs.List.{list_any}

-- some word is `--mirror`
abbrev pub is_mirrored : List (List ℕ) → Bool
is_mirrored words = list_any (λ word. bytes_eq word (codes "--mirror")) words
