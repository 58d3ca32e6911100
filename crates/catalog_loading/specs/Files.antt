-- What files hold, where it is told.
use Rattle.std.specs.Prelude.{◌≡◌, ℕ, ◌^◌, nat_le, List, length, Option, Some, None, IfSome, if◌then◌else◌}

-- the bytes of each file by its name, or None where there is no such file
abbrev pub Contents : Type 0
Contents = List ℕ → Option (List ℕ)

-- the bytes of a file that is there and has at most 2^26 of them
abbrev pub readable : Option (List ℕ) → Option (List ℕ)
readable None = None
readable (Some bytes) = if nat_le (length bytes) (2 ^ 26) then Some bytes else None

-- what files hold at each of the reads to come, by its number
abbrev pub ReadsToCome : Type 0
ReadsToCome = ℕ → Contents

-- the same at each
abbrev pub always : Contents → ReadsToCome
always held n = held

-- where files tell what they hold, each read finds it
abbrev pub AreTold : (held : Option Contents) → ReadsToCome → Type 0
AreTold held reads = IfSome held (λ told. reads ≡ always told)
