-- A name as a reply can hold it.
use Rattle.std.specs.Prelude.{ℕ, ◌==◌, ◌&&◌, not, nat_le, Bool, List, length}
use Rattle.std.specs.List.{list_all}
use Rattle.wire_lines.specs.Lines.{lf, space}

-- the most bytes of a name
abbrev pub NAME_LIMIT : ℕ
NAME_LIMIT = 32

-- at most 32 bytes, and none that parts words or lines
abbrev pub is_name : List ℕ → Bool
is_name bytes = nat_le (length bytes) NAME_LIMIT && list_all (λ b. not (b == space) && not (b == lf)) bytes
