-- Arithmetic on the numbers of the language, which are whole and within -M..M.
use Rattle.std.specs.Int.{int_max, int_min}
use Rattle.std.specs.Prelude.{List, [], neg_ℤ, pos, ℤ, ◌+ℤ◌, ◌∷◌}
use Rattle.fz_ast.specs.Limits.{limit}

-- the nearest number within -M..M
abbrev pub clamp : ℤ → ℤ
clamp z = int_max (neg_ℤ limit) (int_min limit z)

-- also where lo is over hi
abbrev pub clip : ℤ → ℤ → ℤ → ℤ
clip lo hi z = int_max lo (int_min hi z)

-- the exact sum of the numbers, each clipped
abbrev pub clipped_sum : ℤ → ℤ → List ℤ → ℤ
clipped_sum lo hi [] = pos 0
clipped_sum lo hi (z ∷ zs) = clip lo hi z +ℤ clipped_sum lo hi zs
