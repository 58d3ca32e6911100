-- How long texts are, counted in a usize: as many as there are bytes, or the greatest usize where there are more.
use Rattle.std.specs.Prelude.{◌≡◌, ℕ, ◌-◌, ◌^◌, ◌<◌, List, length, min, slice_index}
use Rattle.fz_ast.specs.Types.{Ty}
use Rattle.fz_ast.specs.TypeNodes.{type_at}
use Rattle.derivation_lines.specs.Written.{type_text}

abbrev pub most : ℕ
most = 2 ^ 64 - 1

abbrev pub IsCount : List ℕ → ℕ → Type 0
IsCount text n = n ≡ min (length text) most

-- for each of the first types of T how long its text is
pub record AreCounts (T : List Ty) (counts : List ℕ) : Type 0 where
  pub each : (i : ℕ) → i < length counts → IsCount (type_text (type_at T i)) (slice_index counts i)
