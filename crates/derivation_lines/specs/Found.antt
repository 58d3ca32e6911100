-- Where the code finds what is said of a name.
use Rattle.std.specs.Prelude.{◌≡◌, ℕ, ◌<◌, List, length, slice_index_or}
use Rattle.fz_frac.specs.Sens.{distance_of}
use Rattle.fz_ast.specs.Terms.{Name}
use Rattle.derivation_lines.specs.Lines.{amount_in}
use Rattle.derivation_lines.specs.Said.{says_of}
use Rattle.derivation_lines.specs.declared.line.Said.{Said}

-- what is said of x stands at place k
pub record IsSaidAt (says : List Said) (x : Name) (k : ℕ) : Type 0 where
  pub in_range : k < length says
  pub amount : (d : Said) → amount_in (says_of says) x ≡ distance_of (slice_index_or says k d).amount
