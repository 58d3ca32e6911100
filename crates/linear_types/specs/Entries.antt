-- The environment that entries stand for.
use Rattle.std.specs.Prelude.{◌≡◌, ℕ, ◌<◌, List, get_or, length, map}
use Rattle.fz_frac.specs.Sens.{distance_of}
use Rattle.fz_ast.specs.Names.{name_of}
use Rattle.fz_ast.specs.Terms.{Name}
use Rattle.linear_types.specs.Environment.{Amount, Amounts}
use Rattle.linear_types.specs.declared.env.Entry.{Entry}

abbrev pub amount_at : Entry → Amount
amount_at e = record { name = name_of e.name; r = distance_of e.r }

abbrev pub amounts_of : List Entry → Amounts
amounts_of = map amount_at

-- the entry at place i has the name x
pub record IsPlace (entries : List Entry) (x : Name) (i : ℕ) : Type 0 where
  pub within : i < length entries
  pub named : (e : Entry) → name_of (get_or entries i e).name ≡ x
