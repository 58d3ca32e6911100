-- Names put in their place in byte order, as the code does it.
use Rattle.std.specs.Prelude.{◌≡◌, ℕ, ◌≤◌, take, drop, Bool, false, cond, bytes_eq, List, [], ◌∷◌, ◌++◌, length, map}
use Rattle.fz_frac.specs.Distance.{Distance, is_le, none}
use Rattle.fz_ast.specs.Names.{name_of}
use Rattle.fz_ast.specs.Terms.{Name}
use Rattle.fz_ast.specs.declared.name.Name.{Name as KeptName}
use Rattle.fz_derive.specs.Least.{put}
use Rattle.derivation_lines.specs.Lines.{Said}
use Rattle.derivation_rows.specs.declared.scope.Bound.{Bound}

-- the names, as the code has them
abbrev pub names_in : List KeptName → List Name
names_in = map name_of

-- x is the first of these names
abbrev pub begins_with : Name → List Name → Bool
begins_with x [] = false
begins_with x (y ∷ ys) = bytes_eq y x

-- x in front of these names, where it isn't the first of them
abbrev pub put_here : Name → List Name → List Name
put_here x ys = cond (begins_with x ys) ys (x ∷ ys)

-- n of the names stand before x
pub record AreBefore (x : Name) (names : List Name) (n : ℕ) : Type 0 where
  pub within : n ≤ length names
  pub put : put x names ≡ take n names ++ put_here x (drop n names)

-- what is said of a name at this number: nothing at 0
abbrev pub said_above : Name → Distance → List Said
said_above x d = cond (is_le d none) [] ((record { name = x; amount = d }) ∷ [])

-- the names in scope, each once and in byte order
abbrev pub sorted_in : List Bound → List Name
sorted_in [] = []
sorted_in (b ∷ bs) = put (name_of b.name) (sorted_in bs)
