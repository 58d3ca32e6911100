-- What a line of a derivation says: a type, and how sensitive a node is to names.
use Rattle.std.specs.Prelude.{List, [], ◌∷◌, cond, bytes_eq, map, get_or, ℕ}
use Rattle.std.specs.Cmp.Lexicographic.{slice_cmp}
use Rattle.std.specs.List.Sorted.{IsStrictlySortedBy}
use Rattle.std.specs.Ordering.{nat_cmp}
use Rattle.fz_frac.specs.Distance.{Distance, none}
use Rattle.fz_ast.specs.Terms.{Name}
use Rattle.fz_ast.specs.Types.{Ty, UnitT}

-- a name, and how sensitive the node is to it
pub record Said : Type 0 where
  pub name : Name
  pub amount : Distance

-- a node's type, and what is said of names
pub record Line : Type 0 where
  pub ty : Ty
  pub says : List Said

-- what is said of x, and 0 where nothing is
abbrev pub amount_in : List Said → Name → Distance
amount_in [] x = none
amount_in (s ∷ ss) x = cond (bytes_eq s.name x) s.amount (amount_in ss x)

abbrev pub names_said : List Said → List Name
names_said = map (λ (s : Said). s.name)

-- each name is below those after it, in byte order
abbrev pub AreInOrder : List Said → Type 0
AreInOrder says = IsStrictlySortedBy (slice_cmp nat_cmp) (names_said says)

-- line number k (past the last one it says nothing)
unfoldable pub line_at : List Line → ℕ → Line
line_at lines k = get_or lines k (record { ty = UnitT; says = [] })
