-- The tables that a program may name, in order, with the types of their rows.
use Rattle.std.specs.Prelude.{◌≡◌, true, false, List, [], ◌∷◌, bytes_eq, ⊤}
use Rattle.fz_ast.specs.Types.{Ty, TensorT, BagT, is_flat, WellFormed, formed}
use Rattle.fz_ast.specs.Terms.{Name}
use Rattle.fz_ast.specs.Limits.{IsName, TypeLimits}

pub record TableType : Type 0 where
  pub name : Name
  pub row : Ty

abbrev pub Signature : Type 0
Signature = List TableType

-- the type of a table's name
abbrev pub table_type : TableType → Ty
table_type t = BagT t.row

-- the row type c1 * (c2 * (..)) of a first column's type and the others'
abbrev pub row_of : Ty → List Ty → Ty
row_of c [] = c
row_of c (d ∷ ds) = TensorT c (row_of d ds)

-- no table has this name
abbrev pub IsFresh : Name → Signature → Type 0
IsFresh x [] = ⊤
IsFresh x (t ∷ ts) = (bytes_eq t.name x ≡ false) × IsFresh x ts

-- names are distinct, and row types flat and well formed
abbrev pub IsSignature : Signature → Type 0
IsSignature [] = ⊤
IsSignature (t ∷ ts) = IsName t.name × IsFresh t.name ts × (is_flat t.row ≡ true) × (formed t.row ≡ WellFormed) × TypeLimits t.row × IsSignature ts
