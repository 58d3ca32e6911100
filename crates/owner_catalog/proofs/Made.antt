-- The columns of a catalog that is made.
use Rattle.std.proofs.Common.{◌≡◌, List, [], ◌∷◌, sym, subst, arith}
use Rattle.std.specs.List.{IsDistinct}
use Rattle.table_store.specs.Schema.{NamedColumn, IsSchema}

one_column : (column : NamedColumn) → IsSchema (column ∷ [])
unfolding IsDistinct
one_column column = record { some = omega arith; few = omega arith; distinct = (tt, tt) }

-- one column is a schema
pub one_schema : (columns : List NamedColumn) (column : NamedColumn) → columns ≡ column ∷ [] → IsSchema columns
one_schema columns column is = subst IsSchema (sym is) (one_column column)
