-- The names of tables, bound from the last to the first.
use Rattle.std.proofs.Common.{arith, refl}
use Rattle.std.proofs.Math.Seq.{drop-length}
use Rattle.std.specs.Prelude.{Some, [], drop, length, slice_get, suc, zero, ℕ, ◌+◌, ◌∷◌, ◌≡◌}
use Rattle.fz_ast.specs.Signature.{Signature, TableType}
use Rattle.fz_ast.specs.Terms.{Term}
use Rattle.shape_law.specs.Walk.{depth_limit, shape, start, told, walk}
use Rattle.shape_law.specs.Shapes.{Also, Nothing, Wide, table_shapes}

pub no_tables : (ts : Signature) (n : ℕ) → n ≡ length ts → table_shapes (drop n ts) ≡ Nothing
no_tables ts n h = rw (h, drop-length ts) refl

pub one_table : (ts : Signature) (i : ℕ) (t : TableType) → slice_get ts i ≡ Some t → table_shapes (drop i ts) ≡ Also t.name (Wide 1 0 0) (table_shapes (drop (i + 1) ts))
one_table [] i t h = cc
one_table (u ∷ ts) zero t h = let e : u ≡ t = cc h in rw e refl
one_table (u ∷ ts) (suc i) t h =
    let e : suc i + 1 ≡ suc (i + 1) = omega arith in
    rw e (one_table ts i t h)

pub whole : (n : ℕ) (ts : Signature) (t u : Term) → n ≡ depth_limit → u ≡ t → shape ts t ≡ told (walk n 1 (table_shapes ts) u start)
whole n ts t u e f = rw (e, f) refl
