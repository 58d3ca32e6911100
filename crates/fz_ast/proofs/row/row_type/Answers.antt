-- What is left to prove of row::row_type.
use Rattle.std.proofs.Common.{◌≡◌, ◌+◌, ◌-◌, length, get_or, drop, arith}
use Rattle.fz_ast.specs.Types.{TensorT}
use Rattle.fz_ast.specs.TypeNodes.{type_at}
use Rattle.fz_ast.specs.Rows.{column_type}
use Rattle.fz_ast.specs.declared.row.Column.TheVariants.{Num}
use Rattle.fz_ast.proofs.RowTypes.{row_flat, row_formed, row_begun, row_grown, last_known}
use Rattle.fz_ast.proofs.row.row_type.Goals as goal

pub loop-i-init : goal.loop-i-init
loop-i-init c = record {
  below = let h = c.requires in omega arith;
  known = last_known c.new-types.result c.push_column.new.types (column_type (get_or c.args.columns.now (length c.args.columns.now - 1) Num)) c.in_ok-row.row c.in_ok-row.ensures.grown c.in_ok-row.ensures.number;
  is = row_begun c.args.columns.now c.new-types.result c.push_column.new.types c.in_ok-row.row (length c.args.columns.now - 1) (let h = c.requires in omega arith) c.in_ok-row.ensures.number c.in_ok-row.ensures.grown;
}

pub loop-i-preserved : goal.loop-i-preserved
loop-i-preserved c = record {
  below = let h = c.loop-i.invariant.below in omega arith;
  known = last_known c.push_column-in-loop-i.new.types c.push.new.self (TensorT (type_at c.push_column-in-loop-i.new.types c.in_ok-column.column) (type_at c.push_column-in-loop-i.new.types c.loop-i.row)) c.in_ok-row-2.row c.in_ok-row-2.ensures.grown c.in_ok-row-2.ensures.number;
  is = row_grown c.args.columns.now c.loop-i.types c.push_column-in-loop-i.new.types c.push.new.self c.in_ok-column.column c.loop-i.row c.in_ok-row-2.row (c.loop-i.i - 1)
      (let h = c.loop-i.invariant.below in let k = c.loop-i-test.true in omega arith) c.in_ok-column.ensures.number c.loop-i.invariant.known
      (let e : c.loop-i.i - 1 + 1 ≡ c.loop-i.i = let k = c.loop-i-test.true in omega arith in rw e c.loop-i.invariant.is)
      c.in_ok-column.ensures.grown c.in_ok-row-2.ensures.grown c.in_ok-row-2.ensures.number;
}

pub returns-clause-flat : goal.returns-clause-flat
returns-clause-flat c = rw (c.new.ensures, c.loop-i.invariant.is) (row_flat (drop c.loop-i.i c.args.columns.now))

pub returns-clause-formed : goal.returns-clause-formed
returns-clause-formed c = rw (c.new.ensures, c.loop-i.invariant.is) (row_formed (drop c.loop-i.i c.args.columns.now))
