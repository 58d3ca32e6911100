use Rattle.std.proofs.Common.{arith, inl, inr, subst, ◌≡◌, ◌-◌}
use Rattle.metric_values.specs.Cells.{from_column, row_at}
use Rattle.metric_values.specs.Values.{UnitF}
use Rattle.value_distance.specs.Order.{element_cmp}
use Rattle.value_distance.proofs.RowParts.{ends_by_width, equal_cells, last_cells, min_is_one, same_width, some_columns, unequal_cells}
use Rattle.value_distance.proofs.rows.compare_rows.Goals as goal

pub overflow_sub-last : goal.overflow_sub-last
overflow_sub-last c =
    let a = c.width-width.ensures.columns c.args.i UnitF c.requires.left in
    let b = c.width-other_width.ensures.columns c.args.j UnitF c.requires.right in
    let s = some_columns (row_at c.args.x.now c.args.i) in
    let t = some_columns (row_at c.args.y.now c.args.j) in
    omega (arith, a, b, s, t, c.min-last.ensures)

pub returns-in_default : goal.returns-in_default
returns-in_default c =
    let a = c.width-width.ensures.columns c.args.i UnitF c.requires.left in
    let b = c.width-other_width.ensures.columns c.args.j UnitF c.requires.right in
    let r = rw (c.cell.ensures, c.cell-in-loop-k.ensures) at c.compare_cells.ensures in
    unequal_cells c.loop-k.k (row_at c.args.x.now c.args.i) (row_at c.args.y.now c.args.j) c.compare_cells.result _ (omega (arith, a, c.min-last.ensures, c.loop-k-test.true)) (omega (arith, b, c.min-last.ensures, c.loop-k-test.true)) r c.in_default.not-Equal c.loop-k.invariant

pub loop-k-preserved : goal.loop-k-preserved
loop-k-preserved c =
    let a = c.width-width.ensures.columns c.args.i UnitF c.requires.left in
    let b = c.width-other_width.ensures.columns c.args.j UnitF c.requires.right in
    let r = rw (c.cell.ensures, c.cell-in-loop-k.ensures) at c.compare_cells.ensures in
    equal_cells c.loop-k.k (row_at c.args.x.now c.args.i) (row_at c.args.y.now c.args.j) c.compare_cells.result _ (omega (arith, a, c.min-last.ensures, c.loop-k-test.true)) (omega (arith, b, c.min-last.ensures, c.loop-k-test.true)) r c.in-Equal.is c.loop-k.invariant

pub returns-in-Equal-cmp : goal.returns-in-Equal-cmp
returns-in-Equal-cmp c =
    let left = row_at c.args.x.now c.args.i in
    let right = row_at c.args.y.now c.args.j in
    let a = c.width-width.ensures.columns c.args.i UnitF c.requires.left in
    let b = c.width-other_width.ensures.columns c.args.j UnitF c.requires.right in
    let s = some_columns left in
    let w = same_width c.width-width.result c.width-other_width.result c.cmp.result c.cmp.ensures c.in-Equal-cmp.is in
    let k : c.loop-k.k ≡ c.min-last.result - 1 = omega (arith, c.loop-k-test.false, c.loop-k.auto.k-end) in
    let r = rw (c.cell-in-Equal-cmp.ensures, c.cell-in-Equal-cmp-2.ensures) at c.compare_cells-in-Equal-cmp.ensures in
    last_cells (c.min-last.result - 1) left right c.compare_cells-in-Equal-cmp.result _ (omega (arith, a, w, s, c.min-last.ensures)) (omega (arith, a, b, w, s, c.min-last.ensures)) r
    (subst (λ n. element_cmp (from_column n left) (from_column n right) ≡ element_cmp left right) k c.loop-k.invariant)

pub returns-in_default-cmp : goal.returns-in_default-cmp
returns-in_default-cmp c =
    let left = row_at c.args.x.now c.args.i in
    let right = row_at c.args.y.now c.args.j in
    let a = c.width-width.ensures.columns c.args.i UnitF c.requires.left in
    let b = c.width-other_width.ensures.columns c.args.j UnitF c.requires.right in
    let s = some_columns left in
    let t = some_columns right in
    let k : c.loop-k.k ≡ c.min-last.result - 1 = omega (arith, c.loop-k-test.false, c.loop-k.auto.k-end) in
    let n = rw c.cmp.ensures at c.in_default-cmp.not-Equal in
    rw c.cmp.ensures
    (ends_by_width c.width-width.result c.width-other_width.result c.loop-k.k left right _ a b (omega (arith, a, b, s, t, k, c.min-last.ensures)) (omega (arith, a, b, s, t, k, c.min-last.ensures))
    (elim (min_is_one c.width-width.result c.width-other_width.result c.min-last.result c.min-last.ensures) [ inl m ↦ inl (omega (arith, k, m)) | inr m ↦ inr (omega (arith, k, m)) ])
    n c.loop-k.invariant)
