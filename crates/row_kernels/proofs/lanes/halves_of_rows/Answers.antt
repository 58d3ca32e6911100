use Rattle.std.proofs.Common.{◌≡◌, ◌<◌, ◌+◌, List, suc, arith, ap, sym, subst, ◌∙◌}
use Rattle.std.specs.List.{All}
use Rattle.metric_values.specs.Cells.{cell_at, columns_in, from_column, row_at}
use Rattle.metric_values.specs.Values.{Flat, PairV, UnitF, value_of}
use Rattle.flow_values.proofs.TableParts.{paired_part}
use Rattle.row_kernels.specs.Lanes.{AreThere}
use Rattle.row_kernels.proofs.lanes.halves_of_rows.Goals as goal

pub rows_from-rest-requires : goal.rows_from-rest-requires
rows_from-rest-requires c =
    let rows = c.args.t.value in
    let f = c.args.first in
    let k = c.args.k in
    let w = c.width.result in
    let there = c.requires in
    let wide : All (λ row. columns_in row ≡ w) rows = subst (λ xs. All (λ row. columns_in row ≡ w) xs) c.deref.ensures c.width.ensures.columns in
    let more : k + 1 < w = omega arith in
    record { rows_there = there.rows_there; below = there.below; narrow = omega (arith, more, c.width.ensures.narrow); column = λ j l. omega (arith, more, wide (f + j) UnitF (omega (arith, l, there.rows_there))) }

pub returns : goal.returns
returns c =
    let rows = c.args.t.value in
    let f = c.args.first in
    let k = c.args.k in
    let n = c.args.len in
    let w = c.width.result in
    let there = c.requires in
    let wide : All (λ row. columns_in row ≡ w) rows = subst (λ xs. All (λ row. columns_in row ≡ w) xs) c.deref.ensures c.width.ensures.columns in
    let more : k + 1 < w = omega arith in
    let a = c.in_ok-clone.ensures.cases in
    let q : suc k ≡ k + 1 = omega arith in
    record {
      first = subst (λ (xs : List Flat). AreThere xs f n k) (sym a) there;
      second = c.rows_from-rest.ensures.long;
      each = λ j l. sym (paired_part rows w wide (f + j) k (omega (arith, l, there.rows_there)) more) ∙ (λ i. PairV (value_of (cell_at k (row_at (sym a i) (f + j)))) (value_of (from_column (q i) (row_at rows (f + j))))) ∙ ap (λ u. PairV (value_of (cell_at k (row_at c.in_ok-clone.field-0.value (f + j)))) u) (sym (c.rows_from-rest.ensures.each j l));
    }
