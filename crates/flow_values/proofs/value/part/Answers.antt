use Rattle.std.proofs.Common.{◌≡◌, ◌∙◌, ap, arith, refl, subst, suc}
use Rattle.std.specs.List.{All}
use Rattle.std.specs.Prelude.{IfOk}
use Rattle.metric_values.specs.Cells.{cell_at, columns_in, from_column, row_at}
use Rattle.metric_values.specs.Values.{PairV, UnitF, Value, value_of}
use Rattle.flow_values.proofs.TableParts.{last_part, paired_part}
use Rattle.flow_values.proofs.value.part.Goals as goal

pub returns-then-k-width-clause-deep : goal.returns-then-k-width-clause-deep
returns-then-k-width-clause-deep c = c.cell.ensures.deep

pub returns-then-k-width-clause-means : goal.returns-then-k-width-clause-means
returns-then-k-width-clause-means c =
    let rows = c.args.table.now.value in
    let n = c.width-width.result in
    let wide : All (λ row. columns_in row ≡ n) rows = subst (λ xs. All (λ row. columns_in row ≡ n) xs) c.deref.ensures c.width-width.ensures.columns in
    let last = last_part rows n wide c.args.i c.args.k c.requires.row (omega (arith, c.if-k-width.true)) in
    subst (λ (w : Value). IfOk c.cell.result (λ v. v.means ≡ w)) last c.cell.ensures.means

pub returns-clause-deep : goal.returns-clause-deep
returns-clause-deep c = refl

pub returns-clause-means : goal.returns-clause-means
returns-clause-means c =
    let rows = c.args.table.now.value in
    let n = c.width-width.result in
    let wide : All (λ row. columns_in row ≡ n) rows = subst (λ xs. All (λ row. columns_in row ≡ n) xs) c.deref.ensures c.width-width.ensures.columns in
    let same = ap (λ xs. PairV (value_of (cell_at c.args.k (row_at xs c.args.i))) (value_of (from_column (suc c.args.k) (row_at xs c.args.i)))) c.in_ok-clone.ensures.cases in
    same ∙ paired_part rows n wide c.args.i c.args.k c.requires.row (omega (arith, c.if-k-width.false, c.requires.column, wide c.args.i UnitF c.requires.row))
