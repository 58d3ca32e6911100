use Rattle.std.proofs.Common.{length, ap, ◌∙◌, sym, arith, ◌≡◌, get_or}
use Rattle.std.specs.Arc.{arc_value}
use Rattle.metric_values.specs.Cells.{row_at}
use Rattle.metric_values.specs.Columns.{cells_of}
use Rattle.metric_values.specs.Rows.{place_in}
use Rattle.metric_values.proofs.SideBySide.{seen_cell, seen_column, seen_place}
use Rattle.metric_values.proofs.table.Table.cell.Goals as goal

pub index-requires : goal.index-requires
index-requires c =
    let within = seen_column (arc_value c.self.inside.columns).items c.self.inside.rows c.self.invariant c.args.self.now c.self.view_is c.args.i c.requires.row c.args.k c.requires.column in
    omega (arith, within, ap (λ v. length v.items) c.deref.ensures, c.deref.result.now.ok.0)

pub cell-requires : goal.cell-requires
cell-requires c =
    let read = c.index.ensures ∙ ap (λ v. get_or v.items c.args.k c.index.result.now) c.deref.ensures in
    let below = seen_place (arc_value c.self.inside.columns).items c.self.inside.rows c.self.invariant c.args.self.now c.self.view_is c.args.i c.requires.row c.args.k c.requires.column c.index.result.now in
    omega (arith, below, ap (λ x. length (cells_of x)) read, c.place-place.ensures)

pub returns : goal.returns
returns c =
    let cs = (arc_value c.self.inside.columns).items in
    let read : c.index.result.now ≡ get_or cs c.args.k c.index.result.now = c.index.ensures ∙ ap (λ v. get_or v.items c.args.k c.index.result.now) c.deref.ensures in
    let moved : row_at (cells_of c.index.result.now) c.place-place.result ≡ row_at (cells_of (get_or cs c.args.k c.index.result.now)) (place_in c.self.inside.rows c.args.i) = λ j. row_at (cells_of (read j)) (c.place-place.ensures j) in
    c.cell.ensures ∙ moved ∙ sym (seen_cell cs c.self.inside.rows c.self.invariant c.args.self.now c.self.view_is c.args.i c.requires.row c.args.k c.requires.column c.index.result.now)
