use Rattle.std.proofs.Common.{length, ap, ◌∙◌, sym, ◌≡◌, get_or}
use Rattle.std.specs.Arc.{arc_value}
use Rattle.metric_values.specs.Columns.{cells_of}
use Rattle.metric_values.specs.Rows.{rows_of_table}
use Rattle.metric_values.proofs.SideBySide.{all_length}
use Rattle.metric_values.proofs.table.Table.len.Goals as goal

pub returns-in-Whole : goal.returns-in-Whole
returns-in-Whole c =
    let cs = (arc_value c.self.inside.columns).items in
    let read : c.index.result.now ≡ get_or cs 0 c.index.result.now = c.index.ensures ∙ ap (λ v. get_or v.items 0 c.index.result.now) c.deref.ensures in
    let rows = ap (rows_of_table cs) (sym c.in-Whole.is) ∙ c.self.view_is in
    c.len.ensures ∙ ap (λ x. length (cells_of x)) read ∙ sym (all_length cs c.self.invariant.equal c.index.result.now) ∙ ap length rows
