use Rattle.std.proofs.Common.{length, ap, ◌∙◌, subst, arith, ◌≡◌}
use Rattle.std.specs.Arc.{arc_value}
use Rattle.std.specs.List.{All}
use Rattle.metric_values.specs.Cells.{columns_in}
use Rattle.metric_values.proofs.SideBySide.{table_wide}
use Rattle.metric_values.proofs.table.Table.width.Goals as goal

pub returns-clause-columns : goal.returns-clause-columns
returns-clause-columns c =
    let cs = (arc_value c.self.inside.columns).items in
    let many : length cs ≡ c.len.result = omega (arith, c.len.ensures, ap (λ v. length v.items) c.deref.ensures, c.deref.result.now.ok.0) in
    subst (λ rows. All (λ row. columns_in row ≡ c.len.result) rows) c.self.view_is (λ k d l. table_wide cs c.self.inside.rows c.self.invariant.equal c.self.invariant.chosen k d l ∙ many)
