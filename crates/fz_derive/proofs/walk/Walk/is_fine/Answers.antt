use Rattle.fz_ast.specs.TypeNodes.{type_at}
use Rattle.derivation_rows.specs.Formed.{form_row}
use Rattle.derivation_lines.specs.Lines.{line_at}
use Rattle.derivation_rows.specs.Scoped.{context_in}
use Rattle.derivation_rows.specs.Viewed.{lines_seen}
use Rattle.fz_derive.proofs.Fine.{row_has}
use Rattle.fz_derive.proofs.walk.Walk.is_fine.Goals as goal

pub returns-in-Some : goal.returns-in-Some
returns-in-Some c =
    let v = c.args.self.now.view in
    let L = lines_seen v in
    let Γ = context_in v.arena.now c.args.scope.now in
    let p = c.args.places in
    row_has v.arena.now L Γ (line_at L c.args.k) c.in-Some.row (form_row (type_at v.nodes.now.types) Γ c.args.form.now (line_at L p.first) (line_at L p.second) (line_at L p.third)) c.has.result c.in-Some.ensures c.has.ensures
