use Rattle.std.proofs.Common.{◌≡◌, ◌∙◌, List, ap, subst, sym}
use Rattle.std.specs.Prelude.{Some, None}
use Rattle.fz_ast.specs.Terms.{Name}
use Rattle.fz_ast.specs.TypeNodes.{type_at}
use Rattle.derivation_rows.specs.Formed.{form_row}
use Rattle.derivation_lines.specs.Held.{lines_in}
use Rattle.fz_derive.specs.Least.{said_of_each, sorted_names}
use Rattle.derivation_lines.specs.Lines.{line_at}
use Rattle.fz_derive.specs.Putting.{names_in}
use Rattle.derivation_rows.specs.Ruled.{IsRow}
use Rattle.derivation_lines.specs.Said.{says_of}
use Rattle.derivation_rows.specs.Scoped.{context_in}
use Rattle.derivation_rows.specs.declared.scope.Bound.{Bound}
use Rattle.fz_derive.proofs.LeastLines.{least_lines}
use Rattle.fz_derive.proofs.Making.{found_row, none_above, own_fault, said_in_order, sorted_context}
use Rattle.fz_derive.proofs.least_line.Making.own.Goals as goal

pub returns-in_err-says-clause-is : goal.returns-in_err-says-clause-is
returns-in_err-says-clause-is c =
    let T = c.args.arena.now in let L = lines_in T c.args.lines.now in let bs = c.args.scope.now.bounds.items in let p = c.args.places in
    let o = form_row (type_at c.args.self.now.nodes.now.types) (context_in T bs) c.args.form.now (line_at L p.first) (line_at L p.second) (line_at L p.third) in
    let h : IsRow T L (Some c.in-Some.row) o = subst (λ (z : List Bound). IsRow T L (Some c.in-Some.row) (form_row (type_at c.args.self.now.nodes.now.types) (context_in T z) c.args.form.now (line_at L p.first) (line_at L p.second) (line_at L p.third))) c.deref.ensures.value c.in-Some.ensures in
    let n : names_in c.deref-2.result.now ≡ sorted_names (context_in T bs) = ap names_in c.deref-2.ensures.value ∙ c.args.scope.now.sorted ∙ sym (sorted_context T bs) in
    let w = found_row T L c.in-Some.row o h in
    own_fault (context_in T bs) o T c.from_residual.result c.in_err-says.field-0.0 c.from_residual.ensures.1
    (λ e. none_above (context_in T bs) o w.0 w.1 (subst (λ (xs : List Name). said_of_each xs w.0.number ≡ None) n (c.in_err-says.ensures T w.0.number w.2.numbers e)))

pub invariant_of-result : goal.invariant_of-result
invariant_of-result c =
    let T = c.args.arena.now in let L = lines_in T c.args.lines.now in let bs = c.args.scope.now.bounds.items in let p = c.args.places in
    let o = form_row (type_at c.args.self.now.nodes.now.types) (context_in T bs) c.args.form.now (line_at L p.first) (line_at L p.second) (line_at L p.third) in
    let h : IsRow T L (Some c.in-Some.row) o = subst (λ (z : List Bound). IsRow T L (Some c.in-Some.row) (form_row (type_at c.args.self.now.nodes.now.types) (context_in T z) c.args.form.now (line_at L p.first) (line_at L p.second) (line_at L p.third))) c.deref.ensures.value c.in-Some.ensures in
    let n : names_in c.deref-2.result.now ≡ sorted_names (context_in T bs) = ap names_in c.deref-2.ensures.value ∙ c.args.scope.now.sorted ∙ sym (sorted_context T bs) in
    let w = found_row T L c.in-Some.row o h in
    record { order = said_in_order (context_in T bs) w.0.number c.in_ok-says.says.items (subst (λ (xs : List Name). said_of_each xs w.0.number ≡ Some (says_of c.in_ok-says.says.items)) n (c.in_ok-says.ensures T w.0.number w.2.numbers)) }

pub returns-clause-is : goal.returns-clause-is
returns-clause-is c =
    let T = c.args.arena.now in let L = lines_in T c.args.lines.now in let bs = c.args.scope.now.bounds.items in let p = c.args.places in
    let o = form_row (type_at c.args.self.now.nodes.now.types) (context_in T bs) c.args.form.now (line_at L p.first) (line_at L p.second) (line_at L p.third) in
    let h : IsRow T L (Some c.in-Some.row) o = subst (λ (z : List Bound). IsRow T L (Some c.in-Some.row) (form_row (type_at c.args.self.now.nodes.now.types) (context_in T z) c.args.form.now (line_at L p.first) (line_at L p.second) (line_at L p.third))) c.deref.ensures.value c.in-Some.ensures in
    let n : names_in c.deref-2.result.now ≡ sorted_names (context_in T bs) = ap names_in c.deref-2.ensures.value ∙ c.args.scope.now.sorted ∙ sym (sorted_context T bs) in
    let w = found_row T L c.in-Some.row o h in
    (w.0, w.1, c.in_ok-ty.ensures.is.known, c.in_ok-ty.ensures.is.is ∙ w.2.ty, subst (λ (xs : List Name). said_of_each xs w.0.number ≡ Some (says_of c.in_ok-says.says.items)) n (c.in_ok-says.ensures T w.0.number w.2.numbers))
