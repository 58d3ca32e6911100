use Rattle.std.proofs.Common.{◌<◌, length, subst, sym, ◌∙◌}
use Rattle.fz_ast.specs.Names.{name_of}
use Rattle.derivation_rows.specs.declared.scope.Bound.{Bound}
use Rattle.derivation_rows.proofs.Scopes.{in_scope_at, type_in_next}
use Rattle.derivation_rows.proofs.scope.type_in.Goals as goal

pub returns-then-is_same-clause-known : goal.returns-then-is_same-clause-known
returns-then-is_same-clause-known c = λ T h.
    let b = c.bound-item.result in
    subst (λ (d : Bound). d.ty < length T) (sym c.bound-item.is) (in_scope_at T c.args.scope.now c.loop-bound.bound-index b h.all c.loop-bound-test.true)

pub loop-bound-preserved : goal.loop-bound-preserved
loop-bound-preserved c = λ T.
    type_in_next T c.args.scope.now (name_of c.args.name.now) c.loop-bound.bound-index c.bound-item.result c.loop-bound-test.true c.bound-item.is c.if-is_same.ensures ∙ c.loop-bound.invariant T
