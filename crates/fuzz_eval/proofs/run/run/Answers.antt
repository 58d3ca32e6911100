use Rattle.std.proofs.Common.{subst, sym}
use Rattle.bag_ops.proofs.Lists.{if_ok}
use Rattle.fz_ast.specs.Terms.{Term}
use Rattle.metric_law.specs.Means.{HasNumber}
use Rattle.metric_values.specs.Values.{Env}
use Rattle.fuzz_eval.proofs.Programs.{has_number, is_near, is_number, means_here}
use Rattle.fuzz_eval.proofs.run.run.Goals as goal

pub number_of-requires-clause-has : goal.number_of-requires-clause-has
number_of-requires-clause-has c =
    let h = c.in_ok-scope.ensures in let p = c.parts-root.ensures in
    let k = has_number c.args.checked.now.sig.now c.args.checked.now.term.now c.args.checked.now c.requires.checked h.signature p.limits c.args.tables.now c.requires.dataset c.args.plan.now c.requires.plan in
    subst (λ (t : Term). HasNumber c.args.plan.now.depth c.in_ok-scope.scope.means t) (sym p.is) (subst (λ (γ : Env). HasNumber c.args.plan.now.depth γ c.args.checked.now.term.now) (sym h.scope) k)

pub returns-clause-value : goal.returns-clause-value
returns-clause-value c = if_ok c.number_of.result _ _ c.number_of.ensures (λ z m. means_here _ _ _ _ _ z c.in_ok-scope.ensures.scope c.parts-root.ensures.is m)

pub returns-clause-within : goal.returns-clause-within
returns-clause-within c =
    let h = c.in_ok-scope.ensures in let p = c.parts-root.ensures in
    if_ok c.number_of.result _ _ c.number_of.ensures
    (λ z m. is_number c.args.checked.now.sig.now c.args.checked.now.term.now c.args.checked.now c.requires.checked h.signature p.limits c.args.tables.now c.requires.dataset z (means_here _ _ _ _ _ z h.scope p.is m))

pub returns-clause-bound : goal.returns-clause-bound
returns-clause-bound c =
    let h = c.in_ok-scope.ensures in let p = c.parts-root.ensures in
    if_ok c.number_of.result _ _ c.number_of.ensures
    (λ z m. is_near c.args.checked.now.sig.now c.args.checked.now.term.now c.args.checked.now c.requires.checked h.signature p.limits c.args.tables.now c.requires.dataset z (means_here _ _ _ _ _ z h.scope p.is m))
