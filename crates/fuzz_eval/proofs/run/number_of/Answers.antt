use Rattle.std.proofs.Common.{◌≡◌, arith, ap, sym, subst, ◌∙◌, refl, to_z, of_z, w64}
use Rattle.std.proofs.lemmas.Int.{ints}
use Rattle.fz_ast.specs.TermNodes.{term_at}
use Rattle.metric_law.specs.Means.{MeansIn}
use Rattle.metric_law.proofs.Unique.{same_value}
use Rattle.metric_values.specs.Values.{NumV, Value}
use Rattle.run_values.specs.Parts.{IsNum}
use Rattle.fuzz_eval.proofs.run.number_of.Goals as goal

pub number-requires : goal.number-requires
number-requires c = subst IsNum (same_value _ _ _ _ _ _ c.requires.has.does c.in_ok-value.ensures) refl

pub returns : goal.returns
returns c =
    let n = subst IsNum (same_value _ _ _ _ _ _ c.requires.has.does c.in_ok-value.ensures) refl in
    let t : to_z w64 (of_z w64 c.number.result) ≡ c.number.result = omega (arith, ints, c.number.type_inv) in
    subst (λ (v : Value). MeansIn c.args.depth c.args.scope.now.means (term_at c.args.nodes.now.terms c.args.root) v) (n ∙ ap NumV (sym c.number.ensures ∙ sym t)) c.in_ok-value.ensures
