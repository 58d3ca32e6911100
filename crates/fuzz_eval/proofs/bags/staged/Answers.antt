use Rattle.std.proofs.Common.{[], ap, arith, sym, ◌∷◌, ◌≡◌, ◌∙◌}
use Rattle.metric_values.specs.Values.{BagV}
use Rattle.run_values.specs.Parts.{elements}
use Rattle.flow_values.specs.Steps.{Step, all_through}
use Rattle.row_kernels.proofs.Given.{by_ok}
use Rattle.fuzz_eval.proofs.Staged.{no_function}
use Rattle.fuzz_eval.proofs.bags.staged.Goals as goal

pub returns-then-not-is_function-clause-means : goal.returns-then-not-is_function-clause-means
returns-then-not-is_function-clause-means c =
    let s : Step = record { function = c.args.c.now.means; left = c.args.left; keeps = c.args.keeps } in
    let none : elements c.args.b.now.means ≡ [] = no_function s (elements c.args.b.now.means) (c.is_function.ensures.no (λ h. absurd (cc (h, c.if-not-is_function.true)))) c.requires.goes in
    by_ok c.no_elements.result (λ v. v.means ≡ BagV []) (λ v. v.means ≡ BagV (all_through (s ∷ []) (elements c.args.b.now.means))) c.no_elements.ensures.means
    (λ v e. e ∙ ap (λ xs. BagV (all_through (s ∷ []) xs)) (sym none))

pub returns-then-not-is_function-clause-deep : goal.returns-then-not-is_function-clause-deep
returns-then-not-is_function-clause-deep c = by_ok c.no_elements.result _ _ c.no_elements.ensures.deep (λ v d. omega (arith, d))
