use Rattle.std.proofs.Common.{rules, ◌≡◌, ◌<◌, ◌≤◌, ◌+◌, ◌-◌, arith, ap, refl, sym, subst, ◌∙◌, length, List, ℤ, to_z, of_z, w64}
use Rattle.std.proofs.lemmas.Grind.{common_steps}
use Rattle.std.specs.Prelude.{IfOk, IfSome, Option, Some, false, true}
use Rattle.std.proofs.lemmas.Int.{ints, to_z-of_z}
use Rattle.fz_ast.specs.Names.{name_of, text_of}
use Rattle.fz_ast.specs.Parts.{Parts}
use Rattle.fz_ast.specs.TermNodes.{IsKnown, binary, term_at, term_of}
use Rattle.fz_ast.specs.Terms.{EqE, LetPairE}
use Rattle.fz_ast.specs.TypeNodes.{type_at}
use Rattle.fz_ast.specs.declared.term.Binary.TheVariants.{Equal}
use Rattle.fz_ast.specs.declared.term.Form.{Form}
use Rattle.fz_ast.specs.declared.term.Form.TheVariants.{Binary as Op2, LetPair}
use Rattle.metric_law.specs.Means.{Applies, MeansIn, Rules, find}
use Rattle.metric_values.specs.Values.{BangV, Bind, Env, NumV, TextV}
use Rattle.flow_values.specs.Held.{Held, HeldScope}
use Rattle.run_values.specs.Flats.{flat_of}
use Rattle.run_values.specs.Parts.{elements}
use Rattle.flow_values.specs.Founds.{rebound}
use Rattle.flow_values.specs.Steps.{AllGo, Step, through}
use Rattle.flow_values.specs.Views.{AllKnown, IsFlow, IsFunction, flow_of, function_of, stages_deep, steps_of, strands_deep}
use Rattle.row_kernels.specs.Flows.{IsFlatTotal}
use Rattle.row_kernels.specs.Gathers.{AllWeighed, gathered}
use Rattle.row_kernels.proofs.Given.{by_ok}
use Rattle.fuzz_eval.specs.Walks.{CanPass, means_in, values_in, worker_deep, worker_step, workers_deep}
use Rattle.fuzz_eval.specs.Loops.{bound_element, function_inside}
use Rattle.fuzz_eval.specs.Operands.{GivesAtOnce, TakesApart}
use Rattle.fuzz_eval.specs.Steps.{CanRanged, Gives1, Gives2, GivesRanged, GivesTimes, CanTimes, HasValueWithin, injected}
use Rattle.fuzz_eval.proofs.Applying.{app_can, app_gives, can_closure, element_gives, element_has, on_ok, same_function, filter_bag, filter_gives, filter_goes, fn_can, fn_gives, fn_has, fun_gives, fun_has, if_ok, map_bag, map_gives, map_goes, plain_here, split_bag, split_gives, split_goes}
use Rattle.row_kernels.proofs.Held.{high_held, low_held, num_held, times_held}
use Rattle.fuzz_eval.proofs.Forms.{bang_has, bang_means, case_can, case_has, case_left, case_left_means, case_right, case_right_means, form_has, form_means, if_can, if_has, if_left, if_left_means, if_right, if_right_means, inject_has, inject_means, lambda_function, lambda_means, let_bang_can, let_bang_has, let_bang_inside, let_bang_means, let_has, let_inside, let_means, num_means, ranged_can, ranged_has, ranged_means, text_means, times_can, times_has, times_means, unary_can, unary_has, unary_means, unit_means, var_known, var_means}
use Rattle.fuzz_eval.proofs.Depths.{at_first, no_deeper, none_deeper, passed_on, risen, still_no_deeper, strand_below, worker_below}
use Rattle.fuzz_eval.proofs.AtOnce.{apart_inside, apart_means, at_once_means}
use Rattle.fuzz_eval.proofs.Steps.{above}
use Rattle.fuzz_eval.proofs.Walked.{can_apply, flat_as, laid_can, laid_gathered, passing_can, passing_end, passing_known, passing_left_out, passing_next, passing_same, passing_start, row_added, row_passes, row_weighed, rows_added, step_drops, same_length, step_is, step_keeps, step_maps, step_tells, strand_added, strand_can, strands_added, whole}
use Rattle.fuzz_eval.proofs.Tallied.{clip_can, clip_gives, size_bag, size_gives, size_weighed, sum_bag, sum_gives, sum_weighed, walks_not}
use Rattle.fuzz_eval.proofs.TwoParts.{binary_can, binary_means, can_compare, compared, first_has, form_here, left_compared, left_has, left_text, means_here, pair_can, pair_has, pair_inside, pair_means, right_compared, right_has, right_text, second_has}
use Rattle.fuzz_eval.proofs.eval.+evaluating.Goals as goal

pub apply-function-function-requires : goal.apply-function-function-requires
apply-function-function-requires t c = can_closure c.requires

pub apply-body_of-body-requires-clause-known : goal.apply-body_of-body-requires-clause-known
apply-body_of-body-requires-clause-known t c = c.function-function.ensures.known.known

pub apply-body_of-body-requires-clause-function : goal.apply-body_of-body-requires-clause-function
apply-body_of-body-requires-clause-function t c = c.function-function.ensures.known.function

pub apply-eval_under-requires : goal.apply-eval_under-requires
apply-eval_under-requires t c = (omega (arith, c.function-function.ensures.deep), (c.body_of-body.ensures.within, fun_has c.args.left c.args.c.now.means c.args.u.means c.body_of-body.result.arrow (name_of c.body_of-body.result.name) (term_at c.function-function.result.now.nodes.value.terms c.body_of-body.result.term) c.function-function.result.now.scope.means (c.function-function.ensures.is ∙ c.body_of-body.ensures.is c.function-function.result.now.scope.means) c.in-Fun.is c.requires))

pub apply-returns-in-Fun : goal.apply-returns-in-Fun
apply-returns-in-Fun t c = record { gives = if_ok c.eval_under.result (λ v. MeansIn c.args.left (Bind (name_of c.body_of-body.result.name) c.args.u.means c.function-function.result.now.scope.means) ((term_at c.function-function.result.now.nodes.value.terms c.body_of-body.result.term)) v) (λ v. Applies (MeansIn c.args.left) c.args.c.now.means c.args.u.means v) c.eval_under.ensures.means (fun_gives c.args.left c.args.c.now.means c.args.u.means c.body_of-body.result.arrow (name_of c.body_of-body.result.name) (term_at c.function-function.result.now.nodes.value.terms c.body_of-body.result.term) c.function-function.result.now.scope.means (c.function-function.ensures.is ∙ c.body_of-body.ensures.is c.function-function.result.now.scope.means) c.in-Fun.is); deep = by_ok c.eval_under.result _ _ c.eval_under.ensures.deep (λ v d. omega (arith, d, c.function-function.ensures.deep)) }

pub apply-banged-requires : goal.apply-banged-requires
apply-banged-requires t c = fn_can c.args.left c.args.c.now.means c.args.u.means c.body_of-body.result.arrow (name_of c.body_of-body.result.name) (term_at c.function-function.result.now.nodes.value.terms c.body_of-body.result.term) c.function-function.result.now.scope.means (c.function-function.ensures.is ∙ c.body_of-body.ensures.is c.function-function.result.now.scope.means) c.in-Fn.is c.requires

pub apply-returns-in_err-inner-in-Fn : goal.apply-returns-in_err-inner-in-Fn
apply-returns-in_err-inner-in-Fn t c = record { gives = search rules; deep = search rules }

pub apply-eval_under-requires-in-Fn : goal.apply-eval_under-requires-in-Fn
apply-eval_under-requires-in-Fn t c = (omega (arith, c.function-function.ensures.deep, c.in_ok-inner-in-Fn.ensures.deep), (c.body_of-body.ensures.within, fn_has c.args.left c.args.c.now.means c.args.u.means c.body_of-body.result.arrow (name_of c.body_of-body.result.name) (term_at c.function-function.result.now.nodes.value.terms c.body_of-body.result.term) c.function-function.result.now.scope.means (c.function-function.ensures.is ∙ c.body_of-body.ensures.is c.function-function.result.now.scope.means) c.in-Fn.is c.requires c.in_ok-inner-in-Fn.inner.means c.in_ok-inner-in-Fn.ensures.means))

pub apply-returns-in_ok-inner-in-Fn : goal.apply-returns-in_ok-inner-in-Fn
apply-returns-in_ok-inner-in-Fn t c = record { gives = if_ok c.eval_under-in-Fn.result (λ v. MeansIn c.args.left (Bind (name_of c.body_of-body.result.name) c.in_ok-inner-in-Fn.inner.means c.function-function.result.now.scope.means) ((term_at c.function-function.result.now.nodes.value.terms c.body_of-body.result.term)) v) (λ v. Applies (MeansIn c.args.left) c.args.c.now.means c.args.u.means v) c.eval_under-in-Fn.ensures.means (fn_gives c.args.left c.args.c.now.means c.args.u.means c.body_of-body.result.arrow (name_of c.body_of-body.result.name) (term_at c.function-function.result.now.nodes.value.terms c.body_of-body.result.term) c.function-function.result.now.scope.means (c.function-function.ensures.is ∙ c.body_of-body.ensures.is c.function-function.result.now.scope.means) c.in-Fn.is (fn_can c.args.left c.args.c.now.means c.args.u.means c.body_of-body.result.arrow (name_of c.body_of-body.result.name) (term_at c.function-function.result.now.nodes.value.terms c.body_of-body.result.term) c.function-function.result.now.scope.means (c.function-function.ensures.is ∙ c.body_of-body.ensures.is c.function-function.result.now.scope.means) c.in-Fn.is c.requires) c.in_ok-inner-in-Fn.inner.means c.in_ok-inner-in-Fn.ensures.means); deep = by_ok c.eval_under-in-Fn.result _ _ c.eval_under-in-Fn.ensures.deep (λ v d. omega (arith, d, c.function-function.ensures.deep, c.in_ok-inner-in-Fn.ensures.deep)) }

pub combine-apply-requires : goal.combine-apply-requires
combine-apply-requires t c = (omega arith, app_can c.args.left c.args.form c.args.u.means c.args.w.means c.requires c.in-App.is)

pub combine-returns-in-App : goal.combine-returns-in-App
combine-returns-in-App t c = record { gives = if_ok c.apply.result (λ v. Applies (MeansIn c.args.left) c.args.u.means c.args.w.means v) (λ v. Gives2 (MeansIn c.args.left) c.args.form c.args.u.means c.args.w.means v) c.apply.ensures.gives (app_gives c.args.left c.args.form c.args.u.means c.args.w.means c.requires c.in-App.is); deep = by_ok c.apply.result _ _ c.apply.ensures.deep (λ v d. omega (arith, d)) }

pub combine-plain-requires : goal.combine-plain-requires
combine-plain-requires t c = record { plain = plain_here c.args.form c.in_default.not-App c.in_default.not-Map c.in_default.not-Filter c.in_default.not-Split; can = c.requires }

pub combine-returns-in_default : goal.combine-returns-in_default
combine-returns-in_default t c = record { gives = c.plain.ensures.gives; deep = by_ok c.plain.result _ _ c.plain.ensures.deep (λ v d. omega (arith, d)) }

pub eval_under-returns-in_err-inner : goal.eval_under-returns-in_err-inner
eval_under-returns-in_err-inner t c = record { means = search rules; deep = search rules }

pub eval_under-eval-requires : goal.eval_under-eval-requires
eval_under-eval-requires t c = (omega (arith, c.in_ok-inner.ensures.deep), (c.requires.known, subst (λ (γ : Env). HasValueWithin c.args.left γ (term_at c.args.nodes.now.value.terms c.args.i)) (sym c.in_ok-inner.ensures.means) c.requires.has))

pub eval_under-returns : goal.eval_under-returns
eval_under-returns t c = record { means = subst (λ (γ : Env). IfOk c.eval.result (λ v. MeansIn c.args.left γ ((term_at c.args.nodes.now.value.terms c.args.i)) v.means)) c.in_ok-inner.ensures.means c.eval.ensures.means; deep = by_ok c.eval.result _ _ c.eval.ensures.deep (λ v d. omega (arith, d, c.in_ok-inner.ensures.deep)) }

pub eval_other-overflow_sub-below : goal.eval_other-overflow_sub-below
eval_other-overflow_sub-below t c = omega (arith, above c.requires.has)

pub eval_other-look-node-requires : goal.eval_other-look-node-requires
eval_other-look-node-requires t c = c.requires.known

pub eval_other-find-requires : goal.eval_other-find-requires
eval_other-find-requires t c = var_known c.args.left c.args.scope.now.means (term_at c.args.nodes.now.value.terms c.args.i) (type_at c.args.nodes.now.value.types) (term_at c.args.nodes.now.value.terms) c.look-node.result.now.span c.look-node.result.now.form c.look-node.ensures.form c.requires.has c.in-Var.name c.in-Var.is

pub eval_other-returns-in-Var : goal.eval_other-returns-in-Var
eval_other-returns-in-Var t c = record { means = if_ok c.find.result (λ v. find c.args.scope.now.means (name_of c.in-Var.name) ≡ Some v) (λ v. MeansIn c.args.left c.args.scope.now.means ((term_at c.args.nodes.now.value.terms c.args.i)) v) c.find.ensures.means (var_means c.args.left c.args.scope.now.means (term_at c.args.nodes.now.value.terms c.args.i) (type_at c.args.nodes.now.value.types) (term_at c.args.nodes.now.value.terms) c.look-node.result.now.span c.look-node.result.now.form c.look-node.ensures.form c.requires.has c.in-Var.name c.in-Var.is); deep = by_ok c.find.result _ _ c.find.ensures.deep (λ v d. omega (arith, d)) }

pub eval_other-returns-in-Num : goal.eval_other-returns-in-Num
eval_other-returns-in-Num t c = record { means = num_means c.args.left c.args.scope.now.means (term_at c.args.nodes.now.value.terms c.args.i) (type_at c.args.nodes.now.value.types) (term_at c.args.nodes.now.value.terms) c.look-node.result.now.span c.look-node.result.now.form c.look-node.ensures.form c.requires.has c.in-Num.z c.in-Num.is c.num.result.means (c.num.ensures.means ∙ ap NumV (num_held (term_at c.args.nodes.now.value.terms c.args.i) (type_at c.args.nodes.now.value.types) (term_at c.args.nodes.now.value.terms) c.look-node.result.now.span c.look-node.result.now.form c.look-node.ensures.form c.look-node.ensures.limits c.in-Num.z c.in-Num.is)); deep = omega (arith, c.num.ensures.deep) }

pub eval_other-returns-in-Text : goal.eval_other-returns-in-Text
eval_other-returns-in-Text t c = record { means = if_ok c.text.result (λ v. v ≡ TextV (text_of c.in-Text.text)) (λ v. MeansIn c.args.left c.args.scope.now.means ((term_at c.args.nodes.now.value.terms c.args.i)) v) c.text.ensures.means (text_means c.args.left c.args.scope.now.means (term_at c.args.nodes.now.value.terms c.args.i) (type_at c.args.nodes.now.value.types) (term_at c.args.nodes.now.value.terms) c.look-node.result.now.span c.look-node.result.now.form c.look-node.ensures.form c.requires.has c.in-Text.text c.in-Text.is); deep = by_ok c.text.result _ _ c.text.ensures.deep (λ v d. omega (arith, d)) }

pub eval_other-returns-in-Unit : goal.eval_other-returns-in-Unit
eval_other-returns-in-Unit t c = record { means = unit_means c.args.left c.args.scope.now.means (term_at c.args.nodes.now.value.terms c.args.i) (type_at c.args.nodes.now.value.types) (term_at c.args.nodes.now.value.terms) c.look-node.result.now.span c.look-node.result.now.form c.look-node.ensures.form c.requires.has c.in-Unit.is c.unit.result.means c.unit.ensures.means; deep = omega (arith, c.unit.ensures.deep) }

pub eval_other-eval-requires : goal.eval_other-eval-requires
eval_other-eval-requires t c = (omega (arith, risen c.requires.has), ((let q = (subst (λ (f : Form). IsKnown (length c.args.nodes.now.value.types) c.args.i f) c.in-Unary.is c.look-node.ensures.known) in let k = q in omega (arith, k, c.requires.known)), unary_has c.args.left c.args.scope.now.means (term_at c.args.nodes.now.value.terms c.args.i) (type_at c.args.nodes.now.value.types) (term_at c.args.nodes.now.value.terms) c.look-node.result.now.span c.look-node.result.now.form c.look-node.ensures.form c.requires.has c.in-Unary.form c.in-Unary.e c.in-Unary.is))

pub eval_other-returns-in_err-u-in-Unary : goal.eval_other-returns-in_err-u-in-Unary
eval_other-returns-in_err-u-in-Unary t c = record { means = search rules; deep = search rules }

pub eval_other-word-requires : goal.eval_other-word-requires
eval_other-word-requires t c = (omega (arith, risen c.requires.has, c.in_ok-u-in-Unary.ensures.deep), unary_can c.args.left c.args.scope.now.means (term_at c.args.nodes.now.value.terms c.args.i) (type_at c.args.nodes.now.value.types) (term_at c.args.nodes.now.value.terms) c.look-node.result.now.span c.look-node.result.now.form c.look-node.ensures.form c.requires.has c.in-Unary.form c.in-Unary.e c.in-Unary.is c.in_ok-u-in-Unary.u.means c.in_ok-u-in-Unary.ensures.means)

pub eval_other-returns-in-Unary : goal.eval_other-returns-in-Unary
eval_other-returns-in-Unary t c = record { means = if_ok c.word.result (λ v. Gives1 c.in-Unary.form c.in_ok-u-in-Unary.u.means v) (λ v. MeansIn c.args.left c.args.scope.now.means ((term_at c.args.nodes.now.value.terms c.args.i)) v) c.word.ensures.gives (unary_means c.args.left c.args.scope.now.means (term_at c.args.nodes.now.value.terms c.args.i) (type_at c.args.nodes.now.value.types) (term_at c.args.nodes.now.value.terms) c.look-node.result.now.span c.look-node.result.now.form c.look-node.ensures.form c.requires.has c.in-Unary.form c.in-Unary.e c.in-Unary.is c.in_ok-u-in-Unary.u.means c.in_ok-u-in-Unary.ensures.means); deep = by_ok c.word.result _ _ c.word.ensures.deep (λ v d. omega (arith, d, risen c.requires.has, c.in_ok-u-in-Unary.ensures.deep)) }

pub eval_other-eval-requires-in-Times : goal.eval_other-eval-requires-in-Times
eval_other-eval-requires-in-Times t c = (omega (arith, risen c.requires.has), ((let q = (subst (λ (f : Form). IsKnown (length c.args.nodes.now.value.types) c.args.i f) c.in-Times.is c.look-node.ensures.known) in let k = q in omega (arith, k, c.requires.known)), times_has c.args.left c.args.scope.now.means (term_at c.args.nodes.now.value.terms c.args.i) (type_at c.args.nodes.now.value.types) (term_at c.args.nodes.now.value.terms) c.look-node.result.now.span c.look-node.result.now.form c.look-node.ensures.form c.requires.has c.in-Times.k c.in-Times.e c.in-Times.is))

pub eval_other-returns-in_err-u-in-Times : goal.eval_other-returns-in_err-u-in-Times
eval_other-returns-in_err-u-in-Times t c = record { means = search rules; deep = search rules }

pub eval_other-scale-requires : goal.eval_other-scale-requires
eval_other-scale-requires t c = subst (λ (k : ℤ). CanTimes k c.in_ok-u-in-Times.u.means) (sym (times_held (term_at c.args.nodes.now.value.terms c.args.i) (type_at c.args.nodes.now.value.types) (term_at c.args.nodes.now.value.terms) c.look-node.result.now.span c.look-node.result.now.form c.look-node.ensures.form c.look-node.ensures.limits c.in-Times.k c.in-Times.e c.in-Times.is)) (times_can c.args.left c.args.scope.now.means (term_at c.args.nodes.now.value.terms c.args.i) (type_at c.args.nodes.now.value.types) (term_at c.args.nodes.now.value.terms) c.look-node.result.now.span c.look-node.result.now.form c.look-node.ensures.form c.requires.has c.in-Times.k c.in-Times.e c.in-Times.is c.in_ok-u-in-Times.u.means c.in_ok-u-in-Times.ensures.means)

pub eval_other-returns-in-Times : goal.eval_other-returns-in-Times
eval_other-returns-in-Times t c = record { means = times_means c.args.left c.args.scope.now.means (term_at c.args.nodes.now.value.terms c.args.i) (type_at c.args.nodes.now.value.types) (term_at c.args.nodes.now.value.terms) c.look-node.result.now.span c.look-node.result.now.form c.look-node.ensures.form c.requires.has c.in-Times.k c.in-Times.e c.in-Times.is c.in_ok-u-in-Times.u.means c.in_ok-u-in-Times.ensures.means c.scale.result.means (subst (λ (k : ℤ). GivesTimes k c.in_ok-u-in-Times.u.means c.scale.result.means) (times_held (term_at c.args.nodes.now.value.terms c.args.i) (type_at c.args.nodes.now.value.types) (term_at c.args.nodes.now.value.terms) c.look-node.result.now.span c.look-node.result.now.form c.look-node.ensures.form c.look-node.ensures.limits c.in-Times.k c.in-Times.e c.in-Times.is) c.scale.ensures.gives); deep = omega (arith, c.scale.ensures.deep) }

pub eval_other-eval-requires-in-Inject : goal.eval_other-eval-requires-in-Inject
eval_other-eval-requires-in-Inject t c = (omega (arith, risen c.requires.has), ((let q = (subst (λ (f : Form). IsKnown (length c.args.nodes.now.value.types) c.args.i f) c.in-Inject.is c.look-node.ensures.known) in let k = q.1 in omega (arith, k, c.requires.known)), inject_has c.args.left c.args.scope.now.means (term_at c.args.nodes.now.value.terms c.args.i) (type_at c.args.nodes.now.value.types) (term_at c.args.nodes.now.value.terms) c.look-node.result.now.span c.look-node.result.now.form c.look-node.ensures.form c.requires.has c.in-Inject.side c.in-Inject.field-1 c.in-Inject.field-2 c.in-Inject.e c.in-Inject.is))

pub eval_other-returns-in_err-u-in-Inject : goal.eval_other-returns-in_err-u-in-Inject
eval_other-returns-in_err-u-in-Inject t c = record { means = search rules; deep = search rules }

pub eval_other-returns-in-Inject : goal.eval_other-returns-in-Inject
eval_other-returns-in-Inject t c = record { means = if_ok c.inject.result (λ v. v ≡ injected c.in-Inject.side c.in_ok-u-in-Inject.u.means) (λ v. MeansIn c.args.left c.args.scope.now.means ((term_at c.args.nodes.now.value.terms c.args.i)) v) c.inject.ensures.means (inject_means c.args.left c.args.scope.now.means (term_at c.args.nodes.now.value.terms c.args.i) (type_at c.args.nodes.now.value.types) (term_at c.args.nodes.now.value.terms) c.look-node.result.now.span c.look-node.result.now.form c.look-node.ensures.form c.requires.has c.in-Inject.side c.in-Inject.field-1 c.in-Inject.field-2 c.in-Inject.e c.in-Inject.is c.in_ok-u-in-Inject.u.means c.in_ok-u-in-Inject.ensures.means); deep = by_ok c.inject.result _ _ c.inject.ensures.deep (λ v d. omega (arith, d, risen c.requires.has, c.in_ok-u-in-Inject.ensures.deep)) }

pub eval_other-eval-requires-in-Bang : goal.eval_other-eval-requires-in-Bang
eval_other-eval-requires-in-Bang t c = (omega (arith, risen c.requires.has), ((let q = (subst (λ (f : Form). IsKnown (length c.args.nodes.now.value.types) c.args.i f) c.in-Bang.is c.look-node.ensures.known) in let k = q in omega (arith, k, c.requires.known)), bang_has c.args.left c.args.scope.now.means (term_at c.args.nodes.now.value.terms c.args.i) (type_at c.args.nodes.now.value.types) (term_at c.args.nodes.now.value.terms) c.look-node.result.now.span c.look-node.result.now.form c.look-node.ensures.form c.requires.has c.in-Bang.field-0 c.in-Bang.e c.in-Bang.is))

pub eval_other-returns-in_err-u-in-Bang : goal.eval_other-returns-in_err-u-in-Bang
eval_other-returns-in_err-u-in-Bang t c = record { means = search rules; deep = search rules }

pub eval_other-returns-in-Bang : goal.eval_other-returns-in-Bang
eval_other-returns-in-Bang t c = record { means = if_ok c.bang.result (λ v. v ≡ BangV c.in_ok-u-in-Bang.u.means) (λ v. MeansIn c.args.left c.args.scope.now.means ((term_at c.args.nodes.now.value.terms c.args.i)) v) c.bang.ensures.means (bang_means c.args.left c.args.scope.now.means (term_at c.args.nodes.now.value.terms c.args.i) (type_at c.args.nodes.now.value.types) (term_at c.args.nodes.now.value.terms) c.look-node.result.now.span c.look-node.result.now.form c.look-node.ensures.form c.requires.has c.in-Bang.field-0 c.in-Bang.e c.in-Bang.is c.in_ok-u-in-Bang.u.means c.in_ok-u-in-Bang.ensures.means); deep = by_ok c.bang.result _ _ c.bang.ensures.deep (λ v d. omega (arith, d, risen c.requires.has, c.in_ok-u-in-Bang.ensures.deep)) }

pub eval_other-eval-requires-in-Let : goal.eval_other-eval-requires-in-Let
eval_other-eval-requires-in-Let t c = (omega (arith, risen c.requires.has), ((let q = (subst (λ (f : Form). IsKnown (length c.args.nodes.now.value.types) c.args.i f) c.in-Let.is c.look-node.ensures.known) in let k = q.0 in omega (arith, k, c.requires.known)), let_has c.args.left c.args.scope.now.means (term_at c.args.nodes.now.value.terms c.args.i) (type_at c.args.nodes.now.value.types) (term_at c.args.nodes.now.value.terms) c.look-node.result.now.span c.look-node.result.now.form c.look-node.ensures.form c.requires.has c.in-Let.x c.in-Let.e c.in-Let.b c.in-Let.is))

pub eval_other-returns-in_err-u-in-Let : goal.eval_other-returns-in_err-u-in-Let
eval_other-returns-in_err-u-in-Let t c = record { means = search rules; deep = search rules }

pub eval_other-eval_under-requires : goal.eval_other-eval_under-requires
eval_other-eval_under-requires t c = (omega (arith, risen c.requires.has, c.in_ok-u-in-Let.ensures.deep), ((let q = (subst (λ (f : Form). IsKnown (length c.args.nodes.now.value.types) c.args.i f) c.in-Let.is c.look-node.ensures.known) in let k = q.1 in omega (arith, k, c.requires.known)), let_inside c.args.left c.args.scope.now.means (term_at c.args.nodes.now.value.terms c.args.i) (type_at c.args.nodes.now.value.types) (term_at c.args.nodes.now.value.terms) c.look-node.result.now.span c.look-node.result.now.form c.look-node.ensures.form c.requires.has c.in-Let.x c.in-Let.e c.in-Let.b c.in-Let.is c.in_ok-u-in-Let.u.means c.in_ok-u-in-Let.ensures.means))

pub eval_other-returns-in-Let : goal.eval_other-returns-in-Let
eval_other-returns-in-Let t c = record { means = if_ok c.eval_under.result (λ v. MeansIn (c.args.left - 1) (Bind (name_of c.in-Let.x) c.in_ok-u-in-Let.u.means c.args.scope.now.means) ((term_at c.args.nodes.now.value.terms c.in-Let.b)) v) (λ v. MeansIn c.args.left c.args.scope.now.means ((term_at c.args.nodes.now.value.terms c.args.i)) v) c.eval_under.ensures.means (let_means c.args.left c.args.scope.now.means (term_at c.args.nodes.now.value.terms c.args.i) (type_at c.args.nodes.now.value.types) (term_at c.args.nodes.now.value.terms) c.look-node.result.now.span c.look-node.result.now.form c.look-node.ensures.form c.requires.has c.in-Let.x c.in-Let.e c.in-Let.b c.in-Let.is c.in_ok-u-in-Let.u.means c.in_ok-u-in-Let.ensures.means); deep = by_ok c.eval_under.result _ _ c.eval_under.ensures.deep (λ v d. omega (arith, d, risen c.requires.has, c.in_ok-u-in-Let.ensures.deep)) }

pub eval_other-eval-requires-in-LetBang : goal.eval_other-eval-requires-in-LetBang
eval_other-eval-requires-in-LetBang t c = (omega (arith, risen c.requires.has), ((let q = (subst (λ (f : Form). IsKnown (length c.args.nodes.now.value.types) c.args.i f) c.in-LetBang.is c.look-node.ensures.known) in let k = q.0 in omega (arith, k, c.requires.known)), let_bang_has c.args.left c.args.scope.now.means (term_at c.args.nodes.now.value.terms c.args.i) (type_at c.args.nodes.now.value.types) (term_at c.args.nodes.now.value.terms) c.look-node.result.now.span c.look-node.result.now.form c.look-node.ensures.form c.requires.has c.in-LetBang.x c.in-LetBang.e c.in-LetBang.b c.in-LetBang.is))

pub eval_other-returns-in_err-u-in-LetBang : goal.eval_other-returns-in_err-u-in-LetBang
eval_other-returns-in_err-u-in-LetBang t c = record { means = search rules; deep = search rules }

pub eval_other-returns-in_err-inner-in-LetBang : goal.eval_other-returns-in_err-inner-in-LetBang
eval_other-returns-in_err-inner-in-LetBang t c = record { means = search rules; deep = search rules }

pub eval_other-banged-requires : goal.eval_other-banged-requires
eval_other-banged-requires t c = let_bang_can c.args.left c.args.scope.now.means (term_at c.args.nodes.now.value.terms c.args.i) (type_at c.args.nodes.now.value.types) (term_at c.args.nodes.now.value.terms) c.look-node.result.now.span c.look-node.result.now.form c.look-node.ensures.form c.requires.has c.in-LetBang.x c.in-LetBang.e c.in-LetBang.b c.in-LetBang.is c.in_ok-u-in-LetBang.u.means c.in_ok-u-in-LetBang.ensures.means

pub eval_other-eval_under-requires-in-LetBang : goal.eval_other-eval_under-requires-in-LetBang
eval_other-eval_under-requires-in-LetBang t c = (omega (arith, risen c.requires.has, c.in_ok-u-in-LetBang.ensures.deep, c.in_ok-inner-in-LetBang.ensures.deep), ((let q = (subst (λ (f : Form). IsKnown (length c.args.nodes.now.value.types) c.args.i f) c.in-LetBang.is c.look-node.ensures.known) in let k = q.1 in omega (arith, k, c.requires.known)), let_bang_inside c.args.left c.args.scope.now.means (term_at c.args.nodes.now.value.terms c.args.i) (type_at c.args.nodes.now.value.types) (term_at c.args.nodes.now.value.terms) c.look-node.result.now.span c.look-node.result.now.form c.look-node.ensures.form c.requires.has c.in-LetBang.x c.in-LetBang.e c.in-LetBang.b c.in-LetBang.is c.in_ok-u-in-LetBang.u.means c.in_ok-inner-in-LetBang.inner.means c.in_ok-u-in-LetBang.ensures.means c.in_ok-inner-in-LetBang.ensures.means))

pub eval_other-returns-in-LetBang : goal.eval_other-returns-in-LetBang
eval_other-returns-in-LetBang t c = record { means = if_ok c.eval_under-in-LetBang.result (λ v. MeansIn (c.args.left - 1) (Bind (name_of c.in-LetBang.x) c.in_ok-inner-in-LetBang.inner.means c.args.scope.now.means) ((term_at c.args.nodes.now.value.terms c.in-LetBang.b)) v) (λ v. MeansIn c.args.left c.args.scope.now.means ((term_at c.args.nodes.now.value.terms c.args.i)) v) c.eval_under-in-LetBang.ensures.means (let_bang_means c.args.left c.args.scope.now.means (term_at c.args.nodes.now.value.terms c.args.i) (type_at c.args.nodes.now.value.types) (term_at c.args.nodes.now.value.terms) c.look-node.result.now.span c.look-node.result.now.form c.look-node.ensures.form c.requires.has c.in-LetBang.x c.in-LetBang.e c.in-LetBang.b c.in-LetBang.is c.in_ok-u-in-LetBang.u.means c.in_ok-inner-in-LetBang.inner.means c.in_ok-u-in-LetBang.ensures.means c.in_ok-inner-in-LetBang.ensures.means); deep = by_ok c.eval_under-in-LetBang.result _ _ c.eval_under-in-LetBang.ensures.deep (λ v d. omega (arith, d, risen c.requires.has, c.in_ok-u-in-LetBang.ensures.deep, c.in_ok-inner-in-LetBang.ensures.deep)) }

pub eval_other-eval-requires-in-If : goal.eval_other-eval-requires-in-If
eval_other-eval-requires-in-If t c = (omega (arith, risen c.requires.has), ((let q = (subst (λ (f : Form). IsKnown (length c.args.nodes.now.value.types) c.args.i f) c.in-If.is c.look-node.ensures.known) in let k = q.0 in omega (arith, k, c.requires.known)), if_has c.args.left c.args.scope.now.means (term_at c.args.nodes.now.value.terms c.args.i) (type_at c.args.nodes.now.value.types) (term_at c.args.nodes.now.value.terms) c.look-node.result.now.span c.look-node.result.now.form c.look-node.ensures.form c.requires.has c.in-If.e c.in-If.a c.in-If.b c.in-If.is))

pub eval_other-returns-in_err-u-in-If : goal.eval_other-returns-in_err-u-in-If
eval_other-returns-in_err-u-in-If t c = record { means = search rules; deep = search rules }

pub eval_other-is_left-requires : goal.eval_other-is_left-requires
eval_other-is_left-requires t c = if_can c.args.left c.args.scope.now.means (term_at c.args.nodes.now.value.terms c.args.i) (type_at c.args.nodes.now.value.types) (term_at c.args.nodes.now.value.terms) c.look-node.result.now.span c.look-node.result.now.form c.look-node.ensures.form c.requires.has c.in-If.e c.in-If.a c.in-If.b c.in-If.is c.in_ok-u-in-If.u.means c.in_ok-u-in-If.ensures.means

pub eval_other-eval-requires-then-is_left : goal.eval_other-eval-requires-then-is_left
eval_other-eval-requires-then-is_left t c = (omega (arith, risen c.requires.has), ((let q = (subst (λ (f : Form). IsKnown (length c.args.nodes.now.value.types) c.args.i f) c.in-If.is c.look-node.ensures.known) in let k = q.1 in omega (arith, k, c.requires.known)), if_left c.args.left c.args.scope.now.means (term_at c.args.nodes.now.value.terms c.args.i) (type_at c.args.nodes.now.value.types) (term_at c.args.nodes.now.value.terms) c.look-node.result.now.span c.look-node.result.now.form c.look-node.ensures.form c.requires.has c.in-If.e c.in-If.a c.in-If.b c.in-If.is c.in_ok-u-in-If.u.means c.in_ok-u-in-If.ensures.means (c.is_left.ensures.left c.if-is_left.true)))

pub eval_other-eval-requires-else-is_left : goal.eval_other-eval-requires-else-is_left
eval_other-eval-requires-else-is_left t c = (omega (arith, risen c.requires.has), ((let q = (subst (λ (f : Form). IsKnown (length c.args.nodes.now.value.types) c.args.i f) c.in-If.is c.look-node.ensures.known) in let k = q.2 in omega (arith, k, c.requires.known)), if_right c.args.left c.args.scope.now.means (term_at c.args.nodes.now.value.terms c.args.i) (type_at c.args.nodes.now.value.types) (term_at c.args.nodes.now.value.terms) c.look-node.result.now.span c.look-node.result.now.form c.look-node.ensures.form c.requires.has c.in-If.e c.in-If.a c.in-If.b c.in-If.is c.in_ok-u-in-If.u.means c.in_ok-u-in-If.ensures.means (c.is_left.ensures.right (λ h. absurd (cc (h, c.if-is_left.false))))))

pub eval_other-returns-then-is_left : goal.eval_other-returns-then-is_left
eval_other-returns-then-is_left t c = record { means = if_ok c.eval-then-is_left.result (λ v. MeansIn (c.args.left - 1) c.args.scope.now.means ((term_at c.args.nodes.now.value.terms c.in-If.a)) v) (λ v. MeansIn c.args.left c.args.scope.now.means ((term_at c.args.nodes.now.value.terms c.args.i)) v) c.eval-then-is_left.ensures.means (if_left_means c.args.left c.args.scope.now.means (term_at c.args.nodes.now.value.terms c.args.i) (type_at c.args.nodes.now.value.types) (term_at c.args.nodes.now.value.terms) c.look-node.result.now.span c.look-node.result.now.form c.look-node.ensures.form c.requires.has c.in-If.e c.in-If.a c.in-If.b c.in-If.is c.in_ok-u-in-If.u.means c.in_ok-u-in-If.ensures.means (c.is_left.ensures.left c.if-is_left.true)); deep = by_ok c.eval-then-is_left.result _ _ c.eval-then-is_left.ensures.deep (λ v d. omega (arith, d, risen c.requires.has)) }

pub eval_other-returns-in-If : goal.eval_other-returns-in-If
eval_other-returns-in-If t c = record { means = if_ok c.eval-else-is_left.result (λ v. MeansIn (c.args.left - 1) c.args.scope.now.means ((term_at c.args.nodes.now.value.terms c.in-If.b)) v) (λ v. MeansIn c.args.left c.args.scope.now.means ((term_at c.args.nodes.now.value.terms c.args.i)) v) c.eval-else-is_left.ensures.means (if_right_means c.args.left c.args.scope.now.means (term_at c.args.nodes.now.value.terms c.args.i) (type_at c.args.nodes.now.value.types) (term_at c.args.nodes.now.value.terms) c.look-node.result.now.span c.look-node.result.now.form c.look-node.ensures.form c.requires.has c.in-If.e c.in-If.a c.in-If.b c.in-If.is c.in_ok-u-in-If.u.means c.in_ok-u-in-If.ensures.means (c.is_left.ensures.right (λ h. absurd (cc (h, c.if-is_left.false))))); deep = by_ok c.eval-else-is_left.result _ _ c.eval-else-is_left.ensures.deep (λ v d. omega (arith, d, risen c.requires.has)) }

pub eval_other-eval-requires-in-Case : goal.eval_other-eval-requires-in-Case
eval_other-eval-requires-in-Case t c = (omega (arith, risen c.requires.has), ((let q = (subst (λ (f : Form). IsKnown (length c.args.nodes.now.value.types) c.args.i f) c.in-Case.is c.look-node.ensures.known) in let k = q.0 in omega (arith, k, c.requires.known)), case_has c.args.left c.args.scope.now.means (term_at c.args.nodes.now.value.terms c.args.i) (type_at c.args.nodes.now.value.types) (term_at c.args.nodes.now.value.terms) c.look-node.result.now.span c.look-node.result.now.form c.look-node.ensures.form c.requires.has c.in-Case.e c.in-Case.x c.in-Case.a c.in-Case.y c.in-Case.b c.in-Case.is))

pub eval_other-returns-in_err-u-in-Case : goal.eval_other-returns-in_err-u-in-Case
eval_other-returns-in_err-u-in-Case t c = record { means = search rules; deep = search rules }

pub eval_other-returns-in_err-side-in-Case : goal.eval_other-returns-in_err-side-in-Case
eval_other-returns-in_err-side-in-Case t c = record { means = search rules; deep = search rules }

pub eval_other-side-requires : goal.eval_other-side-requires
eval_other-side-requires t c = case_can c.args.left c.args.scope.now.means (term_at c.args.nodes.now.value.terms c.args.i) (type_at c.args.nodes.now.value.types) (term_at c.args.nodes.now.value.terms) c.look-node.result.now.span c.look-node.result.now.form c.look-node.ensures.form c.requires.has c.in-Case.e c.in-Case.x c.in-Case.a c.in-Case.y c.in-Case.b c.in-Case.is c.in_ok-u-in-Case.u.means c.in_ok-u-in-Case.ensures.means

pub eval_other-is_left-requires-in-Case : goal.eval_other-is_left-requires-in-Case
eval_other-is_left-requires-in-Case t c = case_can c.args.left c.args.scope.now.means (term_at c.args.nodes.now.value.terms c.args.i) (type_at c.args.nodes.now.value.types) (term_at c.args.nodes.now.value.terms) c.look-node.result.now.span c.look-node.result.now.form c.look-node.ensures.form c.requires.has c.in-Case.e c.in-Case.x c.in-Case.a c.in-Case.y c.in-Case.b c.in-Case.is c.in_ok-u-in-Case.u.means c.in_ok-u-in-Case.ensures.means

pub eval_other-eval_under-requires-then-is_left-2 : goal.eval_other-eval_under-requires-then-is_left-2
eval_other-eval_under-requires-then-is_left-2 t c = (omega (arith, risen c.requires.has, c.in_ok-u-in-Case.ensures.deep, c.in_ok-side-in-Case.ensures.deep), ((let q = (subst (λ (f : Form). IsKnown (length c.args.nodes.now.value.types) c.args.i f) c.in-Case.is c.look-node.ensures.known) in let k = q.1 in omega (arith, k, c.requires.known)), case_left c.args.left c.args.scope.now.means (term_at c.args.nodes.now.value.terms c.args.i) (type_at c.args.nodes.now.value.types) (term_at c.args.nodes.now.value.terms) c.look-node.result.now.span c.look-node.result.now.form c.look-node.ensures.form c.requires.has c.in-Case.e c.in-Case.x c.in-Case.a c.in-Case.y c.in-Case.b c.in-Case.is c.in_ok-u-in-Case.u.means c.in_ok-side-in-Case.side.means c.in_ok-u-in-Case.ensures.means (c.is_left-in-Case.ensures.left c.if-is_left-2.true) c.in_ok-side-in-Case.ensures.means))

pub eval_other-eval_under-requires-else-is_left-2 : goal.eval_other-eval_under-requires-else-is_left-2
eval_other-eval_under-requires-else-is_left-2 t c = (omega (arith, risen c.requires.has, c.in_ok-u-in-Case.ensures.deep, c.in_ok-side-in-Case.ensures.deep), ((let q = (subst (λ (f : Form). IsKnown (length c.args.nodes.now.value.types) c.args.i f) c.in-Case.is c.look-node.ensures.known) in let k = q.2 in omega (arith, k, c.requires.known)), case_right c.args.left c.args.scope.now.means (term_at c.args.nodes.now.value.terms c.args.i) (type_at c.args.nodes.now.value.types) (term_at c.args.nodes.now.value.terms) c.look-node.result.now.span c.look-node.result.now.form c.look-node.ensures.form c.requires.has c.in-Case.e c.in-Case.x c.in-Case.a c.in-Case.y c.in-Case.b c.in-Case.is c.in_ok-u-in-Case.u.means c.in_ok-side-in-Case.side.means c.in_ok-u-in-Case.ensures.means (c.is_left-in-Case.ensures.right (λ h. absurd (cc (h, c.if-is_left-2.false)))) c.in_ok-side-in-Case.ensures.means))

pub eval_other-returns-then-is_left-2 : goal.eval_other-returns-then-is_left-2
eval_other-returns-then-is_left-2 t c = record { means = if_ok c.eval_under-then-is_left-2.result (λ v. MeansIn (c.args.left - 1) (Bind (name_of c.in-Case.x) c.in_ok-side-in-Case.side.means c.args.scope.now.means) ((term_at c.args.nodes.now.value.terms c.in-Case.a)) v) (λ v. MeansIn c.args.left c.args.scope.now.means ((term_at c.args.nodes.now.value.terms c.args.i)) v) c.eval_under-then-is_left-2.ensures.means (case_left_means c.args.left c.args.scope.now.means (term_at c.args.nodes.now.value.terms c.args.i) (type_at c.args.nodes.now.value.types) (term_at c.args.nodes.now.value.terms) c.look-node.result.now.span c.look-node.result.now.form c.look-node.ensures.form c.requires.has c.in-Case.e c.in-Case.x c.in-Case.a c.in-Case.y c.in-Case.b c.in-Case.is c.in_ok-u-in-Case.u.means c.in_ok-side-in-Case.side.means c.in_ok-u-in-Case.ensures.means (c.is_left-in-Case.ensures.left c.if-is_left-2.true) c.in_ok-side-in-Case.ensures.means); deep = by_ok c.eval_under-then-is_left-2.result _ _ c.eval_under-then-is_left-2.ensures.deep (λ v d. omega (arith, d, risen c.requires.has, c.in_ok-u-in-Case.ensures.deep, c.in_ok-side-in-Case.ensures.deep)) }

pub eval_other-returns-in-Case : goal.eval_other-returns-in-Case
eval_other-returns-in-Case t c = record { means = if_ok c.eval_under-else-is_left-2.result (λ v. MeansIn (c.args.left - 1) (Bind (name_of c.in-Case.y) c.in_ok-side-in-Case.side.means c.args.scope.now.means) ((term_at c.args.nodes.now.value.terms c.in-Case.b)) v) (λ v. MeansIn c.args.left c.args.scope.now.means ((term_at c.args.nodes.now.value.terms c.args.i)) v) c.eval_under-else-is_left-2.ensures.means (case_right_means c.args.left c.args.scope.now.means (term_at c.args.nodes.now.value.terms c.args.i) (type_at c.args.nodes.now.value.types) (term_at c.args.nodes.now.value.terms) c.look-node.result.now.span c.look-node.result.now.form c.look-node.ensures.form c.requires.has c.in-Case.e c.in-Case.x c.in-Case.a c.in-Case.y c.in-Case.b c.in-Case.is c.in_ok-u-in-Case.u.means c.in_ok-side-in-Case.side.means c.in_ok-u-in-Case.ensures.means (c.is_left-in-Case.ensures.right (λ h. absurd (cc (h, c.if-is_left-2.false)))) c.in_ok-side-in-Case.ensures.means); deep = by_ok c.eval_under-else-is_left-2.result _ _ c.eval_under-else-is_left-2.ensures.deep (λ v d. omega (arith, d, risen c.requires.has, c.in_ok-u-in-Case.ensures.deep, c.in_ok-side-in-Case.ensures.deep)) }

pub eval_other-returns-in_err-held-in-Lambda : goal.eval_other-returns-in_err-held-in-Lambda
eval_other-returns-in_err-held-in-Lambda t c = record { means = search rules; deep = search rules }

pub eval_other-returns-in_err-names-in-Lambda : goal.eval_other-returns-in_err-names-in-Lambda
eval_other-returns-in_err-names-in-Lambda t c = record { means = search rules; deep = search rules }

pub eval_other-closure-requires-clause-known : goal.eval_other-closure-requires-clause-known
eval_other-closure-requires-clause-known t c = subst (λ (p : Parts). c.args.i < length p.terms) (sym c.in_ok-held-in-Lambda.ensures.cases) c.requires.known

pub eval_other-closure-requires-clause-function : goal.eval_other-closure-requires-clause-function
eval_other-closure-requires-clause-function t c = subst (λ (p : Parts). IsFunction (term_at p.terms c.args.i)) (sym c.in_ok-held-in-Lambda.ensures.cases) (lambda_function c.args.left c.args.scope.now.means (term_at c.args.nodes.now.value.terms c.args.i) (type_at c.args.nodes.now.value.types) (term_at c.args.nodes.now.value.terms) c.look-node.result.now.span c.look-node.result.now.form c.look-node.ensures.form c.requires.has c.in-Lambda.field-0 c.in-Lambda.field-1 c.in-Lambda.field-2 c.in-Lambda.field-3 c.in-Lambda.field-4 c.in-Lambda.is)

pub eval_other-returns : goal.eval_other-returns
eval_other-returns t c = record { means = if_ok c.closure.result (λ v. v ≡ function_of (term_at c.in_ok-held-in-Lambda.held.value.terms c.args.i) c.in_ok-names-in-Lambda.names.means) (λ v. MeansIn c.args.left c.args.scope.now.means ((term_at c.args.nodes.now.value.terms c.args.i)) v) c.closure.ensures.means (λ v g. lambda_means c.args.left c.args.scope.now.means (term_at c.args.nodes.now.value.terms c.args.i) (type_at c.args.nodes.now.value.types) (term_at c.args.nodes.now.value.terms) c.look-node.result.now.span c.look-node.result.now.form c.look-node.ensures.form c.requires.has c.in-Lambda.field-0 c.in-Lambda.field-1 c.in-Lambda.field-2 c.in-Lambda.field-3 c.in-Lambda.field-4 c.in-Lambda.is v (g ∙ ap (λ p. function_of (term_at p.terms c.args.i) c.in_ok-names-in-Lambda.names.means) c.in_ok-held-in-Lambda.ensures.cases ∙ ap (λ s. function_of (term_at c.args.nodes.now.value.terms c.args.i) s.means) c.in_ok-names-in-Lambda.ensures)); deep = by_ok c.closure.result _ _ c.closure.ensures.deep (λ v d. omega (arith, d, risen c.requires.has, ap (λ (h : HeldScope). h.deep) c.in_ok-names-in-Lambda.ensures)) }

pub eval_other-eval-requires-in-Ranged : goal.eval_other-eval-requires-in-Ranged
eval_other-eval-requires-in-Ranged t c = (omega (arith, risen c.requires.has), ((let q = (subst (λ (f : Form). IsKnown (length c.args.nodes.now.value.types) c.args.i f) c.in-Ranged.is c.look-node.ensures.known) in let k = q in omega (arith, k, c.requires.known)), ranged_has c.args.left c.args.scope.now.means (term_at c.args.nodes.now.value.terms c.args.i) (type_at c.args.nodes.now.value.types) (term_at c.args.nodes.now.value.terms) c.look-node.result.now.span c.look-node.result.now.form c.look-node.ensures.form c.requires.has c.in-Ranged.form c.in-Ranged.lo c.in-Ranged.hi c.in-Ranged.e c.in-Ranged.is))

pub eval_other-returns-in_err-u-in-Ranged : goal.eval_other-returns-in_err-u-in-Ranged
eval_other-returns-in_err-u-in-Ranged t c = record { means = search rules; deep = search rules }

pub eval_other-bounded-requires : goal.eval_other-bounded-requires
eval_other-bounded-requires t c = (
  omega (arith, risen c.requires.has, c.in_ok-u-in-Ranged.ensures.deep),
  subst (λ (lo : ℤ). CanRanged c.in-Ranged.form lo (to_z w64 (of_z w64 c.in-Ranged.hi)) c.in_ok-u-in-Ranged.u.means) (sym (low_held (term_at c.args.nodes.now.value.terms c.args.i) (type_at c.args.nodes.now.value.types) (term_at c.args.nodes.now.value.terms) c.look-node.result.now.span c.look-node.result.now.form c.look-node.ensures.form c.look-node.ensures.limits c.in-Ranged.form c.in-Ranged.lo c.in-Ranged.hi c.in-Ranged.e c.in-Ranged.is))
      (subst (λ (hi : ℤ). CanRanged c.in-Ranged.form c.in-Ranged.lo hi c.in_ok-u-in-Ranged.u.means) (sym (high_held (term_at c.args.nodes.now.value.terms c.args.i) (type_at c.args.nodes.now.value.types) (term_at c.args.nodes.now.value.terms) c.look-node.result.now.span c.look-node.result.now.form c.look-node.ensures.form c.look-node.ensures.limits c.in-Ranged.form c.in-Ranged.lo c.in-Ranged.hi c.in-Ranged.e c.in-Ranged.is)) (ranged_can c.args.left c.args.scope.now.means (term_at c.args.nodes.now.value.terms c.args.i) (type_at c.args.nodes.now.value.types) (term_at c.args.nodes.now.value.terms) c.look-node.result.now.span c.look-node.result.now.form c.look-node.ensures.form c.requires.has c.in-Ranged.form c.in-Ranged.lo c.in-Ranged.hi c.in-Ranged.e c.in-Ranged.is c.in_ok-u-in-Ranged.u.means c.in_ok-u-in-Ranged.ensures.means)),
)

pub eval_other-returns-in-Ranged : goal.eval_other-returns-in-Ranged
eval_other-returns-in-Ranged t c = record {
  means = if_ok c.bounded.result (λ v. GivesRanged c.in-Ranged.form (to_z w64 (of_z w64 c.in-Ranged.lo)) (to_z w64 (of_z w64 c.in-Ranged.hi)) c.in_ok-u-in-Ranged.u.means v) (λ v. MeansIn c.args.left c.args.scope.now.means ((term_at c.args.nodes.now.value.terms c.args.i)) v) c.bounded.ensures.gives
      (λ v g. ranged_means c.args.left c.args.scope.now.means (term_at c.args.nodes.now.value.terms c.args.i) (type_at c.args.nodes.now.value.types) (term_at c.args.nodes.now.value.terms) c.look-node.result.now.span c.look-node.result.now.form c.look-node.ensures.form c.requires.has c.in-Ranged.form c.in-Ranged.lo c.in-Ranged.hi c.in-Ranged.e c.in-Ranged.is c.in_ok-u-in-Ranged.u.means c.in_ok-u-in-Ranged.ensures.means v
      (subst (λ (lo : ℤ). GivesRanged c.in-Ranged.form lo c.in-Ranged.hi c.in_ok-u-in-Ranged.u.means v) (low_held (term_at c.args.nodes.now.value.terms c.args.i) (type_at c.args.nodes.now.value.types) (term_at c.args.nodes.now.value.terms) c.look-node.result.now.span c.look-node.result.now.form c.look-node.ensures.form c.look-node.ensures.limits c.in-Ranged.form c.in-Ranged.lo c.in-Ranged.hi c.in-Ranged.e c.in-Ranged.is)
      (subst (λ (hi : ℤ). GivesRanged c.in-Ranged.form (to_z w64 (of_z w64 c.in-Ranged.lo)) hi c.in_ok-u-in-Ranged.u.means v) (high_held (term_at c.args.nodes.now.value.terms c.args.i) (type_at c.args.nodes.now.value.types) (term_at c.args.nodes.now.value.terms) c.look-node.result.now.span c.look-node.result.now.form c.look-node.ensures.form c.look-node.ensures.limits c.in-Ranged.form c.in-Ranged.lo c.in-Ranged.hi c.in-Ranged.e c.in-Ranged.is) g)));
  deep = by_ok c.bounded.result _ _ c.bounded.ensures.deep (λ v d. omega (arith, d));
}

pub apply_to_element-returns-in_err-bind_element-clause-gives : goal.apply_to_element-returns-in_err-bind_element-clause-gives
apply_to_element-returns-in_err-bind_element-clause-gives t c = search rules

pub apply_to_element-returns-in_err-bind_element-clause-function : goal.apply_to_element-returns-in_err-bind_element-clause-function
apply_to_element-returns-in_err-bind_element-clause-function t c = search rules

pub apply_to_element-eval-requires : goal.apply_to_element-eval-requires
apply_to_element-eval-requires t c = (omega (arith, c.in_ok-bind_element.ensures.deep), (c.requires.known, subst (λ (γ : Env). HasValueWithin c.args.left γ (term_at c.args.nodes.now.value.terms c.args.body.term)) (sym c.in_ok-bind_element.ensures.means) (element_has c.args.left c.args.body.arrow (term_at c.args.nodes.now.value.terms c.args.body.term) c.args.x.means c.args.inner.now.means c.requires.can)))

pub apply_to_element-returns-clause-gives : goal.apply_to_element-returns-clause-gives
apply_to_element-returns-clause-gives t c = if_ok c.eval.result (λ v. MeansIn c.args.left (rebound c.args.inner.now.means (bound_element c.args.body.arrow c.args.x.means)) (term_at c.args.nodes.now.value.terms c.args.body.term) v) (λ v. Applies (MeansIn c.args.left) (function_inside c.args.body.arrow c.args.inner.now.means (term_at c.args.nodes.now.value.terms c.args.body.term)) (BangV c.args.x.means) v) (subst (λ (γ : Env). IfOk c.eval.result (λ v. MeansIn c.args.left γ (term_at c.args.nodes.now.value.terms c.args.body.term) v.means)) c.in_ok-bind_element.ensures.means c.eval.ensures.means) (element_gives c.args.left c.args.body.arrow (term_at c.args.nodes.now.value.terms c.args.body.term) c.args.x.means c.args.inner.now.means c.requires.can)

pub apply_to_element-returns-clause-function : goal.apply_to_element-returns-clause-function
apply_to_element-returns-clause-function t c = on_ok c.eval.result _ (ap (λ γ. function_inside c.args.body.arrow γ (term_at c.args.nodes.now.value.terms c.args.body.term)) c.in_ok-bind_element.ensures.means ∙ same_function c.args.body.arrow (term_at c.args.nodes.now.value.terms c.args.body.term) c.args.inner.now.means (bound_element c.args.body.arrow c.args.x.means))

pub eval-overflow_sub-below : goal.eval-overflow_sub-below
eval-overflow_sub-below t c = omega (arith, above c.requires.has)

pub eval-look-requires : goal.eval-look-requires
eval-look-requires t c = c.requires.known

pub eval-find-requires : goal.eval-find-requires
eval-find-requires t c = var_known c.args.left c.args.scope.now.means (term_at c.args.nodes.now.value.terms c.args.i) (type_at c.args.nodes.now.value.types) (term_at c.args.nodes.now.value.terms) c.look.result.now.span c.look.result.now.form c.look.ensures.form c.requires.has c.in-Var.name c.in-Var.is

pub eval-returns-in-Var : goal.eval-returns-in-Var
eval-returns-in-Var t c = record { means = if_ok c.find.result (λ v. find c.args.scope.now.means (name_of c.in-Var.name) ≡ Some v) (λ v. MeansIn c.args.left c.args.scope.now.means (term_at c.args.nodes.now.value.terms c.args.i) v) c.find.ensures.means (var_means c.args.left c.args.scope.now.means (term_at c.args.nodes.now.value.terms c.args.i) (type_at c.args.nodes.now.value.types) (term_at c.args.nodes.now.value.terms) c.look.result.now.span c.look.result.now.form c.look.ensures.form c.requires.has c.in-Var.name c.in-Var.is); deep = by_ok c.find.result _ _ c.find.ensures.deep (λ v d. omega (arith, d)) }

pub eval-returns-in-Num : goal.eval-returns-in-Num
eval-returns-in-Num t c = record { means = num_means c.args.left c.args.scope.now.means (term_at c.args.nodes.now.value.terms c.args.i) (type_at c.args.nodes.now.value.types) (term_at c.args.nodes.now.value.terms) c.look.result.now.span c.look.result.now.form c.look.ensures.form c.requires.has c.in-Num.z c.in-Num.is c.num.result.means (c.num.ensures.means ∙ ap NumV (num_held (term_at c.args.nodes.now.value.terms c.args.i) (type_at c.args.nodes.now.value.types) (term_at c.args.nodes.now.value.terms) c.look.result.now.span c.look.result.now.form c.look.ensures.form c.look.ensures.limits c.in-Num.z c.in-Num.is)); deep = omega (arith, c.num.ensures.deep) }

pub eval-eval_two-requires : goal.eval-eval_two-requires
eval-eval_two-requires t c = (omega (arith, risen c.requires.has), ((let q = subst (λ (f : Form). IsKnown (length c.args.nodes.now.value.types) c.args.i f) c.in-Binary.is c.look.ensures.known in let k = q.0 in omega (arith, k, c.requires.known)), ((let q = subst (λ (f : Form). IsKnown (length c.args.nodes.now.value.types) c.args.i f) c.in-Binary.is c.look.ensures.known in let k = q.1 in omega (arith, k, c.requires.known)), form_has c.args.left c.args.scope.now.means (term_at c.args.nodes.now.value.terms c.args.i) (type_at c.args.nodes.now.value.types) (term_at c.args.nodes.now.value.terms) c.look.result.now.span c.look.result.now.form c.look.ensures.form c.requires.has (Op2 c.in-Binary.form c.in-Binary.a c.in-Binary.b) c.in-Binary.is)))

pub eval-returns-in-Binary : goal.eval-returns-in-Binary
eval-returns-in-Binary t c = record { means = if_ok c.eval_two.result (λ v. Rules (MeansIn (c.args.left - 1)) c.args.scope.now.means (binary c.in-Binary.form (term_at c.args.nodes.now.value.terms c.in-Binary.a) (term_at c.args.nodes.now.value.terms c.in-Binary.b)) v) (λ v. MeansIn c.args.left c.args.scope.now.means (term_at c.args.nodes.now.value.terms c.args.i) v) c.eval_two.ensures.means (form_means c.args.left c.args.scope.now.means (term_at c.args.nodes.now.value.terms c.args.i) (type_at c.args.nodes.now.value.types) (term_at c.args.nodes.now.value.terms) c.look.result.now.span c.look.result.now.form c.look.ensures.form c.requires.has (Op2 c.in-Binary.form c.in-Binary.a c.in-Binary.b) c.in-Binary.is); deep = by_ok c.eval_two.result _ _ c.eval_two.ensures.deep (λ v d. omega (arith, d, risen c.requires.has)) }

pub eval-eval_pair-requires : goal.eval-eval_pair-requires
eval-eval_pair-requires t c = (omega (arith, risen c.requires.has), ((let q = subst (λ (f : Form). IsKnown (length c.args.nodes.now.value.types) c.args.i f) c.in-LetPair.is c.look.ensures.known in let k = q.0 in omega (arith, k, c.requires.known)), ((let q = subst (λ (f : Form). IsKnown (length c.args.nodes.now.value.types) c.args.i f) c.in-LetPair.is c.look.ensures.known in let k = q.1 in omega (arith, k, c.requires.known)), form_has c.args.left c.args.scope.now.means (term_at c.args.nodes.now.value.terms c.args.i) (type_at c.args.nodes.now.value.types) (term_at c.args.nodes.now.value.terms) c.look.result.now.span c.look.result.now.form c.look.ensures.form c.requires.has (LetPair c.in-LetPair.x c.in-LetPair.y c.in-LetPair.e c.in-LetPair.b) c.in-LetPair.is)))

pub eval-returns-in-LetPair : goal.eval-returns-in-LetPair
eval-returns-in-LetPair t c = record { means = if_ok c.eval_pair.result (λ v. Rules (MeansIn (c.args.left - 1)) c.args.scope.now.means (LetPairE (name_of c.in-LetPair.x) (name_of c.in-LetPair.y) (term_at c.args.nodes.now.value.terms c.in-LetPair.e) (term_at c.args.nodes.now.value.terms c.in-LetPair.b)) v) (λ v. MeansIn c.args.left c.args.scope.now.means (term_at c.args.nodes.now.value.terms c.args.i) v) c.eval_pair.ensures.means (form_means c.args.left c.args.scope.now.means (term_at c.args.nodes.now.value.terms c.args.i) (type_at c.args.nodes.now.value.types) (term_at c.args.nodes.now.value.terms) c.look.result.now.span c.look.result.now.form c.look.ensures.form c.requires.has (LetPair c.in-LetPair.x c.in-LetPair.y c.in-LetPair.e c.in-LetPair.b) c.in-LetPair.is); deep = by_ok c.eval_pair.result _ _ c.eval_pair.ensures.deep (λ v d. omega (arith, d, risen c.requires.has)) }

pub eval_other-eval_two-requires : goal.eval_other-eval_two-requires
eval_other-eval_two-requires t c = (omega (arith, risen c.requires.has), ((let q = subst (λ (f : Form). IsKnown (length c.args.nodes.now.value.types) c.args.i f) c.in-Binary.is c.look-node.ensures.known in let k = q.0 in omega (arith, k, c.requires.known)), ((let q = subst (λ (f : Form). IsKnown (length c.args.nodes.now.value.types) c.args.i f) c.in-Binary.is c.look-node.ensures.known in let k = q.1 in omega (arith, k, c.requires.known)), form_has c.args.left c.args.scope.now.means (term_at c.args.nodes.now.value.terms c.args.i) (type_at c.args.nodes.now.value.types) (term_at c.args.nodes.now.value.terms) c.look-node.result.now.span c.look-node.result.now.form c.look-node.ensures.form c.requires.has (Op2 c.in-Binary.form c.in-Binary.a c.in-Binary.b) c.in-Binary.is)))

pub eval_other-returns-in-Binary : goal.eval_other-returns-in-Binary
eval_other-returns-in-Binary t c = record { means = if_ok c.eval_two.result (λ v. Rules (MeansIn (c.args.left - 1)) c.args.scope.now.means (binary c.in-Binary.form (term_at c.args.nodes.now.value.terms c.in-Binary.a) (term_at c.args.nodes.now.value.terms c.in-Binary.b)) v) (λ v. MeansIn c.args.left c.args.scope.now.means (term_at c.args.nodes.now.value.terms c.args.i) v) c.eval_two.ensures.means (form_means c.args.left c.args.scope.now.means (term_at c.args.nodes.now.value.terms c.args.i) (type_at c.args.nodes.now.value.types) (term_at c.args.nodes.now.value.terms) c.look-node.result.now.span c.look-node.result.now.form c.look-node.ensures.form c.requires.has (Op2 c.in-Binary.form c.in-Binary.a c.in-Binary.b) c.in-Binary.is); deep = by_ok c.eval_two.result _ _ c.eval_two.ensures.deep (λ v d. omega (arith, d, risen c.requires.has)) }

pub eval_other-eval_pair-requires : goal.eval_other-eval_pair-requires
eval_other-eval_pair-requires t c = (omega (arith, risen c.requires.has), ((let q = subst (λ (f : Form). IsKnown (length c.args.nodes.now.value.types) c.args.i f) c.in-LetPair.is c.look-node.ensures.known in let k = q.0 in omega (arith, k, c.requires.known)), ((let q = subst (λ (f : Form). IsKnown (length c.args.nodes.now.value.types) c.args.i f) c.in-LetPair.is c.look-node.ensures.known in let k = q.1 in omega (arith, k, c.requires.known)), form_has c.args.left c.args.scope.now.means (term_at c.args.nodes.now.value.terms c.args.i) (type_at c.args.nodes.now.value.types) (term_at c.args.nodes.now.value.terms) c.look-node.result.now.span c.look-node.result.now.form c.look-node.ensures.form c.requires.has (LetPair c.in-LetPair.x c.in-LetPair.y c.in-LetPair.e c.in-LetPair.b) c.in-LetPair.is)))

pub eval_other-returns-in-LetPair : goal.eval_other-returns-in-LetPair
eval_other-returns-in-LetPair t c = record { means = if_ok c.eval_pair.result (λ v. Rules (MeansIn (c.args.left - 1)) c.args.scope.now.means (LetPairE (name_of c.in-LetPair.x) (name_of c.in-LetPair.y) (term_at c.args.nodes.now.value.terms c.in-LetPair.e) (term_at c.args.nodes.now.value.terms c.in-LetPair.b)) v) (λ v. MeansIn c.args.left c.args.scope.now.means (term_at c.args.nodes.now.value.terms c.args.i) v) c.eval_pair.ensures.means (form_means c.args.left c.args.scope.now.means (term_at c.args.nodes.now.value.terms c.args.i) (type_at c.args.nodes.now.value.types) (term_at c.args.nodes.now.value.terms) c.look-node.result.now.span c.look-node.result.now.form c.look-node.ensures.form c.requires.has (LetPair c.in-LetPair.x c.in-LetPair.y c.in-LetPair.e c.in-LetPair.b) c.in-LetPair.is); deep = by_ok c.eval_pair.result _ _ c.eval_pair.ensures.deep (λ v d. omega (arith, d, risen c.requires.has)) }

pub eval-eval_other-requires : goal.eval-eval_other-requires
eval-eval_other-requires t c = (omega arith, (c.requires.known, c.requires.has))

pub eval-returns-in_default : goal.eval-returns-in_default
eval-returns-in_default t c = record { means = c.eval_other.ensures.means; deep = c.eval_other.ensures.deep }

pub eval_two-eval_equal-requires : goal.eval_two-eval_equal-requires
eval_two-eval_equal-requires t c = (omega arith, (c.requires.a_known, (c.requires.b_known, form_here c.args.left c.args.scope.now.means c.args.form Equal (term_at c.args.nodes.now.value.terms c.args.a) (term_at c.args.nodes.now.value.terms c.args.b) c.in-Equal.is c.requires.has)))

pub eval_two-returns-in-Equal : goal.eval_two-returns-in-Equal
eval_two-returns-in-Equal t c = record { means = if_ok c.eval_equal.result (λ v. Rules (MeansIn c.args.left) c.args.scope.now.means (EqE (term_at c.args.nodes.now.value.terms c.args.a) (term_at c.args.nodes.now.value.terms c.args.b)) v) (λ v. Rules (MeansIn c.args.left) c.args.scope.now.means (binary c.args.form (term_at c.args.nodes.now.value.terms c.args.a) (term_at c.args.nodes.now.value.terms c.args.b)) v) c.eval_equal.ensures.means (means_here c.args.left c.args.scope.now.means c.args.form Equal (term_at c.args.nodes.now.value.terms c.args.a) (term_at c.args.nodes.now.value.terms c.args.b) c.in-Equal.is); deep = by_ok c.eval_equal.result _ _ c.eval_equal.ensures.deep (λ v d. omega (arith, d)) }

pub eval_two-eval-requires : goal.eval_two-eval-requires
eval_two-eval-requires t c = (omega arith, (c.requires.a_known, first_has c.args.left c.args.scope.now.means c.args.form (term_at c.args.nodes.now.value.terms c.args.a) (term_at c.args.nodes.now.value.terms c.args.b) c.requires.has))

pub eval_two-eval-requires-in_default-form : goal.eval_two-eval-requires-in_default-form
eval_two-eval-requires-in_default-form t c = (omega arith, (c.requires.b_known, second_has c.args.left c.args.scope.now.means c.args.form (term_at c.args.nodes.now.value.terms c.args.a) (term_at c.args.nodes.now.value.terms c.args.b) c.requires.has))

pub eval_two-returns-in_err-u-in_default-form : goal.eval_two-returns-in_err-u-in_default-form
eval_two-returns-in_err-u-in_default-form t c = record { means = search rules; deep = search rules }

pub eval_two-returns-in_err-w-in_default-form : goal.eval_two-returns-in_err-w-in_default-form
eval_two-returns-in_err-w-in_default-form t c = record { means = search rules; deep = search rules }

pub eval_two-same-u : goal.eval_two-same-u
eval_two-same-u t c = search rules

pub eval_two-combine-requires : goal.eval_two-combine-requires
eval_two-combine-requires t c = (omega (arith, c.in_ok-u-in_default-form.ensures.deep, c.in_ok-w-in_default-form.ensures.deep), binary_can c.args.left c.args.scope.now.means c.args.form (term_at c.args.nodes.now.value.terms c.args.a) (term_at c.args.nodes.now.value.terms c.args.b) c.requires.has c.in_ok-u-in_default-form.u.means c.in_ok-w-in_default-form.w.means c.in_ok-u-in_default-form.ensures.means c.in_ok-w-in_default-form.ensures.means)

pub eval_two-returns-in_ok-w-in_default-form : goal.eval_two-returns-in_ok-w-in_default-form
eval_two-returns-in_ok-w-in_default-form t c = record { means = if_ok c.combine.result (λ v. Gives2 (MeansIn c.args.left) c.args.form c.in_ok-u-in_default-form.u.means c.in_ok-w-in_default-form.w.means v) (λ v. Rules (MeansIn c.args.left) c.args.scope.now.means (binary c.args.form (term_at c.args.nodes.now.value.terms c.args.a) (term_at c.args.nodes.now.value.terms c.args.b)) v) c.combine.ensures.gives (binary_means c.args.left c.args.scope.now.means c.args.form (term_at c.args.nodes.now.value.terms c.args.a) (term_at c.args.nodes.now.value.terms c.args.b) c.requires.has c.in_ok-u-in_default-form.u.means c.in_ok-w-in_default-form.w.means c.in_ok-u-in_default-form.ensures.means c.in_ok-w-in_default-form.ensures.means); deep = by_ok c.combine.result _ _ c.combine.ensures.deep (λ v d. omega (arith, d, c.in_ok-u-in_default-form.ensures.deep, c.in_ok-w-in_default-form.ensures.deep)) }

pub eval_equal-look-requires : goal.eval_equal-look-requires
eval_equal-look-requires t c = c.requires.b_known

pub eval_equal-look-requires-2 : goal.eval_equal-look-requires-2
eval_equal-look-requires-2 t c = c.requires.a_known

pub eval_equal-eval-requires : goal.eval_equal-eval-requires
eval_equal-eval-requires t c = (omega arith, (c.requires.a_known, left_has c.args.left c.args.scope.now.means (term_at c.args.nodes.now.value.terms c.args.a) (term_at c.args.nodes.now.value.terms c.args.b) c.requires.has))

pub eval_equal-is_text-requires : goal.eval_equal-is_text-requires
eval_equal-is_text-requires t c = left_text c.args.left c.args.scope.now.means (term_at c.args.nodes.now.value.terms c.args.a) (term_at c.args.nodes.now.value.terms c.args.b) c.requires.has c.look.result.now.span (text_of c.in-Text.text) (c.look.ensures.form ∙ ap (term_of (type_at c.args.nodes.now.value.types) (term_at c.args.nodes.now.value.terms) c.look.result.now.span) c.in-Text.is) c.in_ok-u.u.means c.in_ok-u.ensures.means

pub eval_equal-returns-in-Text : goal.eval_equal-returns-in-Text
eval_equal-returns-in-Text t c = record { means = left_compared c.args.left c.args.scope.now.means (term_at c.args.nodes.now.value.terms c.args.a) (term_at c.args.nodes.now.value.terms c.args.b) c.requires.has c.look.result.now.span (text_of c.in-Text.text) (c.look.ensures.form ∙ ap (term_of (type_at c.args.nodes.now.value.types) (term_at c.args.nodes.now.value.terms) c.look.result.now.span) c.in-Text.is) c.in_ok-u.u.means c.in_ok-u.ensures.means c.is_text.result c.is_text.ensures c.truth.result.means c.truth.ensures.means; deep = c.truth.ensures.deep }

pub eval_equal-is_text-requires-in-Text-form : goal.eval_equal-is_text-requires-in-Text-form
eval_equal-is_text-requires-in-Text-form t c = right_text c.args.left c.args.scope.now.means (term_at c.args.nodes.now.value.terms c.args.a) (term_at c.args.nodes.now.value.terms c.args.b) c.requires.has c.look-2.result.now.span (text_of c.in-Text-form.text) (c.look-2.ensures.form ∙ ap (term_of (type_at c.args.nodes.now.value.types) (term_at c.args.nodes.now.value.terms) c.look-2.result.now.span) c.in-Text-form.is) c.in_ok-w.w.means c.in_ok-w.ensures.means

pub eval_equal-returns-in-Text-form : goal.eval_equal-returns-in-Text-form
eval_equal-returns-in-Text-form t c = record { means = right_compared c.args.left c.args.scope.now.means (term_at c.args.nodes.now.value.terms c.args.a) (term_at c.args.nodes.now.value.terms c.args.b) c.requires.has c.look-2.result.now.span (text_of c.in-Text-form.text) (c.look-2.ensures.form ∙ ap (term_of (type_at c.args.nodes.now.value.types) (term_at c.args.nodes.now.value.terms) c.look-2.result.now.span) c.in-Text-form.is) c.in_ok-w.w.means c.in_ok-w.ensures.means c.is_text-in-Text-form.result c.is_text-in-Text-form.ensures c.truth-in-Text-form.result.means c.truth-in-Text-form.ensures.means; deep = c.truth-in-Text-form.ensures.deep }

pub eval_equal-equal-requires : goal.eval_equal-equal-requires
eval_equal-equal-requires t c = can_compare c.args.left c.args.scope.now.means (term_at c.args.nodes.now.value.terms c.args.a) (term_at c.args.nodes.now.value.terms c.args.b) c.requires.has c.in_ok-u-2.u.means c.in_ok-w-2.w.means c.in_ok-u-2.ensures.means c.in_ok-w-2.ensures.means

pub eval_equal-returns : goal.eval_equal-returns
eval_equal-returns t c = record { means = compared c.args.left c.args.scope.now.means (term_at c.args.nodes.now.value.terms c.args.a) (term_at c.args.nodes.now.value.terms c.args.b) c.requires.has c.in_ok-u-2.u.means c.in_ok-w-2.w.means c.in_ok-u-2.ensures.means c.in_ok-w-2.ensures.means c.equal.result c.equal.ensures.numbers c.equal.ensures.texts c.truth-2.result.means c.truth-2.ensures.means; deep = c.truth-2.ensures.deep }

pub eval_equal-eval-requires-in-Text-form : goal.eval_equal-eval-requires-in-Text-form
eval_equal-eval-requires-in-Text-form t c = (omega arith, (c.requires.b_known, right_has c.args.left c.args.scope.now.means (term_at c.args.nodes.now.value.terms c.args.a) (term_at c.args.nodes.now.value.terms c.args.b) c.requires.has))

pub eval_equal-eval-requires-2 : goal.eval_equal-eval-requires-2
eval_equal-eval-requires-2 t c = (omega arith, (c.requires.a_known, left_has c.args.left c.args.scope.now.means (term_at c.args.nodes.now.value.terms c.args.a) (term_at c.args.nodes.now.value.terms c.args.b) c.requires.has))

pub eval_equal-eval-requires-3 : goal.eval_equal-eval-requires-3
eval_equal-eval-requires-3 t c = (omega arith, (c.requires.b_known, right_has c.args.left c.args.scope.now.means (term_at c.args.nodes.now.value.terms c.args.a) (term_at c.args.nodes.now.value.terms c.args.b) c.requires.has))

pub eval_equal-returns-in_err-u : goal.eval_equal-returns-in_err-u
eval_equal-returns-in_err-u t c = record { means = search rules; deep = search rules }

pub eval_equal-returns-in_err-w : goal.eval_equal-returns-in_err-w
eval_equal-returns-in_err-w t c = record { means = search rules; deep = search rules }

pub eval_equal-returns-in_err-u-2 : goal.eval_equal-returns-in_err-u-2
eval_equal-returns-in_err-u-2 t c = record { means = search rules; deep = search rules }

pub eval_equal-returns-in_err-w-2 : goal.eval_equal-returns-in_err-w-2
eval_equal-returns-in_err-w-2 t c = record { means = search rules; deep = search rules }

pub eval_two-at_once-requires : goal.eval_two-at_once-requires
eval_two-at_once-requires t c = record { a_known = c.requires.a_known; b_known = c.requires.b_known }

pub eval_two-returns-in-Some : goal.eval_two-returns-in-Some
eval_two-returns-in-Some t c = record { means = at_once_means c.args.left c.args.scope.now.means c.args.form (term_at c.args.nodes.now.value.terms c.args.a) (term_at c.args.nodes.now.value.terms c.args.b) c.requires.has c.in-Some.v.means (subst (λ (o : Option Held). IfSome o (λ v. GivesAtOnce c.args.scope.now.means c.args.form (term_at c.args.nodes.now.value.terms c.args.a) (term_at c.args.nodes.now.value.terms c.args.b) v.means)) c.in-Some.is c.at_once.ensures.gives); deep = let e : c.in-Some.v.deep ≡ 0 = subst (λ (o : Option Held). IfSome o (λ v. v.deep ≡ 0)) c.in-Some.is c.at_once.ensures.deep in omega (arith, e) }

pub eval_pair-taken_apart-requires : goal.eval_pair-taken_apart-requires
eval_pair-taken_apart-requires t c = c.requires.e_known

pub eval_pair-eval-requires : goal.eval_pair-eval-requires
eval_pair-eval-requires t c = (omega (arith, subst (λ (o : Option HeldScope). IfSome o (λ s. s.deep ≤ c.args.scope.now.deep + 4)) c.in-Some.is c.in_ok-inner.ensures.deep), (c.requires.b_known, apart_inside c.args.left c.args.scope.now.means (name_of c.args.x.now) (name_of c.args.y.now) (term_at c.args.nodes.now.value.terms c.args.e) (term_at c.args.nodes.now.value.terms c.args.b) c.requires.has c.in-Some.inner.means (subst (λ (o : Option HeldScope). IfSome o (λ s. TakesApart c.args.scope.now.means (name_of c.args.x.now) (name_of c.args.y.now) (term_at c.args.nodes.now.value.terms c.args.e) s.means)) c.in-Some.is c.in_ok-inner.ensures.apart)))

pub eval_pair-returns-in-Some : goal.eval_pair-returns-in-Some
eval_pair-returns-in-Some t c = record { means = if_ok c.eval.result (λ v. MeansIn c.args.left c.in-Some.inner.means (term_at c.args.nodes.now.value.terms c.args.b) v) (λ v. Rules (MeansIn c.args.left) c.args.scope.now.means (LetPairE (name_of c.args.x.now) (name_of c.args.y.now) (term_at c.args.nodes.now.value.terms c.args.e) (term_at c.args.nodes.now.value.terms c.args.b)) v) c.eval.ensures.means (apart_means c.args.left c.args.scope.now.means (name_of c.args.x.now) (name_of c.args.y.now) (term_at c.args.nodes.now.value.terms c.args.e) (term_at c.args.nodes.now.value.terms c.args.b) c.requires.has c.in-Some.inner.means (subst (λ (o : Option HeldScope). IfSome o (λ s. TakesApart c.args.scope.now.means (name_of c.args.x.now) (name_of c.args.y.now) (term_at c.args.nodes.now.value.terms c.args.e) s.means)) c.in-Some.is c.in_ok-inner.ensures.apart)); deep = by_ok c.eval.result _ _ c.eval.ensures.deep (λ v d. omega (arith, d, subst (λ (o : Option HeldScope). IfSome o (λ s. s.deep ≤ c.args.scope.now.deep + 4)) c.in-Some.is c.in_ok-inner.ensures.deep)) }

pub eval_pair-eval-requires-2 : goal.eval_pair-eval-requires-2
eval_pair-eval-requires-2 t c = (omega arith, (c.requires.e_known, pair_has c.args.left c.args.scope.now.means (name_of c.args.x.now) (name_of c.args.y.now) (term_at c.args.nodes.now.value.terms c.args.e) (term_at c.args.nodes.now.value.terms c.args.b) c.requires.has))

pub eval_pair-returns-in_err-u : goal.eval_pair-returns-in_err-u
eval_pair-returns-in_err-u t c = record { means = search rules; deep = search rules }

pub eval_pair-with_halves-requires : goal.eval_pair-with_halves-requires
eval_pair-with_halves-requires t c = pair_can c.args.left c.args.scope.now.means (name_of c.args.x.now) (name_of c.args.y.now) (term_at c.args.nodes.now.value.terms c.args.e) (term_at c.args.nodes.now.value.terms c.args.b) c.requires.has c.in_ok-u.u.means c.in_ok-u.ensures.means

pub eval_pair-returns-in_err-inner : goal.eval_pair-returns-in_err-inner
eval_pair-returns-in_err-inner t c = record { means = search rules; deep = search rules }

pub eval_pair-returns-in_err-inner-2 : goal.eval_pair-returns-in_err-inner-2
eval_pair-returns-in_err-inner-2 t c = record { means = search rules; deep = search rules }

pub eval_pair-eval-requires-3 : goal.eval_pair-eval-requires-3
eval_pair-eval-requires-3 t c = (omega (arith, c.in_ok-u.ensures.deep, c.in_ok-inner-2.ensures.deep), (c.requires.b_known, pair_inside c.args.left c.args.scope.now.means (name_of c.args.x.now) (name_of c.args.y.now) (term_at c.args.nodes.now.value.terms c.args.e) (term_at c.args.nodes.now.value.terms c.args.b) c.requires.has c.in_ok-u.u.means c.in_ok-u.ensures.means c.in_ok-inner-2.inner.means c.in_ok-inner-2.ensures.means))

pub eval_pair-returns : goal.eval_pair-returns
eval_pair-returns t c = record { means = if_ok c.eval-3.result (λ v. MeansIn c.args.left c.in_ok-inner-2.inner.means (term_at c.args.nodes.now.value.terms c.args.b) v) (λ v. Rules (MeansIn c.args.left) c.args.scope.now.means (LetPairE (name_of c.args.x.now) (name_of c.args.y.now) (term_at c.args.nodes.now.value.terms c.args.e) (term_at c.args.nodes.now.value.terms c.args.b)) v) c.eval-3.ensures.means (pair_means c.args.left c.args.scope.now.means (name_of c.args.x.now) (name_of c.args.y.now) (term_at c.args.nodes.now.value.terms c.args.e) (term_at c.args.nodes.now.value.terms c.args.b) c.requires.has c.in_ok-u.u.means c.in_ok-u.ensures.means c.in_ok-inner-2.inner.means c.in_ok-inner-2.ensures.means); deep = by_ok c.eval-3.result _ _ c.eval-3.ensures.deep (λ v d. omega (arith, d, c.in_ok-u.ensures.deep, c.in_ok-inner-2.ensures.deep)) }

pub word-tally-requires : goal.word-tally-requires
word-tally-requires t c = (omega arith, (size_bag c.args.form c.args.u.now.means c.in-Size.is c.requires, size_weighed c.args.u.now.means))

pub word-returns-in-Size : goal.word-returns-in-Size
word-returns-in-Size t c = record { gives = if_ok c.tally.result _ (λ v. Gives1 c.args.form c.args.u.now.means v) c.tally.ensures.means (size_gives c.args.form c.args.u.now.means c.in-Size.is c.requires); deep = by_ok c.tally.result _ _ c.tally.ensures.deep (λ v d. omega (arith, d)) }

pub word-unary-requires : goal.word-unary-requires
word-unary-requires t c = record { walks = walks_not c.args.form c.in_default.not-Size; can = c.requires }

pub word-returns-in_default : goal.word-returns-in_default
word-returns-in_default t c = record { gives = c.unary.ensures.gives; deep = c.unary.ensures.deep }

pub combine-staged-requires : goal.combine-staged-requires
combine-staged-requires t c = record {
  bag = map_bag c.args.left c.args.form c.args.u.means c.args.w.means c.requires c.in-Map.is;
  goes = map_goes c.args.left c.args.form c.args.u.means c.args.w.means c.requires c.in-Map.is;
}

pub combine-returns-in-Map : goal.combine-returns-in-Map
combine-returns-in-Map t c = record { gives = if_ok c.staged.result _ (λ v. Gives2 (MeansIn c.args.left) c.args.form c.args.u.means c.args.w.means v) c.staged.ensures.means (map_gives c.args.left c.args.form c.args.u.means c.args.w.means c.requires c.in-Map.is); deep = by_ok c.staged.result _ _ c.staged.ensures.deep (λ v d. omega (arith, d)) }

pub combine-staged-requires-in-Filter : goal.combine-staged-requires-in-Filter
combine-staged-requires-in-Filter t c = record {
  bag = filter_bag c.args.left c.args.form c.args.u.means c.args.w.means c.requires c.in-Filter.is;
  goes = filter_goes c.args.left c.args.form c.args.u.means c.args.w.means c.requires c.in-Filter.is;
}

pub combine-returns-in-Filter : goal.combine-returns-in-Filter
combine-returns-in-Filter t c = record { gives = if_ok c.staged-in-Filter.result _ (λ v. Gives2 (MeansIn c.args.left) c.args.form c.args.u.means c.args.w.means v) c.staged-in-Filter.ensures.means (filter_gives c.args.left c.args.form c.args.u.means c.args.w.means c.requires c.in-Filter.is); deep = by_ok c.staged-in-Filter.result _ _ c.staged-in-Filter.ensures.deep (λ v d. omega (arith, d)) }

pub combine-split-requires : goal.combine-split-requires
combine-split-requires t c = record {
  bag = split_bag c.args.left c.args.form c.args.u.means c.args.w.means c.requires c.in-Split.is;
  kept = split_goes c.args.left c.args.form c.args.u.means c.args.w.means c.requires true c.in-Split.is;
  others = split_goes c.args.left c.args.form c.args.u.means c.args.w.means c.requires false c.in-Split.is;
}

pub combine-returns-in-Split : goal.combine-returns-in-Split
combine-returns-in-Split t c = record { gives = if_ok c.split.result _ (λ v. Gives2 (MeansIn c.args.left) c.args.form c.args.u.means c.args.w.means v) c.split.ensures.means (split_gives c.args.left c.args.form c.args.u.means c.args.w.means c.requires c.in-Split.is); deep = by_ok c.split.result _ _ c.split.ensures.deep (λ v d. omega (arith, d)) }

pub bounded-tally-requires : goal.bounded-tally-requires
bounded-tally-requires t c = (omega arith, (sum_bag c.args.form c.args.lo c.args.hi c.args.u.now.means c.in-Sum.is c.requires, sum_weighed c.args.form c.args.lo c.args.hi c.args.u.now.means c.in-Sum.is c.requires (to_z w64 (of_z w64 c.args.lo)) (to_z w64 (of_z w64 c.args.hi))))

pub bounded-clip-requires : goal.bounded-clip-requires
bounded-clip-requires t c = let l : (to_z w64 (of_z w64 c.args.lo)) ≡ c.args.lo = omega (arith, ints, c.ranges.lo) in let h : (to_z w64 (of_z w64 c.args.hi)) ≡ c.args.hi = omega (arith, ints, c.ranges.hi) in
    clip_can c.args.form c.args.lo c.args.hi c.args.u.now.means c.in-Clip.is (to_z w64 (of_z w64 c.args.lo)) (to_z w64 (of_z w64 c.args.hi)) l h c.requires

pub bounded-returns-in-Sum : goal.bounded-returns-in-Sum
bounded-returns-in-Sum t c = record {
  gives = let l : (to_z w64 (of_z w64 c.args.lo)) ≡ c.args.lo = omega (arith, ints, c.ranges.lo) in let h : (to_z w64 (of_z w64 c.args.hi)) ≡ c.args.hi = omega (arith, ints, c.ranges.hi) in
      if_ok c.tally.result _ (λ v. GivesRanged c.args.form c.args.lo c.args.hi c.args.u.now.means v) c.tally.ensures.means
      (sum_gives c.args.form c.args.lo c.args.hi c.args.u.now.means c.in-Sum.is c.requires (to_z w64 (of_z w64 c.args.lo)) (to_z w64 (of_z w64 c.args.hi)) (ap (λ z. to_z w64 (of_z w64 z)) l ∙ l) (ap (λ z. to_z w64 (of_z w64 z)) h ∙ h));
  deep = c.tally.ensures.deep;
}

pub bounded-returns-in-Clip : goal.bounded-returns-in-Clip
bounded-returns-in-Clip t c = record {
  gives = let l : (to_z w64 (of_z w64 c.args.lo)) ≡ c.args.lo = omega (arith, ints, c.ranges.lo) in let h : (to_z w64 (of_z w64 c.args.hi)) ≡ c.args.hi = omega (arith, ints, c.ranges.hi) in
      clip_gives c.args.form c.args.lo c.args.hi c.args.u.now.means c.in-Clip.is (to_z w64 (of_z w64 c.args.lo)) (to_z w64 (of_z w64 c.args.hi)) l h c.clip.result.means c.clip.ensures.gives;
  deep = c.clip.ensures.deep;
}

pub step-apply_to_element-requires : goal.step-apply_to_element-requires
step-apply_to_element-requires t c = (omega (arith, c.requires.known.1), (c.requires.known.0, can_apply (worker_step c.args.worker.now) c.args.x.means c.requires.can))

pub step-returns-in_err-y-in-None-clause-steps : goal.step-returns-in_err-y-in-None-clause-steps
step-returns-in_err-y-in-None-clause-steps t c = search rules

pub step-returns-in_err-y-in-None-clause-same : goal.step-returns-in_err-y-in-None-clause-same
step-returns-in_err-y-in-None-clause-same t c = search rules

pub step-returns-in_err-again-in-Some-clause-steps : goal.step-returns-in_err-again-in-Some-clause-steps
step-returns-in_err-again-in-Some-clause-steps t c = search rules

pub step-returns-in_err-again-in-Some-clause-same : goal.step-returns-in_err-again-in-Some-clause-same
step-returns-in_err-again-in-Some-clause-same t c = search rules

pub step-same-x : goal.step-same-x
step-same-x t c = refl

pub step-apply_to_element-requires-in-Some : goal.step-apply_to_element-requires-in-Some
step-apply_to_element-requires-in-Some t c = (omega (arith, c.requires.known.1), (c.requires.known.0, can_apply (worker_step c.args.worker.now) c.args.x.means c.requires.can))

pub step-returns-in_err-answer-in-Some-clause-steps : goal.step-returns-in_err-answer-in-Some-clause-steps
step-returns-in_err-answer-in-Some-clause-steps t c = search rules

pub step-returns-in_err-answer-in-Some-clause-same : goal.step-returns-in_err-answer-in-Some-clause-same
step-returns-in_err-answer-in-Some-clause-same t c = search rules

pub step-is_kept-requires : goal.step-is_kept-requires
step-is_kept-requires t c = step_tells (worker_step c.args.worker.now) c.args.x.means c.requires.can c.in_ok-answer-in-Some.answer.means c.in_ok-answer-in-Some.ensures.gives c.in-Some.keep c.in-Some.is

pub step-same-again : goal.step-same-again
step-same-again t c = refl

pub step-returns-in_ok-y-in-None-clause-steps : goal.step-returns-in_ok-y-in-None-clause-steps
step-returns-in_ok-y-in-None-clause-steps t c = step_maps (worker_step c.args.worker.now) c.args.x.means c.requires.can c.in_ok-y-in-None.y.means c.in_ok-y-in-None.ensures.gives c.in-None.is

pub step-returns-in_ok-y-in-None-clause-same : goal.step-returns-in_ok-y-in-None-clause-same
step-returns-in_ok-y-in-None-clause-same t c = record { step = ap (step_is c.args.worker.now.left c.args.worker.now.keeps) c.in_ok-y-in-None.ensures.function; known = λ k. k }

pub step-returns-then-is_kept-clause-steps : goal.step-returns-then-is_kept-clause-steps
step-returns-then-is_kept-clause-steps t c = step_keeps (worker_step c.args.worker.now) c.args.x.means c.requires.can c.in_ok-answer-in-Some.answer.means c.in_ok-answer-in-Some.ensures.gives c.in-Some.keep c.in-Some.is c.is_kept.result c.is_kept.ensures c.if-is_kept.true c.in_ok-again-in-Some.again.means (ap (λ (h : Held). h.means) c.in_ok-again-in-Some.ensures)

pub step-returns-then-is_kept-clause-same : goal.step-returns-then-is_kept-clause-same
step-returns-then-is_kept-clause-same t c = record { step = ap (step_is c.args.worker.now.left c.args.worker.now.keeps) c.in_ok-answer-in-Some.ensures.function; known = λ k. k }

pub step-returns-else-is_kept-clause-steps : goal.step-returns-else-is_kept-clause-steps
step-returns-else-is_kept-clause-steps t c = step_drops (worker_step c.args.worker.now) c.args.x.means c.requires.can c.in_ok-answer-in-Some.answer.means c.in_ok-answer-in-Some.ensures.gives c.in-Some.keep c.in-Some.is c.is_kept.result c.is_kept.ensures c.if-is_kept.false

pub step-returns-else-is_kept-clause-same : goal.step-returns-else-is_kept-clause-same
step-returns-else-is_kept-clause-same t c = record { step = ap (step_is c.args.worker.now.left c.args.worker.now.keeps) c.in_ok-answer-in-Some.ensures.function; known = λ k. k }

pub tally-walk-requires : goal.tally-walk-requires
tally-walk-requires t c = (omega arith, (c.requires.bag, c.requires.weighed))

pub tally-returns-in_err-total : goal.tally-returns-in_err-total
tally-returns-in_err-total t c = record { means = search rules; deep = search rules }

pub tally-returns : goal.tally-returns
tally-returns t c = record { means = grind (arith, to_z-of_z, common_steps, c.num.ensures.means, c.narrowed.ensures, c.in_ok-total.ensures); deep = c.num.ensures.deep }

pub walk-flow-flow-requires : goal.walk-flow-flow-requires
walk-flow-flow-requires t c = c.requires.bag

pub walk-loop-i-init : goal.walk-loop-i-init
walk-loop-i-init t c = refl

pub walk-offset_bounds-strands-i : goal.walk-offset_bounds-strands-i
walk-offset_bounds-strands-i t c = search (rules, arith)

pub walk-bounds-strands-i : goal.walk-bounds-strands-i
walk-bounds-strands-i t c = c.loop-i-test.true

pub walk-walk_strand-requires : goal.walk-walk_strand-requires
walk-walk_strand-requires t c = (omega (arith, strand_below c.deref-strands.result.now c.loop-i.i c.index-strands-i.result c.loop-i-test.true c.index-strands-i.is, ap strands_deep c.deref-strands.ensures.value, c.flow-flow.ensures.deep), strand_can c.args.gather c.deref-strands.result.now c.loop-i.i c.index-strands-i.result c.loop-i-test.true c.index-strands-i.is (subst IsFlow (sym c.deref-strands.ensures.value) c.flow-flow.ensures.walked) (subst (AllWeighed c.args.gather) (ap elements c.flow-flow.ensures.is ∙ ap flow_of (sym c.deref-strands.ensures.value)) c.requires.weighed))

pub walk-returns-in_err-more : goal.walk-returns-in_err-more
walk-returns-in_err-more t c = search rules

pub walk-returns-in_err-total : goal.walk-returns-in_err-total
walk-returns-in_err-total t c = search rules

pub walk-loop-i-smaller : goal.walk-loop-i-smaller
walk-loop-i-smaller t c = search rules

pub walk-loop-i-preserved : goal.walk-loop-i-preserved
walk-loop-i-preserved t c = strand_added c.args.gather c.deref-strands.result.now c.loop-i.i c.index-strands-i.result c.loop-i-test.true c.index-strands-i.is _ c.in_ok-more.more _ c.loop-i.invariant c.in_ok-more.ensures
    (grind (arith, to_z-of_z, common_steps, c.in_ok-total.ensures))

pub walk-returns : goal.walk-returns
walk-returns t c = strands_added c.args.gather c.deref-strands.result.now c.loop-i.i _ (omega (arith, c.loop-i-test.false)) c.loop-i.invariant ∙ ap (gathered c.args.gather) (sym (ap elements c.flow-flow.ensures.is ∙ ap flow_of (sym c.deref-strands.ensures.value)))

pub walk_strand-returns-in-Some : goal.walk_strand-returns-in-Some
walk_strand-returns-in-Some t c = grind (arith, to_z-of_z, common_steps, c.in-Some.ensures)

pub walk_strand-returns-in_err-branch : goal.walk_strand-returns-in_err-branch
walk_strand-returns-in_err-branch t c = search rules

pub walk_strand-flat_total-requires-clause-known : goal.walk_strand-flat_total-requires-clause-known
walk_strand-flat_total-requires-clause-known t c = subst AllKnown (sym c.deref.ensures.value) c.in_ok-branch.ensures.known

pub walk_strand-flat_total-requires-clause-goes : goal.walk_strand-flat_total-requires-clause-goes
walk_strand-flat_total-requires-clause-goes t c = subst (λ (ss : List Step). AllGo ss c.in_ok-branch.branch.table.value) (sym (ap steps_of c.deref.ensures.value)) (laid_can c.args.gather c.args.strand.now c.in_ok-branch.branch c.in_ok-branch.ensures c.requires).goes

pub walk_strand-returns-in_err-first : goal.walk_strand-returns-in_err-first
walk_strand-returns-in_err-first t c = search rules

pub walk_strand-returns-then-first-len : goal.walk_strand-returns-then-first-len
walk_strand-returns-then-first-len t c = laid_gathered c.args.gather c.args.strand.now c.in_ok-branch.branch c.in_ok-branch.ensures _ (whole c.args.gather (steps_of c.in_ok-branch.branch.stages.items) c.in_ok-branch.branch.table.value c.in_ok-first.first _ (grind (arith, common_steps, c.if-first-len.true, c.len.ensures, c.deref-2.ensures))
    (flat_as c.args.gather (steps_of c.in_ok-branch.branch.stages.items) c.in_ok-branch.branch.table.value c.in_ok-first.first c.in_ok-first.start _ (grind (arith, to_z-of_z, common_steps)) (subst (λ (ss : List Step). IsFlatTotal c.args.gather ss c.in_ok-branch.branch.table.value c.in_ok-first.first c.in_ok-first.start) (ap steps_of c.deref.ensures.value) c.in_ok-first.ensures)))

pub walk_strand-walk_rows-requires : goal.walk_strand-walk_rows-requires
walk_strand-walk_rows-requires t c = (
  omega (arith, c.in_ok-branch.ensures.deep),
  (
    c.in_ok-branch.ensures.known,
    (
      laid_can c.args.gather c.args.strand.now c.in_ok-branch.branch c.in_ok-branch.ensures c.requires,
      flat_as c.args.gather (steps_of c.in_ok-branch.branch.stages.items) c.in_ok-branch.branch.table.value c.in_ok-first.first c.in_ok-first.start _ (grind (arith, to_z-of_z, common_steps))
          (subst (λ (ss : List Step). IsFlatTotal c.args.gather ss c.in_ok-branch.branch.table.value c.in_ok-first.first c.in_ok-first.start) (ap steps_of c.deref.ensures.value) c.in_ok-first.ensures),
    ),
  ),
)

pub walk_strand-returns : goal.walk_strand-returns
walk_strand-returns t c = by_ok c.walk_rows.result _ _ c.walk_rows.ensures (λ z t. laid_gathered c.args.gather c.args.strand.now c.in_ok-branch.branch c.in_ok-branch.ensures z (whole c.args.gather (steps_of c.in_ok-branch.branch.stages.items) c.in_ok-branch.branch.table.value (length c.in_ok-branch.branch.table.value) z refl t))

pub walk_rows-workers_of-requires : goal.walk_rows-workers_of-requires
walk_rows-workers_of-requires t c = subst AllKnown (sym c.deref.ensures.value) c.requires.known

pub walk_rows-returns-in_err-workers : goal.walk_rows-returns-in_err-workers
walk_rows-returns-in_err-workers t c = search rules

pub walk_rows-loop-i-init : goal.walk_rows-loop-i-init
walk_rows-loop-i-init t c = (
  record { known = c.in_ok-workers.ensures.known; steps = c.in_ok-workers.ensures.are ∙ (ap steps_of c.deref.ensures.value) },
  flat_as c.args.gather (steps_of c.args.branch.now.stages.items) c.args.branch.now.table.value c.args.first c.args.start _ (grind (arith, to_z-of_z, common_steps, c.ranges.start)) c.requires.start,
  omega (arith, c.in_ok-workers.ensures.deep, ap (stages_deep 0) c.deref.ensures.value),
)

pub walk_rows-row-requires : goal.walk_rows-row-requires
walk_rows-row-requires t c = (grind (arith, common_steps, c.loop-i-test.true, c.len-i-end.ensures))

pub walk_rows-returns-in_err-x : goal.walk_rows-returns-in_err-x
walk_rows-returns-in_err-x t c = search rules

pub walk_rows-pass-requires : goal.walk_rows-pass-requires
walk_rows-pass-requires t c = (
  omega (arith, ap (λ d. workers_deep d c.loop-i.workers.items) c.in_ok-x.ensures.deep, c.loop-i.invariant.2),
  (
    c.loop-i.invariant.0.known,
    subst (λ (ss : List Step). CanPass ss c.in_ok-x.x.means) (sym c.loop-i.invariant.0.steps)
        (row_passes c.args.gather (steps_of c.args.branch.now.stages.items) c.args.branch.now.table.value c.loop-i.i (grind (arith, common_steps, c.loop-i-test.true, c.len-i-end.ensures)) c.requires.can c.in_ok-x.x.means c.in_ok-x.ensures.means),
  ),
)

pub walk_rows-returns-in_err-o : goal.walk_rows-returns-in_err-o
walk_rows-returns-in_err-o t c = search rules

pub walk_rows-add_some-requires : goal.walk_rows-add_some-requires
walk_rows-add_some-requires t c = row_weighed c.args.gather (steps_of c.args.branch.now.stages.items) c.args.branch.now.table.value c.loop-i.i (grind (arith, common_steps, c.loop-i-test.true, c.len-i-end.ensures)) c.requires.can c.in_ok-x.x.means c.in_ok-x.ensures.means (means_in c.in_ok-o.o) (c.in_ok-o.ensures.passes ∙ ap (λ ss. values_in (through ss (Some (flat_of c.in_ok-x.x.means)))) c.loop-i.invariant.0.steps)

pub walk_rows-returns-in_err-total : goal.walk_rows-returns-in_err-total
walk_rows-returns-in_err-total t c = search rules

pub walk_rows-loop-i-smaller : goal.walk_rows-loop-i-smaller
walk_rows-loop-i-smaller t c = search rules

pub walk_rows-loop-i-preserved : goal.walk_rows-loop-i-preserved
walk_rows-loop-i-preserved t c = (
  record { known = c.in_ok-o.ensures.same.known c.loop-i.invariant.0.known; steps = c.in_ok-o.ensures.same.steps ∙ c.loop-i.invariant.0.steps },
  row_added c.args.gather (steps_of c.args.branch.now.stages.items) c.args.branch.now.table.value c.loop-i.i (grind (arith, common_steps, c.loop-i-test.true, c.len-i-end.ensures)) c.requires.can c.in_ok-x.x.means c.in_ok-x.ensures.means (means_in c.in_ok-o.o) (c.in_ok-o.ensures.passes ∙ ap (λ ss. values_in (through ss (Some (flat_of c.in_ok-x.x.means)))) c.loop-i.invariant.0.steps) _ _ c.loop-i.invariant.1
      (grind (arith, to_z-of_z, common_steps, c.in_ok-total.ensures)),
  omega (arith, ap (λ d. workers_deep d c.loop-i.workers.items) c.in_ok-x.ensures.deep, ap (λ d. workers_deep d c.pass.new.workers.items) c.in_ok-x.ensures.deep, c.in_ok-o.ensures.deep, c.loop-i.invariant.2),
)

pub walk_rows-returns : goal.walk_rows-returns
walk_rows-returns t c = rows_added c.args.gather (steps_of c.args.branch.now.stages.items) c.args.branch.now.table.value c.loop-i.i _ (grind (arith, common_steps, c.loop-i-test.false, c.len-i-end.ensures)) c.loop-i.invariant.1

pub pass-loop-i-init : goal.pass-loop-i-init
pass-loop-i-init t c = (passing_start c.args.workers.now.items c.args.x.means c.requires.can, none_deeper c.args.x.deep c.args.workers.now.items, at_first c.args.x.deep c.args.workers.now.items)

pub pass-index_mut-requires : goal.pass-index_mut-requires
pass-index_mut-requires t c = let l = same_length c.args.workers.now.items c.loop-i.workers.items c.loop-i.invariant.0.same in grind (arith, common_steps, l, c.loop-i-test.true, c.len-i-end.ensures)

pub pass-step-requires : goal.pass-step-requires
pass-step-requires t c = let l = same_length c.args.workers.now.items c.loop-i.workers.items c.loop-i.invariant.0.same in let h : c.loop-i.i < length c.loop-i.workers.items = grind (arith, common_steps, l, c.loop-i-test.true, c.len-i-end.ensures) in
    (omega (arith, worker_below c.args.x.deep c.loop-i.at.deep c.args.workers.now.items c.loop-i.workers.items c.loop-i.i c.index_mut.result.now h c.index_mut.ensures.value c.loop-i.invariant.1 c.loop-i.invariant.2), (passing_known c.args.workers.now.items c.loop-i.workers.items c.args.x.means c.loop-i.i c.loop-i.at.means c.loop-i.invariant.0 c.index_mut.result.now h c.index_mut.ensures.value c.requires.known, passing_can c.args.workers.now.items c.loop-i.workers.items c.args.x.means c.loop-i.i c.loop-i.at.means c.loop-i.invariant.0 c.index_mut.result.now h c.index_mut.ensures.value))

pub pass-returns-in_err-y-clause-passes : goal.pass-returns-in_err-y-clause-passes
pass-returns-in_err-y-clause-passes t c = search rules

pub pass-returns-in_err-y-clause-same : goal.pass-returns-in_err-y-clause-same
pass-returns-in_err-y-clause-same t c = search rules

pub pass-returns-in-None-clause-passes : goal.pass-returns-in-None-clause-passes
pass-returns-in-None-clause-passes t c = let l = same_length c.args.workers.now.items c.loop-i.workers.items c.loop-i.invariant.0.same in let h : c.loop-i.i < length c.loop-i.workers.items = grind (arith, common_steps, l, c.loop-i-test.true, c.len-i-end.ensures) in
    passing_left_out c.args.workers.now.items c.loop-i.workers.items c.args.x.means c.loop-i.i c.loop-i.at.means c.loop-i.invariant.0 c.index_mut.result.now h c.index_mut.ensures.value (sym (ap means_in c.in-None.is) ∙ c.in_ok-y.ensures.steps)

pub pass-returns-in-None-clause-same : goal.pass-returns-in-None-clause-same
pass-returns-in-None-clause-same t c = let l = same_length c.args.workers.now.items c.loop-i.workers.items c.loop-i.invariant.0.same in let h : c.loop-i.i < length c.loop-i.workers.items = grind (arith, common_steps, l, c.loop-i-test.true, c.len-i-end.ensures) in
    passing_same c.args.workers.now.items c.loop-i.workers.items c.args.x.means c.loop-i.i c.loop-i.at.means c.loop-i.invariant.0 c.index_mut.result.now h c.index_mut.ensures.value c.step.new.worker c.in_ok-y.ensures.same

pub pass-loop-i-smaller : goal.pass-loop-i-smaller
pass-loop-i-smaller t c = search rules

pub pass-loop-i-preserved : goal.pass-loop-i-preserved
pass-loop-i-preserved t c = let l = same_length c.args.workers.now.items c.loop-i.workers.items c.loop-i.invariant.0.same in let h : c.loop-i.i < length c.loop-i.workers.items = grind (arith, common_steps, l, c.loop-i-test.true, c.len-i-end.ensures) in (
  passing_next c.args.workers.now.items c.loop-i.workers.items c.args.x.means c.loop-i.i c.loop-i.at.means c.loop-i.invariant.0 c.index_mut.result.now h c.index_mut.ensures.value c.step.new.worker c.in_ok-y.ensures.same c.in-Some.y.means (sym (ap means_in c.in-Some.is) ∙ c.in_ok-y.ensures.steps),
  still_no_deeper c.args.x.deep c.loop-i.at.deep c.args.workers.now.items c.loop-i.workers.items c.loop-i.i c.index_mut.result.now h c.index_mut.ensures.value c.loop-i.invariant.1 c.loop-i.invariant.2 c.step.new.worker c.in_ok-y.ensures.inner c.in_ok-y.ensures.same.step,
  passed_on c.args.x.deep c.loop-i.at.deep c.args.workers.now.items c.loop-i.workers.items c.loop-i.i c.index_mut.result.now h c.index_mut.ensures.value c.loop-i.invariant.1 c.loop-i.invariant.2 c.in-Some.y.deep (subst (λ (o : Option Held). IfSome o (λ y. y.deep ≤ worker_deep c.loop-i.at.deep c.index_mut.result.now)) c.in-Some.is c.in_ok-y.ensures.deep),
)

pub pass-returns-clause-passes : goal.pass-returns-clause-passes
pass-returns-clause-passes t c = let l = same_length c.args.workers.now.items c.loop-i.workers.items c.loop-i.invariant.0.same in
    passing_end c.args.workers.now.items c.loop-i.workers.items c.args.x.means c.loop-i.i c.loop-i.at.means c.loop-i.invariant.0 (grind (arith, common_steps, l, c.loop-i-test.false, c.len-i-end.ensures))

pub pass-returns-clause-same : goal.pass-returns-clause-same
pass-returns-clause-same t c = c.loop-i.invariant.0.same

pub apply_to_element-returns-in_err-bind_element-clause-deep : goal.apply_to_element-returns-in_err-bind_element-clause-deep
apply_to_element-returns-in_err-bind_element-clause-deep t c = search rules

pub apply_to_element-returns-in_err-bind_element-clause-inner : goal.apply_to_element-returns-in_err-bind_element-clause-inner
apply_to_element-returns-in_err-bind_element-clause-inner t c = search rules

pub apply_to_element-returns-clause-deep : goal.apply_to_element-returns-clause-deep
apply_to_element-returns-clause-deep t c = by_ok c.eval.result _ _ c.eval.ensures.deep (λ v d. omega (arith, d, c.in_ok-bind_element.ensures.deep))

pub apply_to_element-returns-clause-inner : goal.apply_to_element-returns-clause-inner
apply_to_element-returns-clause-inner t c = on_ok c.eval.result _ c.in_ok-bind_element.ensures.deep

pub step-returns-in_err-y-in-None-clause-deep : goal.step-returns-in_err-y-in-None-clause-deep
step-returns-in_err-y-in-None-clause-deep t c = search rules

pub step-returns-in_err-y-in-None-clause-inner : goal.step-returns-in_err-y-in-None-clause-inner
step-returns-in_err-y-in-None-clause-inner t c = search rules

pub step-returns-in_err-again-in-Some-clause-deep : goal.step-returns-in_err-again-in-Some-clause-deep
step-returns-in_err-again-in-Some-clause-deep t c = search rules

pub step-returns-in_err-again-in-Some-clause-inner : goal.step-returns-in_err-again-in-Some-clause-inner
step-returns-in_err-again-in-Some-clause-inner t c = search rules

pub step-returns-in_err-answer-in-Some-clause-deep : goal.step-returns-in_err-answer-in-Some-clause-deep
step-returns-in_err-answer-in-Some-clause-deep t c = search rules

pub step-returns-in_err-answer-in-Some-clause-inner : goal.step-returns-in_err-answer-in-Some-clause-inner
step-returns-in_err-answer-in-Some-clause-inner t c = search rules

pub step-returns-in_ok-y-in-None-clause-deep : goal.step-returns-in_ok-y-in-None-clause-deep
step-returns-in_ok-y-in-None-clause-deep t c = c.in_ok-y-in-None.ensures.deep

pub step-returns-in_ok-y-in-None-clause-inner : goal.step-returns-in_ok-y-in-None-clause-inner
step-returns-in_ok-y-in-None-clause-inner t c = c.in_ok-y-in-None.ensures.inner

pub step-returns-then-is_kept-clause-deep : goal.step-returns-then-is_kept-clause-deep
step-returns-then-is_kept-clause-deep t c = omega (arith, ap (λ (h : Held). h.deep) c.in_ok-again-in-Some.ensures)

pub step-returns-then-is_kept-clause-inner : goal.step-returns-then-is_kept-clause-inner
step-returns-then-is_kept-clause-inner t c = c.in_ok-answer-in-Some.ensures.inner

pub step-returns-else-is_kept-clause-deep : goal.step-returns-else-is_kept-clause-deep
step-returns-else-is_kept-clause-deep t c = tt

pub step-returns-else-is_kept-clause-inner : goal.step-returns-else-is_kept-clause-inner
step-returns-else-is_kept-clause-inner t c = c.in_ok-answer-in-Some.ensures.inner

pub pass-returns-in_err-y-clause-deep : goal.pass-returns-in_err-y-clause-deep
pass-returns-in_err-y-clause-deep t c = search rules

pub pass-returns-in-None-clause-deep : goal.pass-returns-in-None-clause-deep
pass-returns-in-None-clause-deep t c = let l = same_length c.args.workers.now.items c.loop-i.workers.items c.loop-i.invariant.0.same in let h : c.loop-i.i < length c.loop-i.workers.items = grind (arith, common_steps, l, c.loop-i-test.true, c.len-i-end.ensures) in
    no_deeper c.args.x.deep c.args.workers.now.items _ (still_no_deeper c.args.x.deep c.loop-i.at.deep c.args.workers.now.items c.loop-i.workers.items c.loop-i.i c.index_mut.result.now h c.index_mut.ensures.value c.loop-i.invariant.1 c.loop-i.invariant.2 c.step.new.worker c.in_ok-y.ensures.inner c.in_ok-y.ensures.same.step)

pub pass-returns-clause-deep : goal.pass-returns-clause-deep
pass-returns-clause-deep t c = no_deeper c.args.x.deep c.args.workers.now.items c.loop-i.workers.items c.loop-i.invariant.1
