-- A term that has a type has a value in each typed environment, and each of its values is typed.
use Rattle.fz_frac.specs.Distance.{Inf}
use Rattle.fz_ast.specs.Terms.{Term}
use Rattle.fz_ast.specs.Types.{BangT, Ty}
use Rattle.linear_types.proofs.Written.{bang_parts, sum_parts, tensor_parts, written}
use Rattle.linear_types.specs.Typing.{AllTypes, Context, Typing, is_app, is_at_most, is_bang, is_case, is_clip, is_eq_num, is_eq_text, is_filter, is_fn, is_fst, is_fun, is_greatest, is_if, is_inl, is_inr, is_least, is_let, is_let_bang, is_let_pair, is_map, is_minus, is_num, is_pair, is_plus, is_size, is_snd, is_split, is_sum, is_text, is_times, is_union, is_unit, is_var, is_with}
use Rattle.metric_values.specs.Values.{Env}
use Rattle.term_meanings.proofs.Fine.{fine_app, fine_bang, fine_case, fine_clip, fine_eq_num, fine_eq_text, fine_filter, fine_fn, fine_fst, fine_fun, fine_greatest, fine_if, fine_inl, fine_inr, fine_le, fine_least, fine_let, fine_let_bang, fine_let_pair, fine_map, fine_minus, fine_num, fine_pair, fine_plus, fine_size, fine_snd, fine_split, fine_sum, fine_text, fine_times, fine_union, fine_unit, fine_var, fine_with}
pub use Rattle.term_meanings.proofs.Fine.{Fine, append_all, clamped, clip_fits, flat, greatest_fits, least_fits, numbers, splits_typed, typed_truth}
use Rattle.term_meanings.proofs.Flatness.{results_flat}
use Rattle.term_meanings.specs.Environments.{TypedEnv, typed_bind}
use Rattle.term_meanings.specs.Sensitivities.{Sensitivities}

pub fine : {Γ : Context} {e : Term} {A : Ty} {D : Sensitivities} → AllTypes Γ → Typing Γ e A D → (γ : Env) → TypedEnv Γ γ → Fine γ e A
fine w (is_var s) γ t = fine_var s t
fine w (is_num l) γ t = fine_num l
fine w (is_text l) γ t = fine_text l
fine w is_unit γ t = fine_unit
fine w (is_pair p q) γ t = fine_pair (fine w p γ t) (fine w q γ t)
fine w (is_with p q) γ t = fine_with (fine w p γ t) (fine w q γ t)
fine w (is_fst p) γ t = fine_fst (fine w p γ t)
fine w (is_snd p) γ t = fine_snd (fine w p γ t)
fine w (is_let_pair {A = A} {B = B} p q) γ t = let k = tensor_parts A B (written w p) in fine_let_pair (fine w p γ t) (λ u v tu tv. fine (k.1, (k.0, w)) q _ (typed_bind tv (typed_bind tu t)))
fine w (is_inl p k g h) γ t = fine_inl (fine w p γ t)
fine w (is_inr p k g h) γ t = fine_inr (fine w p γ t)
fine w (is_case {A = A} {B = B} p q r g) γ t = let k = sum_parts A B (written w p) in fine_case (fine w p γ t) (λ u tu. fine (k.0, w) q _ (typed_bind tu t)) (λ u tu. fine (k.1, w) r _ (typed_bind tu t))
fine w (is_if p q r g) γ t = fine_if (fine w p γ t) (fine w q γ t) (fine w r γ t)
fine w (is_fun p k h) γ t = fine_fun (λ u tu. fine (k, w) p _ (typed_bind tu t))
fine w (is_fn p k) γ t = fine_fn (λ u tu. fine (k, w) p _ (typed_bind tu t))
fine w (is_app p q) γ t = fine_app (fine w p γ t) (fine w q γ t)
fine w (is_bang p r) γ t = fine_bang (fine w p γ t)
fine w (is_let_bang {r = s} {A = A} p q) γ t = fine_let_bang (fine w p γ t) (λ u tu. fine ((bang_parts s A (written w p)).1, w) q _ (typed_bind tu t))
fine w (is_let p q) γ t = fine_let (fine w p γ t) (λ u tu. fine (written w p, w) q _ (typed_bind tu t))
fine w (is_plus p q) γ t = fine_plus (fine w p γ t) (fine w q γ t)
fine w (is_minus p q) γ t = fine_minus (fine w p γ t) (fine w q γ t)
fine w (is_times p) γ t = fine_times (fine w p γ t)
fine w (is_at_most p q) γ t = fine_le (fine w p γ t) (fine w q γ t)
fine w (is_eq_num p q) γ t = fine_eq_num (fine w p γ t) (fine w q γ t)
fine w (is_eq_text p q) γ t = fine_eq_text (fine w p γ t) (fine w q γ t)
fine w (is_clip p l h) γ t = fine_clip l h (fine w p γ t)
fine w (is_least p) γ t = fine_least (fine w p γ t)
fine w (is_greatest p) γ t = fine_greatest (fine w p γ t)
fine w (is_size p) γ t = fine_size (fine w p γ t)
fine w (is_sum p) γ t = fine_sum (fine w p γ t)
fine w (is_union p q) γ t = fine_union (fine w p γ t) (fine w q γ t)
fine w (is_map {A = A} {B = B} p f q) γ t = fine_map (results_flat (BangT Inf A) B (written w p) f) (fine w p γ t) (fine w q γ t)
fine w (is_filter p q) γ t = fine_filter (fine w p γ t) (fine w q γ t)
fine w (is_split p q) γ t = fine_split (fine w p γ t) (fine w q γ t)
