-- What has a type has one that can be written.
use Rattle.fz_frac.specs.Distance.{Inf}
use Rattle.fz_ast.specs.Terms.{Term}
use Rattle.fz_ast.specs.Types.{BangT, Ty}
use Rattle.term_meanings.specs.Sensitivities.{Sensitivities}
use Rattle.linear_types.specs.Typing.{AllTypes, Context, IsType, Typing, is_app, is_at_most, is_bang, is_case, is_clip, is_eq_num, is_eq_text, is_filter, is_fn, is_fst, is_fun, is_greatest, is_if, is_inl, is_inr, is_least, is_let, is_let_bang, is_let_pair, is_map, is_minus, is_num, is_pair, is_plus, is_size, is_snd, is_split, is_sum, is_text, is_times, is_union, is_unit, is_var, is_with}
use Rattle.term_meanings.proofs.Written.{arrow_type, bag_type, bang_type, bool_type, bound, num_type, sum_type, tensor_type, text_type, unit_type, with_type}
pub use Rattle.term_meanings.proofs.Written.{and_is, arrow_parts, bag_parts, bang_parts, sum_parts, tensor_parts, with_parts}

pub written : {Γ : Context} {e : Term} {A : Ty} {D : Sensitivities} → AllTypes Γ → Typing Γ e A D → IsType A
written t (is_var s) = bound t s
written t (is_num l) = num_type
written t (is_text l) = text_type
written t is_unit = unit_type
written t (is_pair p q) = tensor_type (written t p) (written t q)
written t (is_with p q) = with_type (written t p) (written t q)
written t (is_fst {A = A} {B = B} p) = (with_parts A B (written t p)).0
written t (is_snd {A = A} {B = B} p) = (with_parts A B (written t p)).1
written t (is_let_pair {A = A} {B = B} p q) = let w = tensor_parts A B (written t p) in written (w.1, (w.0, t)) q
written t (is_inl p w g h) = sum_type h g (written t p) w
written t (is_inr p w g h) = sum_type g h w (written t p)
written t (is_case {A = A} {B = B} p q r g) = written ((sum_parts A B (written t p)).0, t) q
written t (is_if p q r g) = written t q
written t (is_fun p w h) = arrow_type w (written (w, t) p)
written t (is_fn p w) = arrow_type (bang_type tt w) (written (w, t) p)
written t (is_app {A = A} {B = B} p q) = (arrow_parts A B (written t p)).1
written t (is_bang p r) = bang_type r (written t p)
written t (is_let_bang {r = s} {A = A} p q) = written ((bang_parts s A (written t p)).1, t) q
written t (is_let p q) = written (written t p, t) q
written t (is_plus p q) = num_type
written t (is_minus p q) = num_type
written t (is_times p) = num_type
written t (is_at_most p q) = bool_type
written t (is_eq_num p q) = bool_type
written t (is_eq_text p q) = bool_type
written t (is_clip p l h) = num_type
written t (is_least p) = num_type
written t (is_greatest p) = num_type
written t (is_size p) = num_type
written t (is_sum p) = num_type
written t (is_union p q) = written t p
written t (is_map {A = A} {B = B} p f q) = bag_type f (arrow_parts (BangT Inf A) B (written t p)).1
written t (is_filter p q) = written t q
written t (is_split p q) = tensor_type (written t q) (written t q)
