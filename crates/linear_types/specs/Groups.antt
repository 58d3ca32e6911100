-- The rows by the groups that a program's nodes have: each member's row.
use Rattle.std.specs.Prelude.{ℤ}
use Rattle.fz_ast.specs.Terms.{Name}
use Rattle.fz_ast.specs.Types.{Ty, BagT}
use Rattle.fz_ast.specs.declared.span.Span.{Span}
use Rattle.fz_ast.specs.declared.term.Arrow.{Arrow}
use Rattle.fz_ast.specs.declared.term.Arrow.TheVariants.{Fun, Fn}
use Rattle.fz_ast.specs.declared.term.Binary.{Binary}
use Rattle.fz_ast.specs.declared.term.Binary.TheVariants.{Pair, With, App, Plus, Minus, AtMost, Equal, Union, Map, Filter, Split}
use Rattle.fz_ast.specs.declared.term.Ranged.{Ranged}
use Rattle.fz_ast.specs.declared.term.Ranged.TheVariants.{Sum, Clip}
use Rattle.fz_ast.specs.declared.term.Side.{Side}
use Rattle.fz_ast.specs.declared.term.Side.TheVariants.{Inl, Inr}
use Rattle.fz_ast.specs.declared.term.Unary.{Unary}
use Rattle.fz_ast.specs.declared.term.Unary.TheVariants.{Fst, Snd, Least, Greatest, Size}
use Rattle.linear_types.specs.Inferred.{Inferred}
use Rattle.linear_types.specs.Rule.{pair_rule, with_rule, fst_rule, snd_rule, inl_rule, inr_rule, fun_rule, fn_rule, app_rule, plus_rule}
use Rattle.linear_types.specs.Rule.{le_rule, eq_rule, clip_rule, least_rule, size_rule, sum_rule, union_rule, map_rule, test_rule, halves}
use Rattle.linear_types.specs.Sensitivities.{Sensitivities}

-- a form with one part, at u
abbrev pub unary_rule : Unary → Span → Ty → Sensitivities → Inferred
unary_rule Fst u = fst_rule u
unary_rule Snd u = snd_rule u
unary_rule Least u = least_rule u
unary_rule Greatest u = least_rule u
unary_rule Size u = size_rule u

-- a form with two parts, at u and v
abbrev pub binary_rule : Binary → Span → Span → Span → Ty → Sensitivities → Ty → Sensitivities → Inferred
binary_rule Pair s u v = pair_rule s
binary_rule With s u v = with_rule
binary_rule App s u v = app_rule s u v
binary_rule Plus s u v = plus_rule s u v
binary_rule Minus s u v = plus_rule s u v
binary_rule AtMost s u v = le_rule s u v
binary_rule Equal s u v = eq_rule s u v
binary_rule Union s u v = union_rule s u v
binary_rule Map s u v = map_rule s u v
binary_rule Filter s u v = test_rule BagT s u v
binary_rule Split s u v = test_rule halves s u v

-- a form with bounds and a part at u
abbrev pub ranged_rule : Ranged → Span → Span → ℤ → ℤ → Ty → Sensitivities → Inferred
ranged_rule Sum s u lo hi = sum_rule s u lo hi
ranged_rule Clip s u lo hi = clip_rule u

-- a side of a sum: the other side's type T is written at u, and the part stands at v
abbrev pub inject_rule : Side → Span → Ty → Span → Ty → Sensitivities → Inferred
inject_rule Inl u T v = inl_rule u T v
inject_rule Inr u T v = inr_rule u T v

-- a function of x, whose type T is written at u
abbrev pub lambda_rule : Arrow → Span → Name → Span → Ty → Ty → Sensitivities → Inferred
lambda_rule Fun s x u T = fun_rule s x u T
lambda_rule Fn s x u T = fn_rule u T
