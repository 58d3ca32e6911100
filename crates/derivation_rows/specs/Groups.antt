-- The rows by the groups that a program's nodes have: each member's row.
use Rattle.std.specs.Prelude.{ℤ, Option}
use Rattle.fz_ast.specs.Terms.{Name}
use Rattle.fz_ast.specs.Types.{Ty}
use Rattle.fz_ast.specs.declared.term.Arrow.{Arrow}
use Rattle.fz_ast.specs.declared.term.Arrow.TheVariants.{Fun, Fn}
use Rattle.fz_ast.specs.declared.term.Binary.{Binary}
use Rattle.fz_ast.specs.declared.term.Binary.TheVariants.{Pair, With, App, Plus, Minus, AtMost, Equal, Union, Map, Filter, Split}
use Rattle.fz_ast.specs.declared.term.Ranged.{Ranged}
use Rattle.fz_ast.specs.declared.term.Ranged.TheVariants.{Sum, Clip}
use Rattle.fz_ast.specs.declared.term.Side.{Side}
use Rattle.fz_ast.specs.declared.term.Side.TheVariants.{Inl, Inr}
use Rattle.fz_ast.specs.declared.term.Unary.{Unary}
use Rattle.fz_ast.specs.declared.term.Unary.TheVariants.{Fst, Snd, Least, Greatest, Size}
use Rattle.derivation_lines.specs.Lines.{Line}
use Rattle.derivation_rows.specs.Rows.{Row, pair_row, with_row, fst_row, snd_row, inl_row, inr_row, fun_row, fn_row, app_row, plus_row}
use Rattle.derivation_rows.specs.Rows.{le_row, eq_row, clip_row, least_row, size_row, sum_row, union_row, map_row, filter_row, split_row}

abbrev pub unary_row : Unary → Line → Option Row
unary_row Fst = fst_row
unary_row Snd = snd_row
unary_row Least = least_row
unary_row Greatest = least_row
unary_row Size = size_row

abbrev pub binary_row : Binary → Line → Line → Option Row
binary_row Pair = pair_row
binary_row With = with_row
binary_row App = app_row
binary_row Plus = plus_row
binary_row Minus = plus_row
binary_row AtMost = le_row
binary_row Equal = eq_row
binary_row Union = union_row
binary_row Map = map_row
binary_row Filter = filter_row
binary_row Split = split_row

abbrev pub ranged_row : Ranged → ℤ → ℤ → Line → Option Row
ranged_row Sum lo hi = sum_row lo hi
ranged_row Clip lo hi = clip_row

abbrev pub inject_row : Side → Ty → Line → Option Row
inject_row Inl = inl_row
inject_row Inr = inr_row

abbrev pub lambda_row : Arrow → Name → Ty → Line → Option Row
lambda_row Fun = fun_row
lambda_row Fn = fn_row
