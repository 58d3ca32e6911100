-- The worked functions, computed.
use Rattle.std.proofs.Common.{refl}
use Rattle.std.specs.Prelude.{[], codes, pos, replicate, ◌≡◌}
use Rattle.fz_ast.specs.Types.{ArrowT, NumT, TextT, UnlimitedT}
use Rattle.fz_frac.specs.Distance.{Fin}
use Rattle.fz_frac.specs.Lowest.{gcd, gcd_in, is_out}
use Rattle.linear_types.specs.Inferred.{TooSensitive, Unbound}
use Rattle.metric_law.specs.Worked.{numeral_at, span}
use Rattle.metric_values.specs.Values.{TextF}
use Rattle.row_functions.specs.Computed.{computed}
use Rattle.row_functions.specs.RowFunctions.{IsRowFunction, depth_limit, row_text}
use Rattle.row_functions.specs.Worked.{HasFault, HasType, counts_people, in_town, same_text, text_used, thirty, town_and_age, town_once, young_or_old}

pub typed : IsRowFunction town_and_age young_or_old
unfolding is_out gcd gcd_in
typed = ([], refl)

pub young : row_text young_or_old (in_town (codes "Bern") (pos 30)) ≡ codes "young"
unfolding row_text computed depth_limit
young = refl

pub old : row_text young_or_old (in_town (codes "Bern") (pos 31)) ≡ codes "old"
unfolding row_text computed depth_limit
old = refl

pub longest : row_text same_text (TextF (replicate 64 97)) ≡ replicate 64 97
unfolding row_text computed depth_limit
longest = refl

pub other_row : HasType same_text 18 (UnlimitedT TextT TextT)
unfolding is_out gcd gcd_in
other_row = refl

pub no_text : HasType thirty 25 (UnlimitedT town_and_age NumT)
unfolding is_out gcd gcd_in
no_text = refl

pub linear : HasType town_once 43 (ArrowT town_and_age TextT)
unfolding is_out gcd gcd_in
linear = refl

pub number : HasType (numeral_at 0 2 30) 2 NumT
number = refl

pub used_thrice : HasFault text_used (TooSensitive (span 0 41) (codes "t") (Fin 3 1))
unfolding is_out gcd gcd_in
used_thrice = refl

pub unbound : HasFault counts_people (Unbound (span 28 34))
unbound = refl
