-- The refused programs, computed.
use Rattle.std.proofs.Common.{refl}
use Rattle.std.specs.Prelude.{[], codes, ◌≡◌}
use Rattle.fz_frac.specs.Distance.{Fin}
use Rattle.fz_frac.specs.Lowest.{gcd, gcd_in, is_out}
use Rattle.fz_ast.specs.Types.{BagT, NumT, UnlimitedT}
use Rattle.linear_types.specs.Program.{Faulty, sensitivity_of}
use Rattle.linear_types.specs.Rule.{rule}
use Rattle.linear_types.specs.Typing.{Closed}
use Rattle.linear_types.specs.Inferred.{ASum, Exactly, Has, Mismatch, NotFlat, NotGround, NotNum, Range, TooSensitive, Unbound, Unbounded}
use Rattle.metric_law.specs.Refusals.{branches_of_functions, compared, condition_before_branches, map_to_bags, part_out_of_range, parts_come_first, range_comes_last, range_of_a_part_first, side_of_functions, table_alone, table_as_number, too_large_a_factor, too_large_a_product, unbound_table, unbounded_comes_first, used_twice, used_twice_without_limit}
use Rattle.metric_law.specs.Worked.{span, worked_tables}

pub compared_faulty : sensitivity_of worked_tables compared ≡ Faulty (Unbounded (codes "people"))
unfolding is_out gcd gcd_in
compared_faulty = refl

pub factor_faulty : sensitivity_of worked_tables too_large_a_factor ≡ Faulty (Range (span 0 30))
unfolding is_out gcd gcd_in
factor_faulty = refl

pub product_faulty : sensitivity_of worked_tables too_large_a_product ≡ Faulty (Range (span 0 39))
unfolding is_out gcd gcd_in
product_faulty = refl

pub used_twice_faulty : sensitivity_of worked_tables used_twice ≡ Faulty (TooSensitive (span 1 23) (codes "x") (Fin 2 1))
unfolding is_out gcd gcd_in
used_twice_faulty = refl

pub unbound_faulty : sensitivity_of worked_tables unbound_table ≡ Faulty (Unbound (span 5 12))
unfolding is_out gcd gcd_in
unbound_faulty = refl

pub mismatch_faulty : sensitivity_of worked_tables table_as_number ≡ Faulty (Mismatch (span 0 6) (BagT NumT) (Exactly NumT))
unfolding is_out gcd gcd_in
mismatch_faulty = refl

pub branches_faulty : sensitivity_of worked_tables branches_of_functions ≡ Faulty (NotGround (span 0 59))
unfolding is_out gcd gcd_in
branches_faulty = refl

pub side_faulty : sensitivity_of worked_tables side_of_functions ≡ Faulty (NotGround (span 4 14))
unfolding is_out gcd gcd_in
side_faulty = refl

pub map_faulty : sensitivity_of worked_tables map_to_bags ≡ Faulty (NotFlat (span 5 27))
unfolding is_out gcd gcd_in
map_faulty = refl

pub no_number_faulty : sensitivity_of worked_tables table_alone ≡ Faulty (NotNum (BagT NumT))
unfolding is_out gcd gcd_in
no_number_faulty = refl

pub parts_first_faulty : sensitivity_of worked_tables parts_come_first ≡ Faulty (Unbound (span 9 16))
unfolding is_out gcd gcd_in
parts_first_faulty = refl

pub condition_first_faulty : sensitivity_of worked_tables condition_before_branches ≡ Faulty (Mismatch (span 5 11) (BagT NumT) ASum)
unfolding is_out gcd gcd_in
condition_first_faulty = refl

pub range_last_faulty : sensitivity_of worked_tables range_comes_last ≡ Faulty (Mismatch (span 19 25) (BagT NumT) (Exactly NumT))
unfolding is_out gcd gcd_in
range_last_faulty = refl

pub unbounded_first_faulty : sensitivity_of worked_tables unbounded_comes_first ≡ Faulty (Unbounded (codes "people"))
unfolding is_out gcd gcd_in
unbounded_first_faulty = refl

pub without_limit_accepted : rule Closed used_twice_without_limit ≡ Has (UnlimitedT NumT NumT) []
unfolding is_out gcd gcd_in
without_limit_accepted = refl

pub part_range_faulty : sensitivity_of worked_tables part_out_of_range ≡ Faulty (Range (span 4 34))
unfolding is_out gcd gcd_in
part_range_faulty = refl

pub part_range_first_faulty : sensitivity_of worked_tables range_of_a_part_first ≡ Faulty (Range (span 9 23))
unfolding is_out gcd gcd_in
part_range_first_faulty = refl
