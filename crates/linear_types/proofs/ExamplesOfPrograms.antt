-- Whole programs over tables, worked: the sensitivity to each, the greatest, and each fault of the whole.
use Rattle.std.proofs.Common.{refl}
use Rattle.std.specs.Prelude.{None, Some, [], codes, false, negsuc, pos, true, ◌∷◌, ◌≡◌}
use Rattle.fz_ast.specs.Signature.{Signature}
use Rattle.fz_ast.specs.Terms.{LeE, PlusE, SizeE, SumE, Term}
use Rattle.fz_ast.specs.Types.{BagT, BoolT, NumT, TextT}
use Rattle.fz_frac.specs.Distance.{Fin, Inf, none, one}
use Rattle.fz_frac.specs.Lowest.{gcd, gcd_in, is_out}
use Rattle.linear_types.proofs.ExampleTerms.{a_number, part, span, var, whole, whole_number}
use Rattle.linear_types.specs.Inferred.{NotNum, Unbound, Unbounded}
use Rattle.linear_types.specs.Program.{Accepted, Faulty, context_of, first_unbounded, greatest_of, is_endless, sensitivity_of, sensitivity_to}
use Rattle.linear_types.specs.Typing.{Closed, Under}

-- people, with numbers, and places, with texts
abbrev tables : Signature
tables = record { name = codes "people"; row = NumT } ∷ record { name = codes "places"; row = TextT } ∷ []

abbrev size_of_places : Term
size_of_places = part 2 (SizeE (var 3 (codes "places")))

-- the tables are bags, the first one innermost
in_scope : context_of tables ≡ Under (codes "people") (BagT NumT) (Under (codes "places") (BagT TextT) Closed)
in_scope = refl

programs :
    (sensitivity_of tables (whole (PlusE (part 1 (SumE (negsuc 4) (pos 3) (var 4 (codes "people")))) size_of_places)) ≡ Accepted (whole_number 5 ∷ one ∷ []) (whole_number 5))
    × (sensitivity_of tables (whole (SizeE (var 1 (codes "places")))) ≡ Accepted (none ∷ one ∷ []) one)
    × (sensitivity_of tables (a_number 0) ≡ Accepted [] none)
    × (sensitivity_of tables (whole (LeE size_of_places (a_number 1))) ≡ Faulty (Unbounded (codes "places")))
    × (sensitivity_of tables (whole (LeE (part 1 (SizeE (var 4 (codes "people")))) size_of_places)) ≡ Faulty (Unbounded (codes "people")))
    × (sensitivity_of tables (var 0 (codes "places")) ≡ Faulty (NotNum (BagT TextT)))
    × (sensitivity_of tables (whole (LeE (a_number 1) (a_number 2))) ≡ Faulty (NotNum BoolT))
    × (sensitivity_of tables (whole (SizeE (var 1 (codes "pets")))) ≡ Faulty (Unbound (span 1)))
unfolding is_out gcd gcd_in
programs = (refl, refl, refl, refl, refl, refl, refl, refl)

greatest_over_tables :
    (greatest_of [] ≡ none)
    × (greatest_of (Fin 1 2 ∷ Fin 2 3 ∷ Fin 1 3 ∷ []) ≡ Fin 2 3)
    × (greatest_of (one ∷ Inf ∷ []) ≡ Inf)
    × (is_endless Inf ≡ true)
    × (is_endless (Fin 4294967295 1) ≡ false)
greatest_over_tables = (refl, refl, refl, refl, refl)

by_table :
    (sensitivity_to tables (Fin 1 2 ∷ Fin 2 3 ∷ []) (codes "places") ≡ Fin 2 3)
    × (sensitivity_to tables (Fin 1 2 ∷ Fin 2 3 ∷ []) (codes "people") ≡ Fin 1 2)
    × (sensitivity_to tables (Fin 1 2 ∷ []) (codes "places") ≡ none)
    × (sensitivity_to tables (Fin 1 2 ∷ Fin 2 3 ∷ []) (codes "pets") ≡ none)
    × (first_unbounded tables (one ∷ Inf ∷ []) ≡ Some (codes "places"))
    × (first_unbounded tables (Inf ∷ Inf ∷ []) ≡ Some (codes "people"))
    × (first_unbounded tables (one ∷ one ∷ []) ≡ None)
by_table = (refl, refl, refl, refl, refl, refl, refl)
