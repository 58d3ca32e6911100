-- Programs that are refused, with spans by which their faults are told.
use Rattle.std.specs.Prelude.{codes, pos}
use Rattle.fz_ast.specs.Terms.{AppE, CaseE, FnE, FunE, IfE, InlE, LeE, MapE, PlusE, SizeE, Term, TimesE, TrueE, at}
use Rattle.fz_ast.specs.Types.{ArrowT, NumT}
use Rattle.metric_law.specs.Worked.{name_at, numeral_at, people_at, span}

-- if size people <= 3 then 0 else 100
abbrev pub compared : Term
compared = at (span 0 35) (IfE (at (span 3 19) (LeE (at (span 3 14) (SizeE (people_at 8 14))) (numeral_at 18 19 3))) (numeral_at 25 26 0)
    (numeral_at 32 35 100))

-- 1125899906842624 * size people
abbrev pub too_large_a_factor : Term
too_large_a_factor = at (span 0 30) (TimesE (pos 1125899906842624) (at (span 19 30) (SizeE (people_at 24 30))))

-- (fun (x : num) => x + x) (size people)
abbrev pub used_twice : Term
used_twice = at (span 0 38) (AppE (at (span 1 23) (FunE (codes "x") (span 10 13) NumT
    (at (span 18 23) (PlusE (name_at 18 19 (codes "x")) (name_at 22 23 (codes "x")))))) (at (span 26 37) (SizeE (people_at 31 37))))

-- fn (x : num) => x + x
abbrev pub used_twice_without_limit : Term
used_twice_without_limit = at (span 0 21) (FnE (codes "x") (span 8 11) NumT (at (span 16 21) (PlusE (name_at 16 17 (codes "x")) (name_at 20 21 (codes "x")))))

-- size persons
abbrev pub unbound_table : Term
unbound_table = at (span 0 12) (SizeE (name_at 5 12 (codes "persons")))

-- people + 1
abbrev pub table_as_number : Term
table_as_number = at (span 0 10) (PlusE (people_at 0 6) (numeral_at 9 10 1))

-- if true then (fun (x : num) => x) else (fun (x : num) => x)
abbrev pub branches_of_functions : Term
branches_of_functions =
    at (span 0 59) (IfE (TrueE (span 3 7))
    (at (span 14 32) (FunE (codes "x") (span 23 26) NumT (name_at 31 32 (codes "x"))))
    (at (span 40 58) (FunE (codes "x") (span 49 52) NumT (name_at 57 58 (codes "x")))))

-- inl[num -o num] 1
abbrev pub side_of_functions : Term
side_of_functions = at (span 0 17) (InlE (span 4 14) (ArrowT NumT NumT) (numeral_at 16 17 1))

-- map (fn (x : num) => people) people
abbrev pub map_to_bags : Term
map_to_bags = at (span 0 35) (MapE (at (span 5 27) (FnE (codes "x") (span 13 16) NumT (people_at 21 27))) (people_at 29 35))

-- people
abbrev pub table_alone : Term
table_alone = people_at 0 6

-- each factor is in range, and their product isn't
-- 4294967295 * (4294967295 * size people)
abbrev pub too_large_a_product : Term
too_large_a_product = at (span 0 39) (TimesE (pos 4294967295) (at (span 14 38) (TimesE (pos 4294967295) (at (span 27 38) (SizeE (people_at 32 38))))))

-- two faults at once

-- its first part is no number and its second is unbound: parts come before conditions
-- people + persons
abbrev pub parts_come_first : Term
parts_come_first = at (span 0 16) (PlusE (people_at 0 6) (name_at 9 16 (codes "persons")))

-- e is no sum, and a name in a branch is unbound: the condition on e comes before the branches
-- case people of inl x => persons | inr y => 0
abbrev pub condition_before_branches : Term
condition_before_branches = at (span 0 44) (CaseE (people_at 5 11) (codes "x") (name_at 24 31 (codes "persons")) (codes "y") (numeral_at 43 44 0))

-- its part is no number, and its factor is out of range: range comes last
-- 1125899906842624 * people
abbrev pub range_comes_last : Term
range_comes_last = at (span 0 25) (TimesE (pos 1125899906842624) (people_at 19 25))

-- it is unbounded and no number: unbounded comes first
-- size people <= 3
abbrev pub unbounded_comes_first : Term
unbounded_comes_first = at (span 0 16) (LeE (at (span 0 11) (SizeE (people_at 5 11))) (numeral_at 15 16 3))

-- a part's fault is told of the part, also a range
-- 1 + 1125899906842624 * size people
abbrev pub part_out_of_range : Term
part_out_of_range = at (span 0 34) (PlusE (numeral_at 0 1 1) (at (span 4 34) (TimesE (pos 1125899906842624) (at (span 23 34) (SizeE (people_at 28 34))))))

-- a part is out of range, and the first part is no number: parts come before conditions
-- people + 4294967296 * 3
abbrev pub range_of_a_part_first : Term
range_of_a_part_first = at (span 0 23) (PlusE (people_at 0 6) (at (span 9 23) (TimesE (pos 4294967296) (numeral_at 22 23 3))))
