-- Programs at each limit of the run without data, and one past it.
use Rattle.std.proofs.Common.{◌≡◌, ◌∙◌, ℕ, List, zero, suc, codes, refl, sym, ap, pos}
use Rattle.fz_frac.specs.declared.sens.Sens.{Sens}
use Rattle.fz_frac.specs.Distance.{Fin}
use Rattle.fz_frac.specs.Lowest.{gcd, gcd_in, is_out}
use Rattle.fz_frac.specs.Sens.{distance_of}
use Rattle.fz_ast.specs.Terms.{AppE, ClipE, FunE, IfE, LeE, LetE, NumE, PairE, PlusE, SizeE, TimesE, UnionE, Name, Term, VarE, at}
use Rattle.fz_ast.specs.Types.{NumT}
use Rattle.metric_law.specs.Worked.{worked_tables}
use Rattle.shape_law.specs.Walk.{depth_limit}
use Rattle.shape_law.specs.Worked.{doubled_and_nested, nested, nested_and_doubled}
use Rattle.shape_run.specs.Plans.{IsPlanOf}
use Rattle.wire_lines.specs.Refusal.{ill_typed, unbounded, no_number, too_deep, too_long, too_wide}
use Rattle.wire_lines.specs.declared.refusal.TypeFault.TheVariants.{Unbound}
use Rattle.answer_path.specs.declared.program.Accepted.{Accepted}
use Rattle.answer_path.specs.Reading.{read, IsReading}
use Rattle.answer_path.specs.Admission.{TakesTooManyWalks, refused_for, walks_too_much, accepted, admission_of}
use Rattle.answer_path.specs.Code.{IsAccepted}
use Rattle.answer_path.proofs.SizePeople.{span}
use Rattle.answer_path.proofs.Told.{accepted_walks_little}

abbrev name : Name → Term
name x = at (span 1 2) (VarE x)

abbrev number : Term
number = at (span 3 4) (NumE (pos 1))

abbrev let_in : Name → Term → Term → Term
let_in x e b = at (span 0 9) (LetE x e b)

abbrev function : Name → Term → Term
function x e = at (span 0 9) (FunE x (span 5 8) NumT e)

abbrev applied : Name → Term → Term
applied f e = at (span 0 9) (AppE (name f) e)

-- n clips around a term
abbrev clipped : ℕ → Term → Term
clipped zero e = e
clipped (suc n) e = at (span 0 9) (ClipE (pos 0) (pos 1) (clipped n e))

-- let f = fun (x : num) => x under 40 clips in let g = fun (y : num) => f y under 40 clips in g 1 under n clips.
-- The x is visited at depth n + 85.
abbrev chained : ℕ → Term
chained n =
    let_in (codes "f") (function (codes "x") (clipped 40 (at (span 6 7) (VarE (codes "x")))))
    (let_in (codes "g") (function (codes "y") (clipped 40 (applied (codes "f") (name (codes "y")))))
    (clipped n (applied (codes "g") number)))

-- at the limit, and one past it
as_deep_as_may_be : (admission_of worked_tables (read (chained 43)) ≡ accepted (chained 43) (Fin 0 1))
    × (admission_of worked_tables (read (chained 44)) ≡ refused_for (too_deep 6 7))
unfolding admission_of depth_limit gcd gcd_in is_out
as_deep_as_may_be = (refl, refl)

-- the typing rules come first: an unbound name, a table without a bound, and a value that is no number
unbound_first : admission_of worked_tables (read (at (span 0 9) (PlusE (chained 44) (name (codes "z"))))) ≡ refused_for (ill_typed Unbound 1 2)
unfolding admission_of depth_limit gcd gcd_in is_out
unbound_first = refl

unbounded_first : admission_of worked_tables (read (at (span 0 9) (IfE (at (span 0 9) (LeE (at (span 0 9) (SizeE (name (codes "people")))) number)) (chained 44) number)))
    ≡ refused_for (unbounded (codes "people"))
unfolding admission_of depth_limit gcd gcd_in is_out
unbounded_first = refl

no_number_first : admission_of worked_tables (read (at (span 0 9) (PairE (chained 44) number))) ≡ refused_for no_number
unfolding admission_of depth_limit gcd gcd_in is_out
no_number_first = refl

-- n times let f = fun (x : num) => f (f x) in .., and then the term
abbrev twice : ℕ → Term → Term
twice zero e = e
twice (suc n) e = let_in (codes "f") (function (codes "x") (applied (codes "f") (applied (codes "f") (name (codes "x"))))) (twice n e)

-- f 1 under n clips, where f is doubled nine times from x under 33 clips: 19986 + n turns
abbrev repeated : ℕ → Term
repeated n = let_in (codes "f") (function (codes "x") (clipped 33 (at (span 6 7) (VarE (codes "x"))))) (twice 9 (clipped n (applied (codes "f") number)))

just_long : admission_of worked_tables (read (repeated 14)) ≡ accepted (repeated 14) (Fin 0 1)
unfolding admission_of depth_limit gcd gcd_in is_out
just_long = refl

too_long_is : admission_of worked_tables (read (repeated 15)) ≡ refused_for (too_long 6 7)
unfolding admission_of depth_limit gcd gcd_in is_out
too_long_is = refl

-- n times let x = union x x in .., from this name, and then the term
abbrev doublings : ℕ → Name → Term → Term
doublings zero x e = e
doublings (suc n) x e = let_in (codes "x") (at (span 0 9) (UnionE (name x) (name x))) (doublings n (codes "x") e)

just_wide : admission_of worked_tables (read (doublings 6 (codes "people") (at (span 0 9) (SizeE (name (codes "x")))))) ≡ accepted (doublings 6 (codes "people") (at (span 0 9) (SizeE (name (codes "x"))))) (Fin 64 1)
unfolding admission_of depth_limit gcd gcd_in is_out
just_wide = refl

too_wide_is : admission_of worked_tables (read (doublings 6 (codes "people") (at (span 0 9) (SizeE (at (span 6 8) (UnionE (name (codes "x")) (name (codes "people")))))))) ≡ refused_for (too_wide 6 8 65)
unfolding admission_of depth_limit gcd gcd_in is_out
too_wide_is = refl

-- 0 * size of the last of n maps, each of which sums the bag before for each row
abbrev pub unweighed : ℕ → Term
unweighed n = at (span 0 9) (TimesE (pos 0) (nested n))

-- seven are accepted by the typing rules, and take too many walks
pub seven_walk_too_much : TakesTooManyWalks worked_tables (unweighed 7)
unfolding depth_limit gcd gcd_in is_out
seven_walk_too_much = (_, _, refl, refl)

six_do_not : TakesTooManyWalks worked_tables (unweighed 6) → ⊥
unfolding depth_limit
six_do_not walks = absurd (cc walks.3)

-- so six are accepted, and seven aren't: they have no plan
pub six_are_admitted : admission_of worked_tables (read (unweighed 6)) ≡ accepted (unweighed 6) (Fin 0 1)
unfolding admission_of depth_limit gcd gcd_in is_out
six_are_admitted = refl

seven_are_admitted : admission_of worked_tables (read (unweighed 7)) ≡ walks_too_much
unfolding admission_of depth_limit gcd gcd_in is_out
seven_are_admitted = refl

-- a limit that is passed behind too many walks, or before them, is what the program is refused for
walks_then_wide : admission_of worked_tables (read (at (span 0 9) (TimesE (pos 0) (nested_and_doubled 7 7)))) ≡ refused_for (too_wide 0 1 128)
unfolding admission_of depth_limit gcd gcd_in is_out
walks_then_wide = refl

wide_then_walks : admission_of worked_tables (read (at (span 0 9) (TimesE (pos 0) (doubled_and_nested 7 7)))) ≡ refused_for (too_wide 0 1 128)
unfolding admission_of depth_limit gcd gcd_in is_out
wide_then_walks = refl

walks_then_narrow : admission_of worked_tables (read (at (span 0 9) (TimesE (pos 0) (nested_and_doubled 7 6)))) ≡ walks_too_much
unfolding admission_of depth_limit gcd gcd_in is_out
walks_then_narrow = refl

pub six_have_a_plan : IsPlanOf worked_tables (unweighed 6) (record { depth = 10; turns = 39; width = 1; walks = 64; reach = 15 })
unfolding depth_limit
six_have_a_plan = (_, refl)

six_are_accepted : (program : List ℕ) (sens : Sens) → IsReading program (read (unweighed 6)) → distance_of sens ≡ Fin 0 1 → IsAccepted worked_tables program (record { term = unweighed 6; sens = sens })
six_are_accepted program sens reads is = record { reads = reads; accepts = six_are_admitted ∙ ap (accepted (unweighed 6)) (sym is); planned = (_, six_have_a_plan) }

seven_are_not : (program : List ℕ) (a : Accepted) → IsReading program (read (unweighed 7)) → IsAccepted worked_tables program a → ⊥
seven_are_not program a reads is = accepted_walks_little worked_tables program a is (unweighed 7, reads, seven_walk_too_much)

-- without the 0 they are refused by the typing rules
unbounded_walks : TakesTooManyWalks worked_tables (nested 7) → ⊥
unfolding gcd gcd_in is_out
unbounded_walks walks = absurd (cc walks.2)
