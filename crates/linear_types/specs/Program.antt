-- A whole program over the tables of a signature: its sensitivity to each table and the greatest of them, or its first fault.
use Rattle.std.specs.Prelude.{Bool, true, false, cond, [], ◌∷◌, Option, Some, None, bytes_eq}
use Rattle.fz_frac.specs.Distance.{Distance, Fin, Inf, none, greater}
use Rattle.fz_ast.specs.Types.{Ty, NumT, same_type}
use Rattle.fz_ast.specs.Terms.{Name, Term}
use Rattle.fz_ast.specs.Signature.{Signature, table_type}
use Rattle.linear_types.specs.Sensitivities.{Sensitivities, first, rest}
use Rattle.linear_types.specs.Typing.{Context, Closed, Under}
use Rattle.linear_types.specs.Inferred.{Fault, Unbounded, NotNum, Inferred, Has, Untyped}
use Rattle.linear_types.specs.Rule.{rule}

-- the tables are the names in scope
abbrev pub context_of : Signature → Context
context_of [] = Closed
context_of (t ∷ ts) = Under t.name (table_type t) (context_of ts)

abbrev pub is_endless : Distance → Bool
is_endless (Fin p q) = false
is_endless Inf = true

-- the first table with sensitivity inf
abbrev pub first_unbounded : Signature → Sensitivities → Option Name
first_unbounded [] D = None
first_unbounded (t ∷ ts) D = cond (is_endless (first D)) (Some t.name) (first_unbounded ts (rest D))

-- the greatest over the tables
abbrev pub greatest_of : Sensitivities → Distance
greatest_of [] = none
greatest_of (t ∷ D) = greater t (greatest_of D)

-- the sensitivity to the table of this name, and 0 for another name
abbrev pub sensitivity_to : Signature → Sensitivities → Name → Distance
sensitivity_to [] D x = none
sensitivity_to (t ∷ ts) D x = cond (bytes_eq t.name x) (first D) (sensitivity_to ts (rest D) x)

pub data Acceptance : Type 0 where
  -- the sensitivity to each table in order, and the greatest
  Accepted : (D : Sensitivities) (r : Distance) → Acceptance
  Faulty : (f : Fault) → Acceptance

-- a bounded number
abbrev pub number_rule : Ty → Sensitivities → Option Name → Acceptance
number_rule A D (Some x) = Faulty (Unbounded x)
number_rule A D None = cond (same_type A NumT) (Accepted D (greatest_of D)) (Faulty (NotNum A))

abbrev pub program_rule : Signature → Inferred → Acceptance
program_rule ts (Has A D) = number_rule A D (first_unbounded ts D)
program_rule ts (Untyped f) = Faulty f

abbrev pub sensitivity_of : Signature → Term → Acceptance
sensitivity_of ts t = program_rule ts (rule (context_of ts) t)
