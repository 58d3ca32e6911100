use Rattle.std.proofs.Common.{◌≤◌, Option, Some, None, is_some, cond, arith}
use Rattle.journal_records.specs.declared.records.Outcome.{Outcome}
use Rattle.budget_core.specs.Counts.{outcome_of}
use Rattle.budget_core.proofs.Numbers.{settled_once}
use Rattle.budget_core.proofs.laws.settles_once.Goals as goal

at_most_one : (o : Option Outcome) → cond (is_some o) 1 0 ≤ 1
at_most_one None = omega arith
at_most_one (Some outcome) = omega arith

pub returns : goal.returns
returns c = λ entry records number h. omega (arith, settled_once entry records h number, at_most_one (outcome_of records number))
