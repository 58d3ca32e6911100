use Rattle.fz_ast.specs.Types.{TextT, UnlimitedT}
use Rattle.sensitivity_check.proofs.Functions.{other_says, wanted_says}
use Rattle.sensitivity_check.proofs.function.wanted.Goals as goal

pub returns-then-same : goal.returns-then-same
returns-then-same c = record {
  says = λ D a. wanted_says c.args.arena.now c.function_type.new.arena c.args.span c.args.found (UnlimitedT c.args.row.now TextT) c.in_ok-function.function D c.requires c.in_ok-function.ensures.grows c.in_ok-function.ensures.is c.if-same.true c.same.ensures a;
}

pub returns : goal.returns
returns c = record {
  says = λ D a. other_says c.args.arena.now c.function_type.new.arena c.args.span c.args.found (UnlimitedT c.args.row.now TextT) c.in_ok-function.function D c.requires c.in_ok-function.ensures.grows c.in_ok-function.ensures.is c.if-same.false c.same.ensures;
}
