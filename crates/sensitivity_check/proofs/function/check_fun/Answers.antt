use Rattle.std.proofs.Common.{[], refl}
use Rattle.row_functions.specs.RowFunctions.{function_rule}
use Rattle.sensitivity_check.proofs.Functions.{is_function}
use Rattle.sensitivity_check.proofs.function.check_fun.Goals as goal

pub returns-in-Ok-clause-checked : goal.returns-in-Ok-clause-checked
returns-in-Ok-clause-checked c = record {
  term = refl;
  function = is_function c.judged_function.new.arena c.args.row.now c.args.term.now c.in-Ok.field-0 c.in-Ok.ensures.says;
  limits = c.judged_function.ensures.limits;
}

pub returns-clause-fault : goal.returns-clause-fault
returns-clause-fault c = c.with_types.ensures [] (function_rule c.args.row.now c.args.term.now) c.in-Err.ensures.says
