use Rattle.std.proofs.Common.{get_or, refl}
use Rattle.fz_ast.specs.Names.{name_of}
use Rattle.sensitivity_check.proofs.Scopes.{says_bound, says_unbound}
use Rattle.sensitivity_check.proofs.scope.look.Goals as goal

pub returns-in_default : goal.returns-in_default
returns-in_default c = λ T h. says_unbound c.args.s T c.args.scope.now (name_of c.args.name) c.in_default.ensures.is

pub returns-in-Ok : goal.returns-in-Ok
returns-in-Ok c = λ T h. says_bound c.args.s T c.args.scope.now (name_of c.args.name) c.in-Some.i c.index-scope-i.result (record { ty = (get_or c.args.scope.now c.in-Some.i c.index-scope-i.result).ty; amounts = c.in-Ok.amounts }) h c.in-Some.ensures.is refl c.in-Ok.ensures
