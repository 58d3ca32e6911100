use Rattle.shape_run.proofs.CellFacts.{fn_added, fun_added}
use Rattle.shape_run.proofs.store.Store.function.Goals as goal

pub returns-in-Fun-clause-is : goal.returns-in-Fun-clause-is
returns-in-Fun-clause-is c = rw c.in-Fun.is (fun_added c.args.self.now.cells.items c.push.new.self.cells.items c.args.name c.args.body c.args.scope c.push.result c.push.ensures.number c.push.ensures.grown)

pub returns-in-Fn-clause-is : goal.returns-in-Fn-clause-is
returns-in-Fn-clause-is c = rw c.in-Fn.is (fn_added c.args.self.now.cells.items c.push-in-Fn.new.self.cells.items c.args.name c.args.body c.args.scope c.push-in-Fn.result c.push-in-Fn.ensures.number c.push-in-Fn.ensures.grown)
