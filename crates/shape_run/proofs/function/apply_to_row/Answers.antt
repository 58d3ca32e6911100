use Rattle.std.proofs.Common.{refl}
use Rattle.shape_law.specs.Shapes.{Wide}
use Rattle.shape_run.proofs.CellFacts.{shape_kept}
use Rattle.shape_run.proofs.function.apply_to_row.Goals as goal

pub enter-requires-clause-function : goal.enter-requires-clause-function
enter-requires-clause-function c =
    let f = c.requires.function in
    (f.0, shape_kept c.args.nodes.now.terms c.args.store.now.cells.items c.ground.new.self.cells.items c.args.function f.0 c.ground.ensures.grown f.1)

pub enter-requires-clause-argument : goal.enter-requires-clause-argument
enter-requires-clause-argument c = (Wide 0 0 0, c.in-Ok.ensures.is c.args.nodes.now.terms (Wide 0 0 0) refl)

pub returns : goal.returns
returns c = λ p h.
    c.enter.ensures.is p (Wide 0 0 0)
    (shape_kept c.args.nodes.now.terms c.args.store.now.cells.items c.ground.new.self.cells.items c.args.function p c.ground.ensures.grown h)
    (c.in-Ok.ensures.is c.args.nodes.now.terms (Wide 0 0 0) refl)
