use Rattle.std.proofs.Common.{refl, sym}
use Rattle.shape_law.specs.Shapes.{side_shape}
use Rattle.shape_run.proofs.CellFacts.{on_ok, scope_kept}
use Rattle.shape_run.proofs.store.Store.bind_side.Goals as goal

pub returns-clause-is : goal.returns-clause-is
returns-clause-is c = on_ok c.bind.result c.bind.ensures.is (λ n f. λ N p σ h k.
    f N (side_shape p) σ (c.in-Ok.ensures.is N (side_shape p) (sym (rw (c.width-width.ensures N p h, c.walks-walks.ensures N p h, c.height-height.ensures N p h) refl)))
    (scope_kept N c.args.self.now.cells.items c.ground.new.self.cells.items c.args.scope σ c.ground.ensures.grown k))
