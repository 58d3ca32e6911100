use Rattle.std.proofs.Common.{refl}
use Rattle.shape_law.specs.Shapes.{first_half}
use Rattle.shape_run.proofs.CellFacts.{on_ok, scope_kept}
use Rattle.shape_run.proofs.store.Store.bind_first.Goals as goal

pub returns-clause-is : goal.returns-clause-is
returns-clause-is c = on_ok c.bind.result c.bind.ensures.is (λ n f. λ N p σ h k.
    f N (first_half p) σ (c.in-Ok.ensures.is N (first_half p) (p, h, refl)) (scope_kept N c.args.self.now.cells.items c.first.new.self.cells.items c.args.scope σ c.first.ensures.grown k))
