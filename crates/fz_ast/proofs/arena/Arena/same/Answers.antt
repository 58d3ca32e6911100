-- What is left to prove of arena::Arena::same.
use Rattle.fz_ast.proofs.Arenas.{same_is}
use Rattle.fz_ast.proofs.arena.Arena.same.Goals as goal

pub returns : goal.returns
returns c = rw (← c.self.view_is) (same_is c.self.inside.types c.self.invariant.distinct c.args.a c.args.b (rw (← c.self.view_is) at c.requires.0) (rw (← c.self.view_is) at c.requires.1))
