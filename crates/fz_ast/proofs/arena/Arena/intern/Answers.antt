-- What is left to prove of arena::Arena::intern.
use Rattle.std.proofs.Common.{sym, arith}
use Rattle.fz_ast.specs.TypeNodes.{type_at, type_of}
use Rattle.fz_ast.proofs.Arenas.{found, is_new, arena_pushed, pushed_at, with_found, with_new}
use Rattle.fz_ast.proofs.arena.Arena.intern.Goals as goal

pub overflow_cast-result : goal.overflow_cast-result
overflow_cast-result c = let l = (found c.self.inside.types c.self.inside.forms.keys c.args.form c.self.invariant c.in-Some.i (sym c.in-Some.ensures.index)).0 in let few = c.self.invariant.few in omega arith

pub returns-in-Some-clause-is : goal.returns-in-Some-clause-is
returns-in-Some-clause-is c = rw (← c.self.view_is) (found c.self.inside.types c.self.inside.forms.keys c.args.form c.self.invariant c.in-Some.i (sym c.in-Some.ensures.index))

pub returns-in-Some-clause-added : goal.returns-in-Some-clause-added
returns-in-Some-clause-added c =
    let T = c.self.inside.types in
    let f = found T c.self.inside.forms.keys c.args.form c.self.invariant c.in-Some.i (sym c.in-Some.ensures.index) in
    rw (← c.self.view_is) (with_found T (type_of (type_at T) c.args.form) c.in-Some.i f.0 f.1)

pub invariant_of-self-2 : goal.invariant_of-self-2
invariant_of-self-2 c =
    let keys = rw c.unwrap.ensures at c.insert.ensures.keys in
    let fits = rw c.in_ok-n.was at c.push.type_inv in
    let number = c.in_ok-n.ensures.number in
    arena_pushed c.self.inside.types _ c.self.inside.forms.keys _ _ c.args.form c.self.invariant (rw (← c.self.view_is) at c.requires.known) (sym c.in_default.ensures.found) c.in_ok-n.ensures.grown c.reserve.ensures.keys keys (omega (arith, fits))

pub returns-clause-is : goal.returns-clause-is
returns-clause-is c = rw (← c.self.view_is) (pushed_at c.self.inside.types _ c.args.form _ c.in_ok-n.ensures.number c.in_ok-n.ensures.grown)

pub returns-clause-added : goal.returns-clause-added
returns-clause-added c =
    let T = c.self.inside.types in
    rw (← c.self.view_is, c.in_ok-n.ensures.grown) (with_new T (type_of (type_at T) c.args.form) (is_new T c.self.inside.forms.keys c.args.form c.self.invariant (sym c.in_default.ensures.found) (rw (← c.self.view_is) at c.requires.known)))
