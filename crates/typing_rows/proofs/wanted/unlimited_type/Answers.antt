use Rattle.std.proofs.Common.{subst, IfOk, ap, ◌∙◌}
use Rattle.fz_frac.specs.Distance.{Inf}
use Rattle.fz_ast.specs.Types.{Ty, ArrowT, BangT}
use Rattle.fz_ast.specs.TypeNodes.{type_at}
use Rattle.fz_ast.proofs.Arenas.{grows_at}
use Rattle.typing_rows.specs.Parts.{IsTyped}
use Rattle.typing_rows.proofs.wanted.unlimited_type.Goals as goal

pub returns-clause-is : goal.returns-clause-is
returns-clause-is c =
    let f = grows_at c.args.arena.now c.intern.new.self c.args.b c.requires.b_known c.in_ok-taken.ensures.grows in
    let e = c.in_ok-taken.ensures.is.1 in
    let g = ap (λ A. ArrowT A (type_at c.intern.new.self c.args.b)) e ∙ ap (ArrowT (BangT Inf (type_at c.args.arena.now c.args.a))) f in
    subst (λ (A : Ty). IfOk c.intern-2.result (λ t. IsTyped c.intern-2.new.self t A)) g c.intern-2.ensures.is
