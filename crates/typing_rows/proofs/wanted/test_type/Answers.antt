use Rattle.std.proofs.Common.{subst, IfOk}
use Rattle.fz_ast.specs.Types.{Ty}
use Rattle.fz_ast.proofs.Arenas.{grows_at}
use Rattle.typing_rows.specs.Parts.{IsTyped}
use Rattle.typing_rows.proofs.Answering.{unlimited_is}
use Rattle.typing_rows.proofs.wanted.test_type.Goals as goal

pub returns-clause-is : goal.returns-clause-is
returns-clause-is c =
    let g = unlimited_is (grows_at c.args.arena.now c.truth.new.arena c.args.a c.requires c.in_ok-given.ensures.grows) c.in_ok-given.ensures.is.1 in
    subst (λ (A : Ty). IfOk c.unlimited_type.result (λ t. IsTyped c.unlimited_type.new.arena t A)) g c.unlimited_type.ensures.is
