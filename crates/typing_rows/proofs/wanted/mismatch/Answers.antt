use Rattle.std.proofs.Common.{ℕ, sym, ap, subst, IfOk}
use Rattle.std.specs.Prelude.{Result}
use Rattle.fz_ast.specs.declared.memory.NoMemory.{NoMemory}
use Rattle.fz_ast.proofs.Arenas.{grows_at, grows_known}
use Rattle.linear_types.specs.Inferred.{Mismatch, Exactly}
use Rattle.typing_rows.specs.Parts.{IsTyped}
use Rattle.typing_rows.proofs.wanted.mismatch.Goals as goal

pub returns-in-Ok : goal.returns-in-Ok
returns-in-Ok c = λ T U A k g i.
    let j = subst (λ (r : Result ℕ NoMemory). IfOk r (λ t. IsTyped U t A)) c.in-Ok.is i in
    (Exactly A, grows_known T U c.args.found k g, (j.0, ap Exactly (sym j.1)), ap (λ B. Mismatch c.args.span B (Exactly A)) (sym (grows_at T U c.args.found k g)))
