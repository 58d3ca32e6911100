use Rattle.std.proofs.Common.{◌≡◌, ◌∙◌}
use Rattle.std.proofs.lemmas.Result.{IfOk-weaker}
use Rattle.fz_ast.proofs.Arenas.{grows_at}
use Rattle.fz_ast.specs.TypeNodes.{type_at}
use Rattle.fz_ast.specs.Types.{TextT, UnlimitedT}
use Rattle.typing_rows.proofs.Answering.{unlimited_is}
use Rattle.typing_rows.specs.Parts.{IsTyped}
use Rattle.sensitivity_check.specs.Written.{IsNumberOf}
use Rattle.sensitivity_check.proofs.function.function_type.Goals as goal

pub returns-clause-is : goal.returns-clause-is
returns-clause-is c =
    let T = c.type_number.new.arena in let U = c.intern.new.self in let V = c.unlimited_type.new.arena in
    let taken = c.in_ok-taken.ensures.is in
    let row : type_at U c.in_ok-taken.taken ≡ c.args.row.now = grows_at T U c.in_ok-taken.taken taken.known c.in_ok-given.ensures.grows ∙ taken.is in
    let e = unlimited_is row c.in_ok-given.ensures.is.1 in
    IfOk-weaker c.unlimited_type.result (λ n. IsTyped V n (UnlimitedT (type_at U c.in_ok-taken.taken) (type_at U c.in_ok-given.given))) (λ n. IsNumberOf V n (UnlimitedT c.args.row.now TextT))
    (λ n h. record { known = h.0; is = h.1 ∙ e }) c.unlimited_type.ensures.is
