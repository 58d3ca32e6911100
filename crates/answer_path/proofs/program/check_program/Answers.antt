use Rattle.std.proofs.Common.{◌≡◌, Result, Ok, Err, subst, sym}
use Rattle.std.specs.Result.{IfErr, IsErrAnd}
use Rattle.answer_path.proofs.Told.{term_refused}
use Rattle.answer_path.proofs.program.check_program.Goals as goal

-- a refusal that is passed on
passed : {T E : Type 0} (P : E → Type 0) (refusal : E) (result : Result T E) → IsErrAnd result (λ other. other ≡ refusal) → P refusal → IfErr result P
passed P refusal (Ok value) wrong refused = tt
passed P refusal (Err other) is refused = subst P (sym is) refused

pub returns-in_err-term-clause-refused : goal.returns-in_err-term-clause-refused
returns-in_err-term-clause-refused c = passed _ _ c.from_residual.result c.from_residual.ensures.1 (c.in_err-term.ensures.refused c.args.sig.now)

pub returns-in_err-sens-clause-refused : goal.returns-in_err-sens-clause-refused
returns-in_err-sens-clause-refused c =
    passed _ _ c.from_residual-in_err-sens.result c.from_residual-in_err-sens.ensures.1
    (term_refused c.args.sig.now c.args.bytes.now c.in_ok-term.term _ c.in_ok-term.ensures.term c.in_err-sens.ensures.refused)

pub returns-clause-accepted : goal.returns-clause-accepted
returns-clause-accepted c =
    let admitted = c.in_ok-sens.ensures.admitted in
    record { reads = c.in_ok-term.ensures.term; accepts = admitted.accepts; planned = (_, admitted.planned) }
