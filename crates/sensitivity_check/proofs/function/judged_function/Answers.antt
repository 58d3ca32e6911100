use Rattle.std.proofs.Common.{ap, subst, sym, ◌≡◌, ◌∙◌}
use Rattle.std.specs.Prelude.{Ok}
use Rattle.fz_ast.specs.Signature.{Signature}
use Rattle.fz_ast.specs.Terms.{span_of}
use Rattle.fz_ast.specs.Types.{TextT, UnlimitedT}
use Rattle.linear_types.specs.Inferred.{Has}
use Rattle.linear_types.specs.Program.{context_of}
use Rattle.linear_types.specs.Rule.{exactly, rule}
use Rattle.linear_types.specs.Typing.{Closed}
use Rattle.typing_rows.specs.Says.{Says}
use Rattle.sensitivity_check.proofs.Judging.{one_says}
use Rattle.sensitivity_check.proofs.function.judged_function.Goals as goal

pub returns-clause-says : goal.returns-clause-says
returns-clause-says c =
    let row = c.args.row.now in
    let s : c.node.result.now.span ≡ span_of c.args.term.now = ap span_of (sym c.node.ensures.form ∙ c.parts-root.ensures.is) in
    one_says c.judged.new.arena c.wanted.new.arena c.in_ok-found.found c.wanted.result (rule Closed c.args.term.now) (λ A D. exactly (span_of c.args.term.now) A (UnlimitedT row TextT) (Has A D))
    (subst (λ (ts : Signature). Says c.judged.new.arena (Ok c.in_ok-found.found) (rule (context_of ts) c.args.term.now)) c.new-tables.ensures c.in_ok-found.ensures.says)
    (λ D a. rw (← s) (c.wanted.ensures.says D a))
