use Rattle.std.proofs.Common.{◌≡◌, ◌∙◌, ap, subst}
use Rattle.fz_ast.specs.Terms.{Term}
use Rattle.linear_types.specs.Program.{context_of}
use Rattle.linear_types.specs.Rule.{rule}
use Rattle.linear_types.specs.Typing.{Context}
use Rattle.typing_rows.specs.Says.{Says}
use Rattle.sensitivity_check.specs.Scope.{context_in}
use Rattle.sensitivity_check.proofs.Scopes.{context_grows, scope_grows}
use Rattle.sensitivity_check.proofs.checker.judged.Goals as goal

pub judge-requires-clause-ready : goal.judge-requires-clause-ready
judge-requires-clause-ready c = record {
  written = rw (c.deref.ensures.value, ← c.types.ensures) c.in_ok-written.ensures.are;
  scope = rw c.deref-2.ensures.value (scope_grows c.tables_in_scope.new.arena c.interned.new.arena c.in_ok-scope.scope.items c.in_ok-written.ensures.grows c.in_ok-scope.ensures.scope);
}

pub returns-clause-says : goal.returns-clause-says
returns-clause-says c =
    let U = c.interned.new.arena in
    let i : context_in U c.deref-2.result.now ≡ context_of c.args.sig.now = ap (context_in U) c.deref-2.ensures.value ∙ context_grows c.tables_in_scope.new.arena U c.in_ok-scope.scope.items c.in_ok-written.ensures.grows c.in_ok-scope.ensures.scope ∙ c.in_ok-scope.ensures.are in
    subst (λ (Γ : Context). Says c.judge.new.arena c.judge.result (rule Γ c.args.term.now)) i
    (subst (λ (e : Term). Says c.judge.new.arena c.judge.result (rule (context_in U c.deref-2.result.now) e)) c.parts-root.ensures.is c.judge.ensures.says)
