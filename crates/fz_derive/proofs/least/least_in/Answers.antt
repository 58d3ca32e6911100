use Rattle.std.proofs.Common.{◌≡◌, ◌∙◌, ◌++◌, List, ap, subst, sym}
use Rattle.std.specs.Prelude.{None, Some}
use Rattle.fz_ast.specs.TermNodes.{term_at}
use Rattle.fz_ast.specs.Types.{Ty}
use Rattle.derivation_lines.specs.Held.{lines_in}
use Rattle.derivation_lines.specs.Interned.{AreWritten}
use Rattle.fz_derive.specs.Judged.{names_of}
use Rattle.fz_derive.specs.Least.{least, lines_of}
use Rattle.derivation_rows.specs.Scoped.{context_in}
use Rattle.derivation_lines.specs.declared.line.Line.{Line as KeptLine}
use Rattle.fz_derive.proofs.Making.{failed, making_begun, program_fails, program_same}
use Rattle.derivation_rows.proofs.Scopes.{context_grows}
use Rattle.fz_derive.proofs.least.least_in.Goals as goal

pub node-requires-clause-making : goal.node-requires-clause-making
node-requires-clause-making c =
    let N = c.parts-root.result.0.now in let V = c.interned.new.arena in
    making_begun N c.intern.new.self c.tables_in_scope.new.arena V c.deref.result.now c.in_ok-tables.tables.items c.in_ok-scope.scope.bounds.items c.new-lines.result.items c.in_ok-intern.field-0 c.in_ok-intern.ensures.is.0 c.in_ok-tables.ensures.grows
    c.in_ok-written.ensures.grows (subst (AreWritten N.types V) (sym c.deref.ensures.value) (subst (λ (T : List Ty). AreWritten T V c.in_ok-written.written.items) c.types.ensures c.in_ok-written.ensures.are))
    c.in_ok-tables.ensures.scope c.in_ok-scope.ensures c.new-lines.ensures.items

pub returns-in_err-node-clause-fails : goal.returns-in_err-node-clause-fails
returns-in_err-node-clause-fails c =
    let N = c.parts-root.result.0.now in let U = c.tables_in_scope.new.arena in let V = c.interned.new.arena in let t = term_at N.terms c.parts-root.result.1 in let Γ = context_in V c.in_ok-scope.scope.bounds.items in
    let ts = c.args.sig.now in let f = c.in_err-node.field-0.0 in
    program_fails c.from_residual-in_err-node.result f (least (names_of ts) c.args.term.now ≡ None) c.from_residual-in_err-node.ensures.1
    (λ e. program_same Γ (names_of ts) c.args.term.now t None (ap (context_in V) c.in_ok-scope.ensures ∙ context_grows U V c.in_ok-tables.tables.items c.in_ok-written.ensures.grows c.in_ok-tables.ensures.scope ∙ c.in_ok-tables.ensures.are)
    c.parts-root.ensures.is (failed Γ t V c.new-lines.result.items c.node.new.arena c.node.new.lines.items f c.in_err-node.ensures.adds e))

pub returns-clause-is : goal.returns-clause-is
returns-clause-is c =
    let N = c.parts-root.result.0.now in let U = c.tables_in_scope.new.arena in let V = c.interned.new.arena in let t = term_at N.terms c.parts-root.result.1 in let Γ = context_in V c.in_ok-scope.scope.bounds.items in
    let ts = c.args.sig.now in let a = c.in_ok-node.ensures.adds in (
      a.0,
      program_same Γ (names_of ts) c.args.term.now t (Some a.0) (ap (context_in V) c.in_ok-scope.ensures ∙ context_grows U V c.in_ok-tables.tables.items c.in_ok-written.ensures.grows c.in_ok-tables.ensures.scope ∙ c.in_ok-tables.ensures.are)
          c.parts-root.ensures.is a.1,
      a.2.lines ∙ ap (λ (z : List KeptLine). lines_in V z ++ lines_of a.0) c.new-lines.ensures.items,
    )
