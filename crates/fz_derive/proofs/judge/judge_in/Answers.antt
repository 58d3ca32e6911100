use Rattle.std.proofs.Common.{◌+◌, ◌≤◌, ◌≡◌, length, sym, ap, ◌∙◌, arith, IfErr}
use Rattle.fz_ast.proofs.Arenas.{grows_trans}
use Rattle.fz_ast.specs.TermNodes.{term_at}
use Rattle.derivation_rows.specs.Nodes.{nodes_of}
use Rattle.derivation_rows.specs.Scoped.{context_in}
use Rattle.derivation_lines.proofs.Numbered.{written_grows}
use Rattle.derivation_rows.proofs.Scopes.{scope_grows}
use Rattle.fz_derive.proofs.Verdicts.{all_lines, handed_on, has_bound, judged, misjudged, not_lines, refused_so, tables_grow}
use Rattle.fz_frac.specs.declared.frac.Frac.{Frac}
use Rattle.fz_frac.specs.Distance.{Fin}
use Rattle.derivation_lines.specs.declared.line.JudgeFault.{JudgeFault}
use Rattle.derivation_lines.specs.declared.line.JudgeFault.TheVariants.{NoMemory}
use Rattle.fz_derive.specs.Bound.{HasBound}
use Rattle.fz_derive.specs.Judged.{IsJudged}
use Rattle.fz_derive.proofs.Walked.{nodes_above}
use Rattle.fz_derive.proofs.judge.judge_in.Goals as goal

pub returns-in_err-lines-clause-fault : goal.returns-in_err-lines-clause-fault
returns-in_err-lines-clause-fault c =
    let ts = c.args.sig.now in
    let e = c.args.term.now in
    let f = c.in_err-lines.field-0.0 in
    handed_on ts e c.args.bytes.now c.from_residual-in_err-lines.result f c.from_residual-in_err-lines.ensures.1 (not_lines ts e c.args.bytes.now f c.requires (rw (c.count.ensures, c.parts-root.ensures.is) at c.in_err-lines.ensures.fault))

pub verdict-requires-clause-walk : goal.verdict-requires-clause-walk
verdict-requires-clause-walk c =
    let N = c.parts-root.result.0.now in
    let U = c.interned.new.arena in
    let V = c.read_lines.new.arena in
    let counted = all_lines c.args.bytes.now V c.in_ok-lines.lines.items (nodes_of (term_at N.terms c.parts-root.result.1)) c.requires c.in_ok-lines.ensures.lines (c.in_ok-lines.ensures.count ∙ c.count.ensures) in
    record {
      view = record {
        written = rw c.deref-2.ensures.value (written_grows N.types U V c.in_ok-written.written.items c.in_ok-lines.ensures.grows (rw c.types.ensures at c.in_ok-written.ensures.are));
        held = rw c.deref-3.ensures.value c.in_ok-lines.ensures.held;
      };
      sizes = rw c.deref-4.ensures.value c.in_ok-sizes.ensures.are;
      known = rw c.deref-4.ensures.value (let h = c.in_ok-sizes.ensures.all in let k = c.parts-root.ensures.known in omega arith);
      few = rw c.deref-3.ensures.value counted.1;
    }

pub verdict-requires-clause-scope : goal.verdict-requires-clause-scope
verdict-requires-clause-scope c =
    let T = c.tables_in_scope.new.arena in
    let U = c.interned.new.arena in
    let V = c.read_lines.new.arena in
    rw c.deref-5.ensures.value (scope_grows T V c.in_ok-scope.scope.items (grows_trans T U V c.in_ok-written.ensures.grows c.in_ok-lines.ensures.grows) c.in_ok-scope.ensures.scope)

pub verdict-requires-clause-fits : goal.verdict-requires-clause-fits
verdict-requires-clause-fits c =
    let N = c.parts-root.result.0.now in
    let n = nodes_of (term_at N.terms c.parts-root.result.1) in
    let counted = all_lines c.args.bytes.now c.read_lines.new.arena c.in_ok-lines.lines.items n c.requires c.in_ok-lines.ensures.lines (c.in_ok-lines.ensures.count ∙ c.count.ensures) in
    rw c.deref-3.ensures.value (let e = counted.0 in omega arith)

pub returns-clause-ok : goal.returns-clause-ok
returns-clause-ok c =
    let t = term_at c.parts-root.result.0.now.terms c.parts-root.result.1 in
    let V = c.read_lines.new.arena in
    let n = nodes_of t in
    let ls = c.deref-3.result.now in
    let counted = all_lines c.args.bytes.now V c.in_ok-lines.lines.items n c.requires c.in_ok-lines.ensures.lines (c.in_ok-lines.ensures.count ∙ c.count.ensures) in
    judged c.args.sig.now c.args.term.now t c.args.bytes.now V (context_in V c.deref-5.result.now) ls c.parts-root.ensures.is
    (tables_grow c.args.sig.now c.tables_in_scope.new.arena c.interned.new.arena V c.in_ok-scope.scope.items c.deref-5.result.now c.in_ok-written.ensures.grows c.in_ok-lines.ensures.grows c.in_ok-scope.ensures.scope c.in_ok-scope.ensures.are c.deref-5.ensures.value)
    (rw c.deref-3.ensures.value c.in_ok-lines.ensures.lines) (rw c.deref-3.ensures.value (counted.0 ∙ ap nodes_of c.parts-root.ensures.is)) c.verdict.result c.verdict.ensures.ok

pub returns-clause-bound : goal.returns-clause-bound
returns-clause-bound c =
    let e = c.args.term.now in
    has_bound c.args.sig.now e c.args.bytes.now c.verdict.result c.in_ok-scope.ensures.signature c.parts-root.ensures.limits (returns-clause-ok c)

pub returns-clause-fault : goal.returns-clause-fault
returns-clause-fault c =
    let t = term_at c.parts-root.result.0.now.terms c.parts-root.result.1 in
    let V = c.read_lines.new.arena in
    let n = nodes_of t in
    let ls = c.deref-3.result.now in
    let counted = all_lines c.args.bytes.now V c.in_ok-lines.lines.items n c.requires c.in_ok-lines.ensures.lines (c.in_ok-lines.ensures.count ∙ c.count.ensures) in
    misjudged c.args.sig.now c.args.term.now t c.args.bytes.now V (context_in V c.deref-5.result.now) ls c.parts-root.ensures.is
    (tables_grow c.args.sig.now c.tables_in_scope.new.arena c.interned.new.arena V c.in_ok-scope.scope.items c.deref-5.result.now c.in_ok-written.ensures.grows c.in_ok-lines.ensures.grows c.in_ok-scope.ensures.scope c.in_ok-scope.ensures.are c.deref-5.ensures.value)
    (rw c.deref-3.ensures.value c.in_ok-lines.ensures.lines) (rw c.deref-3.ensures.value (counted.0 ∙ ap nodes_of c.parts-root.ensures.is)) c.verdict.result c.verdict.ensures.fault

pub returns-in_err-scope-clause-ok : goal.returns-in_err-scope-clause-ok
returns-in_err-scope-clause-ok c = refused_so (λ (r : Frac). IsJudged c.args.sig.now c.args.term.now c.args.bytes.now (Fin r.p r.q)) (λ (y : JudgeFault). y ≡ NoMemory) c.from_residual.result c.from_residual.ensures.1

pub returns-in_err-scope-clause-bound : goal.returns-in_err-scope-clause-bound
returns-in_err-scope-clause-bound c = refused_so (λ (r : Frac). HasBound c.args.sig.now c.args.term.now (Fin r.p r.q)) (λ (y : JudgeFault). y ≡ NoMemory) c.from_residual.result c.from_residual.ensures.1

pub returns-in_err-scope-clause-fault : goal.returns-in_err-scope-clause-fault
returns-in_err-scope-clause-fault c = handed_on c.args.sig.now c.args.term.now c.args.bytes.now c.from_residual.result NoMemory c.from_residual.ensures.1 tt

pub returns-in_err-written-clause-ok : goal.returns-in_err-written-clause-ok
returns-in_err-written-clause-ok c = refused_so (λ (r : Frac). IsJudged c.args.sig.now c.args.term.now c.args.bytes.now (Fin r.p r.q)) (λ (y : JudgeFault). y ≡ NoMemory) c.from_residual-in_err-written.result c.from_residual-in_err-written.ensures.1

pub returns-in_err-written-clause-bound : goal.returns-in_err-written-clause-bound
returns-in_err-written-clause-bound c = refused_so (λ (r : Frac). HasBound c.args.sig.now c.args.term.now (Fin r.p r.q)) (λ (y : JudgeFault). y ≡ NoMemory) c.from_residual-in_err-written.result c.from_residual-in_err-written.ensures.1

pub returns-in_err-written-clause-fault : goal.returns-in_err-written-clause-fault
returns-in_err-written-clause-fault c = handed_on c.args.sig.now c.args.term.now c.args.bytes.now c.from_residual-in_err-written.result NoMemory c.from_residual-in_err-written.ensures.1 tt

pub returns-in_err-sizes-clause-ok : goal.returns-in_err-sizes-clause-ok
returns-in_err-sizes-clause-ok c = refused_so (λ (r : Frac). IsJudged c.args.sig.now c.args.term.now c.args.bytes.now (Fin r.p r.q)) (λ (y : JudgeFault). y ≡ NoMemory) c.from_residual-in_err-sizes.result c.from_residual-in_err-sizes.ensures.1

pub returns-in_err-sizes-clause-bound : goal.returns-in_err-sizes-clause-bound
returns-in_err-sizes-clause-bound c = refused_so (λ (r : Frac). HasBound c.args.sig.now c.args.term.now (Fin r.p r.q)) (λ (y : JudgeFault). y ≡ NoMemory) c.from_residual-in_err-sizes.result c.from_residual-in_err-sizes.ensures.1

pub returns-in_err-sizes-clause-fault : goal.returns-in_err-sizes-clause-fault
returns-in_err-sizes-clause-fault c = handed_on c.args.sig.now c.args.term.now c.args.bytes.now c.from_residual-in_err-sizes.result NoMemory c.from_residual-in_err-sizes.ensures.1 tt

pub returns-in_err-lines-clause-ok : goal.returns-in_err-lines-clause-ok
returns-in_err-lines-clause-ok c = refused_so (λ (r : Frac). IsJudged c.args.sig.now c.args.term.now c.args.bytes.now (Fin r.p r.q)) (λ (y : JudgeFault). y ≡ c.in_err-lines.field-0.0) c.from_residual-in_err-lines.result c.from_residual-in_err-lines.ensures.1

pub returns-in_err-lines-clause-bound : goal.returns-in_err-lines-clause-bound
returns-in_err-lines-clause-bound c = refused_so (λ (r : Frac). HasBound c.args.sig.now c.args.term.now (Fin r.p r.q)) (λ (y : JudgeFault). y ≡ c.in_err-lines.field-0.0) c.from_residual-in_err-lines.result c.from_residual-in_err-lines.ensures.1

pub count-requires-clause-known : goal.count-requires-clause-known
count-requires-clause-known c = rw c.deref.ensures.value (let h = c.in_ok-sizes.ensures.all in omega (arith, h))

pub count-requires-clause-sizes : goal.count-requires-clause-sizes
count-requires-clause-sizes c = rw c.deref.ensures.value c.in_ok-sizes.ensures.are

pub sizes-requires : goal.sizes-requires
sizes-requires c = c.parts-root.ensures.known

pub verdict-requires-clause-known : goal.verdict-requires-clause-known
verdict-requires-clause-known c = rw c.deref-4.ensures.value (let h = c.in_ok-sizes.ensures.all in omega (arith, h))

pub read_lines-requires : goal.read_lines-requires
read_lines-requires c = let h = c.requires in omega (arith, h)

pub verdict-requires-clause-some : goal.verdict-requires-clause-some
verdict-requires-clause-some c =
    let t = term_at c.parts-root.result.0.now.terms c.parts-root.result.1 in
    let counted = all_lines c.args.bytes.now c.read_lines.new.arena c.in_ok-lines.lines.items (nodes_of t) c.requires c.in_ok-lines.ensures.lines (c.in_ok-lines.ensures.count ∙ c.count.ensures) in
    rw c.deref-3.ensures.value (let e = counted.0 in let m = nodes_above t in omega (arith, e, m))
