-- What is left to prove of sig::Sig::contains.
use Rattle.std.proofs.Common.{◌≡◌, true, false, sym, ◌∙◌}
use Rattle.std.specs.Prelude.{bytes_eq}
use Rattle.fz_ast.specs.Names.{name_of}
use Rattle.fz_ast.proofs.Signatures.{taken_at, kept_at}
use Rattle.fz_ast.proofs.sig.Sig.contains.Goals as goal

pub returns-then-eq-clause-taken : goal.returns-then-eq-clause-taken
returns-then-eq-clause-taken c =
    let h : bytes_eq (name_of c.table-item.result.name) c.args.name.now ≡ true = rw (← c.as_bytes.ensures) (sym c.eq.ensures ∙ c.if-eq.true) in
    λ _ f. taken_at c.args.name.now c.args.self.now c.self.inside.tables.items c.deref-table-items.result.now c.loop-table.table-index c.table-item.result c.deref-table-items.ensures.value c.self.view_is c.loop-table-test.true c.table-item.is h f

pub loop-table-preserved : goal.loop-table-preserved
loop-table-preserved c =
    let h : bytes_eq (name_of c.table-item.result.name) c.args.name.now ≡ false = rw (← c.as_bytes.ensures) (sym c.eq.ensures ∙ c.if-eq.false) in
    kept_at c.args.name.now c.deref-table-items.result.now c.loop-table.table-index c.table-item.result c.loop-table-test.true c.table-item.is h c.loop-table.invariant
