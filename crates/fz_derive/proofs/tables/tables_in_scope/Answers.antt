use Rattle.std.proofs.Common.{List, [], refl, arith, ◌≤◌, length, take, ap, subst, sym, ◌∙◌}
use Rattle.std.proofs.lemmas.List.{take_all}
use Rattle.fz_ast.proofs.Arenas.{grows_refl, grows_trans}
use Rattle.fz_derive.specs.Judged.{names_of}
use Rattle.derivation_rows.specs.declared.scope.Bound.{Bound}
use Rattle.fz_derive.proofs.TableNames.{AreTables, no_tables, one_table_more, signed}
use Rattle.fz_derive.proofs.tables.tables_in_scope.Goals as goal

pub loop-i-preserved : goal.loop-i-preserved
loop-i-preserved c =
    let U = c.loop-i.arena in let V = c.table_type.new.arena in
    let t = c.table-table.result.now in
    record {
      grows = grows_trans c.args.arena.now U V c.loop-i.invariant.grows c.in_ok-ty.ensures.grows;
      signature = λ k. c.table-table.ensures.signature;
      tables = rw c.in_default.ensures.items (one_table_more U V c.loop-i.scope.items c.args.sig.now c.loop-i.i (record { name = t.name; ty = c.in_ok-ty.ty }) t c.in_ok-ty.ensures.grows c.table-table.ensures.is refl c.in_ok-ty.ensures.is c.loop-i.invariant.tables);
    }

pub returns-clause-signature : goal.returns-clause-signature
returns-clause-signature c = signed c.args.sig.now c.loop-i.i c.loop-i.invariant.signature (let h = c.loop-i-test.false in let k = c.len-i-end.ensures in omega arith)

pub loop-i-init : goal.loop-i-init
loop-i-init c = record {
  grows = grows_refl c.args.arena.now;
  signature = λ k. absurd (omega (arith, k));
  tables = subst (λ (bs : List Bound). AreTables c.args.arena.now bs []) (sym c.new-scope.ensures.items) (no_tables c.args.arena.now);
}

pub returns-in_err-ty-clause-grows : goal.returns-in_err-ty-clause-grows
returns-in_err-ty-clause-grows c = grows_trans c.args.arena.now c.loop-i.arena c.table_type.new.arena c.loop-i.invariant.grows c.in_err-ty.ensures.grows

pub returns-in-Err-clause-grows : goal.returns-in-Err-clause-grows
returns-in-Err-clause-grows c = grows_trans c.args.arena.now c.loop-i.arena c.table_type.new.arena c.loop-i.invariant.grows c.in_ok-ty.ensures.grows

pub returns-in-Err-clause-scope : goal.returns-in-Err-clause-scope
returns-in-Err-clause-scope c = tt

pub returns-in-Err-clause-are : goal.returns-in-Err-clause-are
returns-in-Err-clause-are c = tt

pub returns-in-Err-clause-signature : goal.returns-in-Err-clause-signature
returns-in-Err-clause-signature c = tt

pub returns-clause-grows : goal.returns-clause-grows
returns-clause-grows c = c.loop-i.invariant.grows

pub returns-clause-scope : goal.returns-clause-scope
returns-clause-scope c = c.loop-i.invariant.tables.scoped

pub returns-clause-are : goal.returns-clause-are
returns-clause-are c = c.loop-i.invariant.tables.are ∙ ap names_of (take_all c.loop-i.i c.args.sig.now (let h = c.loop-i-test.false in let k = c.len-i-end.ensures in omega (arith, h, k)))
