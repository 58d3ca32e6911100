use Rattle.std.proofs.Common.{[], ap, arith, drop, get_or, subst, sym, ◌+◌, ◌-◌, ◌≡◌, ◌∙◌}
use Rattle.fz_ast.specs.Names.{name_of}
use Rattle.fz_ast.specs.Tables.{table_of}
use Rattle.metric_values.specs.Tables.{rows_of}
use Rattle.metric_values.specs.Values.{BagV, Bind}
use Rattle.fuzz_eval.proofs.Datasets.{as_many, rows_of_more, rows_of_none, signature_of_all}
use Rattle.fuzz_eval.proofs.run.scope_of.Goals as goal

pub loop-i-init : goal.loop-i-init
loop-i-init c = record {
  below = let h = c.len-i.ensures in omega (arith, h);
  bound = c.new-scope.ensures ∙ sym (rows_of_none c.args.sig.now c.args.tables.now c.len-i.result c.len-i.ensures);
  signature = λ l. absurd (let h = c.len-i.ensures in omega (arith, l, h));
}

pub loop-i-preserved : goal.loop-i-preserved
loop-i-preserved c =
    let i = c.loop-i.i in let ts = c.args.sig.now in let X = c.args.tables.now in
    let e : i - 1 + 1 ≡ i = let k = c.loop-i-test.true in omega (arith, k) in
    let name = name_of c.table-in-loop-i-2.result.now.name in
    record {
      below = let h = c.loop-i.invariant.below in omega (arith, h);
      bound =
          c.in_ok-scope.ensures.means ∙ ap (λ v. Bind name v c.loop-i.scope.means) (c.in_ok-rows.ensures ∙ ap BagV c.table.ensures)
          ∙ ap (λ γ. Bind name (BagV (get_or X (i - 1) [])) γ) (c.loop-i.invariant.bound ∙ ap (λ n. rows_of (drop n ts) (drop n X)) (sym e))
          ∙ rows_of_more ts X c.requires (i - 1) (table_of c.table-in-loop-i-2.result.now) c.table-in-loop-i-2.ensures.is;
      signature = λ l. c.table-in-loop-i-2.ensures.signature;
    }

pub returns-clause-scope : goal.returns-clause-scope
returns-clause-scope c =
    let z : c.loop-i.i ≡ 0 = let k = c.loop-i-test.false in omega (arith, k) in
    subst (λ n. c.loop-i.scope.means ≡ rows_of (drop n c.args.sig.now) (drop n c.args.tables.now)) z c.loop-i.invariant.bound

pub returns-clause-signature : goal.returns-clause-signature
returns-clause-signature c =
    let z : c.loop-i.i ≡ 0 = let k = c.loop-i-test.false in omega (arith, k) in
    signature_of_all c.args.sig.now (λ l. c.loop-i.invariant.signature (omega (arith, l, z)))

pub table-requires : goal.table-requires
table-requires c =
    let h = c.loop-i.invariant.below in let k = c.loop-i-test.true in
    let n = as_many c.args.sig.now c.args.tables.now c.requires in
    omega (arith, h, k, n)
