use Rattle.std.proofs.Common.{length, ap, ◌∙◌, sym, arith, ◌≡◌, subst}
use Rattle.metric_values.specs.Columns.{cells_of}
use Rattle.metric_values.specs.Rows.{IsColumnTable}
use Rattle.metric_values.specs.declared.table.Rows.TheVariants.{Whole}
use Rattle.metric_values.proofs.SideBySide.{all_length}
use Rattle.metric_values.proofs.table.Table.new.Goals as goal

pub invariant_of-result : goal.invariant_of-result
invariant_of-result c =
    let cs = c.args.columns.items in
    let long = all_length cs c.requires.columns c.index.result.now in
    let read = ap (λ x. length (cells_of x)) c.index.ensures in
    subst (λ v. IsColumnTable v.items Whole) (sym c.in_ok-shared.ensures) record {
      equal = c.requires.columns;
      narrow = c.requires.narrow;
      chosen = tt;
      short = omega (arith, c.if-len.false, c.len.ensures, long, read);
    }
