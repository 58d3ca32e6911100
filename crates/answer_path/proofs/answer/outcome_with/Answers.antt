use Rattle.std.proofs.Common.{subst, sym}
use Rattle.fz_ast.specs.Signature.{Signature}
use Rattle.metric_values.specs.Tables.{Dataset, IsDataset}
use Rattle.part_views.specs.Views.{rows_in}
use Rattle.part_views.proofs.Laws.{views_are_datasets}
use Rattle.answer_path.proofs.answer.outcome_with.Goals as goal

pub run-requires-clause-dataset : goal.run-requires-clause-dataset
run-requires-clause-dataset c =
    let held = c.tables.ensures.holding in
    let holding = c.args.dataset.now in
    subst (λ (X : Dataset). IsDataset (c.args.admitted.now.checked.sig.now) X) (sym c.tables.ensures.rows)
    (subst (λ (ts : Signature). IsDataset ts (rows_in holding.partitions c.args.view holding.rows)) (sym c.requires.admitted.checked.sig)
    (views_are_datasets holding.tables holding.partitions c.args.view holding.rows held.signature held.partitions held.dataset).1)
