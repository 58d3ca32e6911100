-- The partition divides a table of these rows by one of its columns.
use Rattle.std.proofs.Common.{◌∙◌, length, refl, ap, subst, arith}
use Rattle.std.proofs.lemmas.List.{length-map}
use Rattle.fz_ast.specs.Signature.{Signature}
use Rattle.metric_values.specs.Tables.{IsDataset}
use Rattle.owner_catalog.specs.Entries.{owner_entry_at, partition_entry_at, table_type_of}
use Rattle.part_views.proofs.Making.{as_many_tables, owner_partition, rows_have_column, rows_of_schema}
use Rattle.part_views.proofs.division.divide.Goals as goal

pub table-requires : goal.table-requires
table-requires c =
    let owner = owner_entry_at c.args.catalog.now c.args.owner in
    omega (
      arith,
      c.partition_table-table.ensures.there,
      as_many_tables c.args.sig.now c.args.tables.now c.requires.rows,
      ap (λ (tables : Signature). length tables) c.requires.signature,
      length-map owner.tables table_type_of,
    )

pub parts-requires-clause-typed : goal.parts-requires-clause-typed
parts-requires-clause-typed c =
    let owner = owner_entry_at c.args.catalog.now c.args.owner in
    let typed = subst (λ (tables : Signature). IsDataset tables c.args.tables.now) c.requires.signature c.requires.rows in
    let rows = rows_of_schema owner c.args.tables.now c.partition_table-table.result _ typed c.partition_table-table.ensures.there in
    rw (c.table.ensures, c.schema.ensures) rows

pub parts-requires-clause-column : goal.parts-requires-clause-column
parts-requires-clause-column c =
    let owner = owner_entry_at c.args.catalog.now c.args.owner in
    let lawful = owner_partition owner c.args.p _ (c.requires.legal.owners c.args.owner _ c.requires.owner) c.requires.partition in
    let typed = subst (λ (tables : Signature). IsDataset tables c.args.tables.now) c.requires.signature c.requires.rows in
    let wide = rows_have_column _ c.args.tables.now (partition_entry_at c.args.catalog.now c.args.owner c.args.p) lawful typed in
    rw (c.table.ensures, c.partition_column-column.ensures, c.partition_table-table.ensures.table) wide

pub returns-clause-parts : goal.returns-clause-parts
returns-clause-parts c = record {
  table = c.in_ok-alone.ensures;
  parts = c.in_ok-parts.ensures ∙ rw (c.deref-2.ensures.value, c.table.ensures, c.in_ok-kept.ensures, c.deref.ensures.value) refl;
}
