-- An owner: its entry, its tables with their rows, and its partitions.
use Rattle.std.specs.Prelude.{◌≡◌, ℕ, List, length, map}
use Rattle.partition_charge.specs.declared.view.View.{View}
use Rattle.budget_core.specs.Entries.{Entry}
use Rattle.fz_ast.specs.Signature.{Signature, IsSignature}
use Rattle.metric_values.specs.Tables.{Dataset, IsDataset}
use Rattle.owner_catalog.specs.Entries.{PartitionEntry}
use Rattle.part_views.specs.Holding.{Holding}
use Rattle.part_views.specs.Partitions.{ArePartitions}
use Rattle.part_views.specs.Views.{signature_in, rows_in}

-- an owner's name, entry and tables, the rows of each table, and the partitions of them
pub record Owner : Type 0 where
  pub name : List ℕ
  pub entry : Entry
  pub tables : Signature
  pub rows : Dataset
  pub partitions : List PartitionEntry

-- the tables that a program may name in a view of an owner
abbrev pub signature_of_view : Owner → View → Signature
signature_of_view owner view = signature_in owner.tables owner.partitions view

-- their rows in that view
abbrev pub rows_of_view : Owner → View → Dataset
rows_of_view owner view = rows_in owner.partitions view owner.rows

-- the owner has this entry, and holds this
pub record IsOwnerOf (entry : Entry) (holding : Holding) (owner : Owner) : Type 0 where
  pub entry_is : owner.entry ≡ entry
  pub tables_are : owner.tables ≡ holding.tables
  pub rows_are : owner.rows ≡ holding.rows
  pub partitions_are : owner.partitions ≡ holding.partitions

-- The owner's rows are a dataset of its tables, and its partitions are of these; each has as many keys as the entry says.
pub record HasData (owner : Owner) : Type 0 where
  pub tables : IsSignature owner.tables
  pub rows : IsDataset owner.tables owner.rows
  pub partitions : ArePartitions owner.tables owner.partitions
  pub keys : owner.entry.keys ≡ map (λ (partition : PartitionEntry). length partition.keys) owner.partitions
