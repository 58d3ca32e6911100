-- An owner's partitions: each divides the rows of one table by the texts of one of its columns.
use Rattle.std.specs.Prelude.{◌≡◌, ◌<◌, ◌≤◌, ℕ, zero, suc, List, length, bytes_eq, slice_get, Some, ⊤}
use Rattle.std.specs.List.{All, IsDistinct}
use Rattle.partition_charge.specs.declared.view.View.{View}
use Rattle.partition_charge.specs.declared.view.View.TheVariants.{Whole, Part}
use Rattle.partition_charge.specs.Views.{partition_limit, part_limit}
use Rattle.fz_ast.specs.Types.{Ty, TextT, UnitT, TensorT}
use Rattle.fz_ast.specs.Signature.{Signature, TableType}
use Rattle.owner_catalog.specs.Entries.{PartitionEntry}

-- the type of a row's cell in a column, where rows are c1 * (c2 * (..))
abbrev pub cell_type : ℕ → Ty → Ty
cell_type zero (TensorT a b) = a
cell_type (suc k) (TensorT a b) = cell_type k b
cell_type zero a = a
cell_type (suc k) a = UnitT

-- A partition of some tables: it names one of them, and a text column of it; its keys are distinct.
pub record IsPartitionOf (tables : Signature) (partition : PartitionEntry) : Type 0 where
  pub table : TableType
  pub there : slice_get tables partition.table ≡ Some table
  pub text : cell_type partition.column table.row ≡ TextT
  pub few : length partition.keys ≤ part_limit
  pub distinct : IsDistinct bytes_eq partition.keys

pub record ArePartitions (tables : Signature) (partitions : List PartitionEntry) : Type 0 where
  pub few : length partitions ≤ partition_limit
  pub each : All (IsPartitionOf tables) partitions

-- there is such a view: the whole, or a key of one of the partitions
abbrev pub HasPart : List PartitionEntry → View → Type 0
HasPart partitions Whole = ⊤
HasPart partitions (Part p j) = (partition : PartitionEntry) × (slice_get partitions p ≡ Some partition) × (j < length partition.keys)
