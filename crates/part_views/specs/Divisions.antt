-- A partition whose parts are made: what the code keeps of it.
use Rattle.std.specs.Prelude.{◌≡◌, List, [], ◌∷◌, map, get_or, Some}
use Rattle.std.specs.List.{All}
use Rattle.fz_ast.specs.Signature.{Signature}
use Rattle.metric_values.specs.Tables.{Dataset}
use Rattle.owner_catalog.specs.Entries.{PartitionEntry}
use Rattle.part_views.specs.Holding.{Holding, IsHolding}
use Rattle.part_views.specs.Views.{divided_table, rows_with_key}
use Rattle.part_views.specs.declared.division.Division.{Division}

-- the partition that was divided
abbrev pub partition_of : Division → PartitionEntry
partition_of division =
    record { name = division.name.items; table = division.table; column = division.column; keys = division.keys }

-- the partition's one table, and for each key, in order, that table's rows with it
pub record IsDivision (tables : Signature) (rows : Dataset) (division : Division) : Type 0 where
  pub table : division.sig ≡ divided_table tables (Some (partition_of division))
  pub parts : division.parts.items ≡ map (λ key. rows_with_key division.column key (get_or rows division.table []) ∷ []) division.keys

-- what is held, where each partition's parts are made
abbrev pub holding_of : Signature → Dataset → List Division → Holding
holding_of tables rows divisions = record { tables = tables; rows = rows; partitions = map partition_of divisions }

pub record IsDivided (tables : Signature) (rows : Dataset) (divisions : List Division) : Type 0 where
  pub holding : IsHolding (holding_of tables rows divisions)
  pub divided : All (IsDivision tables rows) divisions
