-- What an owner holds: tables, rows of each, and partitions of them.
use Rattle.std.specs.Prelude.{List, ℕ, refl}
use Rattle.std.specs.Coded.{Coded, code_by, coded×, coded_list, coded_ℕ}
use Rattle.fz_ast.specs.Codes.{signature_code}
use Rattle.fz_ast.specs.Signature.{Signature, IsSignature}
use Rattle.metric_values.specs.Codes.{dataset_code}
use Rattle.metric_values.specs.Tables.{Dataset, IsDataset}
use Rattle.owner_catalog.specs.Entries.{PartitionEntry}
use Rattle.part_views.specs.Partitions.{ArePartitions}

pub record Holding : Type 0 where
  pub tables : Signature
  pub rows : Dataset
  pub partitions : List PartitionEntry

-- what may be held: rows of the tables' types, and partitions of the tables
pub record IsHolding (holding : Holding) : Type 0 where
  pub signature : IsSignature holding.tables
  pub dataset : IsDataset holding.tables holding.rows
  pub partitions : ArePartitions holding.tables holding.partitions

-- what proofs tell holdings apart by

abbrev pub partition_code : Coded PartitionEntry
partition_code =
    code_by ((List ℕ × ℕ) × (ℕ × List (List ℕ))) (coded× (coded× (coded_list coded_ℕ) coded_ℕ) (coded× coded_ℕ (coded_list (coded_list coded_ℕ))))
    (λ p. ((p.name, p.table), (p.column, p.keys))) (λ c. record { name = c.0.0; table = c.0.1; column = c.1.0; keys = c.1.1 }) (λ _. refl)

abbrev pub holding_code : Coded Holding
holding_code =
    code_by (Signature × (Dataset × List PartitionEntry)) (coded× signature_code (coded× dataset_code (coded_list partition_code)))
    (λ h. (h.tables, (h.rows, h.partitions))) (λ c. record { tables = c.0; rows = c.1.0; partitions = c.1.1 }) (λ _. refl)
