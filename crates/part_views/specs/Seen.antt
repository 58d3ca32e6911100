-- What a view shows beside a catalog's partitions: of a partition that is made, the rows that its definition gives.
use Rattle.std.specs.Prelude.{◌≡◌, ◌<◌, ℕ, List, [], ◌∷◌, get_or, length, slice_get, IfSome, Option, Some, None, ⊤}
use Rattle.partition_charge.specs.declared.view.View.{View}
use Rattle.partition_charge.specs.declared.view.View.TheVariants.{Whole, Part}
use Rattle.fz_ast.specs.Signature.{Signature}
use Rattle.metric_values.specs.Tables.{Dataset}
use Rattle.owner_catalog.specs.Entries.{PartitionEntry}
use Rattle.part_views.specs.Cuts.{Cut, IsCutOf, cut_at, rows_of_class}
use Rattle.part_views.specs.Partitions.{ArePartitions}
use Rattle.part_views.specs.Views.{alone}

-- the table that is cut; no table where nothing is
abbrev pub cut_table : Signature → Option Cut → Signature
cut_table tables None = []
cut_table tables (Some cut) = alone (slice_get tables cut.table)

-- the tables that a program may name in a view
unfoldable pub signature_seen : Signature → List PartitionEntry → (made : Option Cut) → View → Signature
signature_seen tables partitions made Whole = tables
signature_seen tables partitions made (Part p j) = cut_table tables (cut_at partitions made p)

-- the rows of one part of the table that is cut
abbrev pub cut_rows : Option Cut → (part : ℕ) → Dataset → Dataset
cut_rows None part rows = []
cut_rows (Some cut) part rows = rows_of_class cut.class (slice_get cut.keys part) (get_or rows cut.table []) ∷ []

-- the rows of each table that a view shows
unfoldable pub rows_seen : List PartitionEntry → (made : Option Cut) → View → Dataset → Dataset
rows_seen partitions made Whole rows = rows
rows_seen partitions made (Part p j) rows = cut_rows (cut_at partitions made p) j rows

-- there is such a view: the whole, or a key of a partition that the catalog has or that is made
abbrev pub IsSeen : List PartitionEntry → (made : Option Cut) → View → Type 0
IsSeen partitions made Whole = ⊤
IsSeen partitions made (Part p j) = (cut : Cut) × (cut_at partitions made p ≡ Some cut) × (j < length cut.keys)

-- the catalog's partitions, and what is made, divide these tables
pub record AreCuts (tables : Signature) (partitions : List PartitionEntry) (made : Option Cut) : Type 0 where
  pub catalog : ArePartitions tables partitions
  pub cut : IfSome made (IsCutOf tables)
