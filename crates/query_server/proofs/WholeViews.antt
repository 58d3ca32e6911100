-- the whole of a dataset
use Rattle.std.proofs.Common.{◌≡◌, List, sym, subst}
use Rattle.partition_charge.specs.declared.view.View.TheVariants.{Whole}
use Rattle.fz_ast.specs.Signature.{Signature}
use Rattle.metric_values.specs.Tables.{Dataset}
use Rattle.owner_catalog.specs.Entries.{PartitionEntry}
use Rattle.owner_house.specs.Names.{AreNames}
use Rattle.part_views.specs.Views.{rows_in, signature_in}

-- what a view shows is all there is, where it is the whole
pub whole_tables : (tables shown : Signature) (partitions : List PartitionEntry) → shown ≡ signature_in tables partitions Whole → shown ≡ tables
unfolding signature_in
whole_tables tables shown partitions is = is

pub whole_names : (tables shown : Signature) (partitions : List PartitionEntry) → AreNames tables → shown ≡ signature_in tables partitions Whole → AreNames shown
unfolding signature_in
whole_names tables shown partitions names is = subst AreNames (sym is) names

pub whole_rows : (rows shown : Dataset) (partitions : List PartitionEntry) → shown ≡ rows_in partitions Whole rows → shown ≡ rows
unfolding rows_in
whole_rows rows shown partitions is = is
