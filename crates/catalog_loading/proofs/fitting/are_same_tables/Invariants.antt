use Rattle.std.proofs.Common.{◌≡◌, length, drop}
use Rattle.std.specs.Cmp.Lexicographic.{pointwise}
use Rattle.owner_catalog.specs.Entries.{owner_entry_at}
use Rattle.catalog_loading.specs.Fit.{same_table}
use Rattle.catalog_loading.proofs.fitting.are_same_tables.Given as goal

-- those so far are the same
abbrev pub invariant-loop-table : goal.invariant-loop-table
invariant-loop-table l =
    let first = (owner_entry_at l.first l.first_owner).tables in
    let second = (owner_entry_at l.second l.second_owner).tables in
    record {
      long : length first ≡ length second;
      left : pointwise same_table first second ≡ pointwise same_table (drop l.table first) (drop l.table second);
    }
