use Rattle.std.proofs.Common.{◌≡◌, List, drop, map}
use Rattle.owner_catalog.specs.Entries.{owner_entry_at}
use Rattle.catalog_loading.specs.Steps.{one_by_one}
use Rattle.catalog_loading.specs.Loaded.{LoadedTable, table_read}
use Rattle.catalog_loading.proofs.Reached.{Reached, others}
use Rattle.catalog_loading.proofs.loading.load_tables.Given as goal

-- the tables so far are read, and the others are left
abbrev pub invariant-loop-table : goal.invariant-loop-table
invariant-loop-table g l =
    let all = (owner_entry_at l.catalog l.owner).tables in
    record {
      so_far : List LoadedTable;
      rows : map (λ (t : LoadedTable). t.rows) so_far ≡ l.tables;
      hashes : map (λ (t : LoadedTable). t.hash) so_far ≡ l.hashes.items;
      reached : Reached (g.F.Files.held l.fn.files) (g.F.Files.names l.fn.files) (g.F.Files.names l.files) (one_by_one table_read all) (others table_read so_far (drop l.table all));
      same : g.F.Files.held l.files ≡ g.F.Files.held l.fn.files;
      passed : g.F.Files.faults l.files ≡ g.F.Files.faults l.fn.files;
    }
