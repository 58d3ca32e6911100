use Rattle.std.proofs.Common.{◌≡◌, ℕ, List, drop, length, map}
use Rattle.std.specs.Prelude.{Vec}
use Rattle.std.specs.declared.alloc.Global.{Global}
use Rattle.catalog_loading.specs.Steps.{one_by_one}
use Rattle.catalog_loading.specs.Loaded.{LoadedOwner, owner_read}
use Rattle.catalog_loading.specs.Given.{holdings_with}
use Rattle.catalog_loading.proofs.Reached.{Reached, others}
use Rattle.catalog_loading.proofs.loading.load_all.Given as goal

-- the owners so far are loaded, and the others are left
abbrev pub invariant-loop-owner : goal.invariant-loop-owner
invariant-loop-owner g l =
    record {
      so_far : List LoadedOwner;
      counted : length l.tables.items ≡ l.owner;
      holdings : map (λ (o : LoadedOwner). o.holding) so_far ≡ holdings_with l.catalog.owners l.tables.items;
      hashes : map (λ (o : LoadedOwner). o.hashes) so_far ≡ map (λ (v : Vec (List ℕ) Global). v.items) l.hashes.items;
      reached : Reached (g.F.Files.held l.fn.files) (g.F.Files.names l.fn.files) (g.F.Files.names l.files) (one_by_one owner_read l.catalog.owners)
          (others owner_read so_far (drop l.owner l.catalog.owners));
      same : g.F.Files.held l.files ≡ g.F.Files.held l.fn.files;
      passed : g.F.Files.faults l.files ≡ g.F.Files.faults l.fn.files;
    }
