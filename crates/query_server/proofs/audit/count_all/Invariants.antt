use Rattle.std.proofs.Common.{◌≡◌, ◌≤◌, ℕ}
use Rattle.catalog_loading.specs.Loaded.{header_in, entry_in}
use Rattle.owner_books.specs.Shelves.{EachDisk, IsOnlySynced, StandsStill}
use Rattle.owner_books.specs.Opened.{IsOpened}
use Rattle.query_server.proofs.Counted.{AreCounted}
use Rattle.query_server.proofs.audit.count_all.Given as goal

-- the owners so far were opened and counted
abbrev pub invariant-loop-owner : goal.invariant-loop-owner
invariant-loop-owner g l =
    record {
      counted : AreCounted (entry_in l.opened.loading) (λ o journal. IsOpened (entry_in l.opened.loading o journal.0)
          (header_in l.opened.loading l.opened.key o journal.0) (g.B.Bay.shelf l.fn.bay o) (g.B.Bay.shelf l.bay o) journal.1)
          l.opened.loading.register.catalog.owners l.owner l.lines.items;
      disks : EachDisk l.owner (λ _. IsOnlySynced) (g.B.Bay.shelf l.fn.bay) (g.B.Bay.shelf l.bay);
      still : (o : ℕ) → StandsStill o (g.B.Bay.shelf l.fn.bay) (g.B.Bay.shelf l.bay);
      owners : g.B.Bay.owners l.bay ≡ g.B.Bay.owners l.fn.bay;
      faults : g.B.Bay.faults l.fn.bay ≤ g.B.Bay.faults l.bay;
    }
