use Rattle.std.proofs.Common.{◌≡◌}
use Rattle.catalog_loading.specs.Loaded.{new_header}
use Rattle.owner_books.specs.Shelves.{EachDisk}
use Rattle.owner_books.specs.Making.{IsMade}
use Rattle.owner_books.proofs.making.make_all.Given as goal

-- the journals of the owners so far are made
abbrev pub invariant-loop-owner : goal.invariant-loop-owner
invariant-loop-owner g l =
    record {
      made : EachDisk l.owner (λ o. IsMade (new_header l.opened.loading l.opened.key o))
          (g.B.Bay.shelf l.fn.bay) (g.B.Bay.shelf l.bay);
      owners : g.B.Bay.owners l.bay ≡ g.B.Bay.owners l.fn.bay;
      passed : g.B.Bay.faults l.bay ≡ g.B.Bay.faults l.fn.bay;
    }
