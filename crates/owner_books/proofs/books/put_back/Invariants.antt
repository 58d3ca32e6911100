use Rattle.std.proofs.Common.{◌≡◌, length}
use Rattle.std.specs.List.{All}
use Rattle.owner_lock.specs.Known.{whole_share}
use Rattle.session_core.specs.Bundles.{bundle_of}
use Rattle.owner_books.proofs.Back.{BackFrom}
use Rattle.owner_books.proofs.books.put_back.Given as goal

-- the last owners' disks are put back, and the others' desks are left with their passes
abbrev pub invariant-loop-pass : goal.invariant-loop-pass
invariant-loop-pass g l =
    record {
      back : BackFrom (bundle_of l.fn.passes.items).knows (bundle_of l.rest.items).knows (g.B.Bay.shelf l.fn.bay) (g.B.Bay.shelf l.bay);
      here : (bundle_of l.rest.items).locks ≡ l.desks.items;
      whole : All (λ s. s ≡ whole_share) (bundle_of l.rest.items).shares;
      owners : g.B.Bay.owners l.bay ≡ g.B.Bay.owners l.fn.bay;
      faults : g.B.Bay.faults l.bay ≡ g.B.Bay.faults l.fn.bay;
    }

abbrev pub decreases-loop-pass : goal.decreases-loop-pass
decreases-loop-pass g l = length l.rest.items
