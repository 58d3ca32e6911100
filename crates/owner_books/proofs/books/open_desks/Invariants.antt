use Rattle.std.proofs.Common.{◌≡◌, ◌≤◌, length}
use Rattle.std.specs.Prelude.{vec_capacity}
use Rattle.session_core.specs.Bundles.{bundle_of}
use Rattle.owner_books.proofs.Bundled.{AreWhole}
use Rattle.owner_books.proofs.Versions.{AreDesks}
use Rattle.owner_books.proofs.books.open_desks.Given as goal

-- the first owners' books are opened, each behind its lock
abbrev pub invariant-loop-owner : goal.invariant-loop-owner
invariant-loop-owner g l =
    record {
      on : AreDesks l.fn.opened.loading l.fn.opened.key l.owner (g.B.Bay.shelf l.fn.bay) (g.B.Bay.shelf l.bay) l.opened (bundle_of l.passes.items).knows;
      here : (bundle_of l.passes.items).locks ≡ l.desks.items;
      whole : AreWhole l.passes.items;
      room : (length l.headers.items ≤ vec_capacity l.passes) × (length l.headers.items ≤ vec_capacity l.desks);
      owners : g.B.Bay.owners l.bay ≡ g.B.Bay.owners l.fn.bay;
      faults : g.B.Bay.faults l.fn.bay ≤ g.B.Bay.faults l.bay;
    }
