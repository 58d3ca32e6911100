use Rattle.std.proofs.Common.{◌≡◌, ◌++◌, List, length}
use Rattle.owner_history.specs.OwnerDesk.Shared.{Shared}
use Rattle.session_core.specs.Bundles.{bundle_of}
use Rattle.session_core.proofs.Joins.{HaveTakenFrom}
use Rattle.session_core.proofs.passes.Passes+D.join.Given as goal

abbrev pub invariant-loop-pass : goal.invariant-loop-pass
invariant-loop-pass g l = record {
  taken : HaveTakenFrom (length l.others.items) l.fn.self l.fn.other (bundle_of l.self-inside.each.items);
  gone : List Shared;
  others : l.others.items ++ gone ≡ l.initial.others.items;
}

abbrev pub decreases-loop-pass : goal.decreases-loop-pass
decreases-loop-pass g l = length l.others.items
