use Rattle.std.proofs.Common.{◌≡◌, ◌-◌, ◌≤◌, length, map, take}
use Rattle.std.specs.Prelude.{vec_capacity}
use Rattle.session_core.specs.Bundles.{bundle_of}
use Rattle.session_core.proofs.Bundles.{given_half, split_below}
use Rattle.session_core.proofs.passes.Passes+D.split.Given as goal

abbrev pub invariant-loop-owner : goal.invariant-loop-owner
invariant-loop-owner g l = record {
  within : l.owner ≤ length l.desks;
  room : length l.initial.self-inside.each.items ≤ vec_capacity l.others;
  so_far : length l.others.items ≡ l.owner;
  here : (bundle_of l.self-inside.each.items).locks ≡ l.desks;
  mine : l.self-inside.each.items ≡ split_below l.owner l.initial.self-inside.each.items;
  theirs : l.others.items ≡ map given_half (take l.owner l.initial.self-inside.each.items);
}

abbrev pub decreases-loop-owner : goal.decreases-loop-owner
decreases-loop-owner g l = length l.desks - l.owner
