use Rattle.std.proofs.Common.{length, ◌-◌, ◌≡◌, take, ◌≤◌}
use Rattle.outside_links.specs.Links.{HasTaken}
use Rattle.outside_links.proofs.link.send.Given as goal

-- what was done so far was written, and nothing has failed
abbrev pub invariant-loop-done : goal.invariant-loop-done
invariant-loop-done g l =
    record {
      within : l.done ≤ length l.bytes;
      written : HasTaken (g.L.Link.written l.fn.link) (take l.done l.bytes) (g.L.Link.written l.link);
      apart : g.L.Link.left l.link ≡ g.L.Link.left l.fn.link;
      passed : g.L.Link.faults l.link ≡ g.L.Link.faults l.fn.link;
    }

abbrev pub decreases-loop-done : goal.decreases-loop-done
decreases-loop-done g l = length l.bytes - l.done
