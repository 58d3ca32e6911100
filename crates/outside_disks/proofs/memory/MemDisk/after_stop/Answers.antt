use Rattle.std.proofs.Common.{◌≡◌}
use Rattle.outside_disks.specs.Memory.{steps_of}
use Rattle.outside_disks.specs.Stops.{left_by}
use Rattle.outside_disks.proofs.Stops.{made-image}
use Rattle.outside_disks.proofs.memory.MemDisk.after_stop.Goals as goal

pub returns-clause-image : goal.returns-clause-image
returns-clause-image c =
    let m = c.args.self.now in
    let steps = steps_of m.steps.items m.written.items in
    let same : c.deref-4.result.now ≡ left_by c.args.torn m.start.items steps
    = cc (c.deref.ensures.value, c.deref-2.ensures.value, c.deref-3.ensures.value, c.deref-4.ensures.value, c.in_ok-left.ensures) in
    made-image c.args.torn m.start.items steps c.deref-4.result.now c.new.result c.new.ensures.told same
