use Rattle.std.proofs.Common.{ℕ, ◌+◌, ◌<◌, ◌^◌, List, length, take, ap, arith}
use Rattle.outside_disks.proofs.Stops.{fits-piece}
use Rattle.outside_disks.proofs.memory.redo.Goals as goal

pub overwrite-requires : goal.overwrite-requires
overwrite-requires c =
    let w = c.in-Wrote in
    let fits : w.place + length (take w.size c.args.pool.now) < 2 ^ 63
    = fits-piece c.args.read.now.items c.args.pool.now c.args.step w.place w.size w.is c.requires.fits in
    omega (arith, fits, ap (λ (l : List ℕ). length l) c.split_at.ensures.front)

pub tear-requires : goal.tear-requires
tear-requires c =
    let w = c.in-Wrote in
    let fits : w.place + length (take w.size c.args.pool.now) < 2 ^ 63
    = fits-piece c.args.read.now.items c.args.pool.now c.args.step w.place w.size w.is c.requires.fits in
    omega (arith, fits, ap (λ (l : List ℕ). length l) c.split_at.ensures.front)
