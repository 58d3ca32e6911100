use Rattle.std.proofs.Common.{ℕ, List, Option, Some, ◌∙◌, ap, sym}
use Rattle.outside_disks.specs.Disks.{Step, Trace, seen}
use Rattle.outside_disks.specs.Memory.{steps_of, sizes}
use Rattle.outside_disks.specs.declared.memory.Kept.{Kept}
use Rattle.outside_disks.proofs.Pools.{sizes-sync, steps-sync}
use Rattle.outside_disks.proofs.memory.MemDiskDisk.sync.Goals as goal

abbrev told : List ℕ → List Step → Option Trace
told start steps = Some (record { start = start; steps = steps })

pub invariant_of-self-in-Ok : goal.invariant_of-self-in-Ok
invariant_of-self-in-Ok c =
    let m = c.args.self.now in
    record {
      pooled = m.pooled ∙ sym (ap sizes c.in-Ok.ensures.items ∙ sizes-sync m.steps.items);
      current = m.current ∙ ap (λ (steps : List Step). seen m.start.items steps)
          (sym (ap (λ (kept : List Kept). steps_of kept m.written.items) c.in-Ok.ensures.items ∙ steps-sync m.steps.items m.written.items));
    }

pub returns-in-Ok-clause-synced : goal.returns-in-Ok-clause-synced
returns-in-Ok-clause-synced c =
    let m = c.args.self.now in
    ap (λ (steps : List Step). told m.start.items steps) (ap (λ (kept : List Kept). steps_of kept m.written.items) c.in-Ok.ensures.items
    ∙ steps-sync m.steps.items m.written.items)
