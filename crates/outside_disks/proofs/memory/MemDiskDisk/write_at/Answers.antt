use Rattle.std.proofs.Common.{ℕ, ◌+◌, List, [], ◌∷◌, ◌++◌, length, Option, Some, ◌∙◌, ap, sym, length-append}
use Rattle.outside_disks.specs.Disks.{Step, Trace, seen, overlaid}
use Rattle.outside_disks.specs.Memory.{steps_of, sizes}
use Rattle.outside_disks.specs.declared.memory.Kept.{Kept}
use Rattle.outside_disks.specs.declared.memory.Kept.TheVariants.{Wrote}
use Rattle.outside_disks.proofs.Pools.{sizes-push, steps-push}
use Rattle.outside_disks.proofs.memory.MemDiskDisk.write_at.Goals as goal

abbrev told : List ℕ → List Step → Option Trace
told start steps = Some (record { start = start; steps = steps })

pub invariant_of-self-in-Ok : goal.invariant_of-self-in-Ok
invariant_of-self-in-Ok c =
    let m = c.args.self.now in
    let kept = c.in-Ok.ensures.kept in
    record {
      pooled = ap length kept.1 ∙ length-append m.written.items c.args.bytes.now ∙ ap (λ (n : ℕ). n + length c.args.bytes.now) m.pooled
          ∙ sym (ap sizes kept.0 ∙ sizes-push m.steps.items c.args.place (length c.args.bytes.now));
      current = c.in-Ok.ensures.bytes ∙ ap (λ (file : List ℕ). overlaid file c.args.place c.args.bytes.now) m.current
          ∙ ap (λ (steps : List Step). seen m.start.items steps) (sym (ap (λ (k : List Kept). steps_of k c.write_down.new.written.items) kept.0
          ∙ ap (λ (pool : List ℕ). steps_of (m.steps.items ++ Wrote c.args.place (length c.args.bytes.now) ∷ []) pool) kept.1
          ∙ steps-push m.steps.items m.written.items c.args.place c.args.bytes.now m.pooled));
    }

pub returns-in-Ok-clause-written : goal.returns-in-Ok-clause-written
returns-in-Ok-clause-written c =
    let m = c.args.self.now in
    let kept = c.in-Ok.ensures.kept in
    ap (λ (steps : List Step). told m.start.items steps) (ap (λ (k : List Kept). steps_of k c.write_down.new.written.items) kept.0
    ∙ ap (λ (pool : List ℕ). steps_of (m.steps.items ++ Wrote c.args.place (length c.args.bytes.now) ∷ []) pool) kept.1
    ∙ steps-push m.steps.items m.written.items c.args.place c.args.bytes.now m.pooled)
