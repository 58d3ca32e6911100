use Rattle.std.proofs.Common.{rules, ◌≡◌, ℕ, ◌+◌, ◌*◌, ◌∙◌, length, refl, arith, subst, take, drop, length-append, length-drop}
use Rattle.outside_disks.specs.Disks.{WhereTold, MayHaveWritten}
use Rattle.outside_disks.proofs.Told.{told-both, told-none}
use Rattle.budget_journal.proofs.Made.{on_err}
use Rattle.budget_journal.specs.Growth.{ChunkCopied, AreaCopied, AreaCopyFailed}
use Rattle.budget_journal.proofs.Copied.{copied-none, copied-more, copied-kept, copied-tried, told-then-tried}
use Rattle.budget_journal.proofs.growing.copy_area.Goals as goal

pub loop-slot-init : goal.loop-slot-init
loop-slot-init g c =
    let from = c.args.from.now in
    record {
      within = omega arith;
      long = refl;
      copied = told-none (AreaCopied from.begin from.slots 0) (copied-none from.begin from.slots) (g.D.Disk.trace c.args.disk.now);
      passed = refl;
    }

pub loop-slot-preserved : goal.loop-slot-preserved
loop-slot-preserved g c =
    let from = c.args.from.now in
    let k = c.loop-slot.slot in
    let count = c.min-count.result in
    let size : length (take (64 * count) c.loop-slot.chunk) ≡ 64 * count = search rules in
    let wrote = subst (λ (n : ℕ). WhereTold (ChunkCopied from.begin from.slots k n) (g.D.Disk.trace c.loop-slot.disk) (g.D.Disk.trace c.copy_chunk.new.disk))
    size c.in_ok-copy_chunk.ensures.copied in
    record {
      within = search rules;
      long = length-append c.copy_chunk.new.chunk (drop (64 * count) c.loop-slot.chunk)
          ∙ omega (arith, c.copy_chunk.auto.chunk, size, length-drop (64 * count) c.loop-slot.chunk, c.loop-slot.invariant.long, c.min-count.ensures);
      copied = told-both (AreaCopied from.begin from.slots k) (ChunkCopied from.begin from.slots k (64 * count)) (AreaCopied from.begin from.slots (k + count))
          (copied-more from.begin from.slots k count) (g.D.Disk.trace c.args.disk.now) (g.D.Disk.trace c.loop-slot.disk) (g.D.Disk.trace c.copy_chunk.new.disk)
          c.loop-slot.invariant.copied wrote;
      passed = c.in_ok-copy_chunk.ensures.passed ∙ c.loop-slot.invariant.passed;
    }

pub returns-in_err-copy_chunk-clause-begun : goal.returns-in_err-copy_chunk-clause-begun
returns-in_err-copy_chunk-clause-begun g c =
    let from = c.args.from.now in
    let k = c.loop-slot.slot in
    let size = length (take (64 * c.min-count.result) c.loop-slot.chunk) in
    let end = from.begin + 64 * from.slots + 64 * k in
    let there : c.args.to.now.begin + 64 * k ≡ end = omega (arith, c.requires) in
    on_err c.from_residual.result
    (told-then-tried (AreaCopied from.begin from.slots k) (AreaCopyFailed from.begin from.slots) end size (copied-kept from.begin from.slots k)
    (λ t u bytes le copied. copied-tried from.begin from.slots k t u bytes copied)
    (g.D.Disk.trace c.args.disk.now) (g.D.Disk.trace c.loop-slot.disk) (g.D.Disk.trace c.copy_chunk.new.disk) c.loop-slot.invariant.copied
    (subst (λ (n : ℕ). MayHaveWritten n size (g.D.Disk.trace c.loop-slot.disk) (g.D.Disk.trace c.copy_chunk.new.disk)) there c.in_err-copy_chunk.ensures.err))
