use Rattle.std.proofs.Common.{◌+◌, ◌*◌, ◌∙◌, replicate, refl, arith}
use Rattle.outside_disks.specs.Disks.Step.{Wrote}
use Rattle.budget_journal.specs.Making.{AreZeros, BeginsSome}
use Rattle.budget_journal.proofs.Made.{on_err, zeros-begun, zeros-tried, adds-step, adds-tried}
use Rattle.budget_journal.proofs.making.put_zeros.Goals as goal

pub returns-in_err-write_at-clause-begun : goal.returns-in_err-write_at-clause-begun
returns-in_err-write_at-clause-begun g c =
    let place = 64 * c.loop-piece.piece in
    let n = 64 * c.args.pieces in
    on_err c.from_residual.result (adds-tried (λ zeros. AreZeros zeros place) (BeginsSome (λ zeros. AreZeros zeros n)) place 64
    (λ zeros are. zeros-begun place n (omega arith) zeros are)
    (λ zeros bytes are le. zeros-tried place n (omega arith) zeros are bytes (omega arith))
    (g.D.Disk.trace c.args.disk.now) (g.D.Disk.trace c.loop-piece.disk) (g.D.Disk.trace c.write_at.new.self)
    c.loop-piece.invariant.zeroed c.in_err-write_at.ensures.err)

pub loop-piece-preserved : goal.loop-piece-preserved
loop-piece-preserved g c =
    let place = 64 * c.loop-piece.piece in
    record {
      zeroed = adds-step (λ zeros. AreZeros zeros place) (λ zeros. AreZeros zeros (64 * (c.loop-piece.piece + 1))) (Wrote place (replicate 64 0))
          (λ zeros are. (refl, omega arith, are))
          (g.D.Disk.trace c.args.disk.now) (g.D.Disk.trace c.loop-piece.disk) (g.D.Disk.trace c.write_at.new.self)
          c.loop-piece.invariant.zeroed c.in_ok-write_at.ensures.written;
      passed = c.in_ok-write_at.ensures.passed ∙ c.loop-piece.invariant.passed;
    }
