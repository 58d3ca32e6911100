use Rattle.std.proofs.Common.{refl, inl, inr}
use Rattle.budget_ledger.specs.Both.{twins_of}
use Rattle.budget_ledger.specs.Kept.{shown_on}
use Rattle.budget_ledger.proofs.BothMade.{stop_failed, broken_at_once, untouched, untouched_at_all}
use Rattle.budget_ledger.proofs.both.init_both.Goals as goal

pub returns-in_err-length-clause-stop : goal.returns-in_err-length-clause-stop
returns-in_err-length-clause-stop g c =
    let trace = g.D.Disk.trace in
    let faults = g.D.Disk.faults in
    stop_failed c.args.header.now (twins_of trace faults c.args.first.now c.args.second.now) (twins_of trace faults c.len.new.self c.args.second.now)
    c.from_residual.result c.from_residual.ensures.1
    (inl (
      broken_at_once c.args.header.now (shown_on trace faults c.args.first.now) (shown_on trace faults c.len.new.self) c.in_err-length.ensures.same
          c.in_err-length.ensures.cause.later (c.in_err-length.ensures.cause.failed refl),
      untouched_at_all (shown_on trace faults c.args.second.now),
    ))

pub returns-in_err-length-2-clause-stop : goal.returns-in_err-length-2-clause-stop
returns-in_err-length-2-clause-stop g c =
    let trace = g.D.Disk.trace in
    let faults = g.D.Disk.faults in
    stop_failed c.args.header.now (twins_of trace faults c.args.first.now c.args.second.now) (twins_of trace faults c.len.new.self c.len-2.new.self)
    c.from_residual-in_err-length-2.result c.from_residual-in_err-length-2.ensures.1
    (inr (
      broken_at_once c.args.header.now (shown_on trace faults c.args.second.now) (shown_on trace faults c.len-2.new.self) c.in_err-length-2.ensures.same
          c.in_err-length-2.ensures.cause.later (c.in_err-length-2.ensures.cause.failed refl),
      inl (untouched (shown_on trace faults c.args.first.now) (shown_on trace faults c.len.new.self)
          (record { same = c.in_ok-length.ensures.same; still = c.in_ok-length.ensures.passed })),
    ))
