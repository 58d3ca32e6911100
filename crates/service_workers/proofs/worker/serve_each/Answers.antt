use Rattle.std.proofs.Common.{refl, ap, arith}
use Rattle.held_sessions.specs.SessionCore.Bundles.{Bundle}
use Rattle.held_sessions.proofs.Steps.{bundle_goes, still_here}
use Rattle.service_workers.proofs.Attending.{attending_first, attending_next, attended_all, attended_failing}
use Rattle.service_workers.proofs.worker.serve_each.Goals as goal

pub loop-number-init : goal.loop-number-init
loop-number-init g c = record { here = c.requires.here; kept = refl; passes = c.requires.passes; so_far = attending_first _ _ _ _ _ refl refl refl; there = λ addr port is. is }

pub returns-in-Err-clause-attended : goal.returns-in-Err-clause-attended
returns-in-Err-clause-attended g c =
    let failed = c.in-Err.ensures.failed in
    attended_failing _ _ _ c.loop-number.number c.loop-number.any _ _ _ _ _ _ c.loop-number.invariant.so_far _ c.end_of.ensures (omega (arith, c.loop-number-test.true)) failed.0 failed.1
    c.in-Err.ensures.cause.later (c.in-Err.ensures.cause.failed refl) (ap (λ (b : Bundle). b.knows) failed.2)

pub returns-in-Err-clause-there : goal.returns-in-Err-clause-there
returns-in-Err-clause-there g c = λ addr port is. c.in-Err.ensures.there addr port (c.loop-number.invariant.there addr port is)

pub loop-number-preserved : goal.loop-number-preserved
loop-number-preserved g c = record {
  here = still_here c.args.server.now.desks.now c.loop-number.passes c.serve_next.new.passes c.loop-number.invariant.here c.in-Ok.ensures.kept;
  kept = bundle_goes c.args.passes.now c.loop-number.passes c.serve_next.new.passes c.loop-number.invariant.kept c.in-Ok.ensures.kept;
  passes = c.in-Ok.ensures.passes;
  there = λ addr port is. c.in-Ok.ensures.there addr port (c.loop-number.invariant.there addr port is);
  so_far = attending_next _ _ c.args.each c.loop-number.number c.loop-number.any _ _ _ _ _ _ c.loop-number.invariant.so_far c.was_dropped-dropped.result _ c.in-Ok.ensures.held c.was_dropped-dropped.ensures _ c.either-any.ensures;
}

pub returns-clause-attended : goal.returns-clause-attended
returns-clause-attended g c =
    attended_all _ _ c.args.each c.loop-number.number c.loop-number.any _ _ _ _ _ c.end_of-2.ensures (omega (arith, c.loop-number-test.false, c.loop-number.auto.number-end)) c.loop-number.invariant.so_far

pub returns-clause-there : goal.returns-clause-there
returns-clause-there g c = c.loop-number.invariant.there
