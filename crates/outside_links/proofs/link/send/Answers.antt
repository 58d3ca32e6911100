use Rattle.std.proofs.Common.{rules, ◌∙◌}
use Rattle.fz_outside.proofs.Known.{written-further}
use Rattle.outside_links.proofs.link.send.Goals as goal

pub loop-done-preserved : goal.loop-done-preserved
loop-done-preserved g c =
    record {
      within = search rules;
      written = written-further _ _ _ c.loop-done.done c.in_ok-done.field-0 c.args.bytes.now c.loop-done.invariant.written c.in_ok-done.ensures.bytes;
      apart = c.in_ok-done.ensures.apart ∙ c.loop-done.invariant.apart;
      passed = c.in_ok-done.ensures.passed ∙ c.loop-done.invariant.passed;
    }
