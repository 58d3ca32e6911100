use Rattle.outside_doors.proofs.Waited.{less-left}
use Rattle.outside_doors.proofs.waits.Waits.read.Goals as goal

pub returns-clause-stands : goal.returns-clause-stands
returns-clause-stands c before stands =
    record {
      line = less-left _ _ _ _ _ stands.line c.saturating_sub-self.ensures;
      reply = stands.reply;
      in_all = less-left _ _ _ _ _ stands.in_all c.saturating_sub-self-2.ensures;
    }
