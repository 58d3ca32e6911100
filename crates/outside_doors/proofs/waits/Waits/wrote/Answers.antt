use Rattle.outside_doors.proofs.Waited.{all-left, less-left}
use Rattle.outside_doors.proofs.waits.Waits.wrote.Goals as goal

pub returns-then-whole-clause-stands : goal.returns-then-whole-clause-stands
returns-then-whole-clause-stands c before stands =
    rw c.if-whole.true
    record {
      line = all-left _;
      reply = all-left _;
      in_all = less-left _ _ _ _ _ stands.in_all c.saturating_sub-self.ensures;
    }

pub returns-else-whole-clause-stands : goal.returns-else-whole-clause-stands
returns-else-whole-clause-stands c before stands =
    rw c.if-whole.false
    record {
      line = stands.line;
      reply = less-left _ _ _ _ _ stands.reply c.saturating_sub-self-else-whole.ensures;
      in_all = less-left _ _ _ _ _ stands.in_all c.saturating_sub-self.ensures;
    }
