use Rattle.outside_doors.proofs.Waited.{all-left}
use Rattle.outside_doors.proofs.waits.Waits.new.Goals as goal

pub returns-clause-stands : goal.returns-clause-stands
returns-clause-stands c = record { line = all-left _; reply = all-left _; in_all = all-left _ }
