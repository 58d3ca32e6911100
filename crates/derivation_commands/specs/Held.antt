-- What the code holds.
use Rattle.derivation_commands.specs.Task.{Subject, Task, to_judge}
use Rattle.derivation_commands.specs.Outcome.{Outcome, refused, too_long, written}
use Rattle.derivation_commands.specs.declared.reading.Subject.{Subject as SubjectAt}
use Rattle.derivation_commands.specs.declared.judge.Claim.{Claim}
use Rattle.derivation_commands.specs.declared.ending.Ending.{Ending}
use Rattle.derivation_commands.specs.declared.ending.Ending.TheVariants.{Refused, TooLong, Written}

abbrev pub subject_of : SubjectAt → Subject
subject_of subject = record { tables = subject.tables; program = subject.program.items }

abbrev pub task_of : Claim → Task
task_of claim = to_judge (subject_of claim.subject) claim.derivation.items

abbrev pub outcome_of : Ending → Outcome
outcome_of (Written text) = written text.items
outcome_of (Refused line) = refused line.items
outcome_of TooLong = too_long
