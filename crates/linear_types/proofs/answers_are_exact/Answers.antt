-- What is left to prove of answers_are_exact.
use Rattle.linear_types.proofs.Answered.{accepted_exactly, faults_are_kept, not_num_exactly, unbounded_exactly}
use Rattle.linear_types.proofs.answers_are_exact.Goals as goal

pub returns-clause-accepted : goal.returns-clause-accepted
returns-clause-accepted c = accepted_exactly

pub returns-clause-unbounded : goal.returns-clause-unbounded
returns-clause-unbounded c = unbounded_exactly

pub returns-clause-not_num : goal.returns-clause-not_num
returns-clause-not_num c = not_num_exactly

pub returns-clause-faults : goal.returns-clause-faults
returns-clause-faults c = faults_are_kept
