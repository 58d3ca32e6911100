use Rattle.answer_path.proofs.Readings.{one_reading}
use Rattle.answer_path.proofs.Existing.{every_reading}
use Rattle.answer_path.proofs.laws.programs_are_read_in_one_way.Goals as goal

pub returns-clause-reading : goal.returns-clause-reading
returns-clause-reading c = one_reading

pub returns-clause-every : goal.returns-clause-every
returns-clause-every c = every_reading
