use Rattle.metric_law.proofs.Refusals as refusals
use Rattle.metric_law.proofs.first_faults.Goals as goal

pub returns-clause-parts_first : goal.returns-clause-parts_first
returns-clause-parts_first c = refusals.parts_first_faulty

pub returns-clause-condition_first : goal.returns-clause-condition_first
returns-clause-condition_first c = refusals.condition_first_faulty

pub returns-clause-range_last : goal.returns-clause-range_last
returns-clause-range_last c = refusals.range_last_faulty

pub returns-clause-unbounded_first : goal.returns-clause-unbounded_first
returns-clause-unbounded_first c = refusals.unbounded_first_faulty

pub returns-clause-part_range : goal.returns-clause-part_range
returns-clause-part_range c = refusals.part_range_faulty

pub returns-clause-part_range_first : goal.returns-clause-part_range_first
returns-clause-part_range_first c = refusals.part_range_first_faulty
