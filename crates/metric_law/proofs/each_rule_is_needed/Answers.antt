use Rattle.metric_law.proofs.Needed.{compared_at_one, filter_at_zero, let_bang_undivided, map_without_inf, pair_by_maximum, removed_afterwards, split_at_zero, text_compared_at_zero, unused_case, used_over_one}
use Rattle.metric_law.proofs.each_rule_is_needed.Goals as goal

pub returns-clause-unused_case : goal.returns-clause-unused_case
returns-clause-unused_case c = unused_case

pub returns-clause-pair : goal.returns-clause-pair
returns-clause-pair c = pair_by_maximum

pub returns-clause-let_bang : goal.returns-clause-let_bang
returns-clause-let_bang c = let_bang_undivided

pub returns-clause-comparison : goal.returns-clause-comparison
returns-clause-comparison c = compared_at_one

pub returns-clause-text_comparison : goal.returns-clause-text_comparison
returns-clause-text_comparison c = text_compared_at_zero

pub returns-clause-removal : goal.returns-clause-removal
returns-clause-removal c = removed_afterwards

pub returns-clause-mapping : goal.returns-clause-mapping
returns-clause-mapping c = map_without_inf

pub returns-clause-filter : goal.returns-clause-filter
returns-clause-filter c = filter_at_zero

pub returns-clause-split : goal.returns-clause-split
returns-clause-split c = split_at_zero

pub returns-clause-linear : goal.returns-clause-linear
returns-clause-linear c = used_over_one
