use Rattle.metric_law.proofs.Worked.{bang_undone_answers, clipped_answers, counted_twice_answers, filtered_and_mapped_answers, scaled_argument_answers, split_in_halves_answers, unused_names_answers}
use Rattle.metric_law.proofs.worked_programs.Goals as goal

pub returns-clause-bang_undone : goal.returns-clause-bang_undone
returns-clause-bang_undone c = bang_undone_answers

pub returns-clause-scaled_argument : goal.returns-clause-scaled_argument
returns-clause-scaled_argument c = scaled_argument_answers

pub returns-clause-unused_names : goal.returns-clause-unused_names
returns-clause-unused_names c = unused_names_answers

pub returns-clause-split_in_halves : goal.returns-clause-split_in_halves
returns-clause-split_in_halves c = split_in_halves_answers

pub returns-clause-counted_twice : goal.returns-clause-counted_twice
returns-clause-counted_twice c = counted_twice_answers

pub returns-clause-filtered_and_mapped : goal.returns-clause-filtered_and_mapped
returns-clause-filtered_and_mapped c = filtered_and_mapped_answers

pub returns-clause-clipped : goal.returns-clause-clipped
returns-clause-clipped c = clipped_answers
