use Rattle.part_views.proofs.SeenLaws.{parts_seen_are_no_further_apart, parts_seen_are_no_further_than_their_table}
use Rattle.part_views.proofs.parts_seen_are_no_further_apart.Goals as goal

pub returns-clause-table : goal.returns-clause-table
returns-clause-table c = parts_seen_are_no_further_than_their_table

pub returns-clause-datasets : goal.returns-clause-datasets
returns-clause-datasets c = parts_seen_are_no_further_apart
