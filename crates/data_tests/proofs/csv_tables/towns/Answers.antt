-- A table of three columns has a third, and three towns are distinct.
use Rattle.std.proofs.Common.{arith, refl}
use Rattle.std.specs.List.{IsDistinct}
use Rattle.data_tests.proofs.csv_tables.towns.Goals as goal

pub groups-requires-clause-column : goal.groups-requires-clause-column
groups-requires-clause-column c = λ k d l. grind (arith, c.width.ensures.columns k d l)

pub groups-requires-clause-distinct : goal.groups-requires-clause-distinct
unfolding IsDistinct
groups-requires-clause-distinct c = ((refl, (refl, tt)), ((refl, tt), (tt, tt)))
