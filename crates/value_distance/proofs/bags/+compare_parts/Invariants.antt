-- What decreases in bags::compare_parts.
use Rattle.run_values.specs.Looks.{part_of}
use Rattle.run_values.specs.Sizes.{flat_size}
use Rattle.value_distance.proofs.bags.+compare_parts.Given as goal

abbrev pub decreases-compare_parts : goal.decreases-compare_parts
decreases-compare_parts l = flat_size (part_of l.x)
