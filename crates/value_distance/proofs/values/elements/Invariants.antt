use Rattle.std.proofs.Common.{◌≡◌, take}
use Rattle.run_values.specs.Flats.{AllFlat, flats_of}
use Rattle.run_values.specs.Parts.{elements}
use Rattle.value_distance.proofs.values.elements.Given as goal

abbrev pub invariant-loop-i : goal.invariant-loop-i
invariant-loop-i l = (flats_of l.values.items ≡ take l.i (elements l.bag)) × AllFlat l.values.items
