use Rattle.std.proofs.Common.{◌≡◌, length, map, take}
use Rattle.run_values.specs.Flats.{flat_of, flats_of}
use Rattle.value_distance.proofs.bags.elements_of.Given as goal

abbrev pub invariant-loop-value : goal.invariant-loop-value
invariant-loop-value l =
    record {
      same : map (λ h. flat_of h.value.now) l.elements.items ≡ flats_of (take l.value-index l.values);
      many : length l.elements.items ≡ l.value-index;
    }
