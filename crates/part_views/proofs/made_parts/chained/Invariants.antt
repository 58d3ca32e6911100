use Rattle.std.proofs.Common.{◌≡◌, ◌++◌, ◌-◌, List, ℕ, length}
use Rattle.part_views.specs.MadeParts.{Follows, chain_from}
use Rattle.part_views.proofs.made_parts.chained.Given as goal

abbrev pub invariant-loop-at : goal.invariant-loop-at
invariant-loop-at l = record { left : (rest : List ℕ) × (l.numbers.items ++ rest ≡ chain_from l.next l.place) × Follows l.next l.at rest }

abbrev pub decreases-loop-at : goal.decreases-loop-at
decreases-loop-at l = length (chain_from l.next l.place) - length l.numbers.items
