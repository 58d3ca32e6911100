use Rattle.std.proofs.Common.{◌≡◌, take}
use Rattle.part_views.proofs.made_parts.Keys.new.Given as goal

abbrev pub invariant-loop-i : goal.invariant-loop-i
invariant-loop-i l = record { so_far : l.numbered.keys ≡ take l.i l.texts }
