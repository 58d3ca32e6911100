-- How deep what a run makes can be held, at worked numbers, on both sides of each choice.
use Rattle.std.proofs.Common.{refl, ◌≡◌}
use Rattle.flow_values.specs.Depths.{added, stage_deep}

none : added 0 ≡ 0
unfolding added
none = refl

one : added 1 ≡ 16
unfolding added
one = refl

-- what a part is held deeper counts twice: as what a name stands for, and as what is made of that
two : added 2 ≡ 48
unfolding added
two = refl

three : added 3 ≡ 112
unfolding added
three = refl

-- a stage whose function holds more than the bag, and the other way round
deeper_function : stage_deep 7 3 1 ≡ 27
unfolding added
deeper_function = refl

deeper_bag : stage_deep 3 7 2 ≡ 59
unfolding added
deeper_bag = refl
