-- What each of the four stops leaves, worked out on small files.
use Rattle.std.proofs.Common.{◌≡◌, ℕ, List, [], ◌∷◌, refl}
use Rattle.outside_disks.specs.Disks.{Step, overlaid}
use Rattle.outside_disks.specs.Disks.Step.{Wrote, Synced}
use Rattle.outside_disks.specs.Stops.{filled, left_by}
use Rattle.outside_disks.specs.declared.memory.Torn.{Torn}
use Rattle.outside_disks.specs.declared.memory.Torn.TheVariants.{Old, New, Ones, Gates}

-- ---- one byte in a range

within : filled (1 ∷ 2 ∷ 3 ∷ []) 1 1 9 ≡ 1 ∷ 9 ∷ 3 ∷ []
unfolding overlaid
within = refl

over_the_end : filled (1 ∷ 2 ∷ 3 ∷ []) 2 2 9 ≡ 1 ∷ 2 ∷ 9 ∷ 9 ∷ []
unfolding overlaid
over_the_end = refl

-- behind the end there are no zeros, as a write puts there, but the byte itself
behind_the_end : filled (1 ∷ []) 3 1 9 ≡ 1 ∷ 9 ∷ 9 ∷ 9 ∷ []
unfolding overlaid
behind_the_end = refl

nothing_filled : filled (1 ∷ 2 ∷ []) 1 0 9 ≡ 1 ∷ 2 ∷ []
unfolding overlaid
nothing_filled = refl

-- ---- a disk of two stable bytes, whose second and third were written, and then one behind the end

abbrev stops : Torn → List Step → List ℕ
stops torn steps = left_by torn (1 ∷ 2 ∷ []) steps

abbrev once : List Step
once = Wrote 1 (8 ∷ 9 ∷ []) ∷ []

abbrev twice : List Step
twice = Wrote 4 (7 ∷ []) ∷ once

abbrev synced : List Step
synced = Wrote 4 (7 ∷ []) ∷ Synced ∷ once

untouched : (torn : Torn) → stops torn [] ≡ 1 ∷ 2 ∷ []
untouched torn = refl

old_once : stops Old once ≡ 1 ∷ 2 ∷ []
old_once = refl

new_once : stops New once ≡ 1 ∷ 8 ∷ 9 ∷ []
unfolding overlaid
new_once = refl

ones_once : stops Ones once ≡ 1 ∷ 0xFF ∷ 0xFF ∷ []
unfolding overlaid
ones_once = refl

gates_once : stops Gates once ≡ 1 ∷ 0xA5 ∷ 0xA5 ∷ []
unfolding overlaid
gates_once = refl

old_twice : stops Old twice ≡ 1 ∷ 2 ∷ []
old_twice = refl

new_twice : stops New twice ≡ 1 ∷ 8 ∷ 9 ∷ 0 ∷ 7 ∷ []
unfolding overlaid
new_twice = refl

gates_twice : stops Gates twice ≡ 1 ∷ 0xA5 ∷ 0xA5 ∷ 0xA5 ∷ 0xA5 ∷ []
unfolding overlaid
gates_twice = refl

-- ---- with a sync between the two, what was written before it stays

old_synced : stops Old synced ≡ 1 ∷ 8 ∷ 9 ∷ []
unfolding overlaid
old_synced = refl

new_synced : stops New synced ≡ 1 ∷ 8 ∷ 9 ∷ 0 ∷ 7 ∷ []
unfolding overlaid
new_synced = refl

ones_synced : stops Ones synced ≡ 1 ∷ 8 ∷ 9 ∷ 0xFF ∷ 0xFF ∷ []
unfolding overlaid
ones_synced = refl

gates_synced : stops Gates synced ≡ 1 ∷ 8 ∷ 9 ∷ 0xA5 ∷ 0xA5 ∷ []
unfolding overlaid
gates_synced = refl

-- behind a sync each of them leaves what is read
all_synced : (torn : Torn) → stops torn (Synced ∷ once) ≡ 1 ∷ 8 ∷ 9 ∷ []
unfolding overlaid
all_synced torn = refl
