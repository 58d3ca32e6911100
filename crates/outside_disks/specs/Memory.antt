-- What a disk in memory keeps of what was done to it.
use Rattle.std.specs.Prelude.{ℕ, ◌+◌, List, [], ◌∷◌, take, drop, reverse}
use Rattle.outside_disks.specs.Disks.{Step}
use Rattle.outside_disks.specs.Disks.Step.{Wrote as Written, Synced as Flushed}
use Rattle.outside_disks.specs.declared.memory.Kept.{Kept}
use Rattle.outside_disks.specs.declared.memory.Kept.TheVariants.{Wrote, Synced}

-- the steps, the oldest first, with their bytes in turn
abbrev pub steps_in : List Kept → List ℕ → List Step
steps_in [] pool = []
steps_in (Wrote place size ∷ kept) pool = Written place (take size pool) ∷ steps_in kept (drop size pool)
steps_in (Synced ∷ kept) pool = Flushed ∷ steps_in kept pool

abbrev pub steps_of : List Kept → List ℕ → List Step
steps_of kept pool = reverse (steps_in kept pool)

-- how many bytes they have
abbrev pub sizes : List Kept → ℕ
sizes [] = 0
sizes (Wrote place size ∷ kept) = size + sizes kept
sizes (Synced ∷ kept) = sizes kept

-- a step that is kept, whose bytes begin these
abbrev pub first_in : Kept → List ℕ → Step
first_in (Wrote place size) pool = Written place (take size pool)
first_in Synced pool = Flushed

-- the bytes of the steps behind it
abbrev pub rest_in : Kept → List ℕ → List ℕ
rest_in (Wrote place size) pool = drop size pool
rest_in Synced pool = pool
