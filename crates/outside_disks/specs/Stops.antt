-- One stop, of those that may come: what it makes of the writes that were not synced.
use Rattle.std.specs.Prelude.{ℕ, ◌-◌, List, [], ◌∷◌, ◌++◌, length, replicate}
use Rattle.outside_disks.specs.Disks.{Step, overlaid, seen}
use Rattle.outside_disks.specs.Disks.Step.{Wrote, Synced}
use Rattle.outside_disks.specs.declared.memory.Torn.{Torn}
use Rattle.outside_disks.specs.declared.memory.Torn.TheVariants.{Old, New, Ones, Gates}

-- a file with one byte in each place of a range, and in those between its end and the range
abbrev pub filled : List ℕ → (place size byte : ℕ) → List ℕ
filled file place size byte = overlaid (file ++ replicate (place - length file) byte) place (replicate size byte)

-- what it makes of a file in the write of these bytes
abbrev pub left_in : Torn → List ℕ → ℕ → List ℕ → List ℕ
left_in Old file place bytes = file
left_in New file place bytes = overlaid file place bytes
left_in Ones file place bytes = filled file place (length bytes) 0xFF
left_in Gates file place bytes = filled file place (length bytes) 0xA5

-- what it leaves after one step more: by what was read before the step, and what it would have left then
abbrev pub left_next : Torn → Step → (read left : List ℕ) → List ℕ
left_next torn (Wrote place bytes) read left = left_in torn left place bytes
left_next torn Synced read left = read

-- what it leaves after these steps
abbrev pub left_by : Torn → List ℕ → List Step → List ℕ
left_by torn start [] = start
left_by torn start (step ∷ earlier) = left_next torn step (seen start earlier) (left_by torn start earlier)
