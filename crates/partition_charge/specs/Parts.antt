-- The sums of a partition's parts, in order of the parts.
use Rattle.std.specs.Prelude.{◌≡◌, ℕ, ◌+◌, ◌-◌, ◌<◌, ◌≤◌, ◌==◌, List, [], ◌∷◌, length, slice_index_or, if◌then◌else◌, vec_capacity, ◌⊎◌}
use Rattle.partition_charge.specs.declared.parts.PartSum.{PartSum}
use Rattle.partition_charge.specs.declared.parts.Parts.{Parts}

-- what this part was charged: 0 where it has no sum
abbrev pub sum_of : List PartSum → ℕ → ℕ
sum_of [] part = 0
sum_of (kept ∷ sums) part = if kept.part == part then kept.sum else sum_of sums part

-- a sum, were this amount taken from this part
abbrev pub lowered : (part amount : ℕ) → PartSum → ℕ
lowered part amount kept = kept.sum - (if kept.part == part then amount else 0)

-- what the part k would have, were this amount taken from this part
abbrev pub sum_without : List PartSum → (part amount k : ℕ) → ℕ
sum_without sums part amount k = sum_of sums k - (if k == part then amount else 0)

-- the part whose sum is at this place
abbrev pub part_at : List PartSum → ℕ → ℕ
part_at sums place = let kept = slice_index_or sums place (record { part = 0; sum = 0 }) in kept.part

-- The parts rise, so none comes twice.
abbrev pub IsInOrder : List PartSum → Type 0
IsInOrder sums = (i k : ℕ) → i < k → k < length sums → part_at sums i < part_at sums k

-- Each part's number is below n.
abbrev pub AreBelow : ℕ → List PartSum → Type 0
AreBelow n sums = (i : ℕ) → i < length sums → part_at sums i < n

-- The part's sum is at this place.
pub record IsAt (sums : List PartSum) (part place : ℕ) : Type 0 where
  pub in_range : place < length sums
  pub has_part : part_at sums place ≡ part

-- The part has no sum, and its place is this: behind those of smaller parts, before those of greater ones.
pub record IsGapFor (sums : List PartSum) (part place : ℕ) : Type 0 where
  pub in_range : place ≤ length sums
  pub smaller_before : (i : ℕ) → i < place → part_at sums i < part
  pub greater_after : (i : ℕ) → place ≤ i → i < length sums → part < part_at sums i

-- Where there is room for so many sums, there is a place for the part's: it has one, or there are fewer.
abbrev pub HasPlaceAmong : List PartSum → (room part : ℕ) → Type 0
HasPlaceAmong sums room part = ((place : ℕ) × IsAt sums part place) ⊎ (length sums < room)

abbrev pub HasPlaceIn : Parts → ℕ → Type 0
HasPlaceIn parts part = HasPlaceAmong parts.sums.items (vec_capacity parts.sums) part

-- The part's sum is this now, and every other's is as before. There is at most one sum more, which is this part's.
pub record HasPut (old : Parts) (part sum : ℕ) (new : Parts) : Type 0 where
  pub ordered : IsInOrder new.sums.items
  pub this : sum_of new.sums.items part ≡ sum
  pub others : (other : ℕ) → (other ≡ part → ⊥) → sum_of new.sums.items other ≡ sum_of old.sums.items other
  pub count : length new.sums.items ≤ length old.sums.items + 1
  pub below : (n : ℕ) → part < n → AreBelow n old.sums.items → AreBelow n new.sums.items
  pub room : vec_capacity new.sums ≡ vec_capacity old.sums
