-- Uniform and Bernoulli numbers out of a list of draws, each draw being a number below 2 ^ 64.
-- Each number takes a segment of the list. The relations say which segments give it; no draw is looked at twice.
use Rattle.std.specs.Prelude.{◌≡◌, ℕ, zero, suc, ◌+◌, ◌-◌, ◌*◌, ◌%◌, ◌^◌, ◌<◌, ◌≤◌, ◌==◌, nat_lt, Bool, true, false, List, [], ◌∷◌, ◌++◌}
use Rattle.std.specs.List.{AllByRecursion}

-- Below this the draws fall into whole rounds of the m remainders.
abbrev pub uniform_limit : ℕ → ℕ
uniform_limit m = 2 ^ 64 - 2 ^ 64 % m

-- A uniform number below m: a run of draws that are not below the limit, and then one that is.
pub record IsUniform (m : ℕ) (draws : List ℕ) (number : ℕ) : Type 0 where
  pub run : List ℕ
  pub kept : ℕ
  pub cut : draws ≡ run ++ kept ∷ []
  pub above : AllByRecursion (λ w. uniform_limit m ≤ w) run
  pub below : kept < uniform_limit m
  pub gives : number ≡ kept % m

-- One with probability n/d, the fraction as it is written.
pub record IsBernoulli (n d : ℕ) (draws : List ℕ) (one : Bool) : Type 0 where
  pub number : ℕ
  pub uniform : IsUniform d draws number
  pub gives : one ≡ nat_lt number n

-- Segments one behind another, numbered from k on: n of them that give `again`, and then one that gives `last`.
abbrev pub IsSegmentRun : {B : Type 0} → (ℕ → List ℕ → B → Type 0) → (again last : B) → (k n : ℕ) → List ℕ → Type 0
IsSegmentRun Segment again last k zero draws = Segment k draws last
IsSegmentRun Segment again last k (suc n) draws =
    (one rest : List ℕ) × (draws ≡ one ++ rest) × Segment k one again × IsSegmentRun Segment again last (suc k) n rest

-- One with probability exp(-u/t): trials of u/(t*1), u/(t*2), .. up to the first that gives zero. It is one where their
-- number is odd.
pub record IsBernoulliExp (u t : ℕ) (draws : List ℕ) (one : Bool) : Type 0 where
  pub ones : ℕ
  pub trials : IsSegmentRun (λ k. IsBernoulli u (t * k)) true false 1 ones draws
  pub gives : one ≡ ((ones + 1) % 2 == 1)
