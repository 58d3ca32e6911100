-- How many lists of draws pass a test. Where each draw is any number below `words`, equally likely and independent, the
-- chance that n draws pass is lists_passing words n test / words ^ n.
use Rattle.std.specs.Prelude.{ℕ, zero, suc, ◌+◌, ◌*◌, ◌/◌, ◌%◌, ◌^◌, ◌&&◌, Bool, false, cond, List, [], ◌∷◌, Option, Some, None}
use Rattle.exact_bernoulli.specs.Readers.{DrawReader}

-- f 0 + f 1 + .. + f (n - 1)
unfoldable pub sum_below : (ℕ → ℕ) → ℕ → ℕ
sum_below f zero = 0
sum_below f (suc n) = sum_below f n + f n

-- how many numbers below n pass
abbrev pub passing_below : (ℕ → Bool) → ℕ → ℕ
passing_below test n = sum_below (λ i. cond (test i) 1 0) n

-- how many lists of n numbers below `words` pass
unfoldable pub lists_passing : (words n : ℕ) → (List ℕ → Bool) → ℕ
lists_passing words zero test = cond (test []) 1 0
lists_passing words (suc n) test = sum_below (λ w. lists_passing words n (λ rest. test (w ∷ rest))) words

-- what is read passes a test, and the draws after it pass another
abbrev pub found_passes : {A : Type 0} → (A → Bool) → (List ℕ → Bool) → Option (A × List ℕ) → Bool
found_passes test later None = false
found_passes test later (Some found) = test found.0 && later found.1

abbrev pub read_passes : {A : Type 0} → DrawReader A → (A → Bool) → (List ℕ → Bool) → List ℕ → Bool
read_passes read test later draws = found_passes test later (read draws)

-- How many lists of n draws give any one number below m: the first draw is kept, in one of so many whole rounds, or it is
-- rejected and one of the draws after it is kept.
unfoldable pub kept_lists : (m : ℕ) → (later : List ℕ → Bool) → ℕ → ℕ
kept_lists m later zero = 0
kept_lists m later (suc n) = 2 ^ 64 / m * lists_passing (2 ^ 64) n later + 2 ^ 64 % m * kept_lists m later n
