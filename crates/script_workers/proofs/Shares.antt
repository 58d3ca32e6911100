-- Shares of passes: how often they can be halved, and what the halves add up to.
use Rattle.std.proofs.Common.{◌≡◌, ℕ, zero, suc, ◌+◌, ◌-◌, ◌*◌, ◌/◌, ◌<◌, ◌≤◌, List, [], ◌∷◌, ◌++◌, length, get_or, map, refl, sym, ◌∙◌, ap, subst, arith}
use Rattle.std.specs.Prelude.{All, sum_by}
use Rattle.std.proofs.lemmas.List.{length-map, get_or-map, get_or_push, get_or_append_left, length_push}
use Rattle.std.proofs.lemmas.List.Sums.{sum_by_push}
use mathlib.Core.Logic.{dite}
use native.Mathlib.Decide.{ℕ_discrete}
use Rattle.script_workers.specs.Crews.{needed}

some_needed : (n : ℕ) → 1 ≤ needed n
some_needed zero = omega arith
some_needed (suc n) = omega (arith, some_needed n)

pub two_needed : (n : ℕ) (shares : List ℕ) → 0 < n → All (λ s. needed n ≤ s) shares → All (λ s. 2 ≤ s) shares
two_needed zero shares some enough = absurd (omega (arith, some))
two_needed (suc n) shares some enough = λ k d lt. omega (arith, some_needed n, enough k d lt)

pub half_needed : (n m : ℕ) (shares : List ℕ) → n ≡ suc m → All (λ s. needed n ≤ s) shares → All (λ s. needed m ≤ s) (map (λ (s : ℕ). s - s / 2) shares)
half_needed n m shares is enough = λ k d lt.
    let within : k < length shares = omega (arith, lt, length-map shares (λ (s : ℕ). s - s / 2)) in
    let here : 2 * needed m ≤ get_or shares k 0 = subst (λ (c : ℕ). needed c ≤ get_or shares k 0) is (enough k 0 within) in
    subst (λ (s : ℕ). needed m ≤ s) (sym (get_or-map (λ (s : ℕ). s - s / 2) shares k 0 d within)) (omega (arith, here))

halves : (o : ℕ) (shares : List ℕ) → get_or (map (λ (s : ℕ). s - s / 2) shares) o 0 + get_or (map (λ (s : ℕ). s / 2) shares) o 0 ≡ get_or shares o 0
halves o [] = refl
halves zero (s ∷ shares) = omega arith
halves (suc o) (s ∷ shares) = halves o shares

-- The shares of those who were hired, and what is left, are what there was.
pub shares_step : {A : Type 0} (share : A → ℕ) (o total : ℕ) (crew more : List A) (worker : A) (shares left : List ℕ) → more ≡ crew ++ worker ∷ [] → left ≡ map (λ (s : ℕ). s - s / 2) shares
    → share worker ≡ get_or (map (λ (s : ℕ). s / 2) shares) o 0 → get_or shares o 0 + sum_by share crew ≡ total → get_or left o 0 + sum_by share more ≡ total
shares_step share o total crew more worker shares left is kept given sum =
    omega (arith, halves o shares, ap (sum_by share) is, sum_by_push share crew worker, ap (λ (ss : List ℕ). get_or ss o 0) kept, given, sum)

pub push_cases : {A : Type 0} (P : ℕ → A → Type 0) (xs more : List A) (y d : A) (i : ℕ) → more ≡ xs ++ y ∷ [] → i < length more → (i < length xs → P i (get_or xs i d)) → P (length xs) y → P i (get_or more i d)
push_cases P xs more y d i is lt before here = subst (λ w. P i (get_or w i d)) (sym is) (dite (ℕ_discrete i (length xs))
    (λ e. subst (λ (k : ℕ). P k (get_or (xs ++ y ∷ []) k d)) (sym e) (subst (P (length xs)) (sym (get_or_push xs y d (length xs) refl)) here))
    (λ ne. let less : i < length xs = omega (arith, lt, ne, ap length is, length_push xs y) in subst (P i) (sym (get_or_append_left xs (y ∷ []) d i less)) (before less)))
