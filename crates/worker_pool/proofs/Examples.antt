-- Workers at a gate, worked out.
use Rattle.std.proofs.Common.{◌≡◌, ℕ, zero, suc, ◌*◌, true, false, [], ◌∷◌, refl, arith}
use Rattle.worker_pool.specs.Gates.{Went, WentFrom}

abbrev doubles : ℕ → ℕ → Type 0
doubles x y = y ≡ 2 * x

-- told to work, and told not to
told_to : Went doubles true 3 6
told_to = refl

told_not : Went doubles false 3 3
told_not = refl

worked_untold : Went doubles false 3 6 → ⊥
worked_untold is = omega (arith, is)

idle_though_told : Went doubles true 3 3 → ⊥
idle_though_told is = omega (arith, is)

-- from the second worker on: of the first one nothing is said
from_second : WentFrom true (λ i. doubles) 1 (3 ∷ 4 ∷ []) (5 ∷ 8 ∷ [])
from_second zero d from within = absurd (omega (arith, from))
from_second (suc zero) d from within = refl
from_second (suc (suc i)) d from within = absurd (omega (arith, within))

not_from_first : WentFrom true (λ i. doubles) 0 (3 ∷ 4 ∷ []) (5 ∷ 8 ∷ []) → ⊥
not_from_first went = let first : 5 ≡ 6 = went 0 0 (omega arith) (omega arith) in omega (arith, first)
