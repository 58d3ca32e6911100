-- the noise's scale in lowest terms
use Rattle.std.proofs.Common.{◌≡◌, ℕ, ◌/◌, ◌<◌, ◌≤◌, Bool, true, false, arith}
use Rattle.std.specs.Int.{IsGcd}
use Rattle.std.specs.Prelude.{IsTrue}
use Rattle.std.proofs.Math.Nat.{div-le_self}
use Rattle.budget_core.specs.Entries.{IsEpsilon}
use Rattle.fz_frac.specs.Distance.{Distance, Fin, ◌≈◌}
use Rattle.fz_frac.specs.Lowest.{gcd, is_out}
use Rattle.fz_frac.proofs.Laws.{◌⨾◌}
use Rattle.fz_frac.proofs.Lowest.{gcd_is, reduced, coprime, same_form, pos_of_IsGcd, pos_low}
use Rattle.answer_path.specs.Noise.{one_epsilon, scale_numerator, scale_denominator}

turned : (a b : Distance) → a ≈ b → b ≈ a
turned a b h = record { le = h.ge; ge = h.le }

joined : (a b c : Distance) → a ≈ b → b ≈ c → a ≈ c
joined a b c f g = record { le = f.le ⨾ g.le; ge = g.ge ⨾ f.ge }

-- an epsilon's scale has narrow halves
pub narrow_scale : (e : ℕ) → IsEpsilon e → is_out (Fin one_epsilon e) ≡ false
narrow_scale e h =
    let g : ℕ = gcd one_epsilon e in
    (reduced one_epsilon e g (omega (arith, h.least)) (gcd_is one_epsilon e) (omega (arith, div-le_self one_epsilon g)) (omega (arith, div-le_self e g, h.most))).0

-- The fraction in lowest terms that is 10^6/e is the scale.
pub scale_is : (p q e : ℕ) → IsEpsilon e → 0 < q → gcd p q ≡ 1 → Fin p q ≈ Fin one_epsilon e → (p ≡ scale_numerator e) × (q ≡ scale_denominator e)
unfolding scale_numerator scale_denominator
scale_is p q e h positive lowest same =
    let g : ℕ = gcd one_epsilon e in
    let above : 0 < e = omega (arith, h.least) in
    let is_gcd : IsGcd one_epsilon e g = gcd_is one_epsilon e in
    let low = reduced one_epsilon e g above is_gcd (omega (arith, div-le_self one_epsilon g)) (omega (arith, div-le_self e g, h.most)) in
    let g_above : 0 < g = pos_of_IsGcd one_epsilon e g above is_gcd in
    same_form p q (one_epsilon / g) (e / g) positive (pos_low one_epsilon e g above is_gcd) lowest (coprime one_epsilon e g g_above is_gcd)
    (joined (Fin p q) (Fin one_epsilon e) (Fin (one_epsilon / g) (e / g)) same (turned (Fin (one_epsilon / g) (e / g)) (Fin one_epsilon e) low.1))

-- the scale's numerator is from 1 to 10^6
pub scale_bounds : (e : ℕ) → IsEpsilon e → (0 < scale_numerator e) × (scale_numerator e ≤ 1000000)
unfolding scale_numerator
scale_bounds e h =
    let g : ℕ = gcd one_epsilon e in
    let is_gcd : IsGcd one_epsilon e g = gcd_is one_epsilon e in
    let swapped : IsGcd e one_epsilon g = (is_gcd.1, is_gcd.0, λ d first second. is_gcd.2 d second first) in
    (pos_low e one_epsilon g (omega arith) swapped, div-le_self one_epsilon g)

-- a test isn't both
pub no_truth : (b : Bool) → IsTrue b → b ≡ false → ⊥
no_truth true t f = cc
no_truth false t f = cc
