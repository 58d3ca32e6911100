-- The scalar of `let !x` suffices.
use Rattle.std.proofs.Common.{arith, refl}
use Rattle.std.specs.Prelude.{Bool, cond, false, suc, true, zero, ℕ, ◌*◌, ◌≡◌, ◌≤◌}
use Rattle.fz_frac.proofs.Laws.{den_of, den_pos, is_le-yes, pos_mul, ⊑-inf, ⊑-refl}
use Rattle.fz_frac.specs.Distance.{Distance, Fin, Inf, den, is_le, mul, none, one, quotient, ◌⊑◌}
use Rattle.fz_ast.specs.Limits.{IsBang}

pub over_any : (t : Distance) → quotient t Inf ≡ cond (is_le t none) none one
over_any (Fin p q) = refl
over_any Inf = refl

of_finite : (p q r s : ℕ) → 1 ≤ r → Fin p q ⊑ mul (quotient (Fin p q) (Fin r s)) (Fin r s)
of_finite p q r s h =
    let e : den (den q * r) ≡ den q * r = den_of (den q * r) (pos_mul (den q) r (den_pos q) h) in
    let f : den (den (den q * r) * den s) ≡ den (den q * r) * den s = den_of (den (den q * r) * den s) (pos_mul (den (den q * r)) (den s) (den_pos (den q * r)) (den_pos s)) in
    record { le = rw (f, e) (omega arith) }

of_inf : (r s : ℕ) → 1 ≤ r → Inf ⊑ mul (quotient Inf (Fin r s)) (Fin r s)
of_inf zero s h = absurd (omega arith)
of_inf (suc r) s h = ⊑-refl Inf

over_inf : (t : Distance) (b : Bool) → is_le t none ≡ b → t ⊑ mul (cond b none one) Inf
over_inf t true e = is_le-yes t none e
over_inf t false e = ⊑-inf t

pub quotient_suffices : (t s : Distance) → IsBang s → t ⊑ mul (quotient t s) s
quotient_suffices (Fin p q) (Fin r s) h = of_finite p q r s h.0
quotient_suffices Inf (Fin r s) h = of_inf r s h.0
quotient_suffices t Inf h = rw (over_any t) (over_inf t (is_le t none) refl)
