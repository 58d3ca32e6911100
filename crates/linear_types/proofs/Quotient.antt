-- Over a finite number the scalar of `let !x` is the least that suffices.
use Rattle.std.proofs.Common.{arith}
use Rattle.std.specs.Prelude.{ℕ, ◌*◌, ◌≡◌, ◌≤◌}
use Rattle.fz_frac.proofs.Laws.{den_of, den_pos, pos_mul, ⊑-inf}
use Rattle.fz_frac.specs.Distance.{Fin, Inf, den, mul, quotient, ◌⊑◌}
use Rattle.linear_types.specs.Laws.{QuotientIsLeast}
pub use Rattle.term_meanings.proofs.Quotient.{quotient_suffices}

least_of : (a b c d p q : ℕ) → 1 ≤ p → Fin a b ⊑ mul (Fin c d) (Fin p q) → quotient (Fin a b) (Fin p q) ⊑ Fin c d
least_of a b c d p q h k =
    let e : den (den b * p) ≡ den b * p = den_of (den b * p) (pos_mul (den b) p (den_pos b) h) in
    let f : den (den d * den q) ≡ den d * den q = den_of (den d * den q) (pos_mul (den d) (den q) (den_pos d) (den_pos q)) in
    let l : a * den (den d * den q) ≤ c * p * den b = k.le in
    let m : a * (den d * den q) ≤ c * p * den b = rw (← f) l in
    record { le = rw e (omega (arith, m)) }

never_inf : (c d p q : ℕ) → Inf ⊑ mul (Fin c d) (Fin p q) → ⊥
never_inf c d p q h = absurd h.le

pub quotient_is_least : QuotientIsLeast
quotient_is_least (Fin a b) (Fin c d) p q h k = least_of a b c d p q h.0 k
quotient_is_least Inf (Fin c d) p q h k = absurd (never_inf c d p q k)
quotient_is_least t Inf p q h k = ⊑-inf _
