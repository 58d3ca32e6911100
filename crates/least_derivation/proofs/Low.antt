-- Amounts in lowest terms.
use Rattle.std.proofs.Common.{◌≡◌, ◌∙◌, ℕ, ◌*◌, ◌<◌, ◌≤◌, ◌/◌, Bool, true, false, cond, List, [], ◌∷◌, refl, sym, arith, subst}
use Rattle.std.specs.Prelude.{nat_le, not, ◌&&◌}
use Rattle.std.specs.List.{AllByRecursion}
use Rattle.std.proofs.lemmas.Bool.Decides.{nat_tests}
use native.Mathlib.Nat.{div-one}
use Rattle.fz_frac.specs.Distance.{Distance, Fin, Inf, den, is_le, none, ◌≈◌}
use Rattle.fz_frac.specs.Lowest.{gcd, is_out, lowest, widest}
use Rattle.fz_frac.proofs.Laws.{den_of, den_pos, ≈-sym, ≈-trans}
use Rattle.fz_frac.proofs.Lowest.{coprime, gcd_is, gcd_one, same_form, lowest as parts_of}
use Rattle.fz_ast.specs.Limits.{IsBang}
use Rattle.fz_derive.specs.Judged.{greatest_said}
use Rattle.derivation_lines.specs.Lines.{Said}
use Rattle.fz_derive.proofs.LeastNames.{lowest_same}

-- in lowest terms
abbrev pub IsLow : Distance → Type 0
IsLow a = (d : Distance) × (a ≡ lowest d)

narrow_both : (n m : ℕ) → 0 < m → gcd n m ≡ 1 → is_out (Fin n m) ≡ false → (n ≤ widest) × (m ≤ widest)
unfolding is_out
narrow_both n m z g h = go n m (rw (den_of m z, g, div-one n, div-one m) at h)
  where
    go : (a b : ℕ) → not (nat_le a widest && nat_le b widest) ≡ false → (a ≤ widest) × (b ≤ widest)
    go a b h = (grind (arith, nat_tests), grind (arith, nat_tests))

-- an amount above 0, in range and in lowest terms, can be written
pub low_bang : (a : Distance) → IsLow a → is_le a none ≡ false → is_out a ≡ false → IsBang a
low_bang a (d, e) p o = subst IsBang (sym e) (go d (subst (λ z. is_le z none ≡ false) e p) (subst (λ z. is_out z ≡ false) e o))
  where
    above : (n m : ℕ) → nat_le (n * 1) (0 * den m) ≡ false → 1 ≤ n
    above n m h = grind (arith, nat_tests)

    go : (d : Distance) → is_le (lowest d) none ≡ false → is_out (lowest d) ≡ false → IsBang (lowest d)
    go Inf p o = tt
    go (Fin n m) p o =
        let l = parts_of n (den m) (den_pos m) in
        let c = coprime n (den m) (gcd n (den m)) l.pos (gcd_is n (den m)) in
        let w = narrow_both (n / gcd n (den m)) (den m / gcd n (den m)) l.pos_d c o in
        (above (n / gcd n (den m)) (den m / gcd n (den m)) p, w.0, l.pos_d, w.1, c)

-- one number has one form in lowest terms
pub low_same : (a b : Distance) → a ≈ b → lowest a ≡ lowest b
low_same Inf Inf h = refl
low_same Inf (Fin r s) h = absurd h.le.le
low_same (Fin p q) Inf h = absurd h.ge.le
low_same (Fin p q) (Fin r s) h =
    let l = parts_of p (den q) (den_pos q) in let k = parts_of r (den s) (den_pos s) in
    let e = ≈-trans (lowest_same (Fin p q)) (≈-trans h (≈-sym (lowest_same (Fin r s)))) in
    let f = same_form (p / gcd p (den q)) (den q / gcd p (den q)) (r / gcd r (den s)) (den s / gcd r (den s)) l.pos_d k.pos_d
    (coprime p (den q) (gcd p (den q)) l.pos (gcd_is p (den q))) (coprime r (den s) (gcd r (den s)) k.pos (gcd_is r (den s))) e in
    cc (f.0, f.1)

pub low_as : (a b : Distance) → IsLow a → a ≈ b → a ≡ lowest b
low_as a b (d, e) h = e ∙ low_same d b (≈-trans (≈-sym (lowest_same d)) (subst (λ z. z ≈ b) e h))

none_low : none ≡ lowest none
none_low = rw (gcd_one 0) refl

pub greatest_low : (ss : List Said) → AllByRecursion (λ (s : Said). IsLow s.amount) ss → IsLow (greatest_said ss)
greatest_low [] h = (none, none_low)
greatest_low (s ∷ ss) h = go (is_le s.amount (greatest_said ss)) (greatest_low ss h.1)
  where
    go : (b : Bool) → IsLow (greatest_said ss) → IsLow (cond b (greatest_said ss) s.amount)
    go true k = k
    go false k = h.0
