-- Lowest terms: a fraction that equals a narrow one is narrow in lowest terms.
use Rattle.std.proofs.Common.{◌≡◌, ℕ, zero, suc, ◌+◌, ◌*◌, ◌-◌, ◌/◌, ◌%◌, ◌<◌, ◌≤◌, refl, ap, sym, arith, cond, Bool, true, false, nat_eq, ◌⊎◌, inl, inr, subst}
use Rattle.std.specs.Prelude.{nat_le, not, ◌&&◌, IsTrue}
use Rattle.std.specs.Int.{IsGcd}
use Prim.Native.Nat.{◌∣◌}
use Rattle.std.proofs.lemmas.Nat.Gcd.{IsGcd-from_zero, IsGcd-from_mod, same_from_IsGcd, le_of_dvd}
use Rattle.std.proofs.Math.Nat.{dvd-sub, dvd-mul_left, dvd-mul_right, dvd-mul_right_of_dvd, dvd_of_mul-dvd-mul_left, mul-div_cancel', pos_of_dvd_of_pos, mul-le-mul_left, mul-dvd-mul_left, eq-one_of_dvd-one, mul-one}
use Rattle.std.proofs.lemmas.Bool.Decides.{nat_tests}
use native.Mathlib.Nat.{le_of_mul-le-mul_right}
use Rattle.fz_frac.specs.Distance.{Distance, Fin, Inf, den, endless, quotient, ◌≈◌}
use Rattle.fz_frac.specs.Sens.{distance_of, IsDivisor}
use Rattle.fz_frac.specs.declared.sens.Sens.{Sens}
use Rattle.fz_frac.specs.declared.sens.Sens.TheVariants.{Finite, Inf as Endless}
use Rattle.fz_frac.specs.Lowest.{gcd_in, gcd, widest, is_out, lowest as in_lowest_terms, IsNarrow}
use Rattle.fz_frac.proofs.Laws.{den_of, den_pos, ≈-sym, ≈-trans}

gcd_step : (n a b : ℕ) → b < suc n → (t : Bool) → nat_eq b 0 ≡ t → (a % b < n → IsGcd b (a % b) (gcd_in n b (a % b))) → IsGcd a b (cond t a (gcd_in n b (a % b)))
gcd_step n a b h true e r = IsGcd-from_zero a b (grind (arith, nat_tests, e))
gcd_step n a b h false e r = let k : 0 < b = grind (arith, nat_tests, e) in let m : a % b < n = omega arith in IsGcd-from_mod a b _ (r m)

pub gcd_in_is : (n a b : ℕ) → b < n → IsGcd a b (gcd_in n a b)
unfolding gcd_in
gcd_in_is zero a b h = absurd (omega arith)
gcd_in_is (suc n) a b h = gcd_step n a b h (nat_eq b 0) refl (λ m. gcd_in_is n b (a % b) m)

pub gcd_is : (a b : ℕ) → IsGcd a b (gcd a b)
unfolding gcd
gcd_is a b = gcd_in_is (suc b) a b (omega arith)

mod_form : (a b x m s : ℕ) → b * x + m ≡ a → m * s ≡ a * s - (b * s) * x
mod_form a b x m s e = let f : (b * x + m) * s ≡ a * s = ap (λ n. n * s) e in omega arith

dvd_mod : (a b d s : ℕ) → 0 < b → d ∣ a * s → d ∣ b * s → d ∣ (a % b) * s
dvd_mod a b d s z h k =
    let e : b * (a / b) + a % b ≡ a = omega arith in
    let f = mod_form a b (a / b) (a % b) s e in
    let P : ℕ → Type 0 = λ n. d ∣ n in
    subst P (sym f) (dvd-sub d h (dvd-mul_right_of_dvd d k (a / b)))

gcd_mul_step : (n a b d s : ℕ) → d ∣ a * s → d ∣ b * s → (t : Bool) → nat_eq b 0 ≡ t → (d ∣ (a % b) * s → d ∣ gcd_in n b (a % b) * s) → d ∣ cond t a (gcd_in n b (a % b)) * s
gcd_mul_step n a b d s h k true e r = h
gcd_mul_step n a b d s h k false e r = let z : 0 < b = grind (arith, nat_tests, e) in r (dvd_mod a b d s z h k)

-- what divides both products divides the divisor's
pub dvd_gcd_mul : (n a b d s : ℕ) → d ∣ a * s → d ∣ b * s → d ∣ gcd_in n a b * s
unfolding gcd_in
dvd_gcd_mul zero a b d s h k = h
dvd_gcd_mul (suc n) a b d s h k = gcd_mul_step n a b d s h k (nat_eq b 0) refl (λ m. dvd_gcd_mul n b (a % b) d s k m)

dvd_gcd : (a b d s : ℕ) → d ∣ a * s → d ∣ b * s → d ∣ gcd a b * s
unfolding gcd
dvd_gcd a b d s h k = dvd_gcd_mul (suc b) a b d s h k

pub record Lowest (p q n d : ℕ) : Type 0 where
  pub top : p ≡ gcd p q * n
  pub low : q ≡ gcd p q * d
  pub pos : 0 < gcd p q
  pub pos_d : 0 < d

pub lowest : (p q : ℕ) → 0 < q → Lowest p q (p / gcd p q) (q / gcd p q)
lowest p q h =
    let g = gcd_is p q in
    let z : 0 < gcd p q = pos_of_dvd_of_pos g.1 h in
    let e : gcd p q * (p / gcd p q) ≡ p = mul-div_cancel' (gcd p q) g.0 in
    let f : gcd p q * (q / gcd p q) ≡ q = mul-div_cancel' (gcd p q) g.1 in
    record { top = sym e; low = sym f; pos = z; pos_d = low_pos (gcd p q) (q / gcd p q) q f h }
  where
    low_pos : (g d q : ℕ) → g * d ≡ q → 0 < q → 0 < d
    low_pos g zero q e h = absurd (omega arith)
    low_pos g (suc d) q e h = omega arith

-- an equal fraction's numerator and denominator are no smaller
low_le : (p q r s n d : ℕ) → Lowest p q n d → 0 < s → p * s ≡ r * q → d ≤ s
low_le p q r s n d l z e =
    let P : ℕ → Type 0 = λ m. q ∣ m in
    let a : q ∣ p * s = subst P (sym e) (dvd-mul_left q r) in
    let b : q ∣ gcd p q * s = dvd_gcd p q q s a (dvd-mul_right q s) in
    let Q : ℕ → Type 0 = λ m. m ∣ gcd p q * s in
    let c : gcd p q * d ∣ gcd p q * s = subst Q l.low b in
    le_of_dvd z (dvd_of_mul-dvd-mul_left d l.pos c)

cancel : (p q r s n d g : ℕ) → p ≡ g * n → q ≡ g * d → 0 < g → p * s ≡ r * q → n * s ≡ r * d
cancel p q r s n d g a b z e =
    let f : (g * n) * s ≡ r * (g * d) = rw (← a, ← b) e in
    let h : (n * s) * g ≤ (r * d) * g = omega arith in
    let k : (r * d) * g ≤ (n * s) * g = omega arith in
    let i : n * s ≤ r * d = le_of_mul-le-mul_right {m = n * s} {n = r * d} {k = g} h z in
    let j : r * d ≤ n * s = le_of_mul-le-mul_right {m = r * d} {n = n * s} {k = g} k z in
    omega arith

top_le : (p q r s n d : ℕ) → Lowest p q n d → 0 < s → p * s ≡ r * q → n ≤ r
top_le p q r s n d l z e = go (low_le p q r s n d l z e) (cancel p q r s n d (gcd p q) l.top l.low l.pos e)
  where
    go : d ≤ s → n * s ≡ r * d → n ≤ r
    go h f = le_of_mul-le-mul_right {m = n} {n = r} {k = s} (let k : r * d ≤ r * s = mul-le-mul_left r h in omega arith) z

not_wide : (a b : ℕ) → a ≤ widest → b ≤ widest → not (nat_le a widest && nat_le b widest) ≡ false
not_wide a b h k = grind (arith, nat_tests)

pub narrow : (p q r s : ℕ) → 0 < s → p * s ≡ r * den q → r ≤ widest → s ≤ widest → is_out (Fin p q) ≡ false
unfolding is_out
narrow p q r s z e h k =
    let l = lowest p (den q) (den_pos q) in
    let a = top_le p (den q) r s (p / gcd p (den q)) (den q / gcd p (den q)) l z e in
    let b = low_le p (den q) r s (p / gcd p (den q)) (den q / gcd p (den q)) l z e in
    not_wide (p / gcd p (den q)) (den q / gcd p (den q)) (omega arith) (omega arith)

pub wide : (p q : ℕ) → 0 < q → (widest < p / gcd p q) ⊎ (widest < q / gcd p q) → is_out (Fin p q) ≡ true
unfolding is_out
wide p q z h = rw (den_of q z) (go h)
  where
    go : (widest < p / gcd p q) ⊎ (widest < q / gcd p q) → not (nat_le (p / gcd p q) widest && nat_le (q / gcd p q) widest) ≡ true
    go (inl k) = grind (arith, nat_tests)
    go (inr k) = grind (arith, nat_tests)

cross : (p q n d g : ℕ) → p ≡ g * n → q ≡ g * d → p * d ≡ n * q
cross p q n d g a b = rw (a, b) (omega arith)

-- p/q = r/s and p/q = n/d give r/s = n/d
chain : (p q r s n d : ℕ) → 0 < q → p * s ≡ r * q → p * d ≡ n * q → r * d ≡ n * s
chain p q r s n d z e f =
    let a : (r * d) * q ≡ (p * s) * d = rw e (omega arith) in
    let b : (n * s) * q ≡ (p * d) * s = rw f (omega arith) in
    let h : (r * d) * q ≤ (n * s) * q = omega arith in
    let k : (n * s) * q ≤ (r * d) * q = omega arith in
    let i : r * d ≤ n * s = le_of_mul-le-mul_right {m = r * d} {n = n * s} {k = q} h z in
    let j : n * s ≤ r * d = le_of_mul-le-mul_right {m = n * s} {n = r * d} {k = q} k z in
    omega arith

reduced_same : (p q n d g : ℕ) → p ≡ g * n → q ≡ g * d → 0 < d → 0 < q → Fin n d ≈ Fin p q
reduced_same p q n d g a b h z =
    let e : den d ≡ d = den_of d h in let f : den q ≡ q = den_of q z in
    let i : n * q ≡ p * d = rw (a, b) (omega arith) in
    record { le = record { le = rw (e, f) (omega arith) }; ge = record { le = rw (e, f) (omega arith) } }

pub reduced : (p q g : ℕ) → 0 < q → IsGcd p q g → p / g ≤ widest → q / g ≤ widest → (is_out (Fin p q) ≡ false) × (Fin (p / g) (q / g) ≈ Fin p q)
reduced p q g z i h k =
    let e : gcd p q ≡ g = same_from_IsGcd p q (gcd p q) g (gcd_is p q) i in
    rw (← e) (go (subst (λ (m : ℕ). p / m ≤ widest) (sym e) h) (subst (λ (m : ℕ). q / m ≤ widest) (sym e) k))
  where
    go : p / gcd p q ≤ widest → q / gcd p q ≤ widest → (is_out (Fin p q) ≡ false) × (Fin (p / gcd p q) (q / gcd p q) ≈ Fin p q)
    go h k =
        let l = lowest p q z in
        let f : p * (q / gcd p q) ≡ (p / gcd p q) * q = cross p q (p / gcd p q) (q / gcd p q) (gcd p q) l.top l.low in
        (narrow p q (p / gcd p q) (q / gcd p q) l.pos_d (rw (den_of q z) f) h k, reduced_same p q (p / gcd p q) (q / gcd p q) (gcd p q) l.top l.low l.pos_d z)

pub too_wide : (p q g : ℕ) → 0 < q → IsGcd p q g → (widest < p / g) ⊎ (widest < q / g) → is_out (Fin p q) ≡ true
too_wide p q g z i h =
    let e : gcd p q ≡ g = same_from_IsGcd p q (gcd p q) g (gcd_is p q) i in
    wide p q z (subst (λ (m : ℕ). (widest < p / m) ⊎ (widest < q / m)) (sym e) h)

pub pos_of_IsGcd : (p q g : ℕ) → 0 < q → IsGcd p q g → 0 < g
pos_of_IsGcd p q g z i = pos_of_dvd_of_pos i.1 z

fin_same : (p q r s : ℕ) → Fin p q ≈ Fin r s → p * den s ≡ r * den q
fin_same p q r s h = let a = h.le.le in let b = h.ge.le in omega arith

out_not : (b : Bool) → (b ≡ true → ⊥) → b ≡ false
out_not true h = absurd (h refl)
out_not false h = refl

narrow_of : (p q : ℕ) → is_out (Fin p q) ≡ false → (p / gcd p (den q) ≤ widest) × (den q / gcd p (den q) ≤ widest)
unfolding is_out
narrow_of p q h = go (p / gcd p (den q)) (den q / gcd p (den q)) h
  where
    go : (a b : ℕ) → not (nat_le a widest && nat_le b widest) ≡ false → (a ≤ widest) × (b ≤ widest)
    go a b h = (grind (arith, nat_tests), grind (arith, nat_tests))

-- equal fractions are narrow together
pub out_same : (a b : Distance) → a ≈ b → is_out a ≡ false → is_out b ≡ false
unfolding is_out
out_same Inf Inf s h = refl
out_same Inf (Fin r s) e h = absurd e.le.le
out_same (Fin p q) Inf e h = refl
out_same (Fin p q) (Fin r s) e h =
    let w = narrow_of p q h in
    let l = lowest p (den q) (den_pos q) in
    let f = fin_same p q r s e in
    let g : p * (den q / gcd p (den q)) ≡ (p / gcd p (den q)) * den q = cross p (den q) (p / gcd p (den q)) (den q / gcd p (den q)) (gcd p (den q)) l.top l.low in
    narrow r s (p / gcd p (den q)) (den q / gcd p (den q)) l.pos_d (chain p (den q) r (den s) (p / gcd p (den q)) (den q / gcd p (den q)) (den_pos q) f g) w.0 w.1

pub out_same_true : (a b : Distance) → a ≈ b → is_out a ≡ true → is_out b ≡ true
out_same_true a b s h = go (is_out b) refl
  where
    go : (t : Bool) → is_out b ≡ t → t ≡ true
    go true e = refl
    go false e = let k = out_same b a (≈-sym s) e in cc

-- what is left after the greatest common divisor has none
pub coprime : (p q g : ℕ) → 0 < g → IsGcd p q g → gcd (p / g) (q / g) ≡ 1
coprime p q g z i =
    let n = p / g in
    let d = q / g in
    let e : g * n ≡ p = mul-div_cancel' g i.0 in
    let f : g * d ≡ q = mul-div_cancel' g i.1 in
    let k = gcd_is n d in
    let P : ℕ → Type 0 = λ m. g * gcd n d ∣ m in
    let a : g * gcd n d ∣ p = subst P e (mul-dvd-mul_left (gcd n d) g k.0) in
    let b : g * gcd n d ∣ q = subst P f (mul-dvd-mul_left (gcd n d) g k.1) in
    let h : g * gcd n d ∣ g * 1 = subst P (sym (mul-one g)) (i.2 (g * gcd n d) a b) in
    eq-one_of_dvd-one (dvd_of_mul-dvd-mul_left (gcd n d) z h)

pub gcd_one : (p : ℕ) → gcd p 1 ≡ 1
gcd_one p = eq-one_of_dvd-one (gcd_is p 1).1

-- how `Range` stands to a distance: it comes where that is out, and only there

pub fits_at : (d : Distance) → is_out d ≡ false → (false ≡ true → IsTrue (is_out d)) × (IsTrue (is_out d) → false ≡ true)
fits_at d h = ((λ e. cc), (λ e. cc))

pub inf_fits : is_out Inf ≡ false
unfolding is_out
inf_fits = refl

pub endless_fits : (n : ℕ) → is_out (endless n) ≡ false
endless_fits zero = narrow 0 1 0 1 (omega arith) refl (omega arith) (omega arith)
endless_fits (suc n) = inf_fits

pub pos_low : (p q g : ℕ) → 0 < q → IsGcd p q g → 0 < q / g
pos_low p q g z i = go g (q / g) (mul-div_cancel' g i.1)
  where
    go : (g d : ℕ) → g * d ≡ q → 0 < d
    go g zero e = absurd (omega arith)
    go g (suc d) e = omega arith

pub quotient_fits : (b : Sens) → IsDivisor b → (false ≡ true → IsTrue (is_out (quotient Inf (distance_of b)))) × (IsTrue (is_out (quotient Inf (distance_of b))) → false ≡ true)
quotient_fits (Finite f) h = fits_at Inf inf_fits
quotient_fits Endless h = absurd h

-- two pairs in lowest terms that are one number are one pair

one_times : (g s : ℕ) → g ≡ 1 → g * s ≡ s
one_times g s e = rw e (omega arith)

low_div : (p q r s : ℕ) → 0 < q → 0 < s → gcd p q ≡ 1 → p * s ≡ r * q → q ≤ s
low_div p q r s z w g e =
    let P : ℕ → Type 0 = λ m. q ∣ m in
    let a : q ∣ p * s = subst P (sym e) (dvd-mul_left q r) in
    let b : q ∣ gcd p q * s = dvd_gcd p q q s a (dvd-mul_right q s) in
    le_of_dvd w (subst P (one_times (gcd p q) s g) b)

pub same_form : (p q r s : ℕ) → 0 < q → 0 < s → gcd p q ≡ 1 → gcd r s ≡ 1 → Fin p q ≈ Fin r s → (p ≡ r) × (q ≡ s)
same_form p q r s z w g h e =
    let f : p * s ≡ r * q = rw (den_of q z, den_of s w) at (fin_same p q r s e) in
    let a : q ≤ s = low_div p q r s z w g f in
    let b : s ≤ q = low_div r s p q w z h (sym f) in
    let k : q ≡ s = omega arith in
    (same_top p q r s z k f, k)
  where
    same_top : (p q r s : ℕ) → 0 < q → q ≡ s → p * s ≡ r * q → p ≡ r
    same_top p q r s z k f =
        let e : p * q ≡ r * q = rw (← k) at f in
        let i : p ≤ r = le_of_mul-le-mul_right {m = p} {n = r} {k = q} (omega arith) z in
        let j : r ≤ p = le_of_mul-le-mul_right {m = r} {n = p} {k = q} (omega arith) z in
        omega arith

pub not_both : (a : Distance) → IsTrue (is_out a) → IsNarrow a → ⊥
not_both (Fin p q) h (n, d, z, i, j, e) = let k = narrow p q n d z (sym (rw (den_of d z) at (fin_same n d p q e))) i j in cc
not_both Inf h k = let e = inf_fits in cc

den_same : (p q : ℕ) → Fin p (den q) ≈ Fin p q
den_same p q = let f : den (den q) ≡ den q = den_of (den q) (den_pos q) in record { le = record { le = rw f (omega arith) }; ge = record { le = rw f (omega arith) } }

pub out_or_narrow : (a : Distance) → IsTrue (is_out a) ⊎ IsNarrow a
out_or_narrow Inf = inr tt
out_or_narrow (Fin p q) = go (is_out (Fin p q)) refl
  where
    go : (t : Bool) → is_out (Fin p q) ≡ t → IsTrue (is_out (Fin p q)) ⊎ IsNarrow (Fin p q)
    go true e = inl e
    go false e =
        let w = narrow_of p q e in
        let l = lowest p (den q) (den_pos q) in
        inr (p / gcd p (den q), den q / gcd p (den q), l.pos_d, w.0, w.1, ≈-trans (reduced_same p (den q) (p / gcd p (den q)) (den q / gcd p (den q)) (gcd p (den q)) l.top l.low l.pos_d (den_pos q)) (den_same p q))

-- what the code keeps is never out

pub sens_fits : (s : Sens) → is_out (distance_of s) ≡ false
sens_fits (Finite f) = let h = f.narrow in narrow f.p f.q f.p f.q f.above_zero (rw (den_of f.q f.above_zero) refl) h.0 h.1
sens_fits Endless = inf_fits

-- and it is in lowest terms
pub sens_lowest : (s : Sens) (d : Distance) → distance_of s ≈ d → distance_of s ≡ in_lowest_terms d
sens_lowest Endless Inf e = refl
sens_lowest Endless (Fin p q) e = absurd e.le.le
sens_lowest (Finite f) Inf e = absurd e.ge.le
sens_lowest (Finite f) (Fin p q) e =
    let g = gcd p (den q) in
    let l = lowest p (den q) (den_pos q) in
    let i = ≈-trans (reduced_same p (den q) (p / g) (den q / g) g l.top l.low l.pos_d (den_pos q)) (den_same p q) in
    let k = same_form f.p f.q (p / g) (den q / g) f.above_zero l.pos_d f.lowest (coprime p (den q) g l.pos (gcd_is p (den q))) (≈-trans e (≈-sym i)) in
    rw (k.0, k.1) refl
