-- One form in lowest terms for each distance, and sums, products and greatest ones of such forms.
use Rattle.std.proofs.Common.{◌≡◌, refl, sym, arith, ℕ, ◌*◌, ◌/◌, ◌<◌, ◌≤◌, Bool, true, false, cond, ◌⊎◌, inl, inr, subst}
use Rattle.std.specs.Prelude.{◌&&◌, nat_le, not}
use Rattle.std.specs.Int.{IsGcd}
use Rattle.std.proofs.lemmas.Bool.Decides.{nat_tests}
use Rattle.std.proofs.lemmas.Nat.Gcd.{same_from_IsGcd}
use Rattle.fz_frac.specs.Distance.{Distance, Fin, Inf, add, den, greater, is_le, mul, ◌≈◌}
use Rattle.fz_frac.specs.Lowest.{gcd, lowest}
use Rattle.fz_frac.proofs.Laws.{add-mono, den_of, den_pos, is_le-yes, le-is_le, mul-mono, ≈-refl, ≈-sym, ≈-trans, ⊑-refl, ⊑-trans}
use Rattle.fz_frac.proofs.Lowest.{coprime, gcd_is, same_form, lowest as lowest_of}
use Rattle.value_distance.specs.Widths.{greatest_of_63_bits, fits_63_bits, is_too_wide}

reduced_is : (p q n d g : ℕ) → p ≡ g * n → q ≡ g * d → 0 < d → 0 < q → Fin n d ≈ Fin p q
reduced_is p q n d g a b h z =
    let e : den d ≡ d = den_of d h in let f : den q ≡ q = den_of q z in
    let i : n * q ≡ p * d = rw (a, b) (omega arith) in
    record { le = record { le = rw (e, f) (omega arith) }; ge = record { le = rw (e, f) (omega arith) } }

den_twice : (p q : ℕ) → Fin p (den q) ≈ Fin p q
den_twice p q = let f : den (den q) ≡ den q = den_of (den q) (den_pos q) in record { le = record { le = rw f (omega arith) }; ge = record { le = rw f (omega arith) } }

-- the same number
pub lowest_is : (a : Distance) → lowest a ≈ a
lowest_is Inf = ≈-refl Inf
lowest_is (Fin p q) =
    let g = gcd p (den q) in
    let l = lowest_of p (den q) (den_pos q) in
    ≈-trans (reduced_is p (den q) (p / g) (den q / g) g l.top l.low l.pos_d (den_pos q)) (den_twice p q)

-- one form for each number
pub lowest_same : (a b : Distance) → a ≈ b → lowest a ≡ lowest b
lowest_same Inf Inf e = refl
lowest_same Inf (Fin r s) e = absurd e.le.le
lowest_same (Fin p q) Inf e = absurd e.ge.le
lowest_same (Fin p q) (Fin r s) e =
    let g = gcd p (den q) in
    let h = gcd r (den s) in
    let l = lowest_of p (den q) (den_pos q) in
    let m = lowest_of r (den s) (den_pos s) in
    let c = coprime p (den q) g l.pos (gcd_is p (den q)) in
    let d = coprime r (den s) h m.pos (gcd_is r (den s)) in
    let k = same_form (p / g) (den q / g) (r / h) (den s / h) l.pos_d m.pos_d c d (≈-trans (lowest_is (Fin p q)) (≈-trans e (≈-sym (lowest_is (Fin r s))))) in
    rw (k.0, k.1) refl

pub lowest_sum : (a b : Distance) → lowest (add (lowest a) (lowest b)) ≡ lowest (add a b)
lowest_sum a b =
    let f = lowest_is a in
    let g = lowest_is b in
    lowest_same (add (lowest a) (lowest b)) (add a b) (record { le = add-mono (lowest a) a (lowest b) b f.le g.le; ge = add-mono a (lowest a) b (lowest b) f.ge g.ge })

pub lowest_product : (r a : Distance) → lowest (mul r (lowest a)) ≡ lowest (mul r a)
lowest_product r a =
    let f = lowest_is a in
    lowest_same (mul r (lowest a)) (mul r a) (record { le = mul-mono r r (lowest a) a (⊑-refl r) f.le; ge = mul-mono r r a (lowest a) (⊑-refl r) f.ge })

le_lowest : (a b : Distance) → is_le (lowest a) (lowest b) ≡ is_le a b
le_lowest a b = go (is_le (lowest a) (lowest b)) (is_le a b) refl refl
  where
    f : lowest a ≈ a
    f = lowest_is a

    g : lowest b ≈ b
    g = lowest_is b

    go : (s t : Bool) → is_le (lowest a) (lowest b) ≡ s → is_le a b ≡ t → s ≡ t
    go true true h k = refl
    go false false h k = refl
    go true false h k =
        let e = le-is_le a b (⊑-trans a (lowest a) b f.ge (⊑-trans (lowest a) (lowest b) b (is_le-yes (lowest a) (lowest b) h) g.le)) in cc
    go false true h k =
        let e = le-is_le (lowest a) (lowest b) (⊑-trans (lowest a) a (lowest b) f.le (⊑-trans a b (lowest b) (is_le-yes a b k) g.ge)) in cc

pub lowest_greater : (a b : Distance) → greater (lowest a) (lowest b) ≡ lowest (greater a b)
lowest_greater a b = rw (le_lowest a b) (go (is_le a b))
  where
    go : (t : Bool) → cond t (lowest b) (lowest a) ≡ lowest (cond t b a)
    go true = refl
    go false = refl

-- of numbers that are there in code

pub lowest_by : (p q g : ℕ) → 0 < q → IsGcd p q g → lowest (Fin p q) ≡ Fin (p / g) (q / g)
lowest_by p q g z i =
    let e : gcd p q ≡ g = same_from_IsGcd p q (gcd p q) g (gcd_is p q) i in
    let f : den q ≡ q = den_of q z in rw (f, e) refl

pub narrow_by : (p q g : ℕ) → 0 < q → IsGcd p q g → p / g ≤ greatest_of_63_bits → q / g ≤ greatest_of_63_bits → is_too_wide (Fin p q) ≡ false
narrow_by p q g z i h k = subst (λ d. not (fits_63_bits d) ≡ false) (sym (lowest_by p q g z i)) (go (p / g) (q / g) h k)
  where
    go : (a b : ℕ) → a ≤ greatest_of_63_bits → b ≤ greatest_of_63_bits → not (nat_le a greatest_of_63_bits && nat_le b greatest_of_63_bits) ≡ false
    go a b h k = grind (arith, nat_tests)

pub wide_by : (p q g : ℕ) → 0 < q → IsGcd p q g → (greatest_of_63_bits < p / g) ⊎ (greatest_of_63_bits < q / g) → is_too_wide (Fin p q) ≡ true
wide_by p q g z i h = subst (λ d. not (fits_63_bits d) ≡ true) (sym (lowest_by p q g z i)) (go (p / g) (q / g) h)
  where
    go : (a b : ℕ) → (greatest_of_63_bits < a) ⊎ (greatest_of_63_bits < b) → not (nat_le a greatest_of_63_bits && nat_le b greatest_of_63_bits) ≡ true
    go a b (inl k) = grind (arith, nat_tests)
    go a b (inr k) = grind (arith, nat_tests)
