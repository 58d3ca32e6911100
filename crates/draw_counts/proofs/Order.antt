-- At any scale larger noise comes from no more lists than smaller noise.
use Rattle.std.proofs.Common.{◌≡◌, ◌∙◌, sym, ap, subst, refl, ℕ, zero, suc, ◌+◌, ◌*◌, ◌%◌, ◌<◌, ◌≤◌, Bool, true, false, List, Option, Some, None, arith, inl, inr}
use Rattle.std.specs.Prelude.{cond, not, ◌/◌, ◌^◌, ◌==◌, ◌&&◌, nat_lt}
use Rattle.std.proofs.lemmas.Bool.{cases_Bool, eqb-true, eqb-false, eq-eqb, ne_eqb, ltb-true, ltb-false, le-ltb}
use Rattle.std.proofs.lemmas.Nat.{mod_below, div-mul-add, mod-mul-add}
use Rattle.std.proofs.Math.Nat.{pow-succ', mod-add-div'}
use Rattle.exact_bernoulli.specs.Readers.{read_bernoulli}
use Rattle.draw_counts.specs.Counts.{sum_below}
use Rattle.draw_counts.proofs.Uniform.{below_ext, lists_ext, lists_none, and_lists, below_const}
use Rattle.draw_counts.proofs.After.{lists_add, sums}
use Rattle.draw_counts.proofs.Steps.{outcome, outcome_ext, count, bit, bernoulli_step, bernoulli_start, trials, trials_step, trials_start, ones, ones_unroll}
use Rattle.draw_counts.proofs.Chains.{IsChain, Ones, ones_le}
use Rattle.draw_counts.proofs.Begins.{cond_out}
use Rattle.draw_counts.proofs.Shift.{bits_below}
use Rattle.draw_counts.proofs.Whole.{const_count, outcome_bits}
use Rattle.draw_counts.proofs.Falling.{IsTrial, falls, wraps}

-- ones, and then a test of how many there were and of the draws after them
unfoldable pub ends_of : (ℕ → List ℕ → Bool) → ℕ → List ℕ → Bool
ends_of e v rest = outcome false (ones v rest) (λ zero last. e zero.0 last)

end_trial : (ℕ → List ℕ → Bool) → ℕ → ℕ × Bool → List ℕ → Bool
end_trial e v found last = cond (found.0 % 2 == 1) (ends_of e (suc v) last) (e v last)

end_count : (ℕ → List ℕ → Bool) → ℕ → ℕ → ℕ → ℕ
end_count e v k n = count n (λ ws. outcome false (trials 1 1 k ws) (end_trial e v))

end_top : (e : ℕ → List ℕ → Bool) (v n : ℕ) → count n (ends_of e v) ≡ end_count e v 1 n
unfolding ends_of end_trial end_count
end_top e v n = lists_ext (2 ^ 64) n _ _ (λ ws. ones_unroll false v (λ zero last. e zero.0 last) ws)

end_start : (e : ℕ → List ℕ → Bool) (v k : ℕ) → end_count e v k 0 ≡ 0
unfolding end_count
end_start e v k = trials_start false 1 1 k (end_trial e v)

end_step : (e : ℕ → List ℕ → Bool) (v : ℕ) → IsChain (end_count e v) (λ k n. cond (k % 2 == 1) (count n (ends_of e (suc v))) (count n (e v)))
unfolding end_count end_trial
end_step e v k n z h =
    trials_step false 1 z 1 k n (end_trial e v) h
    ∙ ap (λ x. 2 ^ 64 / (1 * k) * (1 * end_count e v (suc k) n + z * x) + 2 ^ 64 % (1 * k) * end_count e v k n) (cond_out (k % 2 == 1) n (ends_of e (suc v)) (e v))

pub ends_struct : (e : ℕ → List ℕ → Bool) → Ones (λ v n. count n (ends_of e v)) (λ v n. count n (e v))
ends_struct e = record { K = end_count e; top = end_top e; start = end_start e; step = end_step e }

-- a plus sign
unfoldable pub plus : List ℕ → Bool
plus last = outcome false (read_bernoulli 1 2 last) (λ negative more. not negative)

plus_start : count 0 plus ≡ 0
unfolding plus
plus_start = bernoulli_start false 1 2 (λ negative more. not negative)

plus_step : (n : ℕ) → count (suc n) plus ≡ 2 ^ 63 * (2 ^ 64) ^ n
unfolding plus
plus_step n = let a = bernoulli_step false 1 1 2 n (λ negative more. not negative) refl in let b = const_count false n in let c = const_count true n in omega (arith, a, b, c)

plus_grows : (n : ℕ) → 2 ^ 64 * count n plus ≤ count (n + 1) plus
plus_grows zero = let a = plus_start in omega (arith, a)
plus_grows (suc n) =
    let e : suc (suc n) ≡ suc n + 1 = omega arith in
    let a = plus_step n in let b = plus_step (suc n) in let c = pow-succ' (2 ^ 64) n in
    subst (λ m. 2 ^ 64 * count (suc n) plus ≤ count m plus) e (omega (arith, a, b, c))

-- so many ones, and a plus sign
unfoldable pub hit : (ℕ → Bool) → ℕ → List ℕ → Bool
hit h v last = h v && plus last

hit_count : (h : ℕ → Bool) (v n : ℕ) → count n (hit h v) ≡ cond (h v) (count n plus) 0
unfolding hit
hit_count h v n = and_lists (2 ^ 64) n (h v) plus

cond_more : (b : Bool) (x y : ℕ) → 2 ^ 64 * x ≤ y → 2 ^ 64 * cond b x 0 ≤ cond b y 0
cond_more true x y h = h
cond_more false x y h = omega arith

hit_grows : (h : ℕ → Bool) (v n : ℕ) → 2 ^ 64 * count n (hit h v) ≤ count (n + 1) (hit h v)
hit_grows h v n = let a = hit_count h v n in let b = hit_count h v (n + 1) in let c = cond_more (h v) (count n plus) (count (n + 1) plus) (plus_grows n) in omega (arith, ap (λ x. 2 ^ 64 * x) a, b, c)

ends_grow : (h : ℕ → Bool) (v n : ℕ) → 2 ^ 64 * count n (ends_of (hit h) v) ≤ count (suc n) (ends_of (hit h) v)
ends_grow h v n =
    let e : n + 1 ≡ suc n = omega arith in
    subst (λ m. 2 ^ 64 * count n (ends_of (hit h) v) ≤ count m (ends_of (hit h) v)) e
    (ones_le (2 ^ 64) 1 (λ v n. count n (ends_of (hit h) v)) (λ v n. count n (hit h v)) (λ v n. count n (ends_of (hit h) v)) (λ v n. count n (hit h v)) (ends_struct (hit h)) (ends_struct (hit h))
    (λ a b. a ≡ b) (λ a b r. ap suc r) n (λ a b m r l. subst (λ x. 2 ^ 64 * count m (hit h a) ≤ count (m + 1) (hit h x)) r (hit_grows h a m)) n (omega arith) v v n refl (omega arith))

-- exactly v of them
abbrev is : ℕ → ℕ → Bool
is v w = w == v

suc_same : (a b : ℕ) → (suc a == suc b) ≡ (a == b)
suc_same a b = elim (cases_Bool (a == b)) [
  | inl y ↦ let e = eqb-true a b y in eq-eqb (suc a) (suc b) (omega (arith, e)) ∙ sym y
  | inr n ↦ let e = eqb-false a b n in ne_eqb (suc a) (suc b) (λ h. e (omega (arith, h))) ∙ sym n
]

hit_later : (v w n : ℕ) → count n (hit (is (suc v)) (suc w)) ≡ count n (hit (is v) w)
unfolding hit
hit_later v w n = ap (λ b. count n (λ last. b && plus last)) (suc_same w v)

once : (n : ℕ) (p q : List ℕ → Bool) → count n p ≡ count n q → 1 * count n p ≤ count (n + 0) q
once n p q h = let e : n ≡ n + 0 = omega arith in subst (λ m. 1 * count n p ≤ count m q) e (omega (arith, h))

one_later : (v n : ℕ) → count n (ends_of (hit (is (suc v))) 1) ≡ count n (ends_of (hit (is v)) 0)
one_later v n =
    let a = hit (is (suc v)) in let b = hit (is v) in
    let down = ones_le 1 0 (λ v n. count n (ends_of a v)) (λ v n. count n (a v)) (λ v n. count n (ends_of b v)) (λ v n. count n (b v)) (ends_struct a) (ends_struct b) (λ x y. x ≡ suc y) (λ x y r. ap suc r) n
    (λ x y m r l. subst (λ z. 1 * count m (a z) ≤ count (m + 0) (b y)) (sym r) (once m (a (suc y)) (b y) (hit_later v y m))) n (omega arith) 1 0 n refl (omega arith) in
    let up = ones_le 1 0 (λ v n. count n (ends_of b v)) (λ v n. count n (b v)) (λ v n. count n (ends_of a v)) (λ v n. count n (a v)) (ends_struct b) (ends_struct a) (λ x y. y ≡ suc x) (λ x y r. ap suc r) n
    (λ x y m r l. subst (λ z. 1 * count m (b x) ≤ count (m + 0) (a z)) (sym r) (once m (b x) (a (suc x)) (sym (hit_later v x m)))) n (omega arith) 0 1 n refl (omega arith) in
    let e : n + 0 ≡ n = omega arith in
    let d = subst (λ m. 1 * count n (ends_of a 1) ≤ count m (ends_of b 0)) e down in let u = subst (λ m. 1 * count n (ends_of b 0) ≤ count m (ends_of a 1)) e up in
    omega (arith, d, u)

one_before : (v : ℕ) → IsTrial 1 1 (end_count (hit (is (suc v))) 0) (λ n. count n (ends_of (hit (is v)) 0))
one_before v k n z e =
    let a = hit (is (suc v)) in
    let none : count n (a 0) ≡ 0 = hit_count (is (suc v)) 0 n ∙ ap (λ b. cond b (count n plus) 0) (ne_eqb 0 (suc v) (λ h. omega (arith, h))) in
    end_step a 0 k n z e
    ∙ ap (λ x. 2 ^ 64 / (1 * k) * (1 * end_count a 0 (suc k) n + z * x) + 2 ^ 64 % (1 * k) * end_count a 0 k n)
    (ap (λ x. cond (k % 2 == 1) x (count n (a 0))) (one_later v n) ∙ ap (λ x. cond (k % 2 == 1) (count n (ends_of (hit (is v)) 0)) x) none)

false_outcome : {A : Type 0} (o : Option (A × List ℕ)) (p : A → List ℕ → Bool) → ((a : A) (rest : List ℕ) → p a rest ≡ false) → outcome false o p ≡ false
false_outcome None p h = refl
false_outcome (Some f) p h = h f.0 f.1

cond_false : (b x : Bool) → x ≡ false → cond b x false ≡ false
cond_false true x e = e
cond_false false x e = refl

cond_bits : (b x y z : Bool) → bit x ≡ bit y + bit z → bit (cond b x false) ≡ bit (cond b y false) + bit (cond b z false)
cond_bits true x y z h = h
cond_bits false x y z h = refl

and_bits : (a b c x : Bool) → bit a ≡ bit b + bit c → bit (a && x) ≡ bit (b && x) + bit (c && x)
and_bits a b c true h = all a b c h
  where
    all : (a b c : Bool) → bit a ≡ bit b + bit c → bit (a && true) ≡ bit (b && true) + bit (c && true)
    all true true true h = h
    all true true false h = h
    all true false true h = h
    all true false false h = h
    all false true true h = h
    all false true false h = h
    all false false true h = h
    all false false false h = h
and_bits a b c false h = none a b c
  where
    none : (a b c : Bool) → bit (a && false) ≡ bit (b && false) + bit (c && false)
    none true true true = refl
    none true true false = refl
    none true false true = refl
    none true false false = refl
    none false true true = refl
    none false true false = refl
    none false false true = refl
    none false false false = refl

pub same_bool : (a b : Bool) → (a ≡ true → b ≡ true) → (b ≡ true → a ≡ true) → a ≡ b
same_bool true b f g = sym (f refl)
same_bool false true f g = g refl
same_bool false false f g = refl

module _ (t : ℕ) where
  -- an attempt from u on that ends in a plus sign after so many ones
  unfoldable pub start_next : (ℕ → Bool) → ℕ × Bool → List ℕ → Bool
  start_next h found last = cond (found.0 % 2 == 1) (ends_of (hit h) 0 last) false

  unfoldable pub start_of : ℕ → (ℕ → Bool) → List ℕ → Bool
  start_of u h rest = outcome false (trials u t 1 rest) (start_next h)

  start_count : ℕ → (ℕ → Bool) → ℕ → ℕ → ℕ
  start_count u h k n = count n (λ ws. outcome false (trials u t k ws) (start_next h))

  start_as : (u : ℕ) (h : ℕ → Bool) (n : ℕ) → count n (start_of u h) ≡ start_count u h 1 n
  unfolding start_of start_count
  start_as u h n = refl

  start_start : (u : ℕ) (h : ℕ → Bool) (k : ℕ) → start_count u h k 0 ≡ 0
  unfolding start_count
  start_start u h k = trials_start false u t k (start_next h)

  start_step : (u : ℕ) (h : ℕ → Bool) → IsTrial u t (start_count u h) (λ n. count n (ends_of (hit h) 0))
  unfolding start_count start_next
  start_step u h k n z e =
      trials_step false u z t k n (start_next h) e
      ∙ ap (λ x. 2 ^ 64 / (t * k) * (u * start_count u h (suc k) n + z * x) + 2 ^ 64 % (t * k) * start_count u h k n)
      (cond_out (k % 2 == 1) n (ends_of (hit h) 0) (λ _. false) ∙ ap (λ x. cond (k % 2 == 1) (count n (ends_of (hit h) 0)) x) (lists_none (2 ^ 64) n))

  next_u : (u v n : ℕ) → suc u ≤ t → count n (start_of (suc u) (is v)) ≤ count n (start_of u (is v))
  next_u u v n l =
      let h = (falls u t (start_count u (is v)) (start_count (suc u) (is v)) (λ n. count n (ends_of (hit (is v)) 0)) (start_start u (is v)) (start_start (suc u) (is v)) (start_step u (is v)) (start_step (suc u) (is v)) (ends_grow (is v) 0) l n).1 0 1 refl in
      let a = start_as u (is v) n in let b = start_as (suc u) (is v) n in omega (arith, h, a, b)

  next_v : (u v n : ℕ) → t ≡ suc u → t ≤ 1000000 → count n (start_of 0 (is (suc v))) ≤ count n (start_of u (is v))
  next_v u v n e most =
      let f : ℕ → ℕ = λ n. count n (ends_of (hit (is (suc v))) 0) in let g : ℕ → ℕ = λ n. count n (ends_of (hit (is v)) 0) in
      let h = wraps u (start_count 0 (is (suc v))) (start_count u (is v)) (start_count t (is v)) (end_count (hit (is (suc v))) 0) f g (omega (arith, e, most))
      (start_start 0 (is (suc v))) (start_start u (is v)) (start_start t (is v)) (end_start (hit (is (suc v))) 0)
      (subst (λ x. IsTrial 0 x (start_count 0 (is (suc v))) f) e (start_step 0 (is (suc v)))) (subst (λ x. IsTrial u x (start_count u (is v)) g) e (start_step u (is v)))
      (subst (λ x. IsTrial x x (start_count t (is v)) g) e (start_step t (is v))) (one_before v) (end_top (hit (is (suc v))) 0) (ends_grow (is v) 0) n in
      let a = start_as 0 (is (suc v)) n in let b = start_as u (is v) n in omega (arith, h, a, b)

  start_ext : (u n : ℕ) (h h' : ℕ → Bool) → ((v : ℕ) → h v ≡ h' v) → count n (start_of u h) ≡ count n (start_of u h')
  unfolding start_of start_next ends_of hit
  start_ext u n h h' same = lists_ext (2 ^ 64) n _ _ (λ ws. outcome_ext false (trials u t 1 ws) (start_next h) (start_next h')
      (λ zero rest. ap (λ x. cond (zero.0 % 2 == 1) x false) (outcome_ext false (ones 0 rest) (λ one last. h one.0 && plus last) (λ one last. h' one.0 && plus last) (λ one last. ap (λ b. b && plus last) (same one.0)))))

  start_none : (u n : ℕ) → count n (start_of u (λ _. false)) ≡ 0
  unfolding start_of start_next ends_of hit
  start_none u n = lists_ext (2 ^ 64) n _ (λ _. false) (λ ws. false_outcome (trials u t 1 ws) (start_next (λ _. false))
      (λ zero rest. cond_false (zero.0 % 2 == 1) (outcome false (ones 0 rest) (λ one last. false && plus last)) (false_outcome (ones 0 rest) (λ one last. false && plus last) (λ one last. refl)))) ∙ lists_none (2 ^ 64) n

  start_add : (u n : ℕ) (a b c : ℕ → Bool) → ((v : ℕ) → bit (a v) ≡ bit (b v) + bit (c v)) → count n (start_of u a) ≡ count n (start_of u b) + count n (start_of u c)
  unfolding start_of start_next ends_of hit
  start_add u n a b c h = lists_add (2 ^ 64) n (start_of u a) (start_of u b) (start_of u c) (λ ws. outcome_bits (trials u t 1 ws) (start_next a) (start_next b) (start_next c)
      (λ zero rest. cond_bits (zero.0 % 2 == 1) (ends_of (hit a) 0 rest) (ends_of (hit b) 0 rest) (ends_of (hit c) 0 rest)
      (outcome_bits (ones 0 rest) (λ one last. a one.0 && plus last) (λ one last. b one.0 && plus last) (λ one last. c one.0 && plus last) (λ one last. and_bits (a one.0) (b one.0) (c one.0) (plus last) (h one.0)))))

  -- X = u + t * v: lists of an attempt with this X, and with X in a block of m numbers
  single : (X n : ℕ) → ℕ
  single X n = sum_below (λ u. count n (start_of u (λ v. (u + t * v) == X))) t

  unfoldable pub inside : (low m x : ℕ) → Bool
  inside low m x = not (nat_lt x low) && nat_lt x (low + m)

  unfoldable pub block : (low m n : ℕ) → ℕ
  block low m n = sum_below (λ u. count n (start_of u (λ v. inside low m (u + t * v)))) t

  not_below : (x low m : ℕ) → (not (nat_lt x low) && (x == low + m)) ≡ (x == low + m)
  not_below x low m = elim (cases_Bool (x == low + m)) [
    | inl y ↦ let e = eqb-true x (low + m) y in let l = le-ltb x low (omega (arith, e)) in ap (λ b. not b && (x == low + m)) l
    | inr n ↦ ap (λ b. not (nat_lt x low) && b) n ∙ (and_none (not (nat_lt x low)) ∙ sym n)
  ]
    where
      and_none : (b : Bool) → (b && false) ≡ false
      and_none true = refl
      and_none false = refl

  inside_more : (low m x : ℕ) → bit (inside low (suc m) x) ≡ bit (inside low m x) + bit (x == low + m)
  unfolding inside
  inside_more low m x =
      let e : suc (low + m) ≡ low + suc m = omega arith in
      let a = bits_below (not (nat_lt x low)) x (low + m) in
      let b = ap (λ y. bit (not (nat_lt x low) && nat_lt x y)) e in
      let c = ap bit (not_below x low m) in
      omega (arith, a, b, c)

  inside_none : (low x : ℕ) → inside low 0 x ≡ false
  unfolding inside
  inside_none low x = elim (cases_Bool (nat_lt x low)) [
    | inl y ↦ ap (λ b. not b && nat_lt x (low + 0)) y
    | inr n ↦ let l = ltb-false x low n in ap (λ b. not (nat_lt x low) && b) (le-ltb x (low + 0) (omega (arith, l))) ∙ ap (λ b. not b && false) n
  ]

  block_more : (low m n : ℕ) → block low (suc m) n ≡ block low m n + single (low + m) n
  unfolding block single
  block_more low m n =
      below_ext _ (λ u. count n (start_of u (λ v. inside low m (u + t * v))) + count n (start_of u (λ v. (u + t * v) == low + m))) t
      (λ u l. start_add u n (λ v. inside low (suc m) (u + t * v)) (λ v. inside low m (u + t * v)) (λ v. (u + t * v) == low + m) (λ v. inside_more low m (u + t * v)))
      ∙ sums t (λ u. count n (start_of u (λ v. inside low m (u + t * v)))) (λ u. count n (start_of u (λ v. (u + t * v) == low + m)))

  block_none : (low n : ℕ) → block low 0 n ≡ 0
  unfolding block
  block_none low n =
      below_ext _ (λ _. 0) t (λ u l. start_ext u n (λ v. inside low 0 (u + t * v)) (λ _. false) (λ v. inside_none low (u + t * v)) ∙ start_none u n)
      ∙ (below_const 0 t ∙ (let a : t * 0 ≡ 0 = omega arith in a))

  only_one : (f : ℕ → ℕ) (m i : ℕ) → i < m → ((j : ℕ) → j < m → (j ≡ i → ⊥) → f j ≡ 0) → sum_below f m ≡ f i
  unfolding sum_below
  only_one f zero i l h = absurd (omega (arith, l))
  only_one f (suc m) i l h = elim (cases_Bool (nat_lt i m)) [
    | inl y ↦ let k = ltb-true i m y in let a = only_one f m i k (λ j b n. h j (omega (arith, b)) n) in let b = h m (omega arith) (λ e. omega (arith, e, k)) in omega (arith, a, b)
    | inr n ↦ let k = ltb-false i m n in let e : m ≡ i = omega (arith, k, l) in
        let a = below_ext f (λ _. 0) m (λ j b. h j (omega (arith, b)) (λ z. omega (arith, z, b, e))) ∙ below_const 0 m in let c = ap f e in omega (arith, a, c)
  ]

  single_is : (u v n : ℕ) → u < t → single (u + t * v) n ≡ count n (start_of u (is v))
  unfolding single
  single_is u v n l =
      only_one (λ i. count n (start_of i (λ w. (i + t * w) == u + t * v))) t u l
      (λ i b other. start_ext i n (λ w. (i + t * w) == u + t * v) (λ _. false) (λ w. ne_eqb (i + t * w) (u + t * v) (λ e. other (same_u i w b e))) ∙ start_none i n)
      ∙ start_ext u n (λ w. (u + t * w) == u + t * v) (is v) (λ w. same_bool ((u + t * w) == u + t * v) (w == v)
      (λ y. eq-eqb w v (same_v w (eqb-true (u + t * w) (u + t * v) y)))
      (λ y. eq-eqb (u + t * w) (u + t * v) (ap (λ x. u + t * x) (eqb-true w v y))))
    where
      turn : (i w : ℕ) → i + t * w ≡ w * t + i
      turn i w = omega arith

      same_u : (i w : ℕ) → i < t → i + t * w ≡ u + t * v → i ≡ u
      same_u i w b e = sym (mod-mul-add w t i b) ∙ (ap (λ x. x % t) (sym (turn i w) ∙ (e ∙ turn u v)) ∙ mod-mul-add v t u l)

      same_v : (w : ℕ) → u + t * w ≡ u + t * v → w ≡ v
      same_v w e = sym (div-mul-add w t u l) ∙ (ap (λ x. x / t) (sym (turn u w) ∙ (e ∙ turn u v)) ∙ div-mul-add v t u l)

  module _ (t_pos : 0 < t) (t_most : t ≤ 1000000) where
    next_single : (u v n : ℕ) → u < t → single (suc (u + t * v)) n ≤ single (u + t * v) n
    next_single u v n l = elim (cases_Bool (nat_lt (suc u) t)) [
      | inl y ↦ let k = ltb-true (suc u) t y in
          let e : suc u + t * v ≡ suc (u + t * v) = omega arith in
          let a = ap (λ x. single x n) e in let b = single_is (suc u) v n k in let c = single_is u v n l in let d = next_u u v n (omega (arith, k)) in omega (arith, a, b, c, d)
      | inr z ↦ let k = ltb-false (suc u) t z in
          let w : t ≡ suc u = omega (arith, k, l) in
          let e : 0 + t * suc v ≡ suc (u + t * v) = omega (arith, w) in
          let a = ap (λ x. single x n) e in let b = single_is 0 (suc v) n t_pos in let c = single_is u v n l in let d = next_v u v n w t_most in omega (arith, a, b, c, d)
    ]

    single_falls : (X n : ℕ) → single (suc X) n ≤ single X n
    single_falls X n =
        let e : X % t + t * (X / t) ≡ X = (let a = mod-add-div' X t in omega (arith, a)) in
        subst (λ x. single (suc x) n ≤ single x n) e (next_single (X % t) (X / t) n (mod_below X t t_pos))

    falls_by : (X d n : ℕ) → single (X + d) n ≤ single X n
    falls_by X zero n = let e : X ≡ X + 0 = omega arith in subst (λ x. single x n ≤ single X n) e (omega arith)
    falls_by X (suc d) n =
        let e : suc (X + d) ≡ X + suc d = omega arith in let a = falls_by X d n in let b = single_falls (X + d) n in
        subst (λ x. single x n ≤ single X n) e (omega (arith, a, b))

    pub block_falls : (low d m n : ℕ) → block (low + d) m n ≤ block low m n
    block_falls low d zero n = let a = block_none (low + d) n in omega (arith, a)
    block_falls low d (suc m) n =
        let a = block_more (low + d) m n in let b = block_more low m n in let c = block_falls low d m n in
        let e : low + m + d ≡ low + d + m = omega arith in
        let f = falls_by (low + m) d n in let g = ap (λ x. single x n) e in
        omega (arith, a, b, c, f, g)
