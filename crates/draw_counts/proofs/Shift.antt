-- At whole EPS: noise moved by d passes a test on so many lists at least as pass with fewer draws, times those that give d * EPS ones.
use Rattle.std.proofs.Common.{◌≡◌, ◌∙◌, sym, ap, subst, refl, ℕ, zero, suc, ◌+◌, ◌-◌, ◌*◌, ◌<◌, ◌≤◌, Bool, true, false, List, [], ◌∷◌, Option, Some, None, arith, inl, inr, ◌⊎◌}
use Rattle.std.specs.Prelude.{◌^◌, ◌==◌, ◌&&◌, nat_lt, ℤ, pos, negsuc, ◌+ℤ◌, neg_ℤ}
use Rattle.std.proofs.lemmas.Bool.{cases_Bool, eqb-true, eqb-false, eq-eqb, ne_eqb, ltb-true, ltb-false, lt-ltb, le-ltb, and_parts, and_right}
use Rattle.std.proofs.lemmas.Int.{ints}
use Rattle.std.proofs.Math.Nat.{mul-le-mul_left}
use Rattle.discrete_laplace.specs.Readers.{read_sample}
use Rattle.discrete_laplace.specs.Noise.{noise_in}
use Rattle.draw_counts.specs.Counts.{sum_below, lists_passing}
use Rattle.draw_counts.specs.Noises.{noise_passes}
use Rattle.draw_counts.proofs.Uniform.{below_ext, lists_ext, lists_none}
use Rattle.draw_counts.proofs.After.{lists_add}
use Rattle.draw_counts.proofs.Symmetry.{sample_symmetric}
use Rattle.draw_counts.proofs.Steps.{count, bit, whole_sample}
use Rattle.draw_counts.proofs.Begins.{begins}
use Rattle.draw_counts.proofs.Whole.{is_size, wanted, farther, closer}

pub sum_le : (f g : ℕ → ℕ) (n : ℕ) → ((i : ℕ) → i < n → f i ≤ g i) → sum_below f n ≤ sum_below g n
unfolding sum_below
sum_le f g zero h = omega arith
sum_le f g (suc n) h = let a = sum_le f g n (λ i l. h i (omega (arith, l))) in let b = h n (omega arith) in omega (arith, a, b)

term_le : (f : ℕ → ℕ) (n i : ℕ) → i < n → f i ≤ sum_below f n
unfolding sum_below
term_le f zero i l = absurd (omega (arith, l))
term_le f (suc n) i l = elim (cases_Bool (nat_lt i n)) [
  | inl y ↦ let a = term_le f n i (ltb-true i n y) in omega (arith, a)
  | inr z ↦ let k = ltb-false i n z in let same : n ≡ i = omega (arith, k, l) in subst (λ j. f j ≤ sum_below f n + f n) same (omega arith)
]

bit_le : (a b : Bool) → (a ≡ true → b ≡ true) → bit a ≤ bit b
bit_le false b h = omega arith
bit_le true b h = subst (λ x. 1 ≤ bit x) (sym (h refl)) (omega arith)

pub lists_le : (words n : ℕ) (p q : List ℕ → Bool) → ((ws : List ℕ) → p ws ≡ true → q ws ≡ true) → lists_passing words n p ≤ lists_passing words n q
unfolding lists_passing
lists_le words zero p q h = bit_le (p []) (q []) (h [])
lists_le words (suc n) p q h = sum_le _ _ words (λ w _. lists_le words n (λ rest. p (w ∷ rest)) (λ rest. q (w ∷ rest)) (λ rest. h (w ∷ rest)))

-- more than any list's number
biggest : (words n : ℕ) → (List ℕ → ℕ) → ℕ
biggest words zero g = g []
biggest words (suc n) g = sum_below (λ w. biggest words n (λ rest. g (w ∷ rest))) words

and_true : (a b : Bool) → b ≡ true → a ≡ a && b
and_true true b e = sym e
and_true false b e = refl

bounded : (words n most : ℕ) (g : List ℕ → ℕ) (p : List ℕ → Bool) → biggest words n g < most → lists_passing words n p ≡ lists_passing words n (λ ws. p ws && nat_lt (g ws) most)
unfolding lists_passing biggest
bounded words zero most g p l = ap bit (and_true (p []) (nat_lt (g []) most) (lt-ltb (g []) most l))
bounded words (suc n) most g p l =
    below_ext _ _ words (λ w b. bounded words n most (λ rest. g (w ∷ rest)) (λ rest. p (w ∷ rest)) (let t = term_le (λ w. biggest words n (λ rest. g (w ∷ rest))) words w b in omega (arith, t, l)))

-- an order of the whole numbers
place : ℤ → ℕ
place (pos k) = 2 * k
place (negsuc k) = 2 * k + 1

farther_out : ℤ → ℤ
farther_out (pos k) = pos (suc k)
farther_out (negsuc k) = negsuc (suc k)

at : ℕ → ℤ
at zero = pos 0
at (suc zero) = negsuc 0
at (suc (suc m)) = farther_out (at m)

place_out : (z : ℤ) → place (farther_out z) ≡ suc (suc (place z))
unfolding place farther_out
place_out (pos k) = omega arith
place_out (negsuc k) = omega arith

place_at : (m : ℕ) → place (at m) ≡ m
unfolding at place
place_at zero = refl
place_at (suc zero) = refl
place_at (suc (suc m)) = place_out (at m) ∙ ap (λ x. suc (suc x)) (place_at m)

one_place : (y z : ℤ) → place y ≡ place z → y ≡ z
unfolding place
one_place (pos i) (pos j) e = ap pos (omega (arith, e))
one_place (pos i) (negsuc j) e = absurd (omega (arith, e))
one_place (negsuc i) (pos j) e = absurd (omega (arith, e))
one_place (negsuc i) (negsuc j) e = ap negsuc (omega (arith, e))

size_true : (k : ℕ) (z : ℤ) → is_size k z ≡ true → z ≡ pos k
unfolding is_size
size_true k (pos j) e = ap pos (eqb-true j k e)
size_true k (negsuc j) e = absurd (cc e)

is_own : (k : ℕ) → is_size k (pos k) ≡ true
unfolding is_size
is_own k = eq-eqb k k refl

passes_le : (o : Option ℤ) (p q : ℤ → Bool) → ((z : ℤ) → p z ≡ true → q z ≡ true) → noise_passes p o ≡ true → noise_passes q o ≡ true
passes_le None p q h e = e
passes_le (Some z) p q h e = h z e

passes_ext : (o : Option ℤ) (p q : ℤ → Bool) → ((z : ℤ) → p z ≡ q z) → noise_passes p o ≡ noise_passes q o
passes_ext None p q h = refl
passes_ext (Some z) p q h = h z

parity : (m : ℕ) → ((k : ℕ) × (m ≡ 2 * k)) ⊎ ((k : ℕ) × (m ≡ 2 * k + 1))
parity zero = inl (0, refl)
parity (suc m) = elim (parity m) [
  | inl h ↦ inr (h.0, omega (arith, h.1))
  | inr h ↦ inl (suc h.0, omega (arith, h.1))
]

pub bits_below : (t : Bool) (x m : ℕ) → bit (t && nat_lt x (suc m)) ≡ bit (t && nat_lt x m) + bit (t && (x == m))
bits_below false x m = omega arith
bits_below true x m = elim (cases_Bool (nat_lt x m)) [
  | inl y ↦ let l = ltb-true x m y in let a = ap bit (lt-ltb x (suc m) (omega (arith, l))) in let b = ap bit y in let c = ap bit (ne_eqb x m (λ e. omega (arith, e, l))) in omega (arith, a, b, c)
  | inr n ↦ let l = ltb-false x m n in elim (cases_Bool (x == m)) [
    | inl y ↦ let e = eqb-true x m y in let a = ap bit (lt-ltb x (suc m) (omega (arith, e))) in let b = ap bit n in let c = ap bit y in omega (arith, a, b, c)
    | inr z ↦ let e = eqb-false x m z in let a = ap bit (le-ltb x (suc m) (above e l)) in let b = ap bit n in let c = ap bit z in omega (arith, a, b, c)
  ]
]
  where
    above : (x ≡ m → ⊥) → m ≤ x → suc m ≤ x
    above e l = elim (cases_Bool (nat_lt m x)) [
      | inl y ↦ ltb-true m x y
      | inr z ↦ let k = ltb-false m x z in absurd (e (omega (arith, k, l)))
    ]

module _ (s : ℕ) (s_pos : 0 < s) where
  unfoldable pub noise : List ℕ → Option ℤ
  noise ws = noise_in (read_sample 1 s ws)

  -- how many lists of n draws give a noise that passes
  unfoldable pub lists : ℕ → (ℤ → Bool) → ℕ
  lists n test = count n (λ ws. noise_passes test (noise ws))

  pub lists_same : (n : ℕ) (p q : ℤ → Bool) → ((z : ℤ) → p z ≡ q z) → lists n p ≡ lists n q
  unfolding lists
  lists_same n p q h = lists_ext (2 ^ 64) n _ _ (λ ws. passes_ext (noise ws) p q h)

  lists_more : (n : ℕ) (p q : ℤ → Bool) → ((z : ℤ) → p z ≡ true → q z ≡ true) → lists n p ≤ lists n q
  unfolding lists
  lists_more n p q h = lists_le (2 ^ 64) n _ _ (λ ws. passes_le (noise ws) p q h)

  lists_sum : (n : ℕ) (p q r : ℤ → Bool) → ((z : ℤ) → bit (p z) ≡ bit (q z) + bit (r z)) → lists n p ≡ lists n q + lists n r
  unfolding lists
  lists_sum n p q r h = lists_add (2 ^ 64) n _ _ _ (λ ws. of (noise ws))
    where
      of : (o : Option ℤ) → bit (noise_passes p o) ≡ bit (noise_passes q o) + bit (noise_passes r o)
      of None = refl
      of (Some z) = h z

  lists_no : (n : ℕ) → lists n (λ _. false) ≡ 0
  unfolding lists
  lists_no n = lists_ext (2 ^ 64) n _ (λ _. false) (λ ws. of (noise ws)) ∙ lists_none (2 ^ 64) n
    where
      of : (o : Option ℤ) → noise_passes (λ _. false) o ≡ false
      of None = refl
      of (Some z) = refl

  pub mirrored : (n : ℕ) (test : ℤ → Bool) → lists n test ≡ lists n (λ z. test (neg_ℤ z))
  unfolding lists noise
  mirrored n test = sample_symmetric 1 s n test

  sized : (n k : ℕ) → count n (wanted s s_pos k 0) ≡ lists n (is_size k)
  unfolding lists noise wanted
  sized n k = lists_ext (2 ^ 64) n _ _ (λ ws. ap (noise_passes (is_size k)) (sym (whole_sample 1 s ws)))

  module _ (d n j : ℕ) where
    F : ℕ
    F = count j (begins (s * d))

    moved_size : (k : ℕ) → F * lists n (is_size k) ≤ lists (n + j) (is_size (k + d))
    unfolding F
    moved_size k = let a = farther s s_pos k d n j in omega (arith, a, ap (λ x. F * x) (sized n k), sized (n + j) (k + d))

    nearer : (k i : ℕ) → k ≤ i → lists (n + j) (is_size i) ≤ lists (n + j) (is_size k)
    nearer k i l = let a = closer s s_pos k i (n + j) l in omega (arith, a, sized (n + j) k, sized (n + j) i)

    at_place : ℕ → ℤ → Bool
    at_place m z = place z == m

    place_moved : ℕ → ℤ → Bool
    place_moved m z = place (z +ℤ pos d) == m

    is_place : (z : ℤ) (y : ℤ) (m : ℕ) → z ≡ y → place y ≡ m → (place z == m) ≡ true
    is_place z y m e h = eq-eqb (place z) m (ap place e ∙ h)

    even_size : (k : ℕ) (z : ℤ) → at_place (2 * k) z ≡ true → is_size k z ≡ true
    unfolding at_place place is_size
    even_size k (pos i) e = let a = eqb-true (2 * i) (2 * k) e in eq-eqb i k (omega (arith, a))
    even_size k (negsuc i) e = let a = eqb-true (2 * i + 1) (2 * k) e in absurd (omega (arith, a))

    odd_size : (k : ℕ) (z : ℤ) → at_place (2 * k + 1) z ≡ true → is_size (suc k) (neg_ℤ z) ≡ true
    unfolding at_place place is_size
    odd_size k (pos i) e = let a = eqb-true (2 * i) (2 * k + 1) e in absurd (omega (arith, a))
    odd_size k (negsuc i) e = let a = eqb-true (2 * i + 1) (2 * k + 1) e in eq-eqb (suc i) (suc k) (omega (arith, a))

    place_pos : (k : ℕ) → place (pos k) ≡ 2 * k
    unfolding place
    place_pos k = refl

    place_negsuc : (k : ℕ) → place (negsuc k) ≡ 2 * k + 1
    unfolding place
    place_negsuc k = refl

    even_near : (k : ℕ) → d ≤ k → (z : ℤ) → is_size (k - d) z ≡ true → place_moved (2 * k) z ≡ true
    unfolding place_moved
    even_near k l z e = let a = size_true (k - d) z e in let b : z +ℤ pos d ≡ pos k = omega (arith, ints, a, l) in is_place (z +ℤ pos d) (pos k) (2 * k) b (place_pos k)

    even_far : (k : ℕ) → k < d → (z : ℤ) → is_size (d - k) (neg_ℤ z) ≡ true → place_moved (2 * k) z ≡ true
    unfolding place_moved
    even_far k l z e = let a = size_true (d - k) (neg_ℤ z) e in let b : z +ℤ pos d ≡ pos k = omega (arith, ints, a, l) in is_place (z +ℤ pos d) (pos k) (2 * k) b (place_pos k)

    odd_far : (k : ℕ) (z : ℤ) → is_size (suc k + d) (neg_ℤ z) ≡ true → place_moved (2 * k + 1) z ≡ true
    unfolding place_moved
    odd_far k z e = let a = size_true (suc k + d) (neg_ℤ z) e in let b : z +ℤ pos d ≡ negsuc k = omega (arith, ints, a) in is_place (z +ℤ pos d) (negsuc k) (2 * k + 1) b (place_negsuc k)

    moved_even : (k : ℕ) → F * lists n (at_place (2 * k)) ≤ lists (n + j) (place_moved (2 * k))
    moved_even k =
        let a = mul-le-mul_left F (lists_more n (at_place (2 * k)) (is_size k) (even_size k)) in
        let b = moved_size k in
        elim (cases_Bool (nat_lt k d)) [
          | inl y ↦ let l = ltb-true k d y in let c = nearer (d - k) (k + d) (omega (arith, l)) in
              let e = mirrored (n + j) (is_size (d - k)) in
              let f = lists_more (n + j) (λ z. is_size (d - k) (neg_ℤ z)) (place_moved (2 * k)) (even_far k l) in omega (arith, a, b, c, e, f)
          | inr y ↦ let l = ltb-false k d y in let c = nearer (k - d) (k + d) (omega (arith, l)) in
              let f = lists_more (n + j) (is_size (k - d)) (place_moved (2 * k)) (even_near k l) in omega (arith, a, b, c, f)
        ]

    moved_odd : (k : ℕ) → F * lists n (at_place (2 * k + 1)) ≤ lists (n + j) (place_moved (2 * k + 1))
    moved_odd k =
        let a = mul-le-mul_left F (lists_more n (at_place (2 * k + 1)) (λ z. is_size (suc k) (neg_ℤ z)) (odd_size k)) in
        let b = moved_size (suc k) in
        let c = ap (λ x. F * x) (mirrored n (is_size (suc k))) in
        let e = mirrored (n + j) (is_size (suc k + d)) in
        let f = lists_more (n + j) (λ z. is_size (suc k + d) (neg_ℤ z)) (place_moved (2 * k + 1)) (odd_far k) in
        omega (arith, a, b, c, e, f)

    moved_place : (m : ℕ) → F * lists n (at_place m) ≤ lists (n + j) (place_moved m)
    moved_place m = elim (parity m) [
      | inl h ↦ subst (λ x. F * lists n (at_place x) ≤ lists (n + j) (place_moved x)) (sym h.1) (moved_even h.0)
      | inr h ↦ subst (λ x. F * lists n (at_place x) ≤ lists (n + j) (place_moved x)) (sym h.1) (moved_odd h.0)
    ]

    only : (ℤ → Bool) → ℕ → ℤ → Bool
    only test m z = test z && (place z == m)

    only_at : (test : ℤ → Bool) (m : ℕ) (z : ℤ) → only test m z ≡ (test (at m) && (place z == m))
    unfolding only
    only_at test m z = elim (cases_Bool (place z == m)) [
      | inl y ↦ let e = one_place z (at m) (eqb-true (place z) m y ∙ sym (place_at m)) in ap (λ x. test x && (place z == m)) e
      | inr n ↦ and_right (test z) (place z == m) n ∙ sym (and_right (test (at m)) (place z == m) n)
    ]

    moved_bit : (b : Bool) (m : ℕ) → F * lists n (λ z. b && (place z == m)) ≤ lists (n + j) (λ z. b && (place (z +ℤ pos d) == m))
    unfolding at_place place_moved
    moved_bit true m = moved_place m
    moved_bit false m = let a = lists_no n in omega (arith, ap (λ x. F * x) a)

    moved_only : (test : ℤ → Bool) (m : ℕ) → F * lists n (only test m) ≤ lists (n + j) (λ z. only test m (z +ℤ pos d))
    moved_only test m =
        let a = ap (λ x. F * x) (lists_same n (only test m) (λ z. test (at m) && (place z == m)) (only_at test m)) in
        let b = lists_same (n + j) (λ z. only test m (z +ℤ pos d)) (λ z. test (at m) && (place (z +ℤ pos d) == m)) (λ z. only_at test m (z +ℤ pos d)) in
        let c = moved_bit (test (at m)) m in
        omega (arith, a, b, c)

    up_to : (ℤ → Bool) → ℕ → ℤ → Bool
    up_to test m z = test z && nat_lt (place z) m

    up_to_none : (test : ℤ → Bool) (z : ℤ) → up_to test 0 z ≡ false
    unfolding up_to
    up_to_none test z = and_right (test z) (nat_lt (place z) 0) (le-ltb (place z) 0 (omega arith))

    up_to_more : (test : ℤ → Bool) (m : ℕ) (z : ℤ) → bit (up_to test (suc m) z) ≡ bit (up_to test m z) + bit (only test m z)
    unfolding up_to only
    up_to_more test m z = bits_below (test z) (place z) m

    moved_up_to : (test : ℤ → Bool) (m : ℕ) → F * lists n (up_to test m) ≤ lists (n + j) (λ z. up_to test m (z +ℤ pos d))
    moved_up_to test zero = let a = lists_same n (up_to test 0) (λ _. false) (up_to_none test) ∙ lists_no n in omega (arith, ap (λ x. F * x) a)
    moved_up_to test (suc m) =
        let a = ap (λ x. F * x) (lists_sum n (up_to test (suc m)) (up_to test m) (only test m) (up_to_more test m)) in
        let b = lists_sum (n + j) (λ z. up_to test (suc m) (z +ℤ pos d)) (λ z. up_to test m (z +ℤ pos d)) (λ z. only test m (z +ℤ pos d)) (λ z. up_to_more test m (z +ℤ pos d)) in
        let c = moved_up_to test m in let e = moved_only test m in
        omega (arith, a, b, c, e)

    place_of : Option ℤ → ℕ
    place_of None = 0
    place_of (Some z) = place z

    most : ℕ
    most = suc (biggest (2 ^ 64) n (λ ws. place_of (noise ws)))

    all_places : (test : ℤ → Bool) → lists n test ≡ lists n (up_to test most)
    unfolding lists most up_to place_of
    all_places test =
        bounded (2 ^ 64) n (suc (biggest (2 ^ 64) n (λ ws. place_of (noise ws)))) (λ ws. place_of (noise ws)) (λ ws. noise_passes test (noise ws)) (omega arith)
        ∙ lists_ext (2 ^ 64) n _ _ (λ ws. of (noise ws))
      where
        of : (o : Option ℤ) → (noise_passes test o && nat_lt (place_of o) (suc (biggest (2 ^ 64) n (λ ws. place_of (noise ws))))) ≡ noise_passes (up_to test (suc (biggest (2 ^ 64) n (λ ws. place_of (noise ws))))) o
        of None = refl
        of (Some z) = refl

    fewer_places : (test : ℤ → Bool) (m : ℕ) (z : ℤ) → up_to test m z ≡ true → test z ≡ true
    unfolding up_to
    fewer_places test m z e = (and_parts (test z) (nat_lt (place z) m) e).0

    pub moved : (test : ℤ → Bool) → count j (begins (s * d)) * lists n test ≤ lists (n + j) (λ z. test (z +ℤ pos d))
    unfolding F
    moved test =
        let a = ap (λ x. F * x) (all_places test) in let b = moved_up_to test most in
        let c = lists_more (n + j) (λ z. up_to test most (z +ℤ pos d)) (λ z. test (z +ℤ pos d)) (λ z. fewer_places test most (z +ℤ pos d)) in
        omega (arith, a, b, c)
