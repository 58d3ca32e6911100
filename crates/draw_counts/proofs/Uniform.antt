-- The first draw of a uniform number, counted.
use Rattle.std.proofs.Common.{◌≡◌, ◌∙◌, sym, ap, subst, refl, ℕ, zero, suc, ◌+◌, ◌*◌, ◌%◌, ◌<◌, ◌≤◌, Bool, true, false, List, [], ◌∷◌, Option, Some, None, arith, inl, inr}
use Rattle.std.specs.Prelude.{◌==◌, nat_lt, cond, ◌&&◌, ◌/◌, ◌^◌}
use Rattle.std.proofs.lemmas.Bool.{cases_Bool, lt-ltb, le-ltb, eqb-true, eqb-false, ne_eqb, ltb-true, ltb-false}
use Rattle.std.proofs.lemmas.Nat.{mod-mul-add}
use Rattle.std.proofs.Math.Nat.{add-mul, mul_comm, mul_left_comm, mul-zero, mod-add-div'}
use Rattle.exact_bernoulli.specs.ExactBernoulli.{uniform_limit}
use Rattle.exact_bernoulli.specs.Readers.{give, read_uniform, read_bernoulli}
use Rattle.exact_bernoulli.proofs.Exact.{uniform_kept, uniform_again, then_complete, then_none}
use Rattle.draw_counts.specs.Counts.{sum_below, passing_below, lists_passing, found_passes, read_passes, kept_lists}

pub below_ext : (f g : ℕ → ℕ) (n : ℕ) → ((i : ℕ) → i < n → f i ≡ g i) → sum_below f n ≡ sum_below g n
unfolding sum_below
below_ext f g zero h = refl
below_ext f g (suc n) h = let a = below_ext f g n (λ i l. h i (omega (arith, l))) in let b = h n (omega arith) in omega (arith, a, b)

pub below_+ : (f : ℕ → ℕ) (a b : ℕ) → sum_below f (a + b) ≡ sum_below f a + sum_below (λ i. f (a + i)) b
unfolding sum_below
below_+ f a zero = let e : a + 0 ≡ a = omega arith in ap (sum_below f) e ∙ omega arith
below_+ f a (suc b) =
    let e : a + suc b ≡ suc (a + b) = omega arith in
    let r = below_+ f a b in
    let s : sum_below f (a + b) + f (a + b) ≡ sum_below f a + (sum_below (λ i. f (a + i)) b + f (a + b)) = omega (arith, r) in
    ap (sum_below f) e ∙ s

pub suc-mul : (n c : ℕ) → suc n * c ≡ n * c + c
suc-mul n c = let e : suc n ≡ n + 1 = omega arith in let r = add-mul n 1 c in ap (λ x. x * c) e ∙ omega (arith, r)

pub below_const : (c n : ℕ) → sum_below (λ _. c) n ≡ n * c
unfolding sum_below
below_const c zero = omega arith
below_const c (suc n) = let a = below_const c n in let b = suc-mul n c in omega (arith, a, b)

cond-mul : (b : Bool) (p c : ℕ) → (p + cond b 1 0) * c ≡ p * c + cond b c 0
cond-mul true p c = let r = add-mul p 1 c in omega (arith, r)
cond-mul false p c = let e : p + 0 ≡ p = omega arith in ap (λ x. x * c) e ∙ omega arith

pub below_scale : (test : ℕ → Bool) (c n : ℕ) → sum_below (λ i. cond (test i) c 0) n ≡ passing_below test n * c
unfolding sum_below
below_scale test c zero = omega arith
below_scale test c (suc n) = let a = below_scale test c n in let b = cond-mul (test n) (passing_below test n) c in omega (arith, a, b)

pub rounds : (test : ℕ → Bool) (m c q : ℕ) → sum_below (λ w. cond (test (w % m)) c 0) (q * m) ≡ q * sum_below (λ i. cond (test i) c 0) m
unfolding sum_below
rounds test m c zero = let e : 0 * m ≡ 0 = omega arith in ap (sum_below (λ w. cond (test (w % m)) c 0)) e ∙ omega arith
rounds test m c (suc q) =
    let f : ℕ → ℕ = λ w. cond (test (w % m)) c 0 in
    let g : ℕ → ℕ = λ i. cond (test i) c 0 in
    let a = rounds test m c q in
    let b = below_ext (λ i. f (q * m + i)) g m (λ i l. ap (λ x. cond (test x) c 0) (mod-mul-add q m i l)) in
    let d = suc-mul q (sum_below g m) in
    let s : sum_below f (q * m) + sum_below (λ i. f (q * m + i)) m ≡ suc q * sum_below g m = omega (arith, a, b, d) in
    ap (sum_below f) (suc-mul q m) ∙ (below_+ f (q * m) m ∙ s)

first_draw : (test : ℕ → Bool) (m c d q e : ℕ) (f : ℕ → ℕ) → ((w : ℕ) → w < q * m → f w ≡ cond (test (w % m)) c 0) → ((w : ℕ) → q * m ≤ w → f w ≡ d) → sum_below f (q * m + e) ≡ q * (passing_below test m * c) + e * d
first_draw test m c d q e f kept again =
    let a = below_ext f (λ w. cond (test (w % m)) c 0) (q * m) kept in
    let r = rounds test m c q ∙ ap (λ x. q * x) (below_scale test c m) in
    let b = below_ext (λ i. f (q * m + i)) (λ _. d) e (λ i l. again (q * m + i) (omega arith)) ∙ below_const d e in
    below_+ f (q * m) e ∙ omega (arith, a, r, b)

pub lists_ext : (words n : ℕ) (p q : List ℕ → Bool) → ((ws : List ℕ) → p ws ≡ q ws) → lists_passing words n p ≡ lists_passing words n q
unfolding lists_passing
lists_ext words zero p q h = ap (λ b. cond b 1 0) (h [])
lists_ext words (suc n) p q h = below_ext _ _ words (λ w _. lists_ext words n (λ rest. p (w ∷ rest)) (λ rest. q (w ∷ rest)) (λ rest. h (w ∷ rest)))

pub lists_none : (words n : ℕ) → lists_passing words n (λ _. false) ≡ 0
unfolding lists_passing
lists_none words zero = refl
lists_none words (suc n) = below_ext _ (λ _. 0) words (λ w _. lists_none words n) ∙ (below_const 0 words ∙ mul-zero words)

pub and_lists : (words n : ℕ) (b : Bool) (later : List ℕ → Bool) → lists_passing words n (λ rest. b && later rest) ≡ cond b (lists_passing words n later) 0
and_lists words n true later = lists_ext words n (λ rest. true && later rest) later (λ ws. refl)
and_lists words n false later = lists_ext words n (λ rest. false && later rest) (λ _. false) (λ ws. refl) ∙ lists_none words n

pub limit_is : (m : ℕ) → uniform_limit m ≡ 2 ^ 64 / m * m
limit_is m = let e = mod-add-div' (2 ^ 64) m in omega (arith, e)

pub words_are : (m : ℕ) → 2 ^ 64 ≡ 2 ^ 64 / m * m + 2 ^ 64 % m
words_are m = let e = mod-add-div' (2 ^ 64) m in omega (arith, e)

pull : (p q c e k : ℕ) → q * (p * c) + e * (p * k) ≡ p * (q * c + e * k)
pull p q c e k =
    let a = mul_left_comm q p c in let b = mul_left_comm e p k in
    let d = mul_comm p (q * c + e * k) ∙ (add-mul (q * c) (e * k) p) in
    let x = mul_comm (q * c) p in let y = mul_comm (e * k) p in
    omega (arith, a, b, d, x, y)

pub uniform_count : (m n : ℕ) (test : ℕ → Bool) (later : List ℕ → Bool) → lists_passing (2 ^ 64) n (read_passes (read_uniform m) test later) ≡ passing_below test m * kept_lists m later n
unfolding lists_passing kept_lists read_uniform
uniform_count m zero test later = sym (mul-zero (passing_below test m))
uniform_count m (suc n) test later =
    let q = 2 ^ 64 / m in let e = 2 ^ 64 % m in
    let c = lists_passing (2 ^ 64) n later in
    let d = lists_passing (2 ^ 64) n (read_passes (read_uniform m) test later) in
    let f : ℕ → ℕ = λ w. lists_passing (2 ^ 64) n (λ rest. read_passes (read_uniform m) test later (w ∷ rest)) in
    let lim = limit_is m in
    let kept : (w : ℕ) → w < q * m → f w ≡ cond (test (w % m)) c 0 = λ w l.
    (lists_ext (2 ^ 64) n (λ rest. read_passes (read_uniform m) test later (w ∷ rest)) (λ rest. test (w % m) && later rest) (λ rest. ap (found_passes test later) (uniform_kept m w rest (subst (λ x. w < x) (sym lim) l)))
    ∙ and_lists (2 ^ 64) n (test (w % m)) later) in
    let again : (w : ℕ) → q * m ≤ w → f w ≡ d = λ w l.
    lists_ext (2 ^ 64) n (λ rest. read_passes (read_uniform m) test later (w ∷ rest)) (read_passes (read_uniform m) test later) (λ rest. ap (found_passes test later) (uniform_again m w rest (subst (λ x. x ≤ w) (sym lim) l))) in
    let ih = uniform_count m n test later in
    ap (sum_below f) (words_are m) ∙ (first_draw test m c d q e f kept again ∙ (ap (λ x. q * (passing_below test m * c) + e * x) ih ∙ pull (passing_below test m) q c e (kept_lists m later n)))

abbrev bit : Bool → ℕ
bit b = cond b 1 0

one_below : (a m : ℕ) → passing_below (λ x. x == a) m ≡ cond (nat_lt a m) 1 0
unfolding sum_below
one_below a zero = sym (ap bit (le-ltb a 0 (omega arith)))
one_below a (suc m) = let r = one_below a m in elim (cases_Bool (nat_lt a m)) [
  | inl y ↦ let l = ltb-true a m y in let other : (m == a) ≡ false = ne_eqb m a (λ e. omega (arith, e, l)) in let up = lt-ltb a (suc m) (omega (arith, l)) in
      (let s = r ∙ ap bit y in let t = ap bit other in let v = ap bit up in omega (arith, s, t, v))
  | inr n ↦ let l = ltb-false a m n in elim (cases_Bool (m == a)) [
    | inl y ↦ let e = eqb-true m a y in let up = lt-ltb a (suc m) (omega (arith, e)) in
        (let s = r ∙ ap bit n in let t = ap bit y in let v = ap bit up in omega (arith, s, t, v))
    | inr other ↦ let ne = eqb-false m a other in let up = le-ltb a (suc m) (elim (cases_Bool (nat_lt a (suc m))) [ inl y ↦ (let k = ltb-true a (suc m) y in absurd (ne (omega (arith, k, l)))) | inr z ↦ ltb-false a (suc m) z ]) in
        (let s = r ∙ ap bit n in let t = ap bit other in let v = ap bit up in omega (arith, s, t, v))
  ]
]

pub uniform_equal : (m n a b : ℕ) (later : List ℕ → Bool) → a < m → b < m → lists_passing (2 ^ 64) n (read_passes (read_uniform m) (λ x. x == a) later) ≡ lists_passing (2 ^ 64) n (read_passes (read_uniform m) (λ x. x == b) later)
uniform_equal m n a b later la lb =
    let same = one_below a m ∙ (ap bit (lt-ltb a m la) ∙ sym (one_below b m ∙ ap bit (lt-ltb b m lb))) in
    uniform_count m n (λ x. x == a) later ∙ (ap (λ x. x * kept_lists m later n) same ∙ sym (uniform_count m n (λ x. x == b) later))

less_below : (n d : ℕ) → n ≤ d → passing_below (λ x. nat_lt x n) d ≡ n
unfolding sum_below
less_below n zero l = omega (arith, l)
less_below n (suc d) l = elim (cases_Bool (nat_lt d n)) [
  | inl y ↦ let k = ltb-true d n y in let t = ap bit y in let all = all_below d n (omega (arith, k)) in omega (arith, all, t, k, l)
  | inr z ↦ let k = ltb-false d n z in let t = ap bit z in let r = less_below n d k in omega (arith, r, t)
]
  where
    all_below : (d n : ℕ) → d ≤ n → passing_below (λ x. nat_lt x n) d ≡ d
    all_below zero n l = refl
    all_below (suc d) n l = let r = all_below d n (omega (arith, l)) in let t = ap bit (lt-ltb d n (omega (arith, l))) in omega (arith, r, t)

bernoulli_reader : (n d : ℕ) (test : Bool → Bool) (later : List ℕ → Bool) (ws : List ℕ) → read_passes (read_bernoulli n d) test later ws ≡ read_passes (read_uniform d) (λ x. test (nat_lt x n)) later ws
unfolding read_bernoulli
bernoulli_reader n d test later ws = go (read_uniform d ws) refl
  where
    go : (o : Option (ℕ × List ℕ)) → read_uniform d ws ≡ o → read_passes (read_bernoulli n d) test later ws ≡ read_passes (read_uniform d) (λ x. test (nat_lt x n)) later ws
    go None e = ap (found_passes test later) (then_none (read_uniform d) (λ number. give (nat_lt number n)) ws e) ∙ sym (ap (found_passes (λ x. test (nat_lt x n)) later) e)
    go (Some found) e = ap (found_passes test later) (then_complete (read_uniform d) (λ number. give (nat_lt number n)) ws found.1 found.0 e) ∙ sym (ap (found_passes (λ x. test (nat_lt x n)) later) e)

pub bernoulli_count : (n d k : ℕ) (test : Bool → Bool) (later : List ℕ → Bool) → lists_passing (2 ^ 64) k (read_passes (read_bernoulli n d) test later) ≡ passing_below (λ x. test (nat_lt x n)) d * kept_lists d later k
bernoulli_count n d k test later =
    lists_ext (2 ^ 64) k (read_passes (read_bernoulli n d) test later) (read_passes (read_uniform d) (λ x. test (nat_lt x n)) later) (bernoulli_reader n d test later)
    ∙ uniform_count d k (λ x. test (nat_lt x n)) later

pub bernoulli_fraction : (n d k : ℕ) (later : List ℕ → Bool) → n ≤ d → d * lists_passing (2 ^ 64) k (read_passes (read_bernoulli n d) (λ one. one) later) ≡ n * lists_passing (2 ^ 64) k (read_passes (read_bernoulli n d) (λ _. true) later)
bernoulli_fraction n d k later l =
    let kept = kept_lists d later k in
    let all : passing_below (λ _. true) d ≡ d = below_const 1 d ∙ omega arith in
    let a = bernoulli_count n d k (λ one. one) later ∙ ap (λ x. x * kept) (less_below n d l) in
    let b = bernoulli_count n d k (λ _. true) later ∙ ap (λ x. x * kept) all in
    ap (λ x. d * x) a ∙ (mul_left_comm d n kept ∙ ap (λ x. n * x) (sym b))
