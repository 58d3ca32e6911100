-- What is read, and then a test of it and of the draws after it, counted.
use Rattle.std.proofs.Common.{◌≡◌, ◌∙◌, sym, ap, subst, refl, ℕ, zero, suc, ◌+◌, ◌<◌, ◌≤◌, Bool, true, false, List, [], ◌∷◌, ◌++◌, Option, Some, None, arith, inl, inr, ◌⊎◌}
use Rattle.std.specs.Prelude.{cond, not, ◌^◌, ◌*◌, nat_lt}
use Rattle.exact_bernoulli.specs.Readers.{DrawReader, then_read, read_bernoulli}
use Rattle.exact_bernoulli.proofs.Exact.{IsReader}
use Rattle.draw_counts.specs.Counts.{sum_below, passing_below, lists_passing, found_passes, read_passes, kept_lists}
use Rattle.draw_counts.proofs.Uniform.{below_ext, lists_ext, bernoulli_count}
use Rattle.draw_counts.proofs.Steps.{outcome, outcome_then, bit}

-- what is read passes a test with the draws after it
abbrev pub after : {A : Type 0} → Option (A × List ℕ) → (A → List ℕ → Bool) → Bool
after o test = outcome false o test

decided : {A : Type 0} (o : Option A) → (o ≡ None) ⊎ ((a : A) × (o ≡ Some a))
decided None = inl refl
decided (Some a) = inr (a, refl)

none_some : {A : Type 0} {C : Type 0} {a : A} → None ≡ Some a → C
none_some e = absurd (cc e)

cons_split : {w x : ℕ} {ws xs : List ℕ} → w ∷ ws ≡ x ∷ xs → (x ≡ w) × (ws ≡ xs)
cons_split e = (cc e, cc e)

nil_cons : {C : Type 0} {x : ℕ} {xs : List ℕ} → [] ≡ x ∷ xs → C
nil_cons e = absurd (cc e)

-- a reader after its first draw
pub first_reads : {A : Type 0} (read : DrawReader A) (S : List ℕ → A → Type 0) → IsReader read S → read [] ≡ None → (w : ℕ) → IsReader (λ ws. read (w ∷ ws)) (λ one a. S (w ∷ one) a)
first_reads {A} read S reads none w = record {
  sound = λ draws found e. let r = reads.sound (w ∷ draws) found e in cut draws found r.0 r.1 r.2;
  complete = λ one rest a h. reads.complete (w ∷ one) rest a h;
}
  where
    cut : (draws : List ℕ) (found : A × List ℕ) (one : List ℕ) → w ∷ draws ≡ one ++ found.1 → S one found.0 → (o : List ℕ) × (draws ≡ o ++ found.1) × S (w ∷ o) found.0
    cut draws found [] e h = none_some (sym none ∙ reads.complete [] [] found.0 h)
    cut draws found (x ∷ one) e h = let s = cons_split e in (one, s.1, subst (λ y. S (y ∷ one) found.0) s.0 h)

-- a reader that finds something in no draws takes none
found_at_once : {A : Type 0} (read : DrawReader A) (S : List ℕ → A → Type 0) → IsReader read S → (found : A × List ℕ) → read [] ≡ Some found → (ws : List ℕ) → read ws ≡ Some (found.0, ws)
found_at_once {A} read S reads found e ws = let r = reads.sound [] found e in at r.0 r.1 r.2
  where
    at : (one : List ℕ) → [] ≡ one ++ found.1 → S one found.0 → read ws ≡ Some (found.0, ws)
    at [] c h = reads.complete [] ws found.0 h
    at (x ∷ one) c h = nil_cons c

pub count_after : {A : Type 0} (words n : ℕ) (read : DrawReader A) (S : List ℕ → A → Type 0) → IsReader read S → (p q : A → List ℕ → Bool)
    → ((a : A) (j : ℕ) → j ≤ n → lists_passing words j (p a) ≡ lists_passing words j (q a))
    → lists_passing words n (λ ws. after (read ws) p) ≡ lists_passing words n (λ ws. after (read ws) q)
unfolding lists_passing
count_after words zero read S reads p q same = elim (decided (read [])) [
  | inl e ↦ ap (λ o. cond {A = ℕ} (after o p) 1 0) e ∙ sym (ap (λ o. cond {A = ℕ} (after o q) 1 0) e)
  | inr h ↦ let all = found_at_once read S reads h.0 h.1 in
      lists_ext words 0 (λ ws. after (read ws) p) (p h.0.0) (λ ws. ap (λ o. after o p) (all ws)) ∙ (same h.0.0 0 (omega arith) ∙ sym (lists_ext words 0 (λ ws. after (read ws) q) (q h.0.0) (λ ws. ap (λ o. after o q) (all ws))))
]
count_after words (suc n) read S reads p q same = elim (decided (read [])) [
  | inl e ↦ below_ext _ _ words (λ w _. count_after words n (λ ws. read (w ∷ ws)) (λ one a. S (w ∷ one) a) (first_reads read S reads e w) p q (λ a j l. same a j (omega (arith, l))))
  | inr h ↦ let all = found_at_once read S reads h.0 h.1 in
      lists_ext words (suc n) (λ ws. after (read ws) p) (p h.0.0) (λ ws. ap (λ o. after o p) (all ws)) ∙ (same h.0.0 (suc n) (omega arith) ∙ sym (lists_ext words (suc n) (λ ws. after (read ws) q) (q h.0.0) (λ ws. ap (λ o. after o q) (all ws))))
]

-- where a draw is taken, the tests need be alike on shorter lists alone
pub count_after_less : {A : Type 0} (words n : ℕ) (read : DrawReader A) (S : List ℕ → A → Type 0) → IsReader read S → read [] ≡ None → (p q : A → List ℕ → Bool)
    → ((a : A) (j : ℕ) → j < n → lists_passing words j (p a) ≡ lists_passing words j (q a))
    → lists_passing words n (λ ws. after (read ws) p) ≡ lists_passing words n (λ ws. after (read ws) q)
unfolding lists_passing
count_after_less words zero read S reads e p q same = ap (λ o. cond {A = ℕ} (after o p) 1 0) e ∙ sym (ap (λ o. cond {A = ℕ} (after o q) 1 0) e)
count_after_less words (suc n) read S reads e p q same =
    below_ext _ _ words (λ w _. count_after words n (λ ws. read (w ∷ ws)) (λ one a. S (w ∷ one) a) (first_reads read S reads e w) p q (λ a j l. same a j (omega (arith, l))))

-- one reader and then another
pub count_then : {A B : Type 0} (words n : ℕ) (first : DrawReader A) (second : A → DrawReader B) (S : List ℕ → A → Type 0) → IsReader first S → (p q : B → List ℕ → Bool)
    → ((a : A) (j : ℕ) → j ≤ n → lists_passing words j (λ ws. after (second a ws) p) ≡ lists_passing words j (λ ws. after (second a ws) q))
    → lists_passing words n (λ ws. after (then_read first second ws) p) ≡ lists_passing words n (λ ws. after (then_read first second ws) q)
count_then words n first second S reads p q same =
    lists_ext words n (λ ws. after (then_read first second ws) p) (λ ws. after (first ws) (λ a rest. after (second a rest) p)) (outcome_then false first second p)
    ∙ (count_after words n first S reads (λ a rest. after (second a rest) p) (λ a rest. after (second a rest) q) same
    ∙ sym (lists_ext words n (λ ws. after (then_read first second ws) q) (λ ws. after (first ws) (λ a rest. after (second a rest) q)) (outcome_then false first second q)))

pub sums : (m : ℕ) (f g : ℕ → ℕ) → sum_below (λ w. f w + g w) m ≡ sum_below f m + sum_below g m
unfolding sum_below
sums zero f g = refl
sums (suc m) f g = let r = sums m f g in omega (arith, r)

pub lists_add : (words n : ℕ) (p q r : List ℕ → Bool) → ((ws : List ℕ) → bit (p ws) ≡ bit (q ws) + bit (r ws)) → lists_passing words n p ≡ lists_passing words n q + lists_passing words n r
unfolding lists_passing
lists_add words zero p q r h = h []
lists_add words (suc n) p q r h =
    below_ext _ (λ w. lists_passing words n (λ rest. q (w ∷ rest)) + lists_passing words n (λ rest. r (w ∷ rest))) words (λ w _. lists_add words n (λ rest. p (w ∷ rest)) (λ rest. q (w ∷ rest)) (λ rest. r (w ∷ rest)) (λ rest. h (w ∷ rest)))
    ∙ sums words (λ w. lists_passing words n (λ rest. q (w ∷ rest))) (λ w. lists_passing words n (λ rest. r (w ∷ rest)))

split_coin : (o : Option (Bool × List ℕ)) (p : Bool → List ℕ → Bool) → bit (after o p) ≡ bit (found_passes (λ b. b) (p true) o) + bit (found_passes not (p false) o)
split_coin None p = refl
split_coin (Some (true, rest)) p = omega arith
split_coin (Some (false, rest)) p = omega arith

heads : passing_below (λ x. nat_lt x 1) 2 ≡ 1
unfolding sum_below
heads = refl

tails : passing_below (λ x. not (nat_lt x 1)) 2 ≡ 1
unfolding sum_below
tails = refl

coin_count : (n : ℕ) (p : Bool → List ℕ → Bool) → lists_passing (2 ^ 64) n (λ ws. after (read_bernoulli 1 2 ws) p) ≡ kept_lists 2 (p true) n + kept_lists 2 (p false) n
coin_count n p =
    let a = bernoulli_count 1 2 n (λ b. b) (p true) ∙ ap (λ x. x * kept_lists 2 (p true) n) heads in
    let b = bernoulli_count 1 2 n not (p false) ∙ ap (λ x. x * kept_lists 2 (p false) n) tails in
    let s = lists_add (2 ^ 64) n (λ ws. after (read_bernoulli 1 2 ws) p) (read_passes (read_bernoulli 1 2) (λ b. b) (p true)) (read_passes (read_bernoulli 1 2) not (p false)) (λ ws. split_coin (read_bernoulli 1 2 ws) p) in
    omega (arith, a, b, s)

-- a coin's two sides come from equally many lists
pub coin_turned : (n : ℕ) (p : Bool → List ℕ → Bool) → lists_passing (2 ^ 64) n (λ ws. after (read_bernoulli 1 2 ws) p) ≡ lists_passing (2 ^ 64) n (λ ws. after (read_bernoulli 1 2 ws) (λ b. p (not b)))
coin_turned n p = let a = coin_count n p in let b = coin_count n (λ b. p (not b)) in omega (arith, a, b)
