-- Sums over lists of draws, and a law of sets that is one of numbers too.
use Rattle.std.proofs.Common.{◌≡◌, ◌∙◌, ap, refl, ℕ, zero, suc, ◌+◌, ◌*◌, ◌≤◌, Bool, true, false, List, [], ◌∷◌, arith, inl, inr}
use Rattle.std.specs.Prelude.{cond, ◌^◌, nat_lt, min}
use Rattle.std.proofs.lemmas.Bool.{cases_Bool, ltb-true, ltb-false}
use Rattle.std.proofs.Math.Nat.{pow-zero, pow-succ'}
use Rattle.draw_counts.specs.Counts.{sum_below, lists_passing}
use Rattle.draw_counts.specs.Sequence.{sum_lists, draws_passing}
use Rattle.draw_counts.proofs.Uniform.{below_ext, below_const}
use Rattle.draw_counts.proofs.After.{sums}
use Rattle.draw_counts.proofs.Steps.{bit}
use Rattle.draw_counts.proofs.Shift.{sum_le}

pub over_le : (words n : ℕ) (f g : List ℕ → ℕ) → ((ws : List ℕ) → f ws ≤ g ws) → sum_lists words n f ≤ sum_lists words n g
unfolding sum_lists
over_le words zero f g h = h []
over_le words (suc n) f g h = sum_le _ _ words (λ w _. over_le words n (λ rest. f (w ∷ rest)) (λ rest. g (w ∷ rest)) (λ rest. h (w ∷ rest)))

pub over_ext : (words n : ℕ) (f g : List ℕ → ℕ) → ((ws : List ℕ) → f ws ≡ g ws) → sum_lists words n f ≡ sum_lists words n g
unfolding sum_lists
over_ext words zero f g h = h []
over_ext words (suc n) f g h = below_ext _ _ words (λ w _. over_ext words n (λ rest. f (w ∷ rest)) (λ rest. g (w ∷ rest)) (λ rest. h (w ∷ rest)))

pub over_add : (words n : ℕ) (f g : List ℕ → ℕ) → sum_lists words n (λ ws. f ws + g ws) ≡ sum_lists words n f + sum_lists words n g
unfolding sum_lists
over_add words zero f g = refl
over_add words (suc n) f g =
    below_ext _ (λ w. sum_lists words n (λ rest. f (w ∷ rest)) + sum_lists words n (λ rest. g (w ∷ rest))) words (λ w _. over_add words n (λ rest. f (w ∷ rest)) (λ rest. g (w ∷ rest)))
    ∙ sums words (λ w. sum_lists words n (λ rest. f (w ∷ rest))) (λ w. sum_lists words n (λ rest. g (w ∷ rest)))

below_times : (c : ℕ) (f : ℕ → ℕ) (m : ℕ) → sum_below (λ w. c * f w) m ≡ c * sum_below f m
unfolding sum_below
below_times c f zero = omega arith
below_times c f (suc m) = let a = below_times c f m in omega (arith, a)

pub over_times : (words n c : ℕ) (f : List ℕ → ℕ) → sum_lists words n (λ ws. c * f ws) ≡ c * sum_lists words n f
unfolding sum_lists
over_times words zero c f = refl
over_times words (suc n) c f =
    below_ext _ (λ w. c * sum_lists words n (λ rest. f (w ∷ rest))) words (λ w _. over_times words n c (λ rest. f (w ∷ rest))) ∙ below_times c (λ w. sum_lists words n (λ rest. f (w ∷ rest))) words

pub over_const : (words n c : ℕ) → sum_lists words n (λ _. c) ≡ words ^ n * c
unfolding sum_lists
over_const words zero c = let a = ap (λ x. x * c) (pow-zero words) in omega (arith, a)
over_const words (suc n) c =
    below_ext _ (λ _. words ^ n * c) words (λ w _. over_const words n c) ∙ (below_const (words ^ n * c) words ∙ (let a = ap (λ x. x * c) (pow-succ' words n) in omega (arith, a)))

pub over_bits : (words n : ℕ) (p : List ℕ → Bool) → sum_lists words n (λ ws. bit (p ws)) ≡ lists_passing words n p
unfolding sum_lists lists_passing
over_bits words zero p = refl
over_bits words (suc n) p = below_ext _ _ words (λ w _. over_bits words n (λ rest. p (w ∷ rest)))

-- x, but at most m: so many of the numbers below m are below x
cut : ℕ → ℕ → ℕ
cut x zero = 0
cut x (suc m) = cut x m + bit (nat_lt m x)

cut_is : (x m : ℕ) → cut x m ≡ min x m
unfolding cut
cut_is x zero = omega arith
cut_is x (suc m) = let a = cut_is x m in elim (cases_Bool (nat_lt m x)) [
  | inl y ↦ let l = ltb-true m x y in let b = ap bit y in omega (arith, a, b, l)
  | inr n ↦ let l = ltb-false m x n in let b = ap bit n in omega (arith, a, b, l)
]

-- What holds of every set of answers holds of every number that is given to answers: a and b are answers by lists of draws.
module _ {A : Type 0} (words n S P Q V : ℕ) (a b : List ℕ → A) (sets : (set : A → Bool) → S * (Q * lists_passing words n (λ ws. set (a ws))) ≤ S * (P * lists_passing words n (λ ws. set (b ws))) + Q * V) (f : A → ℕ) where
  cuts : (m : ℕ) → S * (Q * sum_lists words n (λ ws. cut (f (a ws)) m)) ≤ S * (P * sum_lists words n (λ ws. cut (f (b ws)) m)) + Q * (V * m)
  unfolding cut
  cuts zero = let c = over_const words n 0 in omega (arith, ap (λ x. S * (Q * x)) c)
  cuts (suc m) =
      let set : A → Bool = λ x. nat_lt m (f x) in
      let c = cuts m in let d = sets set in
      let e = ap (λ x. S * (Q * x)) (over_add words n (λ ws. cut (f (a ws)) m) (λ ws. bit (set (a ws))) ∙ ap (λ x. sum_lists words n (λ ws. cut (f (a ws)) m) + x) (over_bits words n (λ ws. set (a ws)))) in
      let g = ap (λ x. S * (P * x)) (over_add words n (λ ws. cut (f (b ws)) m) (λ ws. bit (set (b ws))) ∙ ap (λ x. sum_lists words n (λ ws. cut (f (b ws)) m) + x) (over_bits words n (λ ws. set (b ws)))) in
      omega (arith, c, d, e, g)

  pub numbers : (m : ℕ) → S * (Q * sum_lists words n (λ ws. min (f (a ws)) m)) ≤ S * (P * sum_lists words n (λ ws. min (f (b ws)) m)) + Q * (V * m)
  numbers m =
      let c = cuts m in
      let e = ap (λ x. S * (Q * x)) (over_ext words n (λ ws. cut (f (a ws)) m) (λ ws. min (f (a ws)) m) (λ ws. cut_is (f (a ws)) m)) in
      let g = ap (λ x. S * (P * x)) (over_ext words n (λ ws. cut (f (b ws)) m) (λ ws. min (f (b ws)) m) (λ ws. cut_is (f (b ws)) m)) in
      omega (arith, c, e, g)

pub all_draws : (words n asks : ℕ) (p : List (List ℕ) → Bool) → draws_passing words n asks p ≤ (words ^ n) ^ asks
unfolding draws_passing
all_draws words n zero p = at (p [])
  where
    at : (b : Bool) → cond b 1 0 ≤ (words ^ n) ^ 0
    at true = let a = pow-zero (words ^ n) in omega (arith, a)
    at false = omega arith
all_draws words n (suc asks) p =
    let a = over_le words n (λ draws. draws_passing words n asks (λ rest. p (draws ∷ rest))) (λ _. (words ^ n) ^ asks) (λ draws. all_draws words n asks (λ rest. p (draws ∷ rest))) in
    let b = over_const words n ((words ^ n) ^ asks) in let c = pow-succ' (words ^ n) asks in
    omega (arith, a, b, c)
