-- What follows from draws that were taken.
use Rattle.std.specs.Prelude.{◌≡◌, ℕ, zero, suc, ◌+◌, ◌∷◌, ◌++◌, length, min, refl}
use Rattle.std.proofs.Common.{ap, sym, ◌∙◌, arith, add-zero, zero-add}
use Rattle.std.proofs.Math.Path.{fun_ext}
use Rattle.fz_outside.specs.Draws.{draws_after, first_draws, HasDrawn}
use Rattle.fz_outside.specs.Faults.{last_count}

-- a sequence behind two numbers of terms
pub after-after : (j k : ℕ) (draws : ℕ → ℕ) → draws_after k (draws_after j draws) ≡ draws_after (j + k) draws
after-after j k draws = fun_ext (λ i. let e : i + k + j ≡ i + (j + k) = omega arith in ap draws e)

-- a sequence behind none is the same
pub after-zero : (draws : ℕ → ℕ) → draws_after 0 draws ≡ draws
after-zero draws = fun_ext (λ i. ap draws (add-zero i))

-- there are k first terms
pub length-first : (k : ℕ) (draws : ℕ → ℕ) → length (first_draws k draws) ≡ k
length-first zero draws = refl
length-first (suc k) draws = ap suc (length-first k (draws_after 1 draws))

-- the first j + k terms are the first j and then the first k of those behind them
pub first-+ : (j k : ℕ) (draws : ℕ → ℕ) → first_draws (j + k) draws ≡ first_draws j draws ++ first_draws k (draws_after j draws)
first-+ zero k draws = ap (λ n. first_draws n draws) (zero-add k) ∙ ap (first_draws k) (sym (after-zero draws))
first-+ (suc j) k draws =
    let e : suc j + k ≡ suc (j + k) = omega arith in
    let f : 1 + j ≡ suc j = omega arith in
    ap (λ n. first_draws n draws) e
    ∙ ap (λ xs. draws 0 ∷ xs) (first-+ j k (draws_after 1 draws)
    ∙ ap (λ d. first_draws j (draws_after 1 draws) ++ first_draws k d) (after-after 1 j draws ∙ ap (λ n. draws_after n draws) f))

-- draws that were taken in two runs
pub HasDrawn-+ : {W : Type 0} {draws : W → ℕ → ℕ} {place : W → ℕ} {a b c : W} (j k : ℕ)
    → HasDrawn draws place j a b → HasDrawn draws place k b c → HasDrawn draws place (j + k) a c
HasDrawn-+ {draws = draws} {a = a} j k before behind = record {
  rest = behind.rest ∙ ap (draws_after k) before.rest ∙ after-after j k (draws a);
  counted = behind.counted ∙ saturated _ _ _ _ before.counted;
}
  where
    saturated : (p q j k : ℕ) → q ≡ min (p + j) last_count → min (q + k) last_count ≡ min (p + (j + k)) last_count
    saturated p q j k e = omega (arith, e)
