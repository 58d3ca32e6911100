-- Runs of segments, one segment at a time.
use Rattle.std.proofs.Common.{◌≡◌, ◌∙◌, sym, ap, refl, ℕ, zero, suc, ◌<◌, ◌≤◌, Bool, true, false, List, [], ◌∷◌, length, Option, Some, None, arith, inl, inr, length-append}
use Rattle.std.proofs.lemmas.Bool.{cases_Bool}
use Rattle.exact_bernoulli.specs.Readers.{DrawReader, give, read_run_within, read_run}
use Rattle.exact_bernoulli.proofs.Exact.{IsReader, then_complete, then_none}

-- each segment takes a draw
pub Shrinks : {A : Type 0} → DrawReader A → Type 0
Shrinks {A} read = (draws : List ℕ) (found : A × List ℕ) → read draws ≡ Some found → length found.1 < length draws

pub shrinks_from : {A : Type 0} {read : DrawReader A} {Segment : List ℕ → A → Type 0} → IsReader read Segment → ((one : List ℕ) (a : A) → Segment one a → 0 < length one) → Shrinks read
unfolding Shrinks
shrinks_from reads takes draws found e = let r = reads.sound draws found e in let l = takes r.0 found.0 r.2 in omega (arith, l, ap length r.1 ∙ length-append r.0 found.1)

module _ {B : Type 0} (read : ℕ → DrawReader B) (is_again : B → Bool) (shrinks : (k : ℕ) → Shrinks (read k)) where
  after : ℕ → ℕ → B → DrawReader (ℕ × B)
  after most k b = elim (is_again b) [ true ↦ read_run_within read is_again most (suc k) | false ↦ give (k, b) ]

  after_again : (most k : ℕ) (b : B) (draws : List ℕ) → is_again b ≡ true → after most k b draws ≡ read_run_within read is_again most (suc k) draws
  unfolding after
  after_again most k b draws e = rw (e, after) refl

  after_last : (most k : ℕ) (b : B) (draws : List ℕ) → is_again b ≡ false → after most k b draws ≡ Some ((k, b), draws)
  unfolding after
  after_last most k b draws e = rw (e, after) refl

  within_again : (most k : ℕ) (b : B) (draws behind : List ℕ) → read k draws ≡ Some (b, behind) → is_again b ≡ true → read_run_within read is_again (suc most) k draws ≡ read_run_within read is_again most (suc k) behind
  unfolding after
  within_again most k b draws behind e y = then_complete (read k) (after most k) draws behind b e ∙ after_again most k b behind y

  within_last : (most k : ℕ) (b : B) (draws behind : List ℕ) → read k draws ≡ Some (b, behind) → is_again b ≡ false → read_run_within read is_again (suc most) k draws ≡ Some ((k, b), behind)
  unfolding after
  within_last most k b draws behind e n = then_complete (read k) (after most k) draws behind b e ∙ after_last most k b behind n

  within_none : (most k : ℕ) (draws : List ℕ) → read k draws ≡ None → read_run_within read is_again most k draws ≡ None
  unfolding after
  within_none zero k draws e = refl
  within_none (suc most) k draws e = then_none (read k) (after most k) draws e

  none_at_end : (k : ℕ) (draws : List ℕ) → length draws ≤ 0 → read k draws ≡ None
  unfolding Shrinks
  none_at_end k draws l = go (read k draws) refl
    where
      go : (o : Option (B × List ℕ)) → read k draws ≡ o → read k draws ≡ None
      go None e = e
      go (Some p) e = let h = shrinks k draws p e in absurd (omega (arith, h))

  step : (most most' k : ℕ) (draws : List ℕ) → ((rest : List ℕ) → length rest ≤ most → length rest ≤ most' → read_run_within read is_again most (suc k) rest ≡ read_run_within read is_again most' (suc k) rest)
      → length draws ≤ suc most → length draws ≤ suc most' → read_run_within read is_again (suc most) k draws ≡ read_run_within read is_again (suc most') k draws
  unfolding Shrinks
  step most most' k draws ih l l' = go (read k draws) refl
    where
      go : (o : Option (B × List ℕ)) → read k draws ≡ o → read_run_within read is_again (suc most) k draws ≡ read_run_within read is_again (suc most') k draws
      go None e = within_none (suc most) k draws e ∙ sym (within_none (suc most') k draws e)
      go (Some p) e = let h = shrinks k draws p e in elim (cases_Bool (is_again p.0)) [
        | inl y ↦ within_again most k p.0 draws p.1 e y ∙ (ih p.1 (omega (arith, h)) (omega (arith, h)) ∙ sym (within_again most' k p.0 draws p.1 e y))
        | inr n ↦ within_last most k p.0 draws p.1 e n ∙ sym (within_last most' k p.0 draws p.1 e n)
      ]

  -- any number of segments that suffices gives the same
  within_enough : (most most' k : ℕ) (draws : List ℕ) → length draws ≤ most → length draws ≤ most' → read_run_within read is_again most k draws ≡ read_run_within read is_again most' k draws
  within_enough zero most' k draws l l' = let e = none_at_end k draws l in within_none zero k draws e ∙ sym (within_none most' k draws e)
  within_enough (suc most) zero k draws l l' = let e = none_at_end k draws l' in within_none (suc most) k draws e ∙ sym (within_none zero k draws e)
  within_enough (suc most) (suc most') k draws l l' = step most most' k draws (λ rest m n. within_enough most most' (suc k) rest m n) l l'

  pub run_again : (k : ℕ) (b : B) (draws behind : List ℕ) → read k draws ≡ Some (b, behind) → is_again b ≡ true → read_run read is_again k draws ≡ read_run read is_again (suc k) behind
  unfolding Shrinks read_run
  run_again k b [] behind e y = let h = shrinks k [] (b, behind) e in absurd (omega (arith, h))
  run_again k b (w ∷ draws) behind e y = let h = shrinks k (w ∷ draws) (b, behind) e in
      within_again (length draws) k b (w ∷ draws) behind e y ∙ within_enough (length draws) (length behind) (suc k) behind (omega (arith, h)) (omega arith)

  pub run_last : (k : ℕ) (b : B) (draws behind : List ℕ) → read k draws ≡ Some (b, behind) → is_again b ≡ false → read_run read is_again k draws ≡ Some ((k, b), behind)
  unfolding Shrinks read_run
  run_last k b [] behind e n = let h = shrinks k [] (b, behind) e in absurd (omega (arith, h))
  run_last k b (w ∷ draws) behind e n = within_last (length draws) k b (w ∷ draws) behind e n

  pub run_none : (k : ℕ) (draws : List ℕ) → read k draws ≡ None → read_run read is_again k draws ≡ None
  unfolding read_run
  run_none k draws e = within_none (length draws) k draws e
