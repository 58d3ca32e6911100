-- An attempt, part by part.
use Rattle.std.proofs.Common.{◌≡◌, ◌∙◌, sym, ap, ℕ, ◌+◌, ◌*◌, ◌/◌, Bool, true, false, List, Option, Some, None}
use Rattle.std.specs.Prelude.{ℤ}
use Rattle.discrete_laplace.specs.DiscreteLaplace.{signed_size}
use Rattle.exact_bernoulli.specs.Readers.{DrawReader, give, then_read, read_uniform, read_bernoulli, read_bernoulli_exp}
use Rattle.discrete_laplace.specs.Readers.{read_geometric, read_attempt}
use Rattle.exact_bernoulli.proofs.Exact.{then_complete, then_none}

module _ (t s : ℕ) (before : List ℕ) where
  last : ℕ → ℕ → DrawReader (Option ℤ)
  last u v = then_read (read_bernoulli 1 2) (λ negative. give (signed_size negative ((u + t * v) / s)))

  middle : ℕ → Bool → DrawReader (Option ℤ)
  middle u goes_on = elim goes_on [ false ↦ give None | true ↦ then_read read_geometric (last u) ]

  whole : ℕ → DrawReader (Option ℤ)
  whole u = then_read (read_bernoulli_exp u t) (middle u)

  pub attempt_none_first : read_uniform t before ≡ None → read_attempt t s before ≡ None
  unfolding read_attempt whole middle last
  attempt_none_first e = then_none (read_uniform t) whole before e

  pub attempt_none_second : (u : ℕ) (one : List ℕ) → read_uniform t before ≡ Some (u, one) → read_bernoulli_exp u t one ≡ None → read_attempt t s before ≡ None
  unfolding read_attempt whole middle last
  attempt_none_second u one e f = then_complete (read_uniform t) whole before one u e ∙ then_none (read_bernoulli_exp u t) (middle u) one f

  pub attempt_stopped : (u : ℕ) (goes_on : Bool) (one two : List ℕ) → read_uniform t before ≡ Some (u, one) → read_bernoulli_exp u t one ≡ Some (goes_on, two) → goes_on ≡ false → read_attempt t s before ≡ Some (None, two)
  unfolding read_attempt whole middle last
  attempt_stopped u goes_on one two e f n = then_complete (read_uniform t) whole before one u e ∙ (then_complete (read_bernoulli_exp u t) (middle u) one two goes_on f ∙ ap (λ b. middle u b two) n)

  started : (u : ℕ) (goes_on : Bool) (one two : List ℕ) → read_uniform t before ≡ Some (u, one) → read_bernoulli_exp u t one ≡ Some (goes_on, two) → goes_on ≡ true → read_attempt t s before ≡ then_read read_geometric (last u) two
  unfolding read_attempt whole middle last
  started u goes_on one two e f y = then_complete (read_uniform t) whole before one u e ∙ (then_complete (read_bernoulli_exp u t) (middle u) one two goes_on f ∙ ap (λ b. middle u b two) y)

  pub attempt_none_third : (u : ℕ) (goes_on : Bool) (one two : List ℕ) → read_uniform t before ≡ Some (u, one) → read_bernoulli_exp u t one ≡ Some (goes_on, two) → goes_on ≡ true → read_geometric two ≡ None → read_attempt t s before ≡ None
  attempt_none_third u goes_on one two e f y h = started u goes_on one two e f y ∙ then_none read_geometric (last u) two h

  pub attempt_none_fourth : (u : ℕ) (goes_on : Bool) (v : ℕ) (one two three : List ℕ) → read_uniform t before ≡ Some (u, one) → read_bernoulli_exp u t one ≡ Some (goes_on, two) → goes_on ≡ true → read_geometric two ≡ Some (v, three) → read_bernoulli 1 2 three ≡ None → read_attempt t s before ≡ None
  unfolding last
  attempt_none_fourth u goes_on v one two three e f y h k =
      started u goes_on one two e f y ∙ (then_complete read_geometric (last u) two three v h ∙ then_none (read_bernoulli 1 2) (λ negative. give (signed_size negative ((u + t * v) / s))) three k)

  pub attempt_whole : (u : ℕ) (goes_on : Bool) (v : ℕ) (negative : Bool) (outcome : Option ℤ) (one two three four : List ℕ) → read_uniform t before ≡ Some (u, one) → read_bernoulli_exp u t one ≡ Some (goes_on, two) → goes_on ≡ true → read_geometric two ≡ Some (v, three) → read_bernoulli 1 2 three ≡ Some (negative, four) → outcome ≡ signed_size negative ((u + t * v) / s) → read_attempt t s before ≡ Some (outcome, four)
  unfolding last
  attempt_whole u goes_on v negative outcome one two three four e f y h k gives =
      (started u goes_on one two e f y ∙ (then_complete read_geometric (last u) two three v h ∙ then_complete (read_bernoulli 1 2) (λ negative. give (signed_size negative ((u + t * v) / s))) three four negative k)) ∙ ap (λ o. Some (o, four)) (sym gives)
