-- Rows that are there, counted and added.
use Rattle.std.proofs.Common.{◌≡◌, ℕ, zero, suc, ◌<◌, ◌≤◌, ◌+◌, ◌*◌, ℤ, pos, Bool, List, [], ◌∷◌, ◌++◌, length, get_or, refl, ap, sym, ◌∙◌, arith, ◌≤ℤ◌}
use Rattle.std.specs.Prelude.{cond, false, neg_ℤ, take, ◌+ℤ◌}
use Rattle.std.proofs.lemmas.Int.{ints}
use Rattle.std.proofs.lemmas.List.{take_all, take_more}
use Rattle.metric_values.specs.Numbers.{clip}
use Rattle.row_kernels.specs.Gathers.{count_there, sum_there}

count_behind : (bs : List Bool) (b : Bool) → count_there (bs ++ b ∷ []) ≡ count_there bs +ℤ cond b (pos 1) (pos 0)
count_behind [] b = omega (arith, ints)
count_behind (c ∷ bs) b = omega (arith, ints, count_behind bs b)

pub count_more : (bs : List Bool) (j : ℕ) → j < length bs → count_there (take (j + 1) bs) ≡ count_there (take j bs) +ℤ cond (get_or bs j false) (pos 1) (pos 0)
count_more bs j h = ap count_there (take_more bs j false h) ∙ count_behind (take j bs) (get_or bs j false)

sum_behind : (lo hi : ℤ) (zs : List ℤ) (bs : List Bool) (z : ℤ) (b : Bool) → length zs ≡ length bs
    → sum_there lo hi (zs ++ z ∷ []) (bs ++ b ∷ []) ≡ sum_there lo hi zs bs +ℤ cond b (clip lo hi z) (pos 0)
sum_behind lo hi [] [] z b e = omega (arith, ints)
sum_behind lo hi [] (c ∷ bs) z b e = absurd (omega (arith, e))
sum_behind lo hi (y ∷ zs) [] z b e = absurd (omega (arith, e))
sum_behind lo hi (y ∷ zs) (c ∷ bs) z b e = omega (arith, ints, sum_behind lo hi zs bs z b (omega (arith, e)))

-- the sum of the first ones, so far within what as many numbers of 64 bits can come to
pub record PartSum (lo hi : ℤ) (zs : List ℤ) (bs : List Bool) (n : ℕ) (total : ℤ) : Type 0 where
  pub is : total ≡ sum_there lo hi (take n zs) (take n bs)
  pub low : neg_ℤ (pos (n * 9223372036854775808)) ≤ℤ total
  pub high : total ≤ℤ pos (n * 9223372036854775808)

pub part_none : (lo hi : ℤ) (zs : List ℤ) (bs : List Bool) → PartSum lo hi zs bs 0 (pos 0)
part_none lo hi zs bs = record { is = refl; low = omega (arith, ints); high = omega (arith, ints) }

length_take : {X : Type 0} (xs : List X) (n : ℕ) → n ≤ length xs → length (take n xs) ≡ n
length_take [] zero h = refl
length_take [] (suc n) h = absurd (omega (arith, h))
length_take (x ∷ xs) zero h = refl
length_take (x ∷ xs) (suc n) h = ap suc (length_take xs n (omega (arith, h)))

pub part_more : (lo hi : ℤ) (zs : List ℤ) (bs : List Bool) (j : ℕ) → length zs ≡ length bs → j < length zs
    → {total more : ℤ} (here : ℤ) → PartSum lo hi zs bs j total → here ≡ cond (get_or bs j false) (clip lo hi (get_or zs j (pos 0))) (pos 0)
    → neg_ℤ (pos 9223372036854775808) ≤ℤ here → here ≤ℤ pos 9223372036854775807 → more ≡ total +ℤ here → PartSum lo hi zs bs (j + 1) more
part_more lo hi zs bs j e h here s is low high m =
    let l : j < length bs = omega (arith, h, e) in
    let even : length (take j zs) ≡ length (take j bs) = length_take zs j (omega (arith, h)) ∙ sym (length_take bs j (omega (arith, l))) in
    record {
      is =
          m ∙ (λ i. s.is i +ℤ is i) ∙ sym (sum_behind lo hi (take j zs) (take j bs) (get_or zs j (pos 0)) (get_or bs j false) even)
          ∙ sym (λ i. sum_there lo hi (take_more zs j (pos 0) h i) (take_more bs j false l i));
      low = omega (arith, ints, s.low, low, m);
      high = omega (arith, ints, s.high, high, m);
    }

pub part_all : (lo hi : ℤ) (zs : List ℤ) (bs : List Bool) (j : ℕ) {total : ℤ} → length zs ≡ length bs → length zs ≤ j → PartSum lo hi zs bs j total → total ≡ sum_there lo hi zs bs
part_all lo hi zs bs j e h s =
    s.is ∙ (λ i. sum_there lo hi (take_all j zs h i) (take_all j bs (omega (arith, e, h)) i))
