-- One element more of a list, of what is kept of it, and of what is left.
use Rattle.std.proofs.Common.{◌≡◌, ℕ, zero, suc, ◌+◌, ◌*◌, ◌<◌, List, [], ◌∷◌, ◌++◌, length, refl, ap, sym, subst, ◌∙◌, arith}
use Rattle.std.specs.List.{AllZip, range_with_len}
use Rattle.std.specs.Prelude.{Bool, map, Err, IfOk, Ok, Result, Some, slice_get, true, false, ℤ, pos, neg_ℤ, ◌+ℤ◌, ◌≤ℤ◌}
use Rattle.std.proofs.lemmas.Int.{clamps, ints}
use Rattle.std.proofs.lemmas.Option.{same_Some}
use Rattle.std.proofs.slice.Lists.{all_zipped_more}
use Rattle.metric_values.specs.Numbers.{clip, clipped_sum}
use Rattle.bag_ops.specs.Bags.{AreElements, IsFilter, IsSplit, picked, others}

range_more : (a n : ℕ) → range_with_len a (n + 1) ≡ range_with_len a n ++ (a + n) ∷ []
range_more a n = go a n (omega arith)
  where
    go : (a n : ℕ) {m : ℕ} → m ≡ suc n → range_with_len a m ≡ range_with_len a n ++ (a + n) ∷ []
    go a zero e = rw e (let k : a + 0 ≡ a = omega arith in rw k refl)
    go a (suc n) e = rw e (let k : a + suc n ≡ (a + 1) + n = omega arith in rw k (ap (λ xs. a ∷ xs) (go (a + 1) n refl)))

module _ {X : Type 0} (E : ℕ → X → Type 0) where
  pub elements_none : AreElements E 0 []
  elements_none = tt

  pub elements_more : (n : ℕ) (xs : List X) (x : X) → AreElements E n xs → E n x → AreElements E (n + 1) (xs ++ x ∷ [])
  elements_more n xs x h e = subst (λ ns. AllZip E ns (xs ++ x ∷ [])) (sym (range_more 0 n ∙ ap (λ m. range_with_len 0 n ++ m ∷ []) (omega arith))) (all_zipped_more E (range_with_len 0 n) xs n x h e)

module _ {X : Type 0} (P : X → Bool → Type 0) where
  kept_more : (xs : List X) (bs : List Bool) (x : X) (b : Bool) → AllZip P xs bs → picked (xs ++ x ∷ []) (bs ++ b ∷ []) ≡ picked xs bs ++ picked (x ∷ []) (b ∷ [])
  kept_more [] [] x b h = refl
  kept_more [] (c ∷ bs) x b h = absurd h
  kept_more (y ∷ xs) [] x b h = absurd h
  kept_more (y ∷ xs) (true ∷ bs) x b h = ap (λ zs. y ∷ zs) (kept_more xs bs x b h.1)
  kept_more (y ∷ xs) (false ∷ bs) x b h = kept_more xs bs x b h.1

  others_more : (xs : List X) (bs : List Bool) (x : X) (b : Bool) → AllZip P xs bs → others (xs ++ x ∷ []) (bs ++ b ∷ []) ≡ others xs bs ++ others (x ∷ []) (b ∷ [])
  others_more [] [] x b h = refl
  others_more [] (c ∷ bs) x b h = absurd h
  others_more (y ∷ xs) [] x b h = absurd h
  others_more (y ∷ xs) (true ∷ bs) x b h = others_more xs bs x b h.1
  others_more (y ∷ xs) (false ∷ bs) x b h = ap (λ zs. y ∷ zs) (others_more xs bs x b h.1)

  pub filter_none : IsFilter P [] []
  filter_none = ([], tt, refl)

  pub filter_more : (xs ys more : List X) (x : X) (b : Bool) → IsFilter P xs ys → P x b → more ≡ ys ++ picked (x ∷ []) (b ∷ []) → IsFilter P (xs ++ x ∷ []) more
  filter_more xs ys more x b h p e =
      (h.0 ++ b ∷ [], all_zipped_more P xs h.0 x b h.1 p, e ∙ ap (λ zs. zs ++ picked (x ∷ []) (b ∷ [])) h.2 ∙ sym (kept_more xs h.0 x b h.1))

  pub split_none : IsSplit P [] [] []
  split_none = ([], tt, refl, refl)

  pub split_more : (xs ys zs us ws : List X) (x : X) (b : Bool) → IsSplit P xs ys zs → P x b
      → us ≡ ys ++ picked (x ∷ []) (b ∷ []) → ws ≡ zs ++ others (x ∷ []) (b ∷ []) → IsSplit P (xs ++ x ∷ []) us ws
  split_more xs ys zs us ws x b h p e f = (
    h.0 ++ b ∷ [],
    all_zipped_more P xs h.0 x b h.1 p,
    e ∙ ap (λ vs. vs ++ picked (x ∷ []) (b ∷ [])) h.2 ∙ sym (kept_more xs h.0 x b h.1),
    f ∙ ap (λ vs. vs ++ others (x ∷ []) (b ∷ [])) h.3 ∙ sym (others_more xs h.0 x b h.1),
  )

-- the sum, so far within what as many numbers of 64 bits can come to
pub record Summed (E : ℕ → ℤ → Type 0) (lo hi : ℤ) (n : ℕ) (total : ℤ) : Type 0 where
  pub numbers : List ℤ
  pub are : AreElements E n numbers
  pub is : total ≡ clipped_sum lo hi numbers
  pub low : neg_ℤ (pos (n * 9223372036854775808)) ≤ℤ total
  pub high : total ≤ℤ pos (n * 9223372036854775808)

sum_more : (lo hi : ℤ) (zs : List ℤ) (z : ℤ) → clipped_sum lo hi (zs ++ z ∷ []) ≡ (clipped_sum lo hi zs +ℤ clip lo hi z)
sum_more lo hi [] z = omega (arith, ints)
sum_more lo hi (y ∷ zs) z = omega (arith, ints, sum_more lo hi zs z)

pub summed_none : (E : ℕ → ℤ → Type 0) (lo hi : ℤ) → Summed E lo hi 0 (pos 0)
summed_none E lo hi = record { numbers = []; are = tt; is = refl; low = omega (arith, ints); high = omega (arith, ints) }

pub summed_more : (E : ℕ → ℤ → Type 0) (lo hi : ℤ) (n : ℕ) (total here more : ℤ) (z : ℤ) → Summed E lo hi n total → E n z → here ≡ clip lo hi z
    → neg_ℤ (pos 9223372036854775808) ≤ℤ lo → lo ≤ℤ pos 9223372036854775807 → hi ≤ℤ pos 9223372036854775807 → more ≡ (total +ℤ here) → Summed E lo hi (n + 1) more
summed_more E lo hi n total here more z s e h a b d g =
    let low : neg_ℤ (pos 9223372036854775808) ≤ℤ clip lo hi z = omega (arith, ints, clamps, a) in
    let high : clip lo hi z ≤ℤ pos 9223372036854775807 = omega (arith, ints, clamps, b, d) in
    record {
      numbers = s.numbers ++ z ∷ [];
      are = elements_more E n s.numbers z s.are e;
      is = omega (arith, ints, s.is, h, g, sum_more lo hi s.numbers z);
      low = omega (arith, ints, s.low, h, low, g);
      high = omega (arith, ints, s.high, h, high, g);
    }

-- places that give a list's elements give the list
given_from : {X : Type 0} (E : ℕ → X → Type 0) (a : ℕ) (ys xs : List X) → ((i : ℕ) (x : X) → i < length ys → E (a + i) x → slice_get ys i ≡ Some x)
    → AllZip E (range_with_len a (length ys)) xs → xs ≡ ys
given_from E a [] [] f h = refl
given_from E a [] (x ∷ xs) f h = absurd h
given_from E a (y ∷ ys) [] f h = absurd h
given_from {X} E a (y ∷ ys) (x ∷ xs) f h =
    let here : a + 0 ≡ a = omega arith in
    let first : x ≡ y = sym (same_Some y x (f 0 x (omega arith) (subst (λ (j : ℕ). E j x) (sym here) h.0))) in
    let rest : xs ≡ ys = given_from E (a + 1) ys xs (λ i z l e. f (suc i) z (omega arith) (let k : (a + 1) + i ≡ a + suc i = omega arith in subst (λ (j : ℕ). E j z) k e)) h.1 in
    ap (λ z. z ∷ xs) first ∙ ap (λ zs. y ∷ zs) rest

pub given_list : {X : Type 0} (E : ℕ → X → Type 0) (ys xs : List X) → ((i : ℕ) (x : X) → i < length ys → E i x → slice_get ys i ≡ Some x)
    → AreElements E (length ys) xs → xs ≡ ys
given_list E ys xs f h = given_from E 0 ys xs (λ i x l e. f i x l (let k : 0 + i ≡ i = omega arith in subst (λ (j : ℕ). E j x) k e)) h

-- a result's value has what follows from what it has
pub if_ok : {A E : Type 0} (r : Result A E) (P Q : A → Type 0) → IfOk r P → ((v : A) → P v → Q v) → IfOk r Q
if_ok (Ok v) P Q h f = f v h
if_ok (Err e) P Q h f = tt

pub map_length : {X Y : Type 0} (f : X → Y) (xs : List X) → length (map f xs) ≡ length xs
map_length f [] = refl
map_length f (x ∷ xs) = ap suc (map_length f xs)

pub given_map : {X Y : Type 0} (E : ℕ → Y → Type 0) (f : X → Y) (ys : List X) (zs : List Y) → ((i : ℕ) (z : Y) → i < length ys → E i z → slice_get (map f ys) i ≡ Some z)
    → AreElements E (length ys) zs → zs ≡ map f ys
given_map E f ys zs g h =
    let n = map_length f ys in
    given_list E (map f ys) zs (λ i z l e. g i z (omega (arith, l, n)) e) (subst (λ (n : ℕ). AreElements E n zs) (sym n) h)
