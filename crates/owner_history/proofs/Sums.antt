-- Charges times distances, added up: by charge, and by view.
use Rattle.std.proofs.Common.{◌≡◌, ℕ, zero, suc, ◌+◌, ◌*◌, ◌≤◌, ◌<◌, max, Bool, true, List, [], ◌∷◌, sum_by, refl, ap, arith, if◌then◌else◌, ◌⊎◌, inl, inr, ⊎_elim}
use Rattle.std.proofs.Math.Nat.{mul-le-mul}
use Rattle.std.proofs.lemmas.Bool.{cases_eq, cases_lt, eq-eqb}
use Rattle.std.proofs.lemmas.List.Sums.{sum_by-cons}
use Rattle.partition_charge.specs.declared.view.View.{View}
use Rattle.partition_charge.specs.declared.view.View.TheVariants.{Whole, Part}
use Rattle.partition_charge.specs.Views.{same_view}
use Rattle.partition_charge.specs.Cost.{Charge, charged_to, charges_of, total_below}

-- ---- sums

total-le : (n : ℕ) (f g : ℕ → ℕ) → ((k : ℕ) → f k ≤ g k) → total_below n f ≤ total_below n g
total-le zero f g below = omega arith
total-le (suc n) f g below = omega (arith, total-le n f g below, below n)

-- a sum grows by what one of its numbers grows by, and the others don't fall
total-more : (n : ℕ) (f g : ℕ → ℕ) (a j : ℕ) → j < n → ((k : ℕ) → f k ≤ g k) → f j + a ≤ g j → total_below n f + a ≤ total_below n g
total-more zero f g a j lt below more = absurd (omega arith)
total-more (suc n) f g a j lt below more = ⊎_elim
    (λ is. let here : f j ≡ f n = ap f is in let there : g j ≡ g n = ap g is in omega (arith, total-le n f g below))
    (λ isnt. omega (arith, total-more n f g a j (omega arith) below more, below n))
    (cases_eq j n)

-- the greatest of f 0 to f (n - 1)
abbrev pub greatest_below : ℕ → (ℕ → ℕ) → ℕ
greatest_below zero f = 0
greatest_below (suc n) f = max (greatest_below n f) (f n)

-- the greatest times the sum covers the sum of products
pub total-weighed : (n : ℕ) (c far : ℕ → ℕ) → total_below n (λ j. c j * far j) ≤ greatest_below n c * total_below n far
total-weighed zero c far = omega arith
total-weighed (suc n) c far = both (total_below n (λ j. c j * far j)) (greatest_below n c) (total_below n far) (c n) (far n) (total-weighed n c far)
  where
    both : (s g t a f : ℕ) → s ≤ g * t → s + a * f ≤ max g a * (t + f)
    both s g t a f h =
        let old : g * t ≤ max g a * t = mul-le-mul (omega arith) (omega arith) in
        let new : a * f ≤ max g a * f = mul-le-mul (omega arith) (omega arith) in
        let apart : max g a * (t + f) ≡ max g a * t + max g a * f = split (max g a) t f in
        omega (arith, h, old, new, apart)
      where
        split : (m t f : ℕ) → m * (t + f) ≡ m * t + m * f
        split m t f = omega arith

-- a common factor that covers each
pub total-covered : (n A : ℕ) (s c : ℕ → ℕ) → ((k : ℕ) → s k ≤ c k * A) → total_below n s ≤ total_below n c * A
total-covered zero A s c each = omega arith
total-covered (suc n) A s c each = both (total_below n s) (total_below n c) (s n) (c n) (total-covered n A s c each) (each n)
  where
    both : (s c t d : ℕ) → s ≤ c * A → t ≤ d * A → s + t ≤ (c + d) * A
    both s c t d h k = omega (arith, h, k)

-- ---- charges

-- a view's charges with one more in front
charges-cons : (view : View) (charge : Charge) (charges : List Charge) → charges_of view (charge ∷ charges) ≡ charged_to view charge + charges_of view charges
charges-cons view charge charges = sum_by-cons (charged_to view) charge charges

to-part : (p j amount : ℕ) → charged_to (Part p j) (record { view = Part p j; amount = amount }) ≡ amount
to-part p j amount = ap (λ (b : Bool). if b then amount else 0) (itself p j)
  where
    itself : (p j : ℕ) → same_view (Part p j) (Part p j) ≡ true
    itself p j = cc (eq-eqb p p refl, eq-eqb j j refl)

-- each charge times how far two datasets are apart in its view, added up
abbrev pub weighed : (far : View → ℕ) → List Charge → ℕ
weighed far charges = sum_by (λ (charge : Charge). charge.amount * far charge.view) charges

pub weighed-cons : (far : View → ℕ) (charge : Charge) (charges : List Charge) → weighed far (charge ∷ charges) ≡ charge.amount * far charge.view + weighed far charges
weighed-cons far charge charges = sum_by-cons (λ (c : Charge). c.amount * far c.view) charge charges

-- How far two datasets are apart in each view, where there are n partitions of m parts: in the whole at most A, in the parts
-- of a partition together at most A, and in any other view not at all.
pub record IsSpread (n m A : ℕ) (far : View → ℕ) : Type 0 where
  pub whole : far Whole ≤ A
  pub parts : (p : ℕ) → total_below m (λ j. far (Part p j)) ≤ A
  pub past : (p j : ℕ) → n ≤ p → far (Part p j) ≡ 0
  pub beyond : (p j : ℕ) → m ≤ j → far (Part p j) ≡ 0

module _ (n m : ℕ) (far : View → ℕ) where
  -- what the charges of a view are times the distance in it
  abbrev of_view : List Charge → View → ℕ
  of_view charges view = charges_of view charges * far view

  abbrev of_partition : List Charge → ℕ → ℕ
  of_partition charges p = total_below m (λ j. of_view charges (Part p j))

  -- the same added up by view
  abbrev pub by_view : List Charge → ℕ
  by_view charges = of_view charges Whole + total_below n (of_partition charges)

  view-grows : (charge : Charge) (charges : List Charge) (view : View) → of_view charges view + charged_to view charge * far view ≡ of_view (charge ∷ charges) view
  view-grows charge charges view = spread (charges_of view (charge ∷ charges)) (charged_to view charge) (charges_of view charges) (far view) (charges-cons view charge charges)
    where
      spread : (all a rest f : ℕ) → all ≡ a + rest → rest * f + a * f ≡ all * f
      spread all a rest f is = rw is (omega arith)

  view-le : (charge : Charge) (charges : List Charge) (view : View) → of_view charges view ≤ of_view (charge ∷ charges) view
  view-le charge charges view = let grows = view-grows charge charges view in omega (arith, grows)

  partition-le : (charge : Charge) (charges : List Charge) (p : ℕ) → of_partition charges p ≤ of_partition (charge ∷ charges) p
  partition-le charge charges p = total-le m (λ j. of_view charges (Part p j)) (λ j. of_view (charge ∷ charges) (Part p j)) (λ j. view-le charge charges (Part p j))

  parts-le : (charge : Charge) (charges : List Charge) → total_below n (of_partition charges) ≤ total_below n (of_partition (charge ∷ charges))
  parts-le charge charges = total-le n (of_partition charges) (of_partition (charge ∷ charges)) (partition-le charge charges)

  part-more : (p j amount : ℕ) (charges : List Charge) → p < n → j < m
      → total_below n (of_partition charges) + amount * far (Part p j) ≤ total_below n (of_partition (record { view = Part p j; amount = amount } ∷ charges))
  part-more p j amount charges p_in j_in =
      let charge : Charge = record { view = Part p j; amount = amount } in
      let grows : of_view charges (Part p j) + charged_to (Part p j) charge * far (Part p j) ≡ of_view (charge ∷ charges) (Part p j) = view-grows charge charges (Part p j) in
      let by : charged_to (Part p j) charge * far (Part p j) ≡ amount * far (Part p j) = ap (λ a. a * far (Part p j)) (to-part p j amount) in
      total-more n (of_partition charges) (of_partition (charge ∷ charges)) (amount * far (Part p j)) p p_in (partition-le charge charges)
      (total-more m (λ i. of_view charges (Part p i)) (λ i. of_view (charge ∷ charges) (Part p i)) (amount * far (Part p j)) j j_in
      (λ i. view-le charge charges (Part p i)) (omega (arith, grows, by)))

  module _ (A : ℕ) (spread : IsSpread n m A far) where
    one-more : (view : View) (amount : ℕ) (charges : List Charge) → amount * far view + by_view charges ≤ by_view (record { view = view; amount = amount } ∷ charges)
    one-more Whole amount charges =
        let charge : Charge = record { view = Whole; amount = amount } in
        let grows : of_view charges Whole + amount * far Whole ≡ of_view (charge ∷ charges) Whole = view-grows charge charges Whole in
        let parts : total_below n (of_partition charges) ≤ total_below n (of_partition (charge ∷ charges)) = parts-le charge charges in
        omega (arith, grows, parts)
    one-more (Part p j) amount charges = here (cases_lt p n) (cases_lt j m)
      where
        whole : of_view charges Whole ≤ of_view (record { view = Part p j; amount = amount } ∷ charges) Whole
        whole = view-le (record { view = Part p j; amount = amount }) charges Whole

        -- in a view that isn't there nothing is apart
        nowhere : far (Part p j) ≡ 0 → amount * far (Part p j) + by_view charges ≤ by_view (record { view = Part p j; amount = amount } ∷ charges)
        nowhere none =
            let nothing : amount * far (Part p j) ≡ 0 = rw none (omega arith) in
            let parts = parts-le (record { view = Part p j; amount = amount }) charges in
            omega (arith, nothing, parts, whole)

        here : (p < n) ⊎ (n ≤ p) → (j < m) ⊎ (m ≤ j) → amount * far (Part p j) + by_view charges ≤ by_view (record { view = Part p j; amount = amount } ∷ charges)
        here (inr past) _ = nowhere (spread.past p j past)
        here (inl p_in) (inr beyond) = nowhere (spread.beyond p j beyond)
        here (inl p_in) (inl j_in) = let parts = part-more p j amount charges p_in j_in in omega (arith, parts, whole)

    -- by charge is at most by view
    weighed-by-view : (charges : List Charge) → weighed far charges ≤ by_view charges
    weighed-by-view [] = omega arith
    weighed-by-view (charge ∷ charges) =
        let first : weighed far (charge ∷ charges) ≡ charge.amount * far charge.view + weighed far charges = weighed-cons far charge charges in
        let more = one-more charge.view charge.amount charges in
        omega (arith, first, more, weighed-by-view charges)

    -- the dearest part's charges, times how far the parts of the partition are apart together
    partition-within : (charges : List Charge) (p dearest : ℕ) → greatest_below m (λ j. charges_of (Part p j) charges) ≤ dearest → of_partition charges p ≤ dearest * A
    partition-within charges p dearest most =
        let each : of_partition charges p ≤ greatest_below m (λ j. charges_of (Part p j) charges) * total_below m (λ j. far (Part p j))
        = total-weighed m (λ j. charges_of (Part p j) charges) (λ j. far (Part p j)) in
        let together : greatest_below m (λ j. charges_of (Part p j) charges) * total_below m (λ j. far (Part p j)) ≤ dearest * A = mul-le-mul most (spread.parts p) in
        omega (arith, each, together)

    -- Charges times distances are at most what the whole is charged and what each partition's dearest part is, times A.
    pub weighed-within : (charges : List Charge) (dearest : ℕ → ℕ) → ((p : ℕ) → greatest_below m (λ j. charges_of (Part p j) charges) ≤ dearest p)
        → weighed far charges ≤ (charges_of Whole charges + total_below n dearest) * A
    weighed-within charges dearest most =
        let whole : of_view charges Whole ≤ charges_of Whole charges * A = mul-le-mul (omega arith) spread.whole in
        let parts : total_below n (of_partition charges) ≤ total_below n dearest * A
        = total-covered n A (of_partition charges) dearest (λ p. partition-within charges p (dearest p) (most p)) in
        both (charges_of Whole charges) (total_below n dearest) (of_view charges Whole) (total_below n (of_partition charges)) (weighed far charges) (weighed-by-view charges) whole parts
      where
        both : (c d s t w : ℕ) → w ≤ s + t → s ≤ c * A → t ≤ d * A → w ≤ (c + d) * A
        both c d s t w h k l = omega (arith, h, k, l)
