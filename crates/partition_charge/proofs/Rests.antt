-- What is left where something is given back.
use Rattle.std.proofs.Common.{◌≡◌, ℕ, Bool, if◌then◌else◌, ◌+◌, ◌-◌, ◌<◌, ◌≤◌, List, [], ◌∷◌, ◌++◌, length, set, sym, ◌∙◌, ap, subst, arith, ⊎_elim, Some, slice_get, Vec, Global, length-set}
use Rattle.std.proofs.lemmas.Bool.{cases_eq, eq-eqb}
use Rattle.partition_charge.specs.declared.parts.PartSum.{PartSum}
use Rattle.partition_charge.specs.declared.parts.Parts.{Parts}
use Rattle.partition_charge.specs.declared.costs.Costs.{Costs}
use Rattle.partition_charge.specs.declared.view.View.{View}
use Rattle.partition_charge.specs.declared.view.View.TheVariants.{Whole, Part}
use Rattle.partition_charge.specs.Views.{IsView, partition_range, part_limit}
use Rattle.partition_charge.specs.Cost.{Charge, charges_of, partition_cost, cost_of_charges}
use Rattle.partition_charge.specs.Parts.{sum_of, sum_without, HasPut}
use Rattle.partition_charge.specs.Totals.{AreTotalsOf, HasSums, IsRest}
use Rattle.partition_charge.proofs.Charges.{charges-append, dearest-at, dearest-le, same-partition, same-cost, whole-cost, part-at, part-other, part-elsewhere, part-partition, part-cost, whole-part, view-within, same-self}
use Rattle.partition_charge.proofs.Standing.{set-get}
use Rattle.partition_charge.proofs.Sums.{other-test}

module _ (charges rest : List Charge) (view : View) (amount : ℕ) (is : IsRest charges view amount rest) where
  -- With what was given back each view is charged as before.
  pub with-rest : (other : View) → charges_of other (rest ++ record { view = view; amount = amount } ∷ []) ≡ charges_of other charges
  with-rest other = charges-append other rest (record { view = view; amount = amount }) ∙ is other

  pub cost-with-rest : cost_of_charges (rest ++ record { view = view; amount = amount } ∷ []) ≡ cost_of_charges charges
  cost-with-rest = same-cost charges (rest ++ record { view = view; amount = amount } ∷ []) with-rest

  -- The view was charged what was given back.
  pub rest-charged : amount ≤ charges_of view charges
  rest-charged = omega (arith, is view, ap (λ (b : Bool). if b then amount else 0) (same-self view))

-- ---- from the whole

module _ (charges rest : List Charge) (amount : ℕ) (is : IsRest charges Whole amount rest) where
  rest-whole-cost : cost_of_charges rest + amount ≡ cost_of_charges charges
  rest-whole-cost = sym (whole-cost rest amount) ∙ cost-with-rest charges rest Whole amount is

  same-part : (p j : ℕ) → charges_of (Part p j) rest ≡ charges_of (Part p j) charges
  same-part p j = sym (whole-part rest amount p j) ∙ with-rest charges rest Whole amount is (Part p j)

  rest-whole-sums : (p : ℕ) (parts : Parts) → HasSums charges p parts → HasSums rest p parts
  rest-whole-sums p parts has = record {
    ordered = has.ordered;
    sums = λ j. has.sums j ∙ sym (same-part p j);
    greatest = has.greatest ∙ sym (same-partition charges rest p (same-part p));
  }

-- ---- from a part

module _ (charges rest : List Charge) (amount p j : ℕ) (is : IsRest charges (Part p j) amount rest) where
  lowered-at : charges_of (Part p j) rest + amount ≡ charges_of (Part p j) charges
  lowered-at = sym (part-at rest amount p j) ∙ with-rest charges rest (Part p j) amount is (Part p j)

  lowered-other : (i : ℕ) → (i ≡ j → ⊥) → charges_of (Part p i) rest ≡ charges_of (Part p i) charges
  lowered-other i isnt = sym (part-other rest amount p j i isnt) ∙ with-rest charges rest (Part p j) amount is (Part p i)

  lowered-elsewhere : (q i : ℕ) → (q ≡ p → ⊥) → charges_of (Part q i) rest ≡ charges_of (Part q i) charges
  lowered-elsewhere q i isnt = sym (part-elsewhere rest amount p j q i isnt) ∙ with-rest charges rest (Part p j) amount is (Part q i)

  -- the cost by the partition's, before and now
  rest-part-cost : p < partition_range → cost_of_charges rest + (partition_cost charges p - partition_cost rest p) ≡ cost_of_charges charges
  rest-part-cost lt =
      let whole : cost_of_charges charges ≡ cost_of_charges rest + (charges_of (Part p j) rest + amount - partition_cost rest p)
      = sym (cost-with-rest charges rest (Part p j) amount is) ∙ part-cost rest amount p j lt in
      let greatest : partition_cost charges p ≡ partition_cost (rest ++ record { view = Part p j; amount = amount } ∷ []) p
      = sym (same-partition charges (rest ++ record { view = Part p j; amount = amount } ∷ []) p (λ i. with-rest charges rest (Part p j) amount is (Part p i))) in
      omega (arith, whole, greatest, part-partition rest amount p j)

  -- each sum without what was taken is what is left
  without-is : (sums : List PartSum) → ((k : ℕ) → sum_of sums k ≡ charges_of (Part p k) charges) → (k : ℕ) → sum_without sums j amount k ≡ charges_of (Part p k) rest
  without-is sums has k = ⊎_elim
      (λ same.
      let now : charges_of (Part p k) rest ≡ charges_of (Part p j) rest = ap (λ (n : ℕ). charges_of (Part p n) rest) same in
      let old : charges_of (Part p k) charges ≡ charges_of (Part p j) charges = ap (λ (n : ℕ). charges_of (Part p n) charges) same in
      ap (λ (b : Bool). sum_of sums k - (if b then amount else 0)) (eq-eqb k j same) ∙ omega (arith, now, old, has k, lowered-at))
      (λ other. ap (λ (b : Bool). sum_of sums k - (if b then amount else 0)) (other-test k j (λ same. other (sym same))) ∙ omega (arith, has k, lowered-other k other))
      (cases_eq k j)

  -- and the greatest of them is what the partition costs then
  rest-greatest : (sums : List PartSum) (greatest : ℕ) → ((k : ℕ) → sum_of sums k ≡ charges_of (Part p k) charges)
      → ((k : ℕ) → sum_without sums j amount k ≤ greatest)
      → ((bound : ℕ) → ((k : ℕ) → sum_without sums j amount k ≤ bound) → greatest ≤ bound) → greatest ≡ partition_cost rest p
  rest-greatest sums greatest has most least =
      let up : greatest ≤ partition_cost rest p = least (partition_cost rest p) (λ k. omega (arith, without-is sums has k, dearest-at rest p k)) in
      let down : partition_cost rest p ≤ greatest = dearest-le rest p greatest (λ k. omega (arith, without-is sums has k, most k)) in
      omega (arith, up, down)

  rest-part-sums : (old new : Parts) → HasSums charges p old → HasPut old j (sum_of old.sums.items j - amount) new → new.greatest ≡ partition_cost rest p → HasSums rest p new
  rest-part-sums old new has put greatest = record {
    ordered = put.ordered;
    sums = λ k. ⊎_elim
        (λ same. ap (sum_of new.sums.items) same ∙ put.this ∙ omega (arith, has.sums j, lowered-at) ∙ ap (λ (n : ℕ). charges_of (Part p n) rest) (sym same))
        (λ other. put.others k other ∙ has.sums k ∙ sym (lowered-other k other))
        (cases_eq k j);
    greatest = greatest;
  }

  rest-elsewhere-sums : (q : ℕ) (parts : Parts) → (q ≡ p → ⊥) → HasSums charges q parts → HasSums rest q parts
  rest-elsewhere-sums q parts isnt has = record {
    ordered = has.ordered;
    sums = λ i. has.sums i ∙ sym (lowered-elsewhere q i isnt);
    greatest = has.greatest ∙ sym (same-partition charges rest q (λ i. lowered-elsewhere q i isnt));
  }

-- ---- where the view is given

module _ (charges rest : List Charge) (view : View) (amount : ℕ) (is : IsRest charges view amount rest) where
  pub cost-back-whole : view ≡ Whole → cost_of_charges rest + amount ≡ cost_of_charges charges
  cost-back-whole whole = rest-whole-cost charges rest amount (subst (λ (v : View). IsRest charges v amount rest) whole is)

  module _ (p j : ℕ) (valid : IsView view) (part : view ≡ Part p j) where
    at : IsRest charges (Part p j) amount rest
    at = subst (λ (v : View). IsRest charges v amount rest) part is

    within : (p < partition_range) × (j < part_limit)
    within = view-within charges view amount p j valid part

    pub cost-back-part : cost_of_charges rest + (partition_cost charges p - partition_cost rest p) ≡ cost_of_charges charges
    cost-back-part = rest-part-cost charges rest amount p j at within.0

    pub greatest-back-part : (sums : List PartSum) (greatest : ℕ) → ((k : ℕ) → sum_of sums k ≡ charges_of (Part p k) charges)
        → ((k : ℕ) → sum_without sums j amount k ≤ greatest)
        → ((bound : ℕ) → ((k : ℕ) → sum_without sums j amount k ≤ bound) → greatest ≤ bound) → greatest ≡ partition_cost rest p
    greatest-back-part sums greatest has most least = rest-greatest charges rest amount p j at sums greatest has most least

    pub sums-back-part : (old new : Parts) → HasSums charges p old → HasPut old j (sum_of old.sums.items j - amount) new → new.greatest ≡ partition_cost rest p
        → HasSums rest p new
    sums-back-part old new has put greatest = rest-part-sums charges rest amount p j at old new has put greatest

  module _ (costs : Costs) (spent : ℕ) (stands : AreTotalsOf costs charges) (now : spent ≡ cost_of_charges rest) where
    pub back-whole : view ≡ Whole → AreTotalsOf (record { spent = spent; partitions = costs.partitions }) rest
    back-whole whole = record {
      spent = now;
      count = stands.count;
      partitions = λ p parts found. rest-whole-sums charges rest amount (subst (λ (v : View). IsRest charges v amount rest) whole is) p parts (stands.partitions p parts found);
    }

    pub back-part : (p j : ℕ) (new : Parts) (partitions : Vec Parts Global) → view ≡ Part p j → partitions.items ≡ set costs.partitions.items p new → HasSums rest p new
        → AreTotalsOf (record { spent = spent; partitions = partitions }) rest
    back-part p j new partitions part items has = record {
      spent = now;
      count = ap length items ∙ length-set costs.partitions.items p new ∙ stands.count;
      partitions = λ q parts found. ⊎_elim
          (λ here. subst (λ (x : Parts). HasSums rest q x) here.1 (subst (λ (n : ℕ). HasSums rest n new) (sym here.0) has))
          (λ there. rest-elsewhere-sums charges rest amount p j (subst (λ (v : View). IsRest charges v amount rest) part is) q parts there.0 (stands.partitions q parts there.1))
          (set-get costs.partitions.items p q new parts (subst (λ (xs : List Parts). slice_get xs q ≡ Some parts) items found));
    }
