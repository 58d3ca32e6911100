-- Elements on their way through stages at work, and what is made of them.
use Rattle.std.proofs.Common.{◌≡◌, ℕ, zero, suc, ◌<◌, ◌≤◌, ◌+◌, ℤ, List, [], ◌∷◌, ◌++◌, Bool, true, false, Option, Some, None, length, get_or, refl, ap, sym, subst, ◌∙◌, arith, inl, inr}
use Rattle.std.specs.Prelude.{cond, drop, slice_set, take, ◌+ℤ◌}
use Rattle.std.proofs.lemmas.List.{drop_all, drop_more, take_all, take_more}
use Rattle.row_kernels.specs.Flows.{IsFlatTotal}
use Rattle.flow_values.proofs.Stranded.{flow_more, strand_of}
use Rattle.metric_values.specs.Values.{Flat, Value, truth, value_of}
use Rattle.run_values.specs.Flats.{IsFlat, flat_of}
use Rattle.run_values.specs.Parts.{IsNum, IsSum}
use Rattle.flow_values.specs.Steps.{AllGo, Goes, Step, all_through, listed, stepped, through}
use Rattle.metric_law.specs.Means.{Applies, MeansIn}
use Rattle.metric_values.specs.Cells.{row_at}
use Rattle.metric_values.specs.Values.{BangV}
use Rattle.run_values.proofs.Bags.{flat_of_value}
use Rattle.flow_values.specs.Computed.{agree, applied, computed, given, is_true}
use Rattle.flow_values.specs.Steps.{IsAnswer, outcome}
use Rattle.flow_values.specs.Strands.{IsLaidOut}
use Rattle.flow_values.specs.Views.{IsFlow, flow_of, steps_of}
use Rattle.flow_values.specs.declared.stages.Branch.{Branch}
use Rattle.flow_values.specs.declared.value.Strand.{Strand}
use Rattle.flow_values.proofs.Computed.{applies_computed}
use Rattle.row_kernels.specs.declared.gather.Gather.{Gather}
use Rattle.row_kernels.specs.declared.gather.Gather.TheVariants.{Size, Sum}
use Rattle.row_kernels.specs.Gathers.{AllWeighed, IsWeighed, gathered, weigh_some}
use Rattle.row_kernels.proofs.Gathered.{gathered_both, go_at, row_more, weighed_left, weighed_right}
use Rattle.fuzz_eval.specs.declared.workers.Worker.{Worker}
use Rattle.fuzz_eval.specs.Steps.{CanApply}
use Rattle.fuzz_eval.specs.Walks.{AllKnownWorkers, AreSameWorkers, CanGather, CanPass, CanStep, IsKnownWorker, IsSameWorker, IsWeighedValue, flat_in, values_in, worker_step, worker_steps}

-- the stages at work are these steps
pub record AreAtWork (ws : List Worker) (ss : List Step) : Type 0 where
  pub known : AllKnownWorkers ws
  pub steps : worker_steps ws ≡ ss

-- what the stages that are left make of what x is by now, is what they all make of x
pub record Remains (old ws : List Worker) (x : Value) (i : ℕ) (at : Value) : Type 0 where
  pub same : AreSameWorkers old ws
  pub flat : IsFlat at
  pub through_all : through (worker_steps old) (Some (flat_of x)) ≡ through (drop i (worker_steps old)) (Some (flat_of at))
  pub goes : Goes (drop i (worker_steps old)) (Some (flat_of at))

-- one step of one element
module _ (s : Step) (v : Value) (k : CanStep s v) where
  pub can_apply : CanApply s.left s.function (BangV v)
  can_apply = record { value = k.answers.value; gives = subst (λ (u : Value). Applies (MeansIn s.left) s.function (BangV u) k.answers.value) k.flat k.answers.gives }

  module _ (y : Value) (a : Applies (MeansIn s.left) s.function (BangV v) y) where
    answer_given : y ≡ given (computed s.left) s.function (flat_of v)
    answer_given = applies_computed s.left s.function (BangV v) y a ∙ ap (λ u. applied (computed s.left) s.function (BangV u)) (sym k.flat)

    same_answer : k.answers.value ≡ y
    same_answer = applies_computed s.left s.function (BangV (value_of (flat_of v))) k.answers.value k.answers.gives ∙ sym answer_given

    pub step_maps : s.keeps ≡ None → Some y ≡ values_in (stepped s (flat_of v))
    step_maps h =
        let f : value_of (flat_of k.answers.value) ≡ k.answers.value = subst (λ (o : Option Bool). IsAnswer o k.answers.value) h k.answers.is in
        let g : value_of (flat_of y) ≡ y = subst (λ (y : Value). value_of (flat_of y) ≡ y) same_answer f in
        ap Some (sym g) ∙ ap (λ u. Some (value_of (flat_of u))) answer_given
        ∙ sym (ap (λ o. values_in (outcome o (given (computed s.left) s.function (flat_of v)) (flat_of v))) h)

    module _ (keep : Bool) (h : s.keeps ≡ Some keep) where
      pub step_tells : IsSum y
      step_tells = let q = subst (λ (o : Option Bool). IsAnswer o k.answers.value) h k.answers.is in sum_of q.0 y (sym same_answer ∙ q.1)
        where
          sum_of : (b : Bool) (y : Value) → y ≡ truth b → IsSum y
          sum_of true y e = subst IsSum (sym e) (inl refl)
          sum_of false y e = subst IsSum (sym e) (inr refl)

      stepped_is : stepped s (flat_of v) ≡ cond (agree keep (is_true y)) (Some (flat_of v)) None
      stepped_is =
          ap (λ o. outcome o (given (computed s.left) s.function (flat_of v)) (flat_of v)) h
          ∙ ap (λ u. cond (agree keep (is_true u)) (Some (flat_of v)) None) (sym answer_given)

      pub step_keeps : (b : Bool) → b ≡ agree keep (is_true y) → b ≡ true → (u : Value) → u ≡ v → Some u ≡ values_in (stepped s (flat_of v))
      step_keeps b e t u w =
          ap Some (w ∙ sym k.flat) ∙ sym (ap values_in (stepped_is ∙ ap (λ b. cond b (Some (flat_of v)) None) (sym e ∙ t)))

      pub step_drops : (b : Bool) → b ≡ agree keep (is_true y) → b ≡ false → None ≡ values_in (stepped s (flat_of v))
      step_drops b e t = sym (ap values_in (stepped_is ∙ ap (λ b. cond b (Some (flat_of v)) None) (sym e ∙ t)))

-- a worker whose name stands for another element
abbrev pub step_is : ℕ → Option Bool → Value → Step
step_is n k f = record { function = f; left = n; keeps = k }

-- stages at work, by their places
length_steps : (ws : List Worker) → length (worker_steps ws) ≡ length ws
length_steps [] = refl
length_steps (w ∷ ws) = ap suc (length_steps ws)

pub same_length : (old ws : List Worker) → AreSameWorkers old ws → length ws ≡ length old
same_length old ws s = omega (arith, length_steps old, length_steps ws, ap length s.steps)

step_at : (ws : List Worker) (i : ℕ) (w : Worker) (d : Step) → i < length ws → w ≡ get_or ws i w → get_or (worker_steps ws) i d ≡ worker_step w
step_at [] i w d h e = absurd (omega (arith, h))
step_at (v ∷ ws) zero w d h e = ap worker_step (sym e)
step_at (v ∷ ws) (suc i) w d h e = step_at ws i w d (omega (arith, h)) e

steps_left : (ws : List Worker) (i : ℕ) (w : Worker) → i < length ws → w ≡ get_or ws i w → drop i (worker_steps ws) ≡ worker_step w ∷ drop (i + 1) (worker_steps ws)
steps_left ws i w h e =
    drop_more (worker_steps ws) i (worker_step w) (omega (arith, h, length_steps ws)) ∙ ap (λ s. s ∷ drop (i + 1) (worker_steps ws)) (step_at ws i w (worker_step w) h e)

known_at : (ws : List Worker) (i : ℕ) (w : Worker) → i < length ws → w ≡ get_or ws i w → AllKnownWorkers ws → IsKnownWorker w
known_at [] i w h e k = absurd (omega (arith, h))
known_at (v ∷ ws) zero w h e k = subst IsKnownWorker (sym e) k.0
known_at (v ∷ ws) (suc i) w h e k = known_at ws i w (omega (arith, h)) e k.1

same_set : (ws : List Worker) (i : ℕ) (w v : Worker) → i < length ws → w ≡ get_or ws i w → IsSameWorker w v → AreSameWorkers ws (slice_set ws i v)
same_set [] i w v h e s = absurd (omega (arith, h))
same_set (u ∷ ws) zero w v h e s = record {
  steps = λ i. (s.step ∙ ap worker_step e) i ∷ worker_steps ws;
  known = λ k. (s.known (subst IsKnownWorker (sym e) k.0), k.1);
}
same_set (u ∷ ws) (suc i) w v h e s =
    let r = same_set ws i w v (omega (arith, h)) e s in record { steps = ap (λ ss. worker_step u ∷ ss) r.steps; known = λ k. (k.0, r.known k.1) }

values_some : (o : Option Flat) (y : Value) → Some y ≡ values_in o → (z : Flat) × (o ≡ Some z) × (y ≡ value_of z)
values_some (Some z) y e = (z, refl, cc e)
values_some None y e = absurd (cc e)

values_none : (o : Option Flat) → None ≡ values_in o → o ≡ None
values_none (Some z) e = absurd (cc e)
values_none None e = refl

-- the stages pass an element on
pub passing_start : (ws : List Worker) (x : Value) → CanPass (worker_steps ws) x → Remains ws ws x 0 x
passing_start ws x k = record { same = record { steps = refl; known = λ k. k }; flat = k.flat; through_all = refl; goes = k.goes }

module _ (old ws : List Worker) (x : Value) (i : ℕ) (at : Value) (inv : Remains old ws x i at) where
  left_of : (w : Worker) → i < length ws → w ≡ get_or ws i w → drop i (worker_steps old) ≡ worker_step w ∷ drop (i + 1) (worker_steps old)
  left_of w h e = subst (λ (ss : List Step). drop i ss ≡ worker_step w ∷ drop (i + 1) ss) inv.same.steps (steps_left ws i w h e)

  pub passing_end : length ws ≤ i → Some at ≡ values_in (through (worker_steps old) (Some (flat_of x)))
  passing_end l =
      let n : length (worker_steps old) ≤ i = omega (arith, l, length_steps ws, ap length inv.same.steps) in
      ap Some (sym inv.flat) ∙ sym (ap values_in (inv.through_all ∙ ap (λ ss. through ss (Some (flat_of at))) (drop_all i (worker_steps old) n)))

  module _ (w : Worker) (h : i < length ws) (e : w ≡ get_or ws i w) where
    pub passing_known : AllKnownWorkers old → IsKnownWorker w
    passing_known k = known_at ws i w h e (inv.same.known k)

    here : Goes (worker_step w ∷ drop (i + 1) (worker_steps old)) (Some (flat_of at))
    here = subst (λ (ss : List Step). Goes ss (Some (flat_of at))) (left_of w h e) inv.goes

    through_here : through (worker_steps old) (Some (flat_of x)) ≡ through (drop (i + 1) (worker_steps old)) (stepped (worker_step w) (flat_of at))
    through_here = inv.through_all ∙ ap (λ ss. through ss (Some (flat_of at))) (left_of w h e)

    pub passing_can : CanStep (worker_step w) at
    passing_can = record { flat = inv.flat; answers = here.0 }

    module _ (v : Worker) (s : IsSameWorker w v) where
      pub passing_same : AreSameWorkers old (slice_set ws i v)
      passing_same =
          let r = same_set ws i w v h e s in record { steps = r.steps ∙ inv.same.steps; known = λ k. r.known (inv.same.known k) }

      pub passing_next : (y : Value) → Some y ≡ values_in (stepped (worker_step w) (flat_of at)) → Remains old (slice_set ws i v) x (i + 1) y
      passing_next y q =
          let r = values_some (stepped (worker_step w) (flat_of at)) y q in
          let f : flat_of y ≡ r.0 = ap flat_of r.2 ∙ flat_of_value r.0 in
          let o : stepped (worker_step w) (flat_of at) ≡ Some (flat_of y) = r.1 ∙ ap Some (sym f) in
          record {
            same = passing_same;
            flat = ap value_of f ∙ sym r.2;
            through_all = through_here ∙ ap (through (drop (i + 1) (worker_steps old))) o;
            goes = subst (λ (o : Option Flat). Goes (drop (i + 1) (worker_steps old)) o) o here.1;
          }

    pub passing_left_out : None ≡ values_in (stepped (worker_step w) (flat_of at)) → None ≡ values_in (through (worker_steps old) (Some (flat_of x)))
    passing_left_out q = sym (ap values_in (through_here ∙ ap (through (drop (i + 1) (worker_steps old))) (values_none (stepped (worker_step w) (flat_of at)) q)))

flats_back : (o : Option Flat) → flat_in (values_in o) ≡ o
flats_back None = refl
flats_back (Some x) = ap Some (flat_of_value x)

weighed_row : (g : Gather) (ss : List Step) (i : ℕ) (rows : List Flat) → i < length rows → AllWeighed g (all_through ss rows) → (y : Flat) → through ss (Some (row_at rows i)) ≡ Some y → IsWeighed g y
weighed_row g ss i [] h w y e = absurd (omega (arith, h))
weighed_row g ss zero (x ∷ rows) h w y e =
    let k = weighed_left g (listed (through ss (Some x))) (all_through ss rows) w in
    (subst (λ (o : Option Flat). AllWeighed g (listed o)) e k).0
weighed_row g ss (suc i) (x ∷ rows) h w y e = weighed_row g ss i rows (omega (arith, h)) (weighed_right g (listed (through ss (Some x))) (all_through ss rows) w) y e

-- rows one by one
module _ (g : Gather) (ss : List Step) (rows : List Flat) where
  module _ (i : ℕ) (h : i < length rows) (k : CanGather g ss rows) where
    pub row_passes : (v : Value) → v ≡ value_of (row_at rows i) → CanPass ss v
    row_passes v e =
        let f : flat_of v ≡ row_at rows i = ap flat_of e ∙ flat_of_value (row_at rows i) in
        record { flat = ap value_of f ∙ sym e; goes = subst (λ (x : Flat). Goes ss (Some x)) (sym f) (go_at ss rows i h k.goes) }

    module _ (v : Value) (e : v ≡ value_of (row_at rows i)) (o : Option Value) (q : o ≡ values_in (through ss (Some (flat_of v)))) where
      row_is : o ≡ values_in (through ss (Some (row_at rows i)))
      row_is = q ∙ ap (λ x. values_in (through ss (Some x))) (ap flat_of e ∙ flat_of_value (row_at rows i))

      pub row_weighed : IsWeighedValue g o
      row_weighed = subst (IsWeighedValue g) (sym row_is) (of g (through ss (Some (row_at rows i))) (λ y p. weighed_row g ss i rows h k.weighed y p))
        where
          of : (g : Gather) (o : Option Flat) → ((y : Flat) → o ≡ Some y → IsWeighed g y) → IsWeighedValue g (values_in o)
          of Size o f = tt
          of (Sum lo hi) None f = tt
          of (Sum lo hi) (Some y) f = let n = f y refl in subst (λ (x : Flat). IsNum (value_of x)) (sym n) refl

      pub row_added : (total more : ℤ) → IsFlatTotal g ss rows i total → more ≡ total +ℤ weigh_some g (flat_in o) → IsFlatTotal g ss rows (i + 1) more
      row_added total more t a = record {
        within = omega (arith, h);
        total =
            a ∙ (λ j. t.total j +ℤ weigh_some g ((ap flat_in row_is ∙ flats_back (through ss (Some (row_at rows i)))) j)) ∙ sym (row_more g ss rows i h);
      }

  pub flat_as : (n : ℕ) (total same : ℤ) → same ≡ total → IsFlatTotal g ss rows n total → IsFlatTotal g ss rows n same
  flat_as n total same e t = subst (λ (z : ℤ). IsFlatTotal g ss rows n z) (sym e) t

  pub rows_added : (i : ℕ) (total : ℤ) → length rows ≤ i → IsFlatTotal g ss rows i total → IsFlatTotal g ss rows (length rows) total
  rows_added i total l t = let e : i ≡ length rows = omega (arith, l, t.within) in subst (λ (n : ℕ). IsFlatTotal g ss rows n total) e t

  pub whole : (i : ℕ) (total : ℤ) → i ≡ length rows → IsFlatTotal g ss rows i total → total ≡ gathered g (all_through ss rows)
  whole i total e t = t.total ∙ ap (λ xs. gathered g (all_through ss xs)) (take_all i rows (omega (arith, e)))

-- strands one by one
walked_at : (ss : List Strand) (i : ℕ) (s : Strand) → i < length ss → s ≡ get_or ss i s → IsFlow ss → AllGo s.chain.steps s.table.value
walked_at [] i s h e f = absurd (omega (arith, h))
walked_at (c ∷ ss) zero s h e f = subst (λ (s : Strand). AllGo s.chain.steps s.table.value) (sym e) f.0
walked_at (c ∷ ss) (suc i) s h e f = walked_at ss i s (omega (arith, h)) e f.1

weighed_at : (g : Gather) (ss : List Strand) (i : ℕ) (s : Strand) → i < length ss → s ≡ get_or ss i s → AllWeighed g (flow_of ss) → AllWeighed g (strand_of s)
weighed_at g [] i s h e w = absurd (omega (arith, h))
weighed_at g (c ∷ ss) zero s h e w = subst (λ (s : Strand). AllWeighed g (strand_of s)) (sym e) (weighed_left g (strand_of c) (flow_of ss) w)
weighed_at g (c ∷ ss) (suc i) s h e w = weighed_at g ss i s (omega (arith, h)) e (weighed_right g (strand_of c) (flow_of ss) w)

module _ (g : Gather) (ss : List Strand) (i : ℕ) (s : Strand) (h : i < length ss) (e : s ≡ get_or ss i s) where
  pub strand_can : IsFlow ss → AllWeighed g (flow_of ss) → CanGather g s.chain.steps s.table.value
  strand_can f w = record { goes = walked_at ss i s h e f; weighed = weighed_at g ss i s h e w }

  pub strand_added : (total more after : ℤ) → total ≡ gathered g (flow_of (take i ss)) → more ≡ gathered g (strand_of s) → after ≡ total +ℤ more
      → after ≡ gathered g (flow_of (take (i + 1) ss))
  strand_added total more after t m a =
      a ∙ (λ j. t j +ℤ m j) ∙ sym (gathered_both g (flow_of (take i ss)) (strand_of s))
      ∙ ap (gathered g) (sym (flow_more (take i ss) s)) ∙ ap (λ ss. gathered g (flow_of ss)) (sym (take_more ss i s h ∙ ap (λ x. take i ss ++ x ∷ []) (sym e)))

pub strands_added : (g : Gather) (ss : List Strand) (i : ℕ) (total : ℤ) → length ss ≤ i → total ≡ gathered g (flow_of (take i ss)) → total ≡ gathered g (flow_of ss)
strands_added g ss i total l t = t ∙ ap (λ ss. gathered g (flow_of ss)) (take_all i ss l)

-- a strand that is laid out
module _ (g : Gather) (s : Strand) (b : Branch) (is : IsLaidOut b s) where
  same_elements : all_through (steps_of b.stages.items) b.table.value ≡ strand_of s
  same_elements = λ j. all_through (is.steps j) (is.table j)

  pub laid_can : CanGather g s.chain.steps s.table.value → CanGather g (steps_of b.stages.items) b.table.value
  laid_can can = record {
    goes =
        subst (λ (steps : List Step). AllGo steps b.table.value) (sym is.steps)
        (subst (λ (rows : List Flat). AllGo s.chain.steps rows) (sym is.table) can.goes);
    weighed = subst (AllWeighed g) (sym same_elements) can.weighed;
  }

  pub laid_gathered : (z : ℤ) → z ≡ gathered g (all_through (steps_of b.stages.items) b.table.value) → z ≡ gathered g (strand_of s)
  laid_gathered z e = e ∙ ap (gathered g) same_elements
