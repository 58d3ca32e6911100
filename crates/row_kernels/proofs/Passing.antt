-- Rows of a chunk behind the stages, one by one.
use Rattle.std.proofs.Common.{◌≡◌, ℕ, zero, suc, ◌<◌, ◌≤◌, ◌+◌, ℤ, pos, Bool, true, false, List, [], ◌∷◌, Option, Some, None, length, get_or, refl, ap, sym, subst, ◌∙◌, arith}
use Rattle.std.specs.Prelude.{cond, drop, replicate, ◌&&◌, ◌+ℤ◌}
use Rattle.std.proofs.lemmas.Int.{ints}
use Rattle.std.proofs.lemmas.List.{drop_all, drop_more, get_or-replicate, length-replicate}
use Rattle.fz_ast.specs.Names.{name_of}
use Rattle.fz_ast.specs.Terms.{Name, Term}
use Rattle.fz_ast.specs.TermNodes.{term_of}
use Rattle.fz_ast.specs.Types.{Ty}
use Rattle.fz_ast.specs.declared.name.Name.{Name as Written}
use Rattle.fz_ast.specs.declared.span.Span.{Span}
use Rattle.fz_ast.specs.declared.term.Arrow.{Arrow}
use Rattle.fz_ast.specs.declared.term.Arrow.TheVariants.{Fn}
use Rattle.fz_ast.specs.declared.term.Form.{Form}
use Rattle.fz_ast.specs.declared.term.Form.TheVariants.{Lambda}
use Rattle.metric_law.specs.Means.{Applies, MeansIn, apply_fn}
use Rattle.metric_values.specs.Cells.{row_at}
use Rattle.metric_values.specs.Numbers.{clip}
use Rattle.metric_values.specs.Values.{BangV, Bind, Env, Flat, FnV, NumF, NumV, Value, truth, value_of}
use Rattle.run_values.specs.Flats.{flat_of}
use Rattle.run_values.proofs.Bags.{flat_of_value}
use Rattle.flow_values.specs.Computed.{agree, computed, flat_number, given, is_true}
use Rattle.flow_values.specs.Steps.{Answers, Goes, IsAnswer, Step, outcome, stepped, through}
use Rattle.flow_values.specs.Views.{AllKnown, IsKnown, function_of, step_of, steps_of}
use Rattle.flow_values.specs.declared.value.Stage.{Stage}
use Rattle.flow_values.proofs.Computed.{applies_computed}
use Rattle.row_kernels.specs.declared.flows.Passed.{Passed}
use Rattle.row_kernels.specs.declared.frames.Frame.{Frame}
use Rattle.row_kernels.specs.declared.gather.Gather.{Gather}
use Rattle.row_kernels.specs.declared.gather.Gather.TheVariants.{Size, Sum}
use Rattle.row_kernels.specs.declared.lanes.Lanes.{Lanes}
use Rattle.row_kernels.specs.Flows.{AreAll, AreImaged, AreJudged, ArePassed, AreStepped, IsLanesTotal, IsLongPassed, IsRow, RowSteps, added_up, is_there}
use Rattle.row_kernels.specs.Gathers.{count_there, held, sum_there, weigh_some}
use Rattle.row_kernels.specs.Lanes.{AreMeant, AreNumbers, IsLong, env_at, lane_at}

pub known_at : (ss : List Stage) (i : ℕ) (s : Stage) → i < length ss → s ≡ get_or ss i s → AllKnown ss → IsKnown s.function.value
known_at [] i s h e k = absurd (omega (arith, h))
known_at (t ∷ ss) zero s h e k = subst (λ (s : Stage). IsKnown s.function.value) (sym e) k.0
known_at (t ∷ ss) (suc i) s h e k = known_at ss i s (omega (arith, h)) e k.1

fn_parts : (m : ℕ) {x : Name} {e : Term} {γ : Env} {u v : Value} → Applies (MeansIn m) (FnV x e γ) (BangV u) v → MeansIn m (Bind x u γ) e v
fn_parts m (apply_fn k) = k

-- the lanes of a function's body
pub imaged : (c : Value) (x : Written) (e : Term) (γ : Env) (n : ℕ) (l k : Lanes) (fs : List Frame) → c ≡ FnV (name_of x) e γ
    → fs ≡ record { name = x; lanes = l } ∷ [] → AreMeant fs γ e n k → AreImaged c n l k
imaged c x e γ n l k fs p names h = record {
  long = h.long;
  each = λ j lt m v a.
      h.each j lt m v (subst (λ (δ : Env). MeansIn m δ e v) (ap (λ (fs : List Frame). env_at fs γ j) (sym names)) (fn_parts m (subst (λ (c : Value). Applies (MeansIn m) c (BangV (lane_at l j)) v) p a)));
}

-- a closure whose node is this function
pub fn_closure : (t : Term) (γ : Env) (ty : ℕ → Ty) (part : ℕ → Term) (s : Span) (f : Form) (o : Arrow) (x : Written) (sp : Span) (u b : ℕ)
    → t ≡ term_of ty part s f → f ≡ Lambda o x sp u b → o ≡ Fn → function_of t γ ≡ FnV (name_of x) (part b) γ
fn_closure t γ ty part s f o x sp u b p q r = ap (λ t. function_of t γ) p ∙ ap (λ f. function_of (term_of ty part s f) γ) (q ∙ ap (λ o. Lambda o x sp u b) r)

-- what an answer is
computed_answer : (s : Step) (x : Flat) (a : Answers s x) → a.value ≡ given (computed s.left) s.function x
computed_answer s x a = applies_computed s.left s.function (BangV (value_of x)) a.value a.gives

module _ (s : Step) (n : ℕ) where
  -- a map
  map_row : s.keeps ≡ None → (v w : Value) → ((m : ℕ) (u : Value) → Applies (MeansIn m) s.function (BangV v) u → u ≡ w) → (b : Bool) → RowSteps s b v b w
  map_row k v w h false = refl
  map_row k v w h true = λ x e a.
      let q : a.value ≡ w = h s.left a.value (subst (λ (u : Value). Applies (MeansIn s.left) s.function (BangV u) a.value) (sym e) a.gives) in
      let f : value_of (flat_of a.value) ≡ a.value = subst (λ (o : Option Bool). IsAnswer o a.value) k a.is in
      let o : stepped s x ≡ Some (flat_of a.value) = ap (λ o. outcome o (given (computed s.left) s.function x) x) k ∙ ap (λ u. Some (flat_of u)) (sym (computed_answer s x a)) in
      (flat_of a.value, o, sym q ∙ sym f)

  pub mapped : s.keeps ≡ None → (p q : Passed) → IsLongPassed n p → (k : Lanes) → AreImaged s.function n p.lanes k → q.lanes ≡ k → q.there.items ≡ p.there.items → AreStepped s n p q
  mapped k p q long l h e t = record {
    long = record { lanes = subst (λ (l : Lanes). IsLong n l) (sym e) h.long; there = ap length t ∙ long.there };
    each = λ j lt.
        subst (λ (b : Bool). RowSteps s (is_there p j) (lane_at p.lanes j) b (lane_at q.lanes j)) (ap (λ bs. get_or bs j false) (sym t))
        (map_row k (lane_at p.lanes j) (lane_at q.lanes j) (λ m u a. h.each j lt m u a ∙ ap (λ l. lane_at l j) (sym e)) (is_there p j));
  }

  truth_told : (t : Bool) → is_true (truth t) ≡ t
  truth_told true = refl
  truth_told false = refl

  kept_or_not : (b : Bool) (v : Value) (x : Flat) → v ≡ value_of x → IsRow b v (cond b (Some x) None)
  kept_or_not true v x e = (x, refl, e)
  kept_or_not false v x e = refl

  -- a row of which it is told
  keep_row : (k : Bool) → s.keeps ≡ Some k → (v : Value) (t : Bool) → ((m : ℕ) (u : Value) → Applies (MeansIn m) s.function (BangV v) u → u ≡ truth t) → (b : Bool) → RowSteps s b v (b && agree k t) v
  keep_row k h v t f false = refl
  keep_row k h v t f true = λ x e a.
      let q : a.value ≡ truth t = f s.left a.value (subst (λ (u : Value). Applies (MeansIn s.left) s.function (BangV u) a.value) (sym e) a.gives) in
      let o : stepped s x ≡ cond (agree k t) (Some x) None =
      ap (λ o. outcome o (given (computed s.left) s.function x) x) h
      ∙ ap (λ u. cond (agree k (is_true u)) (Some x) None) (sym (computed_answer s x a) ∙ q) ∙ ap (λ b. cond (agree k b) (Some x) None) (truth_told t) in
      subst (λ (o : Option Flat). IsRow (agree k t) v o) (sym o) (kept_or_not (agree k t) v x e)

  pub judged : (k : Bool) → (p q : Passed) → IsLongPassed n p → (again told : Lanes) (bs : List Bool) → ((j : ℕ) → lane_at again j ≡ lane_at p.lanes j) → AreImaged s.function n again told
      → ((j : ℕ) → lane_at told j ≡ truth (get_or bs j false)) → q.lanes ≡ p.lanes → length q.there.items ≡ n
      → ((j : ℕ) → j < n → is_there q j ≡ (is_there p j && agree k (get_or bs j false))) → AreJudged s k n p q
  judged k p q long again told bs same h t e m w = λ kept. record {
    long = record { lanes = subst (λ (l : Lanes). IsLong n l) (sym e) long.lanes; there = m };
    each = λ j lt.
        let lane : lane_at q.lanes j ≡ lane_at p.lanes j = ap (λ l. lane_at l j) e in
        subst (λ (b : Bool). RowSteps s (is_there p j) (lane_at p.lanes j) b (lane_at q.lanes j)) (sym (w j lt))
        (subst (λ (v : Value). RowSteps s (is_there p j) (lane_at p.lanes j) (is_there p j && agree k (get_or bs j false)) v) (sym lane)
        (keep_row k kept (lane_at p.lanes j) (get_or bs j false)
        (λ m u a. h.each j lt m u (subst (λ (v : Value). Applies (MeansIn m) s.function (BangV v) u) (sym (same j)) a) ∙ t j) (is_there p j)));
  }

-- how far rows have come: what is left makes of what each is by now, what all steps make of it
pub record Along (ss rest : List Step) (rows : List Flat) (first n : ℕ) (p : Passed) : Type 0 where
  pub long : IsLongPassed n p
  pub each :
      (j : ℕ) → j < n
      → (o : Option Flat) × IsRow (is_there p j) (lane_at p.lanes j) o × (through ss (Some (row_at rows (first + j))) ≡ through rest o) × Goes rest o

-- rows before any stage
pub rows_are : (rows : List Flat) (first n : ℕ) (p : Passed) → IsLong n p.lanes → ((j : ℕ) → j < n → lane_at p.lanes j ≡ value_of (row_at rows (first + j)))
    → p.there.items ≡ replicate n true → AreAll (λ j. Some (row_at rows (first + j))) n p
rows_are rows first n p l h t = record {
  long = record { lanes = l; there = ap length t ∙ length-replicate n true };
  each = λ j lt.
      subst (λ (b : Bool). IsRow b (lane_at p.lanes j) (Some (row_at rows (first + j)))) (sym (ap (λ bs. get_or bs j false) t ∙ get_or-replicate n j true false lt))
      (row_at rows (first + j), refl, h j lt);
}

pub along_start : (ss : List Step) (rows : List Flat) (first n : ℕ) (p : Passed) → AreAll (λ j. Some (row_at rows (first + j))) n p
    → ((j : ℕ) → j < n → Goes ss (Some (row_at rows (first + j)))) → Along ss ss rows first n p
along_start ss rows first n p h g = record { long = h.long; each = λ j lt. (Some (row_at rows (first + j)), h.each j lt, refl, g j lt) }

module _ (s : Step) (rest : List Step) (n : ℕ) (p q : Passed) (h : AreStepped s n p q) (j : ℕ) (lt : j < n) where
  -- what a row is behind the step
  next_row : (b : Bool) → is_there p j ≡ b → (o : Option Flat) → IsRow b (lane_at p.lanes j) o → RowSteps s b (lane_at p.lanes j) (is_there q j) (lane_at q.lanes j) → Goes (s ∷ rest) o
      → (u : Option Flat) × IsRow (is_there q j) (lane_at q.lanes j) u × (through (s ∷ rest) o ≡ through rest u) × Goes rest u
  next_row true e (Some y) r f g =
      let i : r.0 ≡ y = sym (cc r.1) in
      (stepped s y, f y (r.2 ∙ ap value_of i) g.0, refl, g.1)
  next_row true e None r f g = absurd (cc r.1)
  next_row false e (Some y) r f g = absurd (cc r)
  next_row false e None r f g = (None, subst (λ (b : Bool). IsRow b (lane_at q.lanes j) None) (sym f) refl, refl, tt)

pub along_next : (ss rest more : List Step) (s : Step) (rows : List Flat) (first n : ℕ) (p q : Passed) → rest ≡ s ∷ more → Along ss rest rows first n p → AreStepped s n p q → Along ss more rows first n q
along_next ss rest more s rows first n p q e a h = record {
  long = h.long;
  each = λ j lt.
      let r = a.each j lt in
      let k = next_row s more n p q h j lt (is_there p j) refl r.0 r.1 (h.each j lt) (subst (λ (ts : List Step). Goes ts r.0) e r.3) in
      (k.0, k.1, r.2 ∙ ap (λ ts. through ts r.0) e ∙ k.2, k.3);
}

ended : (o : Option Flat) → through [] o ≡ o
ended None = refl
ended (Some x) = refl

pub along_end : (ss rest : List Step) (rows : List Flat) (first n : ℕ) (p : Passed) → rest ≡ [] → Along ss rest rows first n p → ArePassed ss rows first n p
along_end ss rest rows first n p e a = record {
  long = a.long;
  each = λ j lt.
      let r = a.each j lt in
      subst (λ (o : Option Flat). IsRow (is_there p j) (lane_at p.lanes j) o) (sym (r.2 ∙ ap (λ ts. through ts r.0) e ∙ ended r.0)) r.1;
}

-- the steps that are left, by the stages
pub steps_left : (ss : List Stage) (i : ℕ) (s : Stage) → i < length ss → s ≡ get_or ss i s → steps_of (drop i ss) ≡ step_of s ∷ steps_of (drop (i + 1) ss)
steps_left ss i s h e = ap steps_of (drop_more ss i s h) ∙ ap (λ x. step_of x ∷ steps_of (drop (i + 1) ss)) (sym e)

pub none_left : (ss : List Stage) (i : ℕ) → length ss ≤ i → steps_of (drop i ss) ≡ []
none_left ss i h = ap steps_of (drop_all i ss h)

-- what is made of a chunk, from its front on
added_front : (g : Gather) (o : ℕ → Option Flat) (n : ℕ) → added_up g o (suc n) ≡ weigh_some g (o zero) +ℤ added_up g (λ j. o (suc j)) n
added_front g o zero = omega (arith, ints)
added_front g o (suc n) = omega (arith, ints, added_front g o n)

count_rows : (bs : List Bool) (o : ℕ → Option Flat) → ((j : ℕ) → j < length bs → weigh_some Size (o j) ≡ cond (get_or bs j false) (pos 1) (pos 0)) → count_there bs ≡ added_up Size o (length bs)
count_rows [] o h = refl
count_rows (b ∷ bs) o h =
    let k = count_rows bs (λ j. o (suc j)) (λ j l. h (suc j) (omega (arith, l))) in
    let z = h zero (omega arith) in let f = added_front Size o (length bs) in omega (arith, ints, k, z, f)

sum_rows : (lo hi : ℤ) (zs : List ℤ) (bs : List Bool) (o : ℕ → Option Flat) → length zs ≡ length bs
    → ((j : ℕ) → j < length bs → weigh_some (Sum lo hi) (o j) ≡ cond (get_or bs j false) (clip (held lo) (held hi) (get_or zs j (pos 0))) (pos 0)) → sum_there (held lo) (held hi) zs bs ≡ added_up (Sum lo hi) o (length bs)
sum_rows lo hi [] [] o e h = refl
sum_rows lo hi [] (b ∷ bs) o e h = absurd (omega (arith, e))
sum_rows lo hi (z ∷ zs) [] o e h = absurd (omega (arith, e))
sum_rows lo hi (z ∷ zs) (b ∷ bs) o e h =
    let k = sum_rows lo hi zs bs (λ j. o (suc j)) (omega (arith, e)) (λ j l. h (suc j) (omega (arith, l))) in
    let y = h zero (omega arith) in let f = added_front (Sum lo hi) o (length bs) in omega (arith, ints, k, y, f)

one_counted : (b : Bool) (v : Value) (o : Option Flat) → IsRow b v o → weigh_some Size o ≡ cond b (pos 1) (pos 0)
one_counted true v o r = ap (weigh_some Size) r.1
one_counted false v o r = ap (weigh_some Size) r

one_summed : (lo hi z : ℤ) (b : Bool) (v : Value) (o : Option Flat) → v ≡ NumV z → IsRow b v o → weigh_some (Sum lo hi) o ≡ cond b (clip (held lo) (held hi) z) (pos 0)
one_summed lo hi z true v o e r =
    let y : r.0 ≡ NumF z = sym (flat_of_value r.0) ∙ ap flat_of (sym r.2 ∙ e) in ap (weigh_some (Sum lo hi)) r.1 ∙ ap (λ x. clip (held lo) (held hi) (flat_number x)) y
one_summed lo hi z false v o e r = ap (weigh_some (Sum lo hi)) r

pub size_total : (n : ℕ) (p : Passed) → IsLanesTotal Size n p (count_there p.there.items)
size_total n p = λ o a.
    count_rows p.there.items o (λ j l. one_counted (is_there p j) (lane_at p.lanes j) (o j) (a.each j (omega (arith, l, a.long.there))))
    ∙ ap (added_up Size o) a.long.there

pub sum_total : (lo hi : ℤ) (n : ℕ) (p : Passed) (zs : List ℤ) → AreNumbers n p.lanes zs → IsLanesTotal (Sum lo hi) n p (sum_there (held lo) (held hi) zs p.there.items)
sum_total lo hi n p zs h = λ o a.
    sum_rows lo hi zs p.there.items o (h.long ∙ sym a.long.there)
    (λ j l. let lt : j < n = omega (arith, l, a.long.there) in one_summed lo hi (get_or zs j (pos 0)) (is_there p j) (lane_at p.lanes j) (o j) (h.each j lt) (a.each j lt))
    ∙ ap (added_up (Sum lo hi) o) a.long.there

pub is_size_total : (g : Gather) (n : ℕ) (p : Passed) (z : ℤ) → g ≡ Size → z ≡ count_there p.there.items → IsLanesTotal g n p z
is_size_total g n p z e h = λ o a. h ∙ size_total n p o a ∙ ap (λ g. added_up g o n) (sym e)

pub is_sum_total : (g : Gather) (lo hi : ℤ) (n : ℕ) (p : Passed) (zs : List ℤ) (bs : List Bool) (z : ℤ) → g ≡ Sum lo hi → AreNumbers n p.lanes zs → bs ≡ p.there.items
    → z ≡ sum_there (held lo) (held hi) zs bs → IsLanesTotal g n p z
is_sum_total g lo hi n p zs bs z e h t q = λ o a. q ∙ ap (sum_there (held lo) (held hi) zs) t ∙ sum_total lo hi n p zs h o a ∙ ap (λ g. added_up g o n) (sym e)

-- the copied mask
pub kept_there : (n : ℕ) (there told out before : List Bool) (k : Bool) → length there ≡ n → length told ≡ n → length before ≡ n → length out ≡ length before
    → ((j : ℕ) → j < length before → get_or out j false ≡ (get_or there j false && agree k (get_or told j false)))
    → (length out ≡ n) × ((j : ℕ) → j < n → get_or out j false ≡ (get_or there j false && agree k (get_or told j false)))
kept_there n there told out before k a b c l h = (l ∙ c, λ j lt. h j (omega (arith, lt, c)))
