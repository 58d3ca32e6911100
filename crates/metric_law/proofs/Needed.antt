-- Each rule is needed: one program for each wrong rule.
use Rattle.std.proofs.Common.{arith, inl, inr, refl}
use Rattle.std.proofs.lemmas.List.Elements.{All-cons, All-nil}
use Rattle.std.specs.Prelude.{List, [], codes, false, pos, true, ℕ, ℤ, ◌*◌, ◌+◌, ◌<◌, ◌∷◌, ◌≤◌}
use native.Mathlib.Nat.{mul-le-mul_right}
use Rattle.fz_frac.proofs.Laws.{add-comm, add-none_r, den_pos, mul-comm, mul-one, none-add, none-least, one-mul, ⊑-refl, ◌⊕◌, ◌⊗◌, ◌⨾◌}
use Rattle.fz_frac.specs.Distance.{Distance, Fin, Inf, add, den, mul, none, one, ◌⊑◌}
use Rattle.fz_frac.specs.Lowest.{gcd, gcd_in}
use Rattle.fz_ast.specs.Bare.{nowhere}
use Rattle.fz_ast.specs.Limits.{IsBang}
use Rattle.fz_ast.specs.Terms.{BangE, CaseE, EqE, FilterE, FnE, FunE, LeE, LetBangE, LetE, MapE, NumE, PairE, SplitE, Term, TextE, VarE, at}
use Rattle.fz_ast.specs.Types.{BagT, BangT, BoolT, NumT, TensorT, TextT}
use Rattle.linear_types.specs.Typing.{Closed, Context, IsType, Typing, Under, here, is_at_most, is_bang, is_fn, is_num, is_text, is_var, there}
use Rattle.metric_law.proofs.Bags.{sizes}
use Rattle.metric_law.proofs.Nearness.{no_num, small}
use Rattle.metric_values.proofs.Removal.{removal_least}
use Rattle.metric_values.specs.Pairing.{Differ, at_front, in_both, none_left}
use Rattle.metric_values.specs.Values.{BagV, BangV, Bind, Empty, Env, Flat, FnV, FunV, NumF, NumV, PairV, TextV, UnitV, truth, value_of}
use Rattle.metric_law.specs.Law.{NearEnv, TypedEnv, near_bind, near_empty, typed_bind, typed_empty}
use Rattle.metric_law.specs.Means.{apply, apply_fn}
use Rattle.metric_law.specs.Near.{Near, NearBag, NearNum, NearPair, Typed, far_text, near_bag, near_bang, near_lr, near_num, near_pair, typed_bag, typed_bang, typed_inl, typed_inr, typed_num, typed_text, typed_unit}
use Rattle.metric_law.specs.Unsound.{ComparedAtOne, FilterAtZero, LetBangUndivided, MapWithoutInf, PairByMaximum, RemovedAfterwards, SplitAtZero, TextComparedAtZero, Unsound, UnusedCaseAtZero, UsedAt, wrong_case, wrong_comparison, wrong_filter, wrong_fun, wrong_let, wrong_let_bang, wrong_map, wrong_pair, wrong_split, wrong_text}

-- a number n, at 0 or 1
abbrev pub number : Context
number = Under (codes "n") NumT Closed

abbrev pub at_number : ℤ → Env
at_number z = Bind (codes "n") (NumV z) Empty

pub number_typed : (k : ℕ) → k ≤ 100 → TypedEnv number (at_number (pos k))
number_typed k h = typed_bind (typed_num (small k h)) typed_empty

pub num_type : IsType NumT
num_type = record { well_formed = refl; limits = tt }

pub number_near : NearEnv number (at_number (pos 0)) (at_number (pos 1)) (one ∷ [])
number_near = near_bind (near_num (record { le = omega arith })) near_empty

pub is_n : Typing number (at nowhere (VarE (codes "n"))) NumT (one ∷ [])
is_n = is_var (here refl)

no_truth : {p q : ℕ} → Near BoolT (truth true) (truth false) (Fin p q) → ⊥
no_truth (near_lr h) = h.le

-- case n <= 0 of inl x => 0 | inr y => 100
pub unused_case : Unsound UnusedCaseAtZero
unused_case = (
  number,
  at nowhere (CaseE (at nowhere (LeE (at nowhere (VarE (codes "n"))) (at nowhere (NumE (pos 0))))) (codes "x") (at nowhere (NumE (pos 0))) (codes "y") (at nowhere (NumE (pos 100)))),
  NumT,
  none ∷ [],
  (num_type, tt),
  wrong_case (is_at_most is_n (is_num (small 0 (omega arith)))) (is_num (small 0 (omega arith))) (is_num (small 100 (omega arith))) refl,
  (
    one ∷ [],
    record {
      left = at_number (pos 0);
      right = at_number (pos 1);
      left_typed = number_typed 0 (omega arith);
      right_typed = number_typed 1 (omega arith);
      near = number_near;
      left_value = NumV (pos 0);
      right_value = NumV (pos 100);
      left_means = (3, inl (UnitV, (pos 0, pos 0, refl, refl, refl), refl));
      right_means = (3, inr (UnitV, (pos 1, pos 0, refl, refl, refl), refl));
      too_far = no_num (pos 0) (pos 100) 100 _ _ refl (omega arith);
    },
  ),
)

no_pair : NearPair NearNum NearNum (PairV (NumV (pos 0)) (NumV (pos 0))) (PairV (NumV (pos 1)) (NumV (pos 1))) (Fin 1 1) → ⊥
no_pair (near_pair c1 c2 (near_num h) (near_num k) l) = let m : (1 * 1 + 1 * 1) * 1 ≤ 1 * 1 = ((h ⊕ k) ⨾ l).le in omega (arith, m)

-- (n, n)
pub pair_by_maximum : Unsound PairByMaximum
pair_by_maximum = (
  number,
  at nowhere (PairE (at nowhere (VarE (codes "n"))) (at nowhere (VarE (codes "n")))),
  TensorT NumT NumT,
  one ∷ [],
  (num_type, tt),
  wrong_pair is_n is_n,
  (
    one ∷ [],
    record {
      left = at_number (pos 0);
      right = at_number (pos 1);
      left_typed = number_typed 0 (omega arith);
      right_typed = number_typed 1 (omega arith);
      near = number_near;
      left_value = PairV (NumV (pos 0)) (NumV (pos 0));
      right_value = PairV (NumV (pos 1)) (NumV (pos 1));
      left_means = (2, (NumV (pos 0), NumV (pos 0), refl, refl, refl));
      right_means = (2, (NumV (pos 1), NumV (pos 1), refl, refl, refl));
      too_far = no_pair;
    },
  ),
)

-- n of type ![1/2] num
abbrev banged : Context
banged = Under (codes "n") (BangT (Fin 1 2) NumT) Closed

half_type : IsType (BangT (Fin 1 2) NumT)
unfolding gcd gcd_in
half_type = record { well_formed = refl; limits = ((omega arith, omega arith, omega arith, omega arith, refl), tt) }

-- let !x = n in x
pub let_bang_undivided : Unsound LetBangUndivided
let_bang_undivided = (
  banged,
  at nowhere (LetBangE (codes "x") (at nowhere (VarE (codes "n"))) (at nowhere (VarE (codes "x")))),
  NumT,
  Fin 1 1 ∷ [],
  (half_type, tt),
  wrong_let_bang (is_var (here refl)) (is_var (here refl)),
  (
    one ∷ [],
    record {
      left = Bind (codes "n") (BangV (NumV (pos 0))) Empty;
      right = Bind (codes "n") (BangV (NumV (pos 2))) Empty;
      left_typed = typed_bind (typed_bang (typed_num (small 0 (omega arith)))) typed_empty;
      right_typed = typed_bind (typed_bang (typed_num (small 2 (omega arith)))) typed_empty;
      near = near_bind (near_bang (Fin 2 1) (near_num (record { le = omega arith })) (record { le = omega arith })) near_empty;
      left_value = NumV (pos 0);
      right_value = NumV (pos 2);
      left_means = (2, (NumV (pos 0), refl, refl));
      right_means = (2, (NumV (pos 2), refl, refl));
      too_far = no_num (pos 0) (pos 2) 2 _ _ refl (omega arith);
    },
  ),
)

-- n <= 0
pub compared_at_one : Unsound ComparedAtOne
compared_at_one = (
  number,
  at nowhere (LeE (at nowhere (VarE (codes "n"))) (at nowhere (NumE (pos 0)))),
  BoolT,
  one ∷ [],
  (num_type, tt),
  wrong_comparison is_n (is_num (small 0 (omega arith))),
  (
    one ∷ [],
    record {
      left = at_number (pos 0);
      right = at_number (pos 1);
      left_typed = number_typed 0 (omega arith);
      right_typed = number_typed 1 (omega arith);
      near = number_near;
      left_value = truth true;
      right_value = truth false;
      left_means = (2, (pos 0, pos 0, refl, refl, refl));
      right_means = (2, (pos 1, pos 0, refl, refl, refl));
      too_far = no_truth;
    },
  ),
)

-- t == "a"
pub text_compared_at_zero : Unsound TextComparedAtZero
text_compared_at_zero = (
  Under (codes "t") TextT Closed,
  at nowhere (EqE (at nowhere (VarE (codes "t"))) (at nowhere (TextE (codes "a")))),
  BoolT,
  none ∷ [],
  (record { well_formed = refl; limits = tt }, tt),
  wrong_text (is_var (here refl)) (is_text (omega arith)),
  (
    Inf ∷ [],
    record {
      left = Bind (codes "t") (TextV (codes "a")) Empty;
      right = Bind (codes "t") (TextV (codes "b")) Empty;
      left_typed = typed_bind (typed_text (omega arith)) typed_empty;
      right_typed = typed_bind (typed_text (omega arith)) typed_empty;
      near = near_bind (far_text (record { le = tt })) near_empty;
      left_value = truth true;
      right_value = truth false;
      left_means = (2, inr (codes "a", codes "a", refl, refl, refl));
      right_means = (2, inr (codes "b", codes "a", refl, refl, refl));
      too_far = no_truth;
    },
  ),
)

-- let n = n in n
pub removed_afterwards : Unsound RemovedAfterwards
removed_afterwards = (
  number,
  at nowhere (LetE (codes "n") (at nowhere (VarE (codes "n"))) (at nowhere (VarE (codes "n")))),
  NumT,
  none ∷ [],
  (num_type, tt),
  wrong_let is_n (is_var (here refl)),
  (
    one ∷ [],
    record {
      left = at_number (pos 0);
      right = at_number (pos 1);
      left_typed = number_typed 0 (omega arith);
      right_typed = number_typed 1 (omega arith);
      near = number_near;
      left_value = NumV (pos 0);
      right_value = NumV (pos 1);
      left_means = (2, (NumV (pos 0), refl, refl));
      right_means = (2, (NumV (pos 1), refl, refl));
      too_far = no_num (pos 0) (pos 1) 1 _ _ refl (omega arith);
    },
  ),
)

-- a number n and a bag b
abbrev number_and_bag : Context
number_and_bag = Under (codes "n") NumT (Under (codes "b") (BagT NumT) Closed)

abbrev pub five : List Flat
five = NumF (pos 5) ∷ []

abbrev at_both : ℤ → Env
at_both z = Bind (codes "n") (NumV z) (Bind (codes "b") (BagV five) Empty)

pub five_typed : Typed (BagT NumT) (BagV five)
five_typed = typed_bag (All-cons (λ x. Typed NumT (value_of x)) (NumF (pos 5)) [] (typed_num (small 5 (omega arith))) (All-nil (λ x. Typed NumT (value_of x))))

both_typed : (k : ℕ) → k ≤ 100 → TypedEnv number_and_bag (at_both (pos k))
both_typed k h = typed_bind (typed_num (small k h)) (typed_bind five_typed typed_empty)

no_bags : NearBag (BagV (NumF (pos 0) ∷ [])) (BagV (NumF (pos 1) ∷ [])) (Fin 1 1) → ⊥
no_bags (near_bag n d h) =
    let k : n * 1 ≤ 1 * 1 = h.le in let l : 2 ≤ n = removal_least (NumF (pos 0) ∷ []) (NumF (pos 1) ∷ []) n d in omega (arith, k, l)

-- map (fn (x : num) => n) b
pub map_without_inf : Unsound MapWithoutInf
map_without_inf = (
  number_and_bag,
  at nowhere (MapE (at nowhere (FnE (codes "x") nowhere NumT (at nowhere (VarE (codes "n"))))) (at nowhere (VarE (codes "b")))),
  BagT NumT,
  add one none ∷ one ∷ [],
  (num_type, (record { well_formed = refl; limits = tt }, tt)),
  wrong_map (is_fn (is_var (there refl (here refl))) num_type) refl (is_var (there refl (here refl))),
  (
    one ∷ none ∷ [],
    record {
      left = at_both (pos 0);
      right = at_both (pos 1);
      left_typed = both_typed 0 (omega arith);
      right_typed = both_typed 1 (omega arith);
      near = near_bind (near_num (record { le = omega arith })) (near_bind (near_bag 0 (in_both none_left at_front at_front) (record { le = omega arith })) near_empty);
      left_value = BagV (NumF (pos 0) ∷ []);
      right_value = BagV (NumF (pos 1) ∷ []);
      left_means = (2, (FnV (codes "x") (at nowhere (VarE (codes "n"))) (at_both (pos 0)), five, NumF (pos 0) ∷ [], refl, refl, (NumF (pos 0), [], apply_fn refl, refl, refl), refl));
      right_means = (2, (FnV (codes "x") (at nowhere (VarE (codes "n"))) (at_both (pos 1)), five, NumF (pos 1) ∷ [], refl, refl, (NumF (pos 1), [], apply_fn refl, refl, refl), refl));
      too_far = no_bags;
    },
  ),
)

-- the result ![r] 0 moves to ![r] 1
moved : (r d : Distance) → Near (BangT r NumT) (BangV (NumV (pos 0))) (BangV (NumV (pos 1))) d → r ⊑ d
moved r d (near_bang c (near_num h) l) = one-mul r ⨾ mul-comm one r ⨾ (⊑-refl r ⊗ h) ⨾ l

-- fun (x : num) => ![r] x, where r is over 1
pub used_over_one : (r : Distance) → IsBang r → (r ⊑ one → ⊥) → Unsound (UsedAt r)
used_over_one r b h =
    let e = at nowhere (FunE (codes "x") nowhere NumT (at nowhere (BangE r (at nowhere (VarE (codes "x")))))) in
    let f = FunV (codes "x") (at nowhere (BangE r (at nowhere (VarE (codes "x"))))) Empty in (
      Closed,
      e,
      _,
      [],
      tt,
      wrong_fun (is_bang (is_var (here refl)) b) num_type (record { le = mul-comm r one ⨾ mul-one r; ge = one-mul r ⨾ mul-comm one r }),
      (
        [],
        record {
          left = Empty;
          right = Empty;
          left_typed = typed_empty;
          right_typed = typed_empty;
          near = near_empty;
          left_value = f;
          right_value = f;
          left_means = (1, refl);
          right_means = (1, refl);
          too_far = λ m. h (moved r _ (m.by one (NumV (pos 0)) (NumV (pos 1)) (typed_num (small 0 (omega arith))) (typed_num (small 1 (omega arith))) (near_num (record { le = omega arith })) (BangV (NumV (pos 0))) (BangV (NumV (pos 1))) (apply (2, (NumV (pos 0), refl, refl))) (apply (2, (NumV (pos 1), refl, refl)))) ⨾ add-none_r one);
        },
      ),
    )

-- filter (fn (x : num) => n) b and split, where n is true or false: at 0 their function's change isn't seen

abbrev truth_and_bag : Context
truth_and_bag = Under (codes "n") BoolT (Under (codes "b") (BagT NumT) Closed)

bool_type : IsType BoolT
bool_type = record { well_formed = refl; limits = (tt, tt) }

abbrev left_bag : Env
left_bag = Bind (codes "n") (truth true) (Bind (codes "b") (BagV five) Empty)

abbrev right_bag : Env
right_bag = Bind (codes "n") (truth false) (Bind (codes "b") (BagV five) Empty)

bool_left_typed : TypedEnv (truth_and_bag) left_bag
bool_left_typed = typed_bind (typed_inl typed_unit) (typed_bind five_typed typed_empty)

bool_right_typed : TypedEnv (truth_and_bag) right_bag
bool_right_typed = typed_bind (typed_inr typed_unit) (typed_bind five_typed typed_empty)

bool_near : NearEnv (truth_and_bag) left_bag right_bag (Inf ∷ none ∷ [])
bool_near = near_bind (near_lr (⊑-refl Inf)) (near_bind (near_bag 0 (in_both none_left at_front at_front) (⊑-refl none)) near_empty)

abbrev tests_n : Term
tests_n = at nowhere (FnE (codes "x") nowhere NumT (at nowhere (VarE (codes "n"))))

one_left : (c : ℕ) → Differ five [] c → 1 ≤ c
one_left c d = let h = sizes d in omega (arith, h.0)

not_at_none : (c p : ℕ) → Differ five [] c → Fin c 1 ⊑ Fin 0 p → ⊥
not_at_none c p d l = let h = one_left c d in let e : 1 * c ≤ den p * c = mul-le-mul_right c (den_pos p) in let k : c * den p ≤ 0 * 1 = l.le in omega (arith, h, e, k)

pub filter_at_zero : Unsound FilterAtZero
filter_at_zero = (
  truth_and_bag,
  at nowhere (FilterE tests_n (at nowhere (VarE (codes "b")))),
  BagT NumT,
  add (mul none one) none ∷ one ∷ [],
  (bool_type, (record { well_formed = refl; limits = tt }, tt)),
  wrong_filter (is_fn (is_var (there refl (here refl))) num_type) (is_var (there refl (here refl))),
  (
    Inf ∷ none ∷ [],
    record {
      left = left_bag;
      right = right_bag;
      left_typed = bool_left_typed;
      right_typed = bool_right_typed;
      near = bool_near;
      left_value = BagV five;
      right_value = BagV [];
      left_means = (2, (FnV (codes "x") (at nowhere (VarE (codes "n"))) left_bag, five, five, [], refl, refl, inl ([], apply_fn refl, (refl, refl), refl), refl));
      right_means = (2, (FnV (codes "x") (at nowhere (VarE (codes "n"))) right_bag, five, [], five, refl, refl, inr ([], apply_fn refl, (refl, refl), refl), refl));
      too_far = far;
    },
  ),
)
  where
    far : NearBag (BagV five) (BagV []) (Fin 0 1) → ⊥
    far (near_bag c d l) = not_at_none c 1 d l

less : (c d : Distance) → c ⊑ add c d
less c d = none-add c ⨾ add-comm none c ⨾ (⊑-refl c ⊕ none-least d)

pub split_at_zero : Unsound SplitAtZero
split_at_zero = (
  truth_and_bag,
  at nowhere (SplitE tests_n (at nowhere (VarE (codes "b")))),
  TensorT (BagT NumT) (BagT NumT),
  add (mul none one) none ∷ one ∷ [],
  (bool_type, (record { well_formed = refl; limits = tt }, tt)),
  wrong_split (is_fn (is_var (there refl (here refl))) num_type) (is_var (there refl (here refl))),
  (
    Inf ∷ none ∷ [],
    record {
      left = left_bag;
      right = right_bag;
      left_typed = bool_left_typed;
      right_typed = bool_right_typed;
      near = bool_near;
      left_value = PairV (BagV five) (BagV []);
      right_value = PairV (BagV []) (BagV five);
      left_means = (2, (FnV (codes "x") (at nowhere (VarE (codes "n"))) left_bag, five, five, [], refl, refl, inl ([], apply_fn refl, (refl, refl), refl), refl));
      right_means = (2, (FnV (codes "x") (at nowhere (VarE (codes "n"))) right_bag, five, [], five, refl, refl, inr ([], apply_fn refl, (refl, refl), refl), refl));
      too_far = far;
    },
  ),
)
  where
    far : NearPair NearBag NearBag (PairV (BagV five) (BagV [])) (PairV (BagV []) (BagV five)) (Fin 0 1) → ⊥
    far (near_pair c1 c2 (near_bag c d l) q m) = not_at_none c 1 d (l ⨾ less c1 c2 ⨾ m)
