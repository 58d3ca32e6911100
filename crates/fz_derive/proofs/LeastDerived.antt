-- The least derivation is a derivation.
use Rattle.std.proofs.Common.{◌≡◌, Bool, true, false, cond, List, [], ◌∷◌, ◌++◌, refl, sym, ap, ◌∙◌, subst}
use Rattle.std.specs.Prelude.{bytes_eq, not, Option, Some, None, ℤ}
use Rattle.std.proofs.lemmas.Bool.{cases_Bool}
use Rattle.fz_frac.specs.Distance.{Distance, Fin, Inf, is_le, one, greater, quotient, ◌⊑◌}
use Rattle.fz_frac.specs.Lowest.{is_out}
use Rattle.fz_frac.proofs.Laws.{is_le-yes}
use Rattle.fz_ast.proofs.SameTypes.{same_type_is}
use Rattle.fz_ast.specs.declared.span.Span.{Span}
use Rattle.fz_ast.specs.Types.{Ty, NumT, TextT, UnitT, TensorT, WithT, SumT, ArrowT, BangT, BagT, BoolT, UnlimitedT, Formed, WellFormed, UngroundSum, UnflatBag, is_ground, is_flat, formed, same_type}
use Rattle.fz_ast.specs.Terms.{Name, Term, at, VarE, NumE, TextE, UnitE, PairE, WithE, FstE, SndE, LetPairE, InlE, InrE, CaseE, IfE, FunE, FnE, AppE}
use Rattle.fz_ast.specs.Terms.{BangE, LetBangE, LetE, PlusE, MinusE, TimesE, LeE, EqE, ClipE, LeastE, GreatestE, SizeE, SumE, UnionE, MapE, FilterE, SplitE}
use Rattle.term_meanings.specs.Scopes.{Context, Closed, Under, size_of, widest_of}
use Rattle.term_meanings.specs.Sensitivities.{above_zero}
use Rattle.derivation_lines.specs.Lines.{Said, Line, amount_in}
use Rattle.derivation_rows.specs.Numbers.{Numbers, says_at, without, greater_at, nothing, named, same_as, sums, products, bound_sums, endless_sums, endless_both}
use Rattle.derivation_rows.specs.Rows.{Row, row, need, well, type_in, var_row, is_tensor, is_sum as is_sum_type, is_bag, fst_of, snd_of, app_of, eq_of, let_bang_of, map_of, test_of, halves}
use Rattle.derivation_rows.specs.Faults.{first_type, second_type}
use Rattle.fz_derive.specs.Derivable.{Allows, Derives, IsNamed, inmost, outer}
use Rattle.fz_derive.specs.Derivable.{is_var, is_num, is_text, is_unit, is_pair, is_with, is_fst, is_snd, is_let_pair, is_inl, is_inr, is_case, is_if, is_fun, is_fn, is_app, is_bang, is_let_bang, is_let, is_plus, is_minus, is_times, is_at_most, is_eq_num, is_eq_text, is_clip, is_least, is_greatest, is_size, is_sum, is_union, is_map, is_filter, is_split}
use Rattle.fz_derive.specs.Least.{Derived, above, derived_with, least, lines_of, said_of_each, sorted_names, with_part}
use Rattle.fz_derive.specs.Law.{LeastIsDerived}
use Rattle.fz_derive.proofs.LeastNames.{among_sorted, said_enough, said_named}

-- what is made of a term is a derivation of it, where anything is
record Makes (Γ : Context) (e : Term) (o : Option Derived) : Type 0 where
  pub made : (d : Derived) → o ≡ Some d → Derives Γ e (lines_of d)

by_none : {Γ : Context} {e : Term} → Makes Γ e None
by_none = record { made = λ d h. absurd (cc h) }

by_part : {Γ Δ : Context} {e a : Term} {f : Derived → Option Derived} {o : Option Derived} → Makes Δ a o → ((c : Derived) → Derives Δ a (lines_of c) → Makes Γ e (f c)) → Makes Γ e (with_part o f)
by_part {o = None} h k = by_none
by_part {o = Some c} h k = k c (h.made c refl)

by_need : {Γ : Context} {e : Term} (b : Bool) (o : Option Row) (below : List Line) → (b ≡ true → Makes Γ e (above Γ o below)) → Makes Γ e (above Γ (need b o) below)
by_need true o below k = k refl
by_need false o below k = by_none

by_own : {Γ : Context} {e : Term} (A : Ty) (n : Numbers) (below : List Line) → ((r : Line) → Allows Γ A n r → Derives Γ e (r ∷ below)) → Makes Γ e (above Γ (row A n) below)
by_own {Γ} {e} A n below k = go (said_of_each (sorted_names Γ) n) refl
  where
    go : (o : Option (List Said)) → said_of_each (sorted_names Γ) n ≡ o → Makes Γ e (derived_with A below o)
    go None i = by_none
    go (Some ss) i = record {
      made = λ d h.
          let j : record { own = record { ty = A; says = ss }; below = below } ≡ d = cc h in
          subst (λ z. Derives Γ e (lines_of z)) j (k (record { ty = A; says = ss })
          (record { type = refl; enough = λ x B m. said_enough x (sorted_names Γ) n ss i (among_sorted Γ x B m); scope = said_named Γ n ss i }));
    }

formed_is : (f : Formed) → well f ≡ true → f ≡ WellFormed
formed_is WellFormed h = refl
formed_is UngroundSum h = absurd (cc h)
formed_is UnflatBag h = absurd (cc h)

not_out : (b : Bool) → not b ≡ true → b ≡ false
not_out true h = absurd (cc h)
not_out false h = refl

tensor_is : (T : Ty) → is_tensor T ≡ true → T ≡ TensorT (first_type T) (second_type T)
tensor_is (TensorT A B) h = refl
tensor_is NumT h = absurd (cc h)
tensor_is TextT h = absurd (cc h)
tensor_is UnitT h = absurd (cc h)
tensor_is (WithT A B) h = absurd (cc h)
tensor_is (SumT A B) h = absurd (cc h)
tensor_is (ArrowT A B) h = absurd (cc h)
tensor_is (BangT r A) h = absurd (cc h)
tensor_is (BagT A) h = absurd (cc h)

sum_is : (T : Ty) → is_sum_type T ≡ true → T ≡ SumT (first_type T) (second_type T)
sum_is (SumT A B) h = refl
sum_is NumT h = absurd (cc h)
sum_is TextT h = absurd (cc h)
sum_is UnitT h = absurd (cc h)
sum_is (TensorT A B) h = absurd (cc h)
sum_is (WithT A B) h = absurd (cc h)
sum_is (ArrowT A B) h = absurd (cc h)
sum_is (BangT r A) h = absurd (cc h)
sum_is (BagT A) h = absurd (cc h)

bag_is : (T : Ty) → is_bag T ≡ true → (A : Ty) × (T ≡ BagT A)
bag_is (BagT A) h = (A, refl)
bag_is NumT h = absurd (cc h)
bag_is TextT h = absurd (cc h)
bag_is UnitT h = absurd (cc h)
bag_is (TensorT A B) h = absurd (cc h)
bag_is (WithT A B) h = absurd (cc h)
bag_is (SumT A B) h = absurd (cc h)
bag_is (ArrowT A B) h = absurd (cc h)
bag_is (BangT r A) h = absurd (cc h)

type_named : (Γ : Context) (x : Name) (A : Ty) → type_in Γ x ≡ Some A → IsNamed Γ x A
type_named Closed x A h = absurd (cc h)
type_named (Under y B Γ) x A h = go (bytes_eq y x) refl h (λ k. type_named Γ x A k)
  where
    go : (b : Bool) → bytes_eq y x ≡ b → cond b (Some B) (type_in Γ x) ≡ Some A → (type_in Γ x ≡ Some A → IsNamed Γ x A) → IsNamed (Under y B Γ) x A
    go true e h f = let i : B ≡ A = cc h in subst (λ z. IsNamed (Under y B Γ) x z) i (inmost e)
    go false e h f = outer e (f h)

-- rows that go by the type of a part
module _ (Γ : Context) (s : Span) where
  fst_case : (e : Term) (c : Derived) (T : Ty) → c.own.ty ≡ T → Derives Γ e (lines_of c) → Makes Γ (at s (FstE e)) (above Γ (fst_of T c.own) (lines_of c))
  fst_case e c NumT t p = by_none
  fst_case e c TextT t p = by_none
  fst_case e c UnitT t p = by_none
  fst_case e c (TensorT A B) t p = by_none
  fst_case e c (WithT A B) t p = by_own _ _ _ (λ r w. is_fst p t w)
  fst_case e c (SumT A B) t p = by_none
  fst_case e c (ArrowT A B) t p = by_none
  fst_case e c (BangT r A) t p = by_none
  fst_case e c (BagT A) t p = by_none

  snd_case : (e : Term) (c : Derived) (T : Ty) → c.own.ty ≡ T → Derives Γ e (lines_of c) → Makes Γ (at s (SndE e)) (above Γ (snd_of T c.own) (lines_of c))
  snd_case e c NumT t p = by_none
  snd_case e c TextT t p = by_none
  snd_case e c UnitT t p = by_none
  snd_case e c (TensorT A B) t p = by_none
  snd_case e c (WithT A B) t p = by_own _ _ _ (λ r w. is_snd p t w)
  snd_case e c (SumT A B) t p = by_none
  snd_case e c (ArrowT A B) t p = by_none
  snd_case e c (BangT r A) t p = by_none
  snd_case e c (BagT A) t p = by_none

  app_case : (f a : Term) (c d : Derived) (T : Ty) → c.own.ty ≡ T → Derives Γ f (lines_of c) → Derives Γ a (lines_of d) → Makes Γ (at s (AppE f a)) (above Γ (app_of T c.own d.own) (lines_of c ++ lines_of d))
  app_case f a c d NumT t p q = by_none
  app_case f a c d TextT t p q = by_none
  app_case f a c d UnitT t p q = by_none
  app_case f a c d (TensorT A B) t p q = by_none
  app_case f a c d (WithT A B) t p q = by_none
  app_case f a c d (SumT A B) t p q = by_none
  app_case f a c d (ArrowT A B) t p q = by_need _ _ _ (λ i. by_own _ _ _ (λ r w. is_app p t q (same_type_is d.own.ty A i) w))
  app_case f a c d (BangT r A) t p q = by_none
  app_case f a c d (BagT A) t p q = by_none

  let_bang_case : (x : Name) (e b : Term) (c d : Derived) (T : Ty) → c.own.ty ≡ T → Derives Γ e (lines_of c) → Derives (Under x (first_type T) Γ) b (lines_of d)
      → Makes Γ (at s (LetBangE x e b)) (above Γ (let_bang_of T x c.own d.own) (lines_of c ++ lines_of d))
  let_bang_case x e b c d NumT t p q = by_none
  let_bang_case x e b c d TextT t p q = by_none
  let_bang_case x e b c d UnitT t p q = by_none
  let_bang_case x e b c d (TensorT A B) t p q = by_none
  let_bang_case x e b c d (WithT A B) t p q = by_none
  let_bang_case x e b c d (SumT A B) t p q = by_none
  let_bang_case x e b c d (ArrowT A B) t p q = by_none
  let_bang_case x e b c d (BangT r A) t p q = by_need _ _ _ (λ i. by_own _ _ _ (λ l w. is_let_bang p t q (not_out _ i) w))
  let_bang_case x e b c d (BagT A) t p q = by_none

  eq_case : (a b : Term) (c d : Derived) (T : Ty) → c.own.ty ≡ T → Derives Γ a (lines_of c) → Derives Γ b (lines_of d) → Makes Γ (at s (EqE a b)) (above Γ (eq_of T c.own d.own) (lines_of c ++ lines_of d))
  eq_case a b c d NumT t p q = by_need _ _ _ (λ i. by_own _ _ _ (λ r w. is_eq_num p t q (same_type_is d.own.ty NumT i) w))
  eq_case a b c d TextT t p q = by_need _ _ _ (λ i. by_own _ _ _ (λ r w. is_eq_text p t q (same_type_is d.own.ty TextT i) w))
  eq_case a b c d UnitT t p q = by_none
  eq_case a b c d (TensorT A B) t p q = by_none
  eq_case a b c d (WithT A B) t p q = by_none
  eq_case a b c d (SumT A B) t p q = by_none
  eq_case a b c d (ArrowT A B) t p q = by_none
  eq_case a b c d (BangT r A) t p q = by_none
  eq_case a b c d (BagT A) t p q = by_none

  map_case : (f b : Term) (c d : Derived) (T : Ty) → c.own.ty ≡ T → Derives Γ f (lines_of c) → Derives Γ b (lines_of d) → Makes Γ (at s (MapE f b)) (above Γ (map_of T c.own d.own) (lines_of c ++ lines_of d))
  map_case f b c d NumT t p q = by_none
  map_case f b c d TextT t p q = by_none
  map_case f b c d UnitT t p q = by_none
  map_case f b c d (TensorT A B) t p q = by_none
  map_case f b c d (WithT A B) t p q = by_none
  map_case f b c d (SumT A B) t p q = by_none
  map_case f b c d (BangT r A) t p q = by_none
  map_case f b c d (BagT A) t p q = by_none
  map_case f b c d (ArrowT NumT B) t p q = by_none
  map_case f b c d (ArrowT TextT B) t p q = by_none
  map_case f b c d (ArrowT UnitT B) t p q = by_none
  map_case f b c d (ArrowT (TensorT A A') B) t p q = by_none
  map_case f b c d (ArrowT (WithT A A') B) t p q = by_none
  map_case f b c d (ArrowT (SumT A A') B) t p q = by_none
  map_case f b c d (ArrowT (ArrowT A A') B) t p q = by_none
  map_case f b c d (ArrowT (BagT A) B) t p q = by_none
  map_case f b c d (ArrowT (BangT (Fin m n) A) B) t p q = by_none
  map_case f b c d (ArrowT (BangT Inf A) B) t p q = by_need _ _ _ (λ i. by_need _ _ _ (λ j. by_own _ _ _ (λ r w. is_map p t i q (same_type_is d.own.ty (BagT A) j) w)))

  filter_case : (f b : Term) (c d : Derived) (T : Ty) → c.own.ty ≡ T → Derives Γ f (lines_of c) → Derives Γ b (lines_of d) → Makes Γ (at s (FilterE f b)) (above Γ (test_of BagT T c.own d.own) (lines_of c ++ lines_of d))
  filter_case f b c d NumT t p q = by_none
  filter_case f b c d TextT t p q = by_none
  filter_case f b c d UnitT t p q = by_none
  filter_case f b c d (TensorT A B) t p q = by_none
  filter_case f b c d (WithT A B) t p q = by_none
  filter_case f b c d (SumT A B) t p q = by_none
  filter_case f b c d (BangT r A) t p q = by_none
  filter_case f b c d (BagT A) t p q = by_none
  filter_case f b c d (ArrowT NumT B) t p q = by_none
  filter_case f b c d (ArrowT TextT B) t p q = by_none
  filter_case f b c d (ArrowT UnitT B) t p q = by_none
  filter_case f b c d (ArrowT (TensorT A A') B) t p q = by_none
  filter_case f b c d (ArrowT (WithT A A') B) t p q = by_none
  filter_case f b c d (ArrowT (SumT A A') B) t p q = by_none
  filter_case f b c d (ArrowT (ArrowT A A') B) t p q = by_none
  filter_case f b c d (ArrowT (BagT A) B) t p q = by_none
  filter_case f b c d (ArrowT (BangT (Fin m n) A) B) t p q = by_none
  filter_case f b c d (ArrowT (BangT Inf A) B) t p q = by_need _ _ _ (λ i. by_need _ _ _ (λ j. by_own _ _ _ (λ r w. is_filter p (t ∙ ap (UnlimitedT A) (same_type_is B BoolT i)) q (same_type_is d.own.ty (BagT A) j) w)))

  split_case : (f b : Term) (c d : Derived) (T : Ty) → c.own.ty ≡ T → Derives Γ f (lines_of c) → Derives Γ b (lines_of d) → Makes Γ (at s (SplitE f b)) (above Γ (test_of halves T c.own d.own) (lines_of c ++ lines_of d))
  split_case f b c d NumT t p q = by_none
  split_case f b c d TextT t p q = by_none
  split_case f b c d UnitT t p q = by_none
  split_case f b c d (TensorT A B) t p q = by_none
  split_case f b c d (WithT A B) t p q = by_none
  split_case f b c d (SumT A B) t p q = by_none
  split_case f b c d (BangT r A) t p q = by_none
  split_case f b c d (BagT A) t p q = by_none
  split_case f b c d (ArrowT NumT B) t p q = by_none
  split_case f b c d (ArrowT TextT B) t p q = by_none
  split_case f b c d (ArrowT UnitT B) t p q = by_none
  split_case f b c d (ArrowT (TensorT A A') B) t p q = by_none
  split_case f b c d (ArrowT (WithT A A') B) t p q = by_none
  split_case f b c d (ArrowT (SumT A A') B) t p q = by_none
  split_case f b c d (ArrowT (ArrowT A A') B) t p q = by_none
  split_case f b c d (ArrowT (BagT A) B) t p q = by_none
  split_case f b c d (ArrowT (BangT (Fin m n) A) B) t p q = by_none
  split_case f b c d (ArrowT (BangT Inf A) B) t p q = by_need _ _ _ (λ i. by_need _ _ _ (λ j. by_own _ _ _ (λ r w. is_split p (t ∙ ap (UnlimitedT A) (same_type_is B BoolT i)) q (same_type_is d.own.ty (BagT A) j) w)))

  var_case : (x : Name) (o : Option Ty) → type_in Γ x ≡ o → Makes Γ (at s (VarE x)) (above Γ (var_row x o) [])
  var_case x None e = by_none
  var_case x (Some A) e = by_own _ _ _ (λ r w. is_var (type_named Γ x A e) w)

  union_case : (a b : Term) (c d : Derived) → ((A : Ty) × (c.own.ty ≡ BagT A)) → d.own.ty ≡ c.own.ty → Derives Γ a (lines_of c) → Derives Γ b (lines_of d)
      → (r : Line) → Allows Γ c.own.ty (sums (says_at c.own) (says_at d.own)) r → Derives Γ (at s (UnionE a b)) (r ∷ lines_of c ++ lines_of d)
  union_case a b c d k i p q r w = is_union p k.1 q (i ∙ k.1) (subst (λ T. Allows Γ T (sums (says_at c.own) (says_at d.own)) r) k.1 w)

makes : (e : Term) (Γ : Context) → Makes Γ e (least Γ e)
makes (at s (VarE x)) Γ = var_case Γ s x (type_in Γ x) refl
makes (at s (NumE z)) Γ = by_own _ _ _ (λ r w. is_num w)
makes (at s (TextE t)) Γ = by_own _ _ _ (λ r w. is_text w)
makes (at s UnitE) Γ = by_own _ _ _ (λ r w. is_unit w)
makes (at s (PairE a b)) Γ = by_part (makes a Γ) (λ c p. by_part (makes b Γ) (λ d q. by_own _ _ _ (λ r w. is_pair p q w)))
makes (at s (WithE a b)) Γ = by_part (makes a Γ) (λ c p. by_part (makes b Γ) (λ d q. by_own _ _ _ (λ r w. is_with p q w)))
makes (at s (FstE e)) Γ = by_part (makes e Γ) (λ c p. fst_case Γ s e c c.own.ty refl p)
makes (at s (SndE e)) Γ = by_part (makes e Γ) (λ c p. snd_case Γ s e c c.own.ty refl p)
makes (at s (LetPairE x y e b)) Γ = by_part (makes e Γ) (λ c p. by_part (makes b (Under y (second_type c.own.ty) (Under x (first_type c.own.ty) Γ))) (λ d q.
    by_need _ _ _ (λ i. by_own _ _ _ (λ r w. is_let_pair p (tensor_is c.own.ty i) q w))))
makes (at s (InlE u T e)) Γ = by_part (makes e Γ) (λ c p. by_need _ _ _ (λ i. by_need _ _ _ (λ j. by_need _ _ _ (λ k. by_own _ _ _ (λ r w. is_inl p (formed_is (formed T) i) j k w)))))
makes (at s (InrE u T e)) Γ = by_part (makes e Γ) (λ c p. by_need _ _ _ (λ i. by_need _ _ _ (λ j. by_need _ _ _ (λ k. by_own _ _ _ (λ r w. is_inr p (formed_is (formed T) i) j k w)))))
makes (at s (CaseE e x a y b)) Γ = by_part (makes e Γ) (λ c p. by_part (makes a (Under x (first_type c.own.ty) Γ)) (λ d q. by_part (makes b (Under y (second_type c.own.ty) Γ)) (λ f g.
    by_need _ _ _ (λ i. by_need _ _ _ (λ j. by_need _ _ _ (λ k. by_own _ _ _ (λ r w. is_case p (sum_is c.own.ty i) q g (same_type_is f.own.ty d.own.ty j) k w)))))))
makes (at s (IfE e a b)) Γ = by_part (makes e Γ) (λ c p. by_part (makes a Γ) (λ d q. by_part (makes b Γ) (λ f g.
    by_need _ _ _ (λ i. by_need _ _ _ (λ j. by_need _ _ _ (λ k. by_own _ _ _ (λ r w. is_if p (same_type_is c.own.ty BoolT i) q g (same_type_is f.own.ty d.own.ty j) k w)))))))
makes (at s (FunE x u T e)) Γ = by_part (makes e (Under x T Γ)) (λ c p. by_need _ _ _ (λ i. by_need _ _ _ (λ j. by_own _ _ _ (λ r w. is_fun p (formed_is (formed T) i) (is_le-yes (says_at c.own x) one j) w))))
makes (at s (FnE x u T e)) Γ = by_part (makes e (Under x T Γ)) (λ c p. by_need _ _ _ (λ i. by_own _ _ _ (λ r w. is_fn p (formed_is (formed T) i) w)))
makes (at s (AppE f a)) Γ = by_part (makes f Γ) (λ c p. by_part (makes a Γ) (λ d q. app_case Γ s f a c d c.own.ty refl p q))
makes (at s (BangE q e)) Γ = by_part (makes e Γ) (λ c p. by_own _ _ _ (λ r w. is_bang p w))
makes (at s (LetBangE x e b)) Γ = by_part (makes e Γ) (λ c p. by_part (makes b (Under x (first_type c.own.ty) Γ)) (λ d q. let_bang_case Γ s x e b c d c.own.ty refl p q))
makes (at s (LetE x e b)) Γ = by_part (makes e Γ) (λ c p. by_part (makes b (Under x c.own.ty Γ)) (λ d q. by_own _ _ _ (λ r w. is_let p q w)))
makes (at s (PlusE a b)) Γ = by_part (makes a Γ) (λ c p. by_part (makes b Γ) (λ d q. by_need _ _ _ (λ i. by_need _ _ _ (λ j. by_own _ _ _ (λ r w. is_plus p (same_type_is c.own.ty NumT i) q (same_type_is d.own.ty NumT j) w)))))
makes (at s (MinusE a b)) Γ = by_part (makes a Γ) (λ c p. by_part (makes b Γ) (λ d q. by_need _ _ _ (λ i. by_need _ _ _ (λ j. by_own _ _ _ (λ r w. is_minus p (same_type_is c.own.ty NumT i) q (same_type_is d.own.ty NumT j) w)))))
makes (at s (LeE a b)) Γ = by_part (makes a Γ) (λ c p. by_part (makes b Γ) (λ d q. by_need _ _ _ (λ i. by_need _ _ _ (λ j. by_own _ _ _ (λ r w. is_at_most p (same_type_is c.own.ty NumT i) q (same_type_is d.own.ty NumT j) w)))))
makes (at s (TimesE k e)) Γ = by_part (makes e Γ) (λ c p. by_need _ _ _ (λ i. by_need _ _ _ (λ j. by_own _ _ _ (λ r w. is_times p (same_type_is c.own.ty NumT i) (not_out _ j) w))))
makes (at s (EqE a b)) Γ = by_part (makes a Γ) (λ c p. by_part (makes b Γ) (λ d q. eq_case Γ s a b c d c.own.ty refl p q))
makes (at s (ClipE lo hi e)) Γ = by_part (makes e Γ) (λ c p. by_need _ _ _ (λ i. by_own _ _ _ (λ r w. is_clip p (same_type_is c.own.ty NumT i) w)))
makes (at s (LeastE e)) Γ = by_part (makes e Γ) (λ c p. by_need _ _ _ (λ i. by_own _ _ _ (λ r w. is_least p (same_type_is c.own.ty (WithT NumT NumT) i) w)))
makes (at s (GreatestE e)) Γ = by_part (makes e Γ) (λ c p. by_need _ _ _ (λ i. by_own _ _ _ (λ r w. is_greatest p (same_type_is c.own.ty (WithT NumT NumT) i) w)))
makes (at s (SizeE e)) Γ = by_part (makes e Γ) (λ c p. by_need _ _ _ (λ i. by_own _ _ _ (λ r w. is_size p (bag_is c.own.ty i).1 w)))
makes (at s (SumE lo hi e)) Γ = by_part (makes e Γ) (λ c p. by_need _ _ _ (λ i. by_need _ _ _ (λ j. by_own _ _ _ (λ r w. is_sum p (same_type_is c.own.ty (BagT NumT) i) (not_out _ j) w))))
makes (at s (UnionE a b)) Γ = by_part (makes a Γ) (λ c p. by_part (makes b Γ) (λ d q. by_need _ _ _ (λ i. by_need _ _ _ (λ j. by_own _ _ _ (union_case Γ s a b c d (bag_is c.own.ty i) (same_type_is d.own.ty c.own.ty j) p q)))))
makes (at s (MapE f b)) Γ = by_part (makes f Γ) (λ c p. by_part (makes b Γ) (λ d q. map_case Γ s f b c d c.own.ty refl p q))
makes (at s (FilterE f b)) Γ = by_part (makes f Γ) (λ c p. by_part (makes b Γ) (λ d q. filter_case Γ s f b c d c.own.ty refl p q))
makes (at s (SplitE f b)) Γ = by_part (makes f Γ) (λ c p. by_part (makes b Γ) (λ d q. split_case Γ s f b c d c.own.ty refl p q))

pub derived : LeastIsDerived
derived Γ e d h = (makes e Γ).made d h
