-- What a term means, as a function: where the rules give a term a value, it is this. Where they give none, it may be anything.
use Rattle.std.specs.Int.{int_max, int_min}
use Rattle.std.specs.Prelude.{Bool, List, None, Option, Some, [], bytes_eq, cond, false, int_le, length}
use Rattle.std.specs.Prelude.{map, pos, suc, true, zero, ℕ, ℤ, ◌*ℤ◌, ◌++◌, ◌+ℤ◌, ◌-ℤ◌, ◌∷◌}
use Rattle.fz_ast.specs.Terms.{AppE, BangE, CaseE, ClipE, EqE, FilterE, FnE, FstE, FunE, GreatestE, IfE, InlE, InrE, LeE, LeastE, LetBangE, LetE, LetPairE}
use Rattle.fz_ast.specs.Terms.{MapE, MinusE, NumE, PairE, PlusE, SizeE, SndE, SplitE, SumE, Term, TermForm, TextE, TimesE, UnionE, UnitE, VarE, WithE, at}
use Rattle.metric_law.specs.Means.{find}
use Rattle.metric_values.specs.Distances.{same_number}
use Rattle.metric_values.specs.Numbers.{clamp, clip, clipped_sum}
use Rattle.metric_values.specs.Values.{BagV, BangV, Bind, Env, Flat, FnV, FunV, InlV, InrV, NumF, NumV, PairV, TextV, UnitV, Value, truth, value_of}
use Rattle.run_values.specs.Flats.{flat_of}
use Rattle.run_values.specs.Parts.{banged_in, elements, first_in, number_in, second_in, side_in}

abbrev pub Computing : Type 0
Computing = Env → Term → Value

abbrev pub value_or_unit : Option Value → Value
value_or_unit None = UnitV
value_or_unit (Some v) = v

-- what the closure c makes of u
abbrev pub applied : Computing → Value → Value → Value
applied C (FunV x e γ) u = C (Bind x u γ) e
applied C (FnV x e γ) u = C (Bind x (banged_in u) γ) e
applied C c u = UnitV

-- of an element
abbrev pub given : Computing → Value → Flat → Value
given C c x = applied C c (BangV (value_of x))

abbrev pub is_true : Value → Bool
is_true (InlV u) = true
is_true v = false

abbrev pub agree : Bool → Bool → Bool
agree true b = b
agree false b = cond b false true

-- what c makes of the elements
abbrev pub images : Computing → Value → List Flat → List Flat
images C c [] = []
images C c (x ∷ xs) = flat_of (given C c x) ∷ images C c xs

-- those of which c says k
abbrev pub chosen : Computing → Bool → Value → List Flat → List Flat
chosen C k c [] = []
chosen C k c (x ∷ xs) = cond (agree k (is_true (given C c x))) (x ∷ chosen C k c xs) (chosen C k c xs)

abbrev pub equal_truth : Value → Value → Value
equal_truth (NumV y) (NumV z) = truth (same_number y z)
equal_truth (TextV s) (TextV t) = truth (bytes_eq s t)
equal_truth u w = UnitV

abbrev pub flat_number : Flat → ℤ
flat_number (NumF z) = z
flat_number x = pos 0

-- one rule for each form of term, over what its parts are
abbrev pub computed_form : Computing → Env → TermForm → Value
computed_form C γ (VarE x) = value_or_unit (find γ x)
computed_form C γ (NumE z) = NumV z
computed_form C γ (TextE s) = TextV s
computed_form C γ UnitE = UnitV
computed_form C γ (PairE a b) = PairV (C γ a) (C γ b)
computed_form C γ (WithE a b) = PairV (C γ a) (C γ b)
computed_form C γ (FstE e) = first_in (C γ e)
computed_form C γ (SndE e) = second_in (C γ e)
computed_form C γ (LetPairE x y e b) = C (Bind y (second_in (C γ e)) (Bind x (first_in (C γ e)) γ)) b
computed_form C γ (InlE s t e) = InlV (C γ e)
computed_form C γ (InrE s t e) = InrV (C γ e)
computed_form C γ (CaseE e x a y b) = cond (is_true (C γ e)) (C (Bind x (side_in (C γ e)) γ) a) (C (Bind y (side_in (C γ e)) γ) b)
computed_form C γ (IfE e a b) = cond (is_true (C γ e)) (C γ a) (C γ b)
computed_form C γ (FunE x s t e) = FunV x e γ
computed_form C γ (FnE x s t e) = FnV x e γ
computed_form C γ (AppE f a) = applied C (C γ f) (C γ a)
computed_form C γ (BangE r e) = BangV (C γ e)
computed_form C γ (LetBangE x e b) = C (Bind x (banged_in (C γ e)) γ) b
computed_form C γ (LetE x e b) = C (Bind x (C γ e) γ) b
computed_form C γ (PlusE a b) = NumV (clamp (number_in (C γ a) +ℤ number_in (C γ b)))
computed_form C γ (MinusE a b) = NumV (clamp (number_in (C γ a) -ℤ number_in (C γ b)))
computed_form C γ (TimesE k e) = NumV (clamp (k *ℤ number_in (C γ e)))
computed_form C γ (LeE a b) = truth (int_le (number_in (C γ a)) (number_in (C γ b)))
computed_form C γ (EqE a b) = equal_truth (C γ a) (C γ b)
computed_form C γ (ClipE lo hi e) = NumV (clip lo hi (number_in (C γ e)))
computed_form C γ (LeastE e) = NumV (int_min (number_in (first_in (C γ e))) (number_in (second_in (C γ e))))
computed_form C γ (GreatestE e) = NumV (int_max (number_in (first_in (C γ e))) (number_in (second_in (C γ e))))
computed_form C γ (SizeE e) = NumV (clamp (pos (length (elements (C γ e)))))
computed_form C γ (SumE lo hi e) = NumV (clamp (clipped_sum lo hi (map flat_number (elements (C γ e)))))
computed_form C γ (UnionE a b) = BagV (elements (C γ a) ++ elements (C γ b))
computed_form C γ (MapE f b) = BagV (images C (C γ f) (elements (C γ b)))
computed_form C γ (FilterE f b) = BagV (chosen C true (C γ f) (elements (C γ b)))
computed_form C γ (SplitE f b) = PairV (BagV (chosen C true (C γ f) (elements (C γ b)))) (BagV (chosen C false (C γ f) (elements (C γ b))))

-- by a derivation of at most this height. It doesn't unfold by itself.
unfoldable pub computed : ℕ → Computing
computed zero γ e = UnitV
computed (suc n) γ (at s f) = computed_form (computed n) γ f
