-- The least node, in preorder, whose rule fails over the parts' lines.
use Rattle.std.specs.Prelude.{Bool, true, false, cond, ◌&&◌, ℕ, ◌+◌, List, [], ◌∷◌, Option, Some, None, bytes_eq, is_some}
use Rattle.fz_frac.specs.Distance.{Distance, is_le}
use Rattle.fz_ast.specs.Types.{Ty, NumT, TextT, UnitT, TensorT, SumT, BangT, same_type}
use Rattle.fz_ast.specs.Terms.{Name, Term, at, VarE, NumE, TextE, UnitE, PairE, WithE, FstE, SndE, LetPairE, InlE, InrE, CaseE, IfE, FunE, FnE, AppE}
use Rattle.fz_ast.specs.Terms.{BangE, LetBangE, LetE, PlusE, MinusE, TimesE, LeE, EqE, ClipE, LeastE, GreatestE, SizeE, SumE, UnionE, MapE, FilterE, SplitE}
use Rattle.term_meanings.specs.Scopes.{Context, Closed, Under}
use Rattle.derivation_lines.specs.Lines.{Said, Line, line_at, amount_in}
use Rattle.derivation_rows.specs.Nodes.{nodes_of}
use Rattle.derivation_rows.specs.Numbers.{Amounts, Numbers}
use Rattle.derivation_rows.specs.Rows.{Row, var_row, type_in, leaf_row, pair_row, with_row, fst_row, snd_row, let_pair_row, inl_row, inr_row, case_row, if_row}
use Rattle.derivation_rows.specs.Rows.{fun_row, fn_row, app_row, bang_row, let_bang_row, let_row, plus_row, times_row, le_row, eq_row, clip_row, least_row}
use Rattle.derivation_rows.specs.Rows.{size_row, sum_row, union_row, map_row, filter_row, split_row}

-- what is said is at least the rule's number, which is in range
abbrev pub suffices : Option Distance → Distance → Bool
suffices None d = false
suffices (Some n) d = is_le n d

-- and so at each name in scope
abbrev pub suffices_at : Context → Numbers → Amounts → Bool
suffices_at Closed n D = true
suffices_at (Under x A Γ) n D = suffices (n x) (D x) && suffices_at Γ n D

abbrev pub is_in_scope : Context → Name → Bool
is_in_scope Γ x = is_some (type_in Γ x)

-- each name that is said is in scope
abbrev pub are_in_scope : Context → List Said → Bool
are_in_scope Γ [] = true
are_in_scope Γ (s ∷ ss) = is_in_scope Γ s.name && are_in_scope Γ ss

-- the node's line has its rule's type, and at each name in scope at least the rule's number, and it says no other name
abbrev pub is_fine : Context → Option Row → Line → Bool
is_fine Γ None l = false
is_fine Γ (Some r) l = same_type r.ty l.ty && (suffices_at Γ r.number (amount_in l.says) && are_in_scope Γ l.says)

-- the types of bound names, where the part's type is of the form that its rule wants
abbrev pub first_type : Ty → Ty
first_type (TensorT A B) = A
first_type (SumT A B) = A
first_type (BangT r A) = A
first_type T = NumT

abbrev pub second_type : Ty → Ty
second_type (TensorT A B) = B
second_type (SumT A B) = B
second_type T = NumT

abbrev pub first_of : Option ℕ → Option ℕ → Option ℕ
first_of (Some k) o = Some k
first_of None o = o

-- the node itself, of line k, and then those below it
abbrev pub node : List Line → Context → ℕ → Option Row → Option ℕ → Option ℕ
node L Γ k o below = cond (is_fine Γ o (line_at L k)) below (Some k)

-- where the second and the third part's lines begin
abbrev pub second_at : ℕ → Term → ℕ
second_at k a = k + 1 + nodes_of a

abbrev pub third_at : ℕ → Term → Term → ℕ
third_at k a b = k + 1 + nodes_of a + nodes_of b

-- Of a term whose lines are those of L from k on, the least line whose node's rule fails.
abbrev pub fault_in : List Line → Context → Term → ℕ → Option ℕ
fault_in L Γ (at s (VarE x)) k = node L Γ k (var_row x (type_in Γ x)) None
fault_in L Γ (at s (NumE z)) k = node L Γ k (leaf_row NumT) None
fault_in L Γ (at s (TextE t)) k = node L Γ k (leaf_row TextT) None
fault_in L Γ (at s UnitE) k = node L Γ k (leaf_row UnitT) None
fault_in L Γ (at s (PairE a b)) k =
    node L Γ k (pair_row (line_at L (k + 1)) (line_at L (second_at k a))) (first_of (fault_in L Γ a (k + 1)) (fault_in L Γ b (second_at k a)))
fault_in L Γ (at s (WithE a b)) k =
    node L Γ k (with_row (line_at L (k + 1)) (line_at L (second_at k a))) (first_of (fault_in L Γ a (k + 1)) (fault_in L Γ b (second_at k a)))
fault_in L Γ (at s (FstE e)) k = node L Γ k (fst_row (line_at L (k + 1))) (fault_in L Γ e (k + 1))
fault_in L Γ (at s (SndE e)) k = node L Γ k (snd_row (line_at L (k + 1))) (fault_in L Γ e (k + 1))
fault_in L Γ (at s (LetPairE x y e b)) k =
    node L Γ k (let_pair_row x y (line_at L (k + 1)) (line_at L (second_at k e)))
    (first_of (fault_in L Γ e (k + 1)) (fault_in L (Under y (second_type (line_at L (k + 1)).ty) (Under x (first_type (line_at L (k + 1)).ty) Γ)) b (second_at k e)))
fault_in L Γ (at s (InlE u T e)) k = node L Γ k (inl_row T (line_at L (k + 1))) (fault_in L Γ e (k + 1))
fault_in L Γ (at s (InrE u T e)) k = node L Γ k (inr_row T (line_at L (k + 1))) (fault_in L Γ e (k + 1))
fault_in L Γ (at s (CaseE e x a y b)) k =
    node L Γ k (case_row x y (line_at L (k + 1)) (line_at L (second_at k e)) (line_at L (third_at k e a)))
    (first_of (fault_in L Γ e (k + 1)) (first_of (fault_in L (Under x (first_type (line_at L (k + 1)).ty) Γ) a (second_at k e))
    (fault_in L (Under y (second_type (line_at L (k + 1)).ty) Γ) b (third_at k e a))))
fault_in L Γ (at s (IfE e a b)) k =
    node L Γ k (if_row (line_at L (k + 1)) (line_at L (second_at k e)) (line_at L (third_at k e a)))
    (first_of (fault_in L Γ e (k + 1)) (first_of (fault_in L Γ a (second_at k e)) (fault_in L Γ b (third_at k e a))))
fault_in L Γ (at s (FunE x u T e)) k = node L Γ k (fun_row x T (line_at L (k + 1))) (fault_in L (Under x T Γ) e (k + 1))
fault_in L Γ (at s (FnE x u T e)) k = node L Γ k (fn_row x T (line_at L (k + 1))) (fault_in L (Under x T Γ) e (k + 1))
fault_in L Γ (at s (AppE f a)) k =
    node L Γ k (app_row (line_at L (k + 1)) (line_at L (second_at k f))) (first_of (fault_in L Γ f (k + 1)) (fault_in L Γ a (second_at k f)))
fault_in L Γ (at s (BangE r e)) k = node L Γ k (bang_row r (line_at L (k + 1))) (fault_in L Γ e (k + 1))
fault_in L Γ (at s (LetBangE x e b)) k =
    node L Γ k (let_bang_row x (line_at L (k + 1)) (line_at L (second_at k e)))
    (first_of (fault_in L Γ e (k + 1)) (fault_in L (Under x (first_type (line_at L (k + 1)).ty) Γ) b (second_at k e)))
fault_in L Γ (at s (LetE x e b)) k =
    node L Γ k (let_row x (line_at L (k + 1)) (line_at L (second_at k e))) (first_of (fault_in L Γ e (k + 1)) (fault_in L (Under x (line_at L (k + 1)).ty Γ) b (second_at k e)))
fault_in L Γ (at s (PlusE a b)) k =
    node L Γ k (plus_row (line_at L (k + 1)) (line_at L (second_at k a))) (first_of (fault_in L Γ a (k + 1)) (fault_in L Γ b (second_at k a)))
fault_in L Γ (at s (MinusE a b)) k =
    node L Γ k (plus_row (line_at L (k + 1)) (line_at L (second_at k a))) (first_of (fault_in L Γ a (k + 1)) (fault_in L Γ b (second_at k a)))
fault_in L Γ (at s (TimesE z e)) k = node L Γ k (times_row z (line_at L (k + 1))) (fault_in L Γ e (k + 1))
fault_in L Γ (at s (LeE a b)) k =
    node L Γ k (le_row (line_at L (k + 1)) (line_at L (second_at k a))) (first_of (fault_in L Γ a (k + 1)) (fault_in L Γ b (second_at k a)))
fault_in L Γ (at s (EqE a b)) k =
    node L Γ k (eq_row (line_at L (k + 1)) (line_at L (second_at k a))) (first_of (fault_in L Γ a (k + 1)) (fault_in L Γ b (second_at k a)))
fault_in L Γ (at s (ClipE lo hi e)) k = node L Γ k (clip_row (line_at L (k + 1))) (fault_in L Γ e (k + 1))
fault_in L Γ (at s (LeastE e)) k = node L Γ k (least_row (line_at L (k + 1))) (fault_in L Γ e (k + 1))
fault_in L Γ (at s (GreatestE e)) k = node L Γ k (least_row (line_at L (k + 1))) (fault_in L Γ e (k + 1))
fault_in L Γ (at s (SizeE e)) k = node L Γ k (size_row (line_at L (k + 1))) (fault_in L Γ e (k + 1))
fault_in L Γ (at s (SumE lo hi e)) k = node L Γ k (sum_row lo hi (line_at L (k + 1))) (fault_in L Γ e (k + 1))
fault_in L Γ (at s (UnionE a b)) k =
    node L Γ k (union_row (line_at L (k + 1)) (line_at L (second_at k a))) (first_of (fault_in L Γ a (k + 1)) (fault_in L Γ b (second_at k a)))
fault_in L Γ (at s (MapE f b)) k =
    node L Γ k (map_row (line_at L (k + 1)) (line_at L (second_at k f))) (first_of (fault_in L Γ f (k + 1)) (fault_in L Γ b (second_at k f)))
fault_in L Γ (at s (FilterE f b)) k =
    node L Γ k (filter_row (line_at L (k + 1)) (line_at L (second_at k f))) (first_of (fault_in L Γ f (k + 1)) (fault_in L Γ b (second_at k f)))
fault_in L Γ (at s (SplitE f b)) k =
    node L Γ k (split_row (line_at L (k + 1)) (line_at L (second_at k f))) (first_of (fault_in L Γ f (k + 1)) (fault_in L Γ b (second_at k f)))
