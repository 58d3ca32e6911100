-- The least derivation of a term: each node's line says its rule's own numbers above 0 over its parts' least lines, in lowest terms and in
-- byte order of the names. There is none where a condition fails or a number of some name in scope is out of range.
use Rattle.std.specs.Prelude.{Bool, cond, List, [], ◌∷◌, ◌++◌, Option, Some, None}
use Rattle.std.specs.Cmp.Lexicographic.{slice_cmp}
use Rattle.std.specs.Ordering.{nat_cmp}
use Rattle.std.specs.declared.cmp.Ordering.{Ordering}
use Rattle.std.specs.declared.cmp.Ordering.TheVariants.{Less, Equal, Greater}
use Rattle.fz_frac.specs.Distance.{Distance, is_le, none}
use Rattle.fz_frac.specs.Lowest.{lowest}
use Rattle.fz_ast.specs.Types.{Ty, NumT, TextT, UnitT}
use Rattle.fz_ast.specs.Terms.{Name, Term, at, VarE, NumE, TextE, UnitE, PairE, WithE, FstE, SndE, LetPairE, InlE, InrE, CaseE, IfE, FunE, FnE, AppE}
use Rattle.fz_ast.specs.Terms.{BangE, LetBangE, LetE, PlusE, MinusE, TimesE, LeE, EqE, ClipE, LeastE, GreatestE, SizeE, SumE, UnionE, MapE, FilterE, SplitE}
use Rattle.term_meanings.specs.Scopes.{Context, Closed, Under}
use Rattle.derivation_lines.specs.Lines.{Said, Line}
use Rattle.derivation_rows.specs.Numbers.{Numbers}
use Rattle.derivation_rows.specs.Faults.{first_type, second_type}
use Rattle.derivation_rows.specs.Rows.{Row, var_row, type_in, leaf_row, pair_row, with_row, fst_row, snd_row, let_pair_row, inl_row, inr_row, case_row, if_row}
use Rattle.derivation_rows.specs.Rows.{fun_row, fn_row, app_row, bang_row, let_bang_row, let_row, plus_row, times_row, le_row, eq_row, clip_row, least_row}
use Rattle.derivation_rows.specs.Rows.{size_row, sum_row, union_row, map_row, filter_row, split_row}

-- x in its place among names in byte order, once
abbrev pub put_before : Ordering → Name → Name → List Name → List Name → List Name
put_before Less x y ys later = x ∷ y ∷ ys
put_before Equal x y ys later = y ∷ ys
put_before Greater x y ys later = y ∷ later

abbrev pub put : Name → List Name → List Name
put x [] = x ∷ []
put x (y ∷ ys) = put_before (slice_cmp nat_cmp x y) x y ys (put x ys)

-- the names in scope, each once, in byte order
abbrev pub sorted_names : Context → List Name
sorted_names Closed = []
sorted_names (Under x A Γ) = put x (sorted_names Γ)

-- a number above 0 is said, in lowest terms
abbrev pub said_first : Name → Option Distance → Option (List Said) → Option (List Said)
said_first x None o = None
said_first x (Some d) None = None
said_first x (Some d) (Some ss) = Some (cond (is_le d none) ss ((record { name = x; amount = lowest d }) ∷ ss))

abbrev pub said_of_each : List Name → Numbers → Option (List Said)
said_of_each [] n = Some []
said_of_each (x ∷ xs) n = said_first x (n x) (said_of_each xs n)

-- a node's line, and those below it
pub record Derived : Type 0 where
  pub own : Line
  pub below : List Line

abbrev pub lines_of : Derived → List Line
lines_of d = d.own ∷ d.below

abbrev pub derived_with : Ty → List Line → Option (List Said) → Option Derived
derived_with A below None = None
derived_with A below (Some ss) = Some (record { own = record { ty = A; says = ss }; below = below })

-- the line that a row makes, above these
abbrev pub above : Context → Option Row → List Line → Option Derived
above Γ None below = None
above Γ (Some r) below = derived_with r.ty below (said_of_each (sorted_names Γ) r.number)

abbrev pub with_part : Option Derived → (Derived → Option Derived) → Option Derived
with_part None f = None
with_part (Some d) f = f d

-- over one part, two or three
abbrev pub over_one : Context → (Line → Option Row) → Derived → Option Derived
over_one Γ f d = above Γ (f d.own) (lines_of d)

abbrev pub over_two : Context → (Line → Line → Option Row) → Derived → Derived → Option Derived
over_two Γ f d e = above Γ (f d.own e.own) (lines_of d ++ lines_of e)

abbrev pub over_three : Context → (Line → Line → Line → Option Row) → Derived → Derived → Derived → Option Derived
over_three Γ f c d e = above Γ (f c.own d.own e.own) (lines_of c ++ (lines_of d ++ lines_of e))

abbrev pub least : Context → Term → Option Derived
least Γ (at s (VarE x)) = above Γ (var_row x (type_in Γ x)) []
least Γ (at s (NumE z)) = above Γ (leaf_row NumT) []
least Γ (at s (TextE t)) = above Γ (leaf_row TextT) []
least Γ (at s UnitE) = above Γ (leaf_row UnitT) []
least Γ (at s (PairE a b)) = with_part (least Γ a) (λ c. with_part (least Γ b) (over_two Γ pair_row c))
least Γ (at s (WithE a b)) = with_part (least Γ a) (λ c. with_part (least Γ b) (over_two Γ with_row c))
least Γ (at s (FstE e)) = with_part (least Γ e) (over_one Γ fst_row)
least Γ (at s (SndE e)) = with_part (least Γ e) (over_one Γ snd_row)
least Γ (at s (LetPairE x y e b)) = with_part (least Γ e) (λ c. with_part (least (Under y (second_type c.own.ty) (Under x (first_type c.own.ty) Γ)) b) (over_two Γ (let_pair_row x y) c))
least Γ (at s (InlE u T e)) = with_part (least Γ e) (over_one Γ (inl_row T))
least Γ (at s (InrE u T e)) = with_part (least Γ e) (over_one Γ (inr_row T))
least Γ (at s (CaseE e x a y b)) = with_part (least Γ e) (λ c. with_part (least (Under x (first_type c.own.ty) Γ) a) (λ d.
    with_part (least (Under y (second_type c.own.ty) Γ) b) (over_three Γ (case_row x y) c d)))
least Γ (at s (IfE e a b)) = with_part (least Γ e) (λ c. with_part (least Γ a) (λ d. with_part (least Γ b) (over_three Γ if_row c d)))
least Γ (at s (FunE x u T e)) = with_part (least (Under x T Γ) e) (over_one Γ (fun_row x T))
least Γ (at s (FnE x u T e)) = with_part (least (Under x T Γ) e) (over_one Γ (fn_row x T))
least Γ (at s (AppE f a)) = with_part (least Γ f) (λ c. with_part (least Γ a) (over_two Γ app_row c))
least Γ (at s (BangE r e)) = with_part (least Γ e) (over_one Γ (bang_row r))
least Γ (at s (LetBangE x e b)) = with_part (least Γ e) (λ c. with_part (least (Under x (first_type c.own.ty) Γ) b) (over_two Γ (let_bang_row x) c))
least Γ (at s (LetE x e b)) = with_part (least Γ e) (λ c. with_part (least (Under x c.own.ty Γ) b) (over_two Γ (let_row x) c))
least Γ (at s (PlusE a b)) = with_part (least Γ a) (λ c. with_part (least Γ b) (over_two Γ plus_row c))
least Γ (at s (MinusE a b)) = with_part (least Γ a) (λ c. with_part (least Γ b) (over_two Γ plus_row c))
least Γ (at s (TimesE k e)) = with_part (least Γ e) (over_one Γ (times_row k))
least Γ (at s (LeE a b)) = with_part (least Γ a) (λ c. with_part (least Γ b) (over_two Γ le_row c))
least Γ (at s (EqE a b)) = with_part (least Γ a) (λ c. with_part (least Γ b) (over_two Γ eq_row c))
least Γ (at s (ClipE lo hi e)) = with_part (least Γ e) (over_one Γ clip_row)
least Γ (at s (LeastE e)) = with_part (least Γ e) (over_one Γ least_row)
least Γ (at s (GreatestE e)) = with_part (least Γ e) (over_one Γ least_row)
least Γ (at s (SizeE e)) = with_part (least Γ e) (over_one Γ size_row)
least Γ (at s (SumE lo hi e)) = with_part (least Γ e) (over_one Γ (sum_row lo hi))
least Γ (at s (UnionE a b)) = with_part (least Γ a) (λ c. with_part (least Γ b) (over_two Γ union_row c))
least Γ (at s (MapE f b)) = with_part (least Γ f) (λ c. with_part (least Γ b) (over_two Γ map_row c))
least Γ (at s (FilterE f b)) = with_part (least Γ f) (λ c. with_part (least Γ b) (over_two Γ filter_row c))
least Γ (at s (SplitE f b)) = with_part (least Γ f) (λ c. with_part (least Γ b) (over_two Γ split_row c))
