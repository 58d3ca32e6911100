-- Rules that differ from the typing rules in one place, and what it is for one to break the law.
use Rattle.std.specs.Prelude.{List, bytes_eq, cond, true, ◌∷◌, ◌≡◌}
use Rattle.fz_frac.specs.Distance.{Distance, greater, none, ◌≈◌}
use Rattle.fz_ast.specs.Terms.{CaseE, EqE, FilterE, FunE, LeE, LetBangE, LetE, MapE, Name, PairE, SplitE, Term, at}
use Rattle.fz_ast.specs.declared.span.Span.{Span}
use Rattle.fz_ast.specs.Types.{ArrowT, BagT, BangT, BoolT, NumT, SumT, TensorT, TextT, Ty, UnlimitedT, is_flat, is_ground}
use Rattle.linear_types.specs.Sensitivities.{Sensitivities, first, join, plus, rest, scale}
use Rattle.linear_types.specs.Typing.{AllTypes, Closed, Context, IsType, Typing, Under}
use Rattle.metric_values.specs.Values.{Env, Value}
use Rattle.metric_law.specs.Law.{NearEnv, TypedEnv, dot}
use Rattle.metric_law.specs.Means.{Means}
use Rattle.metric_law.specs.Near.{Near}

-- the term's values in two typed environments, near at δ, aren't near at d
pub record Moves (Γ : Context) (e : Term) (A : Ty) (δ : List Distance) (d : Distance) : Type 0 where
  pub left : Env
  pub right : Env
  pub left_typed : TypedEnv Γ left
  pub right_typed : TypedEnv Γ right
  pub near : NearEnv Γ left right δ
  pub left_value : Value
  pub right_value : Value
  pub left_means : Means left e left_value
  pub right_means : Means right e right_value
  pub too_far : Near A left_value right_value d → ⊥

-- in some near environments they aren't near at the bound
abbrev pub Breaks : Context → Term → Ty → Sensitivities → Type 0
Breaks Γ e A D = (δ : List Distance) × Moves Γ e A δ (dot D δ)

abbrev pub WrongRule : Type 1
WrongRule = Context → Term → Ty → Sensitivities → Type 0

-- it gives some term a type and sensitivities that break the bound
abbrev pub Unsound : WrongRule → Type 0
Unsound R = (Γ : Context) × (e : Term) × (A : Ty) × (D : Sensitivities) × AllTypes Γ × R Γ e A D × Breaks Γ e A D

-- a case whose names are unused is scaled by 0, and not by 1
pub data UnusedCaseAtZero : Context → Term → Ty → Sensitivities → Type 0 where
  wrong_case : {Γ : Context} {s : Span} {x y : Name} {e a b : Term} {A B C : Ty} {D E F : Sensitivities}
      → Typing Γ e (SumT A B) F → Typing (Under x A Γ) a C D → Typing (Under y B Γ) b C E → is_ground C ≡ true
      → UnusedCaseAtZero Γ (at s (CaseE e x a y b)) C (plus (join (rest D) (rest E)) (scale (greater (first D) (first E)) F))

-- a pair is joined by the maximum, and not by the sum
pub data PairByMaximum : Context → Term → Ty → Sensitivities → Type 0 where
  wrong_pair : {Γ : Context} {s : Span} {a b : Term} {A B : Ty} {D E : Sensitivities} → Typing Γ a A D → Typing Γ b B E
      → PairByMaximum Γ (at s (PairE a b)) (TensorT A B) (join D E)

-- `let !x` scales by the sensitivity of x, not divided by the bang's number
pub data LetBangUndivided : Context → Term → Ty → Sensitivities → Type 0 where
  wrong_let_bang : {Γ : Context} {s : Span} {x : Name} {e b : Term} {r : Distance} {A B : Ty} {D E : Sensitivities}
      → Typing Γ e (BangT r A) E → Typing (Under x A Γ) b B D → LetBangUndivided Γ (at s (LetBangE x e b)) B (plus (rest D) (scale (first D) E))

-- a comparison of numbers isn't scaled by inf
pub data ComparedAtOne : Context → Term → Ty → Sensitivities → Type 0 where
  wrong_comparison : {Γ : Context} {s : Span} {a b : Term} {D E : Sensitivities} → Typing Γ a NumT D → Typing Γ b NumT E
      → ComparedAtOne Γ (at s (LeE a b)) BoolT (plus D E)

-- a comparison of texts is scaled by 0
pub data TextComparedAtZero : Context → Term → Ty → Sensitivities → Type 0 where
  wrong_text : {Γ : Context} {s : Span} {a b : Term} {D E : Sensitivities} → Typing Γ a TextT D → Typing Γ b TextT E
      → TextComparedAtZero Γ (at s (EqE a b)) BoolT (plus (scale none D) (scale none E))

-- 0 for each name x
abbrev pub removed : Name → Context → Sensitivities → Sensitivities
removed x Closed D = D
removed x (Under y A Γ) D = cond (bytes_eq y x) none (first D) ∷ removed x Γ (rest D)

-- the bound name is removed after what it stands for is added, and not before
pub data RemovedAfterwards : Context → Term → Ty → Sensitivities → Type 0 where
  wrong_let : {Γ : Context} {s : Span} {x : Name} {e b : Term} {A B : Ty} {D E : Sensitivities} → Typing Γ e A E → Typing (Under x A Γ) b B D
      → RemovedAfterwards Γ (at s (LetE x e b)) B (removed x Γ (plus (rest D) (scale (first D) E)))

-- the function of `map` isn't scaled by inf
pub data MapWithoutInf : Context → Term → Ty → Sensitivities → Type 0 where
  wrong_map : {Γ : Context} {s : Span} {f b : Term} {A B : Ty} {D E : Sensitivities}
      → Typing Γ f (UnlimitedT A B) D → is_flat B ≡ true → Typing Γ b (BagT A) E → MapWithoutInf Γ (at s (MapE f b)) (BagT B) (plus D E)

-- the function of `filter` is scaled by 0
pub data FilterAtZero : Context → Term → Ty → Sensitivities → Type 0 where
  wrong_filter : {Γ : Context} {s : Span} {f b : Term} {A : Ty} {D E : Sensitivities} → Typing Γ f (UnlimitedT A BoolT) D → Typing Γ b (BagT A) E
      → FilterAtZero Γ (at s (FilterE f b)) (BagT A) (plus (scale none D) E)

-- and that of `split`
pub data SplitAtZero : Context → Term → Ty → Sensitivities → Type 0 where
  wrong_split : {Γ : Context} {s : Span} {f b : Term} {A : Ty} {D E : Sensitivities} → Typing Γ f (UnlimitedT A BoolT) D → Typing Γ b (BagT A) E
      → SplitAtZero Γ (at s (SplitE f b)) (TensorT (BagT A) (BagT A)) (plus (scale none D) E)

-- `fun` takes a body that uses x at r
pub data UsedAt (r : Distance) : Context → Term → Ty → Sensitivities → Type 0 where
  wrong_fun : {Γ : Context} {s u : Span} {x : Name} {e : Term} {T A : Ty} {D : Sensitivities} → Typing (Under x T Γ) e A D → IsType T → first D ≈ r
      → UsedAt r Γ (at s (FunE x u T e)) (ArrowT T A) (rest D)
