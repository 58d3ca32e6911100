-- The law: a term's type bounds how far its value moves.
use Rattle.std.specs.Prelude.{List, true, ℤ, ◌↔◌, ◌≡◌}
use Rattle.fz_frac.specs.Distance.{Distance, Fin, mul, none, ◌⊑◌}
use Rattle.fz_ast.specs.Limits.{IsNumber, TermLimits}
use Rattle.fz_ast.specs.Signature.{IsSignature, Signature}
use Rattle.fz_ast.specs.Terms.{FilterE, LetBangE, Name, SplitE, Term, at}
use Rattle.fz_ast.specs.declared.span.Span.{Span}
use Rattle.fz_ast.specs.Types.{BagT, BangT, BoolT, TensorT, Ty, UnlimitedT, is_ground}
use Rattle.linear_types.specs.Program.{Accepted, sensitivity_of}
use Rattle.term_meanings.specs.Sensitivities.{Sensitivities, first, plus, rest, scale}
use Rattle.linear_types.specs.Typing.{AllTypes, Context, Typing, Under}
use Rattle.metric_values.specs.Distances.{distance_between, gap}
use Rattle.metric_values.specs.Tables.{Dataset, IsDataset, apart, rows_of}
use Rattle.metric_values.specs.Typed.{TypedFlat, TypedGround}
use Rattle.metric_values.specs.Values.{Env, Flat, NumV, Value, value_of}
pub use Rattle.term_meanings.specs.Environments.{TypedEnv, typed_empty, typed_bind, NearEnv, near_empty, near_bind, dot}
use Rattle.term_meanings.specs.Means.{Means}
use Rattle.term_meanings.specs.Near.{Near, Typed}

-- near environments give near values, at the sum of sensitivity times distance
abbrev pub Bounds : Context → Term → Ty → Sensitivities → Type 0
Bounds Γ e A D =
    (γ γ' : Env) (δ : List Distance) → TypedEnv Γ γ → TypedEnv Γ γ' → NearEnv Γ γ γ' δ
    → (v w : Value) → Means γ e v → Means γ' e w → Near A v w (dot D δ)

-- what the typing rules give bounds the term
abbrev pub MetricPreservation : Type 0
MetricPreservation = (Γ : Context) (e : Term) (A : Ty) (D : Sensitivities) → AllTypes Γ → Typing Γ e A D → Bounds Γ e A D

-- a term has a value in each typed environment, and it is typed
abbrev pub Totality : Type 0
Totality =
    (Γ : Context) (e : Term) (A : Ty) (D : Sensitivities) → AllTypes Γ → Typing Γ e A D
    → (γ : Env) → TypedEnv Γ γ → (v : Value) × Means γ e v × Typed A v

-- a term has at most one value in an environment
abbrev pub Uniqueness : Type 0
Uniqueness = (γ : Env) (e : Term) (v w : Value) → Means γ e v → Means γ e w → v ≡ w

-- on ground types near at d says that the distance is at most d
abbrev pub NearIsDistance : Type 0
NearIsDistance = (A : Ty) (v w : Value) (d : Distance) → is_ground A ≡ true → Typed A v → Typed A w → Near A v w d ↔ (distance_between A v w ⊑ d)

-- the elements that a ground type has are those whose values it has
abbrev pub FlatTyping : Type 0
FlatTyping = (A : Ty) (x : Flat) → is_ground A ≡ true → Typed A (value_of x) ↔ TypedFlat A x

-- on ground types, without functions, typing is without meanings
abbrev pub GroundTyping : Type 0
GroundTyping = (A : Ty) (v : Value) → is_ground A ≡ true → Typed A v ↔ TypedGround A v

-- `let !x` may scale by any k that suffices, and not only by the rule's own
abbrev pub LooserLetBang : Type 0
LooserLetBang =
    (Γ : Context) (s : Span) (x : Name) (e b : Term) (r : Distance) (A B : Ty) (D E : Sensitivities)
    → AllTypes Γ → Typing Γ e (BangT r A) E → Typing (Under x A Γ) b B D
    → (k : Distance) → first D ⊑ mul k r → Bounds Γ (at s (LetBangE x e b)) B (plus (rest D) (scale k E))

-- `filter` and `split` may scale their function by any k above 0, and not only by inf: a truth value moves by 0 or inf
abbrev pub LooserFilter : Type 0
LooserFilter =
    (Γ : Context) (s : Span) (f b : Term) (A : Ty) (D E : Sensitivities) → AllTypes Γ → Typing Γ f (UnlimitedT A BoolT) D → Typing Γ b (BagT A) E
    → (k : Distance) → (k ⊑ none → ⊥) → Bounds Γ (at s (FilterE f b)) (BagT A) (plus (scale k D) E)

abbrev pub LooserSplit : Type 0
LooserSplit =
    (Γ : Context) (s : Span) (f b : Term) (A : Ty) (D E : Sensitivities) → AllTypes Γ → Typing Γ f (UnlimitedT A BoolT) D → Typing Γ b (BagT A) E
    → (k : Distance) → (k ⊑ none → ⊥) → Bounds Γ (at s (SplitE f b)) (TensorT (BagT A) (BagT A)) (plus (scale k D) E)

-- an accepted program has a number on each dataset, within -M..M
abbrev pub ProgramsHaveValues : Type 0
ProgramsHaveValues =
    (ts : Signature) (t : Term) (D : Sensitivities) (r : Distance) → IsSignature ts → TermLimits t → sensitivity_of ts t ≡ Accepted D r
    → (X : Dataset) → IsDataset ts X → (z : ℤ) × Means (rows_of ts X) t (NumV z) × IsNumber z

-- an accepted program's numbers on two datasets differ by at most its sensitivity times how far the datasets are apart
abbrev pub ProgramsAreBounded : Type 0
ProgramsAreBounded =
    (ts : Signature) (t : Term) (D : Sensitivities) (r : Distance) → IsSignature ts → TermLimits t → sensitivity_of ts t ≡ Accepted D r
    → (X Y : Dataset) → IsDataset ts X → IsDataset ts Y
    → (y z : ℤ) → Means (rows_of ts X) t (NumV y) → Means (rows_of ts Y) t (NumV z)
    → Fin (gap y z) 1 ⊑ mul r (Fin (apart X Y) 1)
