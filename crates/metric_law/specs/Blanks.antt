-- Values whose functions' terms have no spans, and the law that blanks change no meaning.
use Rattle.std.specs.Prelude.{ℤ, ◌↔◌, ◌≡◌}
use Rattle.fz_ast.specs.Bare.{bare}
use Rattle.fz_ast.specs.Signature.{Signature}
use Rattle.fz_ast.specs.Terms.{Term}
use Rattle.metric_values.specs.Tables.{Dataset, rows_of}
use Rattle.metric_values.specs.Values.{BagV, BangV, Bind, Empty, Env, FnV, FunV, InlV, InrV, NumV, PairV, TextV, UnitV, Value}
use Rattle.metric_law.specs.Means.{Means}

abbrev mutual
  pub bare_value : Value → Value
  bare_value (NumV z) = NumV z
  bare_value (TextV s) = TextV s
  bare_value UnitV = UnitV
  bare_value (PairV a b) = PairV (bare_value a) (bare_value b)
  bare_value (InlV a) = InlV (bare_value a)
  bare_value (InrV a) = InrV (bare_value a)
  bare_value (BangV a) = BangV (bare_value a)
  bare_value (BagV xs) = BagV xs
  bare_value (FunV x e γ) = FunV x (bare e) (bare_env γ)
  bare_value (FnV x e γ) = FnV x (bare e) (bare_env γ)

  pub bare_env : Env → Env
  bare_env Empty = Empty
  bare_env (Bind x v γ) = Bind x (bare_value v) (bare_env γ)

-- a term's values without spans are those of the term without spans
abbrev pub BlanksChangeNoValue : Type 0
BlanksChangeNoValue =
    (γ : Env) (e : Term)
    → ((v : Value) → Means γ e v → Means (bare_env γ) (bare e) (bare_value v))
    × ((w : Value) → Means (bare_env γ) (bare e) w → (v : Value) × Means γ e v × (bare_value v ≡ w))

-- a program and its bare program have the same number on each dataset
abbrev pub BlanksChangeNoNumber : Type 0
BlanksChangeNoNumber = (ts : Signature) (X : Dataset) (t : Term) (z : ℤ) → Means (rows_of ts X) t (NumV z) ↔ Means (rows_of ts X) (bare t) (NumV z)
