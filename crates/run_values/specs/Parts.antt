-- What stands inside a value, where there is one.
use Rattle.std.specs.Prelude.{◌≡◌, ◌⊎◌, List, [], Option, Some, None, ℕ, ℤ, pos}
use Rattle.metric_values.specs.Values.{Flat, Value, NumV, TextV, PairV, InlV, InrV, BangV, BagV, FunV, FnV, Env}
use Rattle.fz_ast.specs.Terms.{Name, Term}

abbrev pub number_in : Value → ℤ
number_in (NumV z) = z
number_in v = pos 0

abbrev pub text_in : Value → List ℕ
text_in (TextV s) = s
text_in v = []

abbrev pub first_in : Value → Value
first_in (PairV a b) = a
first_in v = v

abbrev pub second_in : Value → Value
second_in (PairV a b) = b
second_in v = v

abbrev pub banged_in : Value → Value
banged_in (BangV a) = a
banged_in v = v

-- what an injection holds
abbrev pub side_in : Value → Value
side_in (InlV a) = a
side_in (InrV a) = a
side_in v = v

abbrev pub elements : Value → List Flat
elements (BagV xs) = xs
elements v = []

abbrev pub IsNum : Value → Type 0
IsNum v = v ≡ NumV (number_in v)

abbrev pub IsTextValue : Value → Type 0
IsTextValue v = v ≡ TextV (text_in v)

abbrev pub IsPair : Value → Type 0
IsPair v = v ≡ PairV (first_in v) (second_in v)

abbrev pub IsBangValue : Value → Type 0
IsBangValue v = v ≡ BangV (banged_in v)

abbrev pub IsSum : Value → Type 0
IsSum v = (v ≡ InlV (side_in v)) ⊎ (v ≡ InrV (side_in v))

abbrev pub IsBag : Value → Type 0
IsBag v = v ≡ BagV (elements v)

pub data IsClosure : Value → Type 0 where
  is_fun : {x : Name} {e : Term} {γ : Env} → IsClosure (FunV x e γ)
  is_fn : {x : Name} {e : Term} {γ : Env} → IsClosure (FnV x e γ)

abbrev pub number_or_none : Value → Option ℤ
number_or_none (NumV z) = Some z
number_or_none v = None
