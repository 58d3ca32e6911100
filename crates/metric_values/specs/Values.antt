-- What programs compute with: values, and the environments in which they are computed.
use Rattle.std.specs.Prelude.{ℕ, List, ℤ, Bool, true, false}
use Rattle.fz_ast.specs.Terms.{Name, Term}

-- what a bag holds: neither functions nor bags
pub data Flat : Type 0 where
  NumF : (z : ℤ) → Flat
  TextF : (s : List ℕ) → Flat
  UnitF : Flat
  PairF : (a b : Flat) → Flat
  InlF : (a : Flat) → Flat
  InrF : (a : Flat) → Flat
  BangF : (a : Flat) → Flat

mutual
  pub data Value : Type 0 where
    NumV : (z : ℤ) → Value
    TextV : (s : List ℕ) → Value
    UnitV : Value
    PairV : (a b : Value) → Value
    InlV : (a : Value) → Value
    InrV : (a : Value) → Value
    BangV : (a : Value) → Value
    BagV : (xs : List Flat) → Value
    -- `fun (x : T) => e` with the values of its names
    FunV : (x : Name) (e : Term) (γ : Env) → Value
    -- `fn (x : T) => e` alike
    FnV : (x : Name) (e : Term) (γ : Env) → Value

  -- names with their values, the innermost first
  pub data Env : Type 0 where
    Empty : Env
    Bind : (x : Name) (v : Value) (γ : Env) → Env

-- a bag's element as a value
abbrev pub value_of : Flat → Value
value_of (NumF z) = NumV z
value_of (TextF s) = TextV s
value_of UnitF = UnitV
value_of (PairF a b) = PairV (value_of a) (value_of b)
value_of (InlF a) = InlV (value_of a)
value_of (InrF a) = InrV (value_of a)
value_of (BangF a) = BangV (value_of a)

-- true is inl (), and false inr ()
abbrev pub truth : Bool → Value
truth true = InlV UnitV
truth false = InrV UnitV
