-- What a term's value is made of, once its parts have theirs: the rules of meaning, by groups of forms.
use Rattle.std.specs.Int.{int_max, int_min}
use Rattle.std.specs.Prelude.{List, bytes_eq, int_le, length, map, pos, ℕ, ℤ, ◌*ℤ◌, ◌++◌, ◌+ℤ◌, ◌-ℤ◌, ◌≡◌, ◌⊎◌, ⊤}
use Rattle.fz_ast.specs.Terms.{Name, Term, TermForm}
use Rattle.fz_ast.specs.declared.term.Arrow.{Arrow}
use Rattle.fz_ast.specs.declared.term.Arrow.TheVariants.{Fun, Fn}
use Rattle.fz_ast.specs.declared.term.Binary.{Binary}
use Rattle.fz_ast.specs.declared.term.Binary.TheVariants.{Pair, With, App, Plus, Minus, AtMost, Equal, Union, Map, Filter, Split}
use Rattle.fz_ast.specs.declared.term.Ranged.{Ranged}
use Rattle.fz_ast.specs.declared.term.Ranged.TheVariants.{Sum, Clip}
use Rattle.fz_ast.specs.declared.term.Side.{Side}
use Rattle.fz_ast.specs.declared.term.Side.TheVariants.{Inl, Inr}
use Rattle.fz_ast.specs.declared.term.Unary.{Unary}
use Rattle.fz_ast.specs.declared.term.Unary.TheVariants.{Fst, Snd, Least, Greatest, Size}
use Rattle.metric_law.specs.Means.{Applies, Maps, Meaning, MeansIn, Rules, Splits}
use Rattle.metric_values.specs.Numbers.{clamp, clip, clipped_sum}
use Rattle.metric_values.specs.Distances.{same_number}
use Rattle.run_values.specs.Parts.{IsNum, IsTextValue}
use Rattle.flow_values.specs.Views.{function_of}
use Rattle.metric_values.specs.Values.{BagV, Env, Flat, FnV, FunV, InlV, InrV, NumF, NumV, PairV, TextV, Value, truth}

-- the term has a value, by a derivation of at most this height
pub record HasValueWithin (n : ℕ) (γ : Env) (t : Term) : Type 0 where
  pub value : Value
  pub does : MeansIn n γ t value

-- the form has a value by the rules, its parts having theirs by derivations of at most this height
pub record HasFormWithin (n : ℕ) (γ : Env) (f : TermForm) : Type 0 where
  pub value : Value
  pub does : Rules (MeansIn n) γ f value

-- a word with one part, which is u, gives v
abbrev pub Gives1 : Unary → Value → Value → Type 0
Gives1 Fst u v = (w : Value) × (u ≡ PairV v w)
Gives1 Snd u v = (w : Value) × (u ≡ PairV w v)
Gives1 Least u v = (y z : ℤ) × (u ≡ PairV (NumV y) (NumV z)) × (v ≡ NumV (int_min y z))
Gives1 Greatest u v = (y z : ℤ) × (u ≡ PairV (NumV y) (NumV z)) × (v ≡ NumV (int_max y z))
Gives1 Size u v = (xs : List Flat) × (u ≡ BagV xs) × (v ≡ NumV (clamp (pos (length xs))))

-- a word with bounds
abbrev pub GivesRanged : Ranged → ℤ → ℤ → Value → Value → Type 0
GivesRanged Sum lo hi u v = (zs : List ℤ) × (u ≡ BagV (map NumF zs)) × (v ≡ NumV (clamp (clipped_sum lo hi zs)))
GivesRanged Clip lo hi u v = (z : ℤ) × (u ≡ NumV z) × (v ≡ NumV (clip lo hi z))

abbrev pub GivesTimes : ℤ → Value → Value → Type 0
GivesTimes k u v = (z : ℤ) × (u ≡ NumV z) × (v ≡ NumV (clamp (k *ℤ z)))

abbrev pub injected : Side → Value → Value
injected Inl u = InlV u
injected Inr u = InrV u

-- a word or sign with two parts, which are a and b, gives v, R being what bodies of functions mean
abbrev pub Gives2 : Meaning → Binary → Value → Value → Value → Type 0
Gives2 R Pair a b v = v ≡ PairV a b
Gives2 R With a b v = v ≡ PairV a b
Gives2 R App a b v = Applies R a b v
Gives2 R Plus a b v = (y z : ℤ) × (a ≡ NumV y) × (b ≡ NumV z) × (v ≡ NumV (clamp (y +ℤ z)))
Gives2 R Minus a b v = (y z : ℤ) × (a ≡ NumV y) × (b ≡ NumV z) × (v ≡ NumV (clamp (y -ℤ z)))
Gives2 R AtMost a b v = (y z : ℤ) × (a ≡ NumV y) × (b ≡ NumV z) × (v ≡ truth (int_le y z))
Gives2 R Equal a b v =
    ((y z : ℤ) × (a ≡ NumV y) × (b ≡ NumV z) × (v ≡ truth (same_number y z)))
    ⊎ ((s t : List ℕ) × (a ≡ TextV s) × (b ≡ TextV t) × (v ≡ truth (bytes_eq s t)))
Gives2 R Union a b v = (xs ys : List Flat) × (a ≡ BagV xs) × (b ≡ BagV ys) × (v ≡ BagV (xs ++ ys))
Gives2 R Map a b v = (xs ys : List Flat) × (b ≡ BagV xs) × Maps R a xs ys × (v ≡ BagV ys)
Gives2 R Filter a b v = (xs ys zs : List Flat) × (b ≡ BagV xs) × Splits R a xs ys zs × (v ≡ BagV ys)
Gives2 R Split a b v = (xs ys zs : List Flat) × (b ≡ BagV xs) × Splits R a xs ys zs × (v ≡ PairV (BagV ys) (BagV zs))

-- a sign of two parts that applies no function
abbrev pub AppliesNoFunction : Binary → Type 0
AppliesNoFunction App = ⊥
AppliesNoFunction Map = ⊥
AppliesNoFunction Filter = ⊥
AppliesNoFunction Split = ⊥
AppliesNoFunction o = ⊤

-- a word that walks no bag
abbrev pub WalksNot : Unary → Type 0
WalksNot Size = ⊥
WalksNot o = ⊤

-- two numbers or two texts
abbrev pub AreComparable : Value → Value → Type 0
AreComparable u w = (IsNum u × IsNum w) ⊎ (IsTextValue u × IsTextValue w)

-- there is something that it gives
pub record Can1 (o : Unary) (u : Value) : Type 0 where
  pub value : Value
  pub gives : Gives1 o u value

pub record Can2 (n : ℕ) (o : Binary) (a b : Value) : Type 0 where
  pub value : Value
  pub gives : Gives2 (MeansIn n) o a b value

pub record CanApply (n : ℕ) (c u : Value) : Type 0 where
  pub value : Value
  pub gives : Applies (MeansIn n) c u value

pub record CanTimes (k : ℤ) (u : Value) : Type 0 where
  pub value : Value
  pub gives : GivesTimes k u value

-- a function's name and body with what its names stand for
abbrev pub closure_of : Arrow → Name → Term → Env → Value
closure_of Fun x e γ = FunV x e γ
closure_of Fn x e γ = FnV x e γ

-- the term is the function with this arrow, name and body
abbrev pub IsClosureOf : Term → Arrow → Name → Term → Type 0
IsClosureOf t o x e = (γ : Env) → function_of t γ ≡ closure_of o x e γ

pub record CanRanged (o : Ranged) (lo hi : ℤ) (u : Value) : Type 0 where
  pub value : Value
  pub gives : GivesRanged o lo hi u value
