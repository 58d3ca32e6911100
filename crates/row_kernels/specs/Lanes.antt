-- Columns of values, one for each row of a chunk, and what a term means for each row.
use Rattle.std.specs.Int.{int_max, int_min}
use Rattle.std.specs.Prelude.{◌≡◌, ◌<◌, ◌+◌, ◌≤◌, ◌^◌, ◌+ℤ◌, ◌-ℤ◌, ◌*ℤ◌, ℕ, ℤ, Bool, List, [], ◌∷◌, Some, bytes_eq, cond}
use Rattle.std.specs.Prelude.{false, get_or, int_le, length, pos, true, ⊤}
use Rattle.fz_ast.specs.Names.{name_of}
use Rattle.fz_ast.specs.Terms.{Name, Term, TermForm}
use Rattle.fz_ast.specs.declared.term.Binary.{Binary}
use Rattle.fz_ast.specs.declared.term.Binary.TheVariants.{Pair, With, Plus, Minus, AtMost, Equal}
use Rattle.fz_ast.specs.declared.term.Unary.{Unary}
use Rattle.fz_ast.specs.declared.term.Unary.TheVariants.{Fst, Snd, Least, Greatest, Size}
use Rattle.fz_ast.specs.declared.term.Side.{Side}
use Rattle.fz_ast.specs.declared.term.Side.TheVariants.{Inl, Inr}
use Rattle.metric_law.specs.Means.{MeansIn, Rules, find}
use Rattle.metric_values.specs.Distances.{same_number}
use Rattle.metric_values.specs.Cells.{cell_at, columns_in, from_column, row_at}
use Rattle.metric_values.specs.Limits.{columns_below}
use Rattle.metric_values.specs.Numbers.{clamp, clip}
use Rattle.metric_values.specs.Values.{Bind, Env, Flat, NumV, PairV, TextV, UnitV, Value, truth, value_of}
use Rattle.run_values.specs.Parts.{first_in, number_in, second_in}
use Rattle.row_kernels.specs.declared.frames.Frame.{Frame}
use Rattle.row_kernels.specs.declared.lanes.Lanes.{Lanes}
use Rattle.row_kernels.specs.declared.lanes.Lanes.TheVariants.{Num, Truth, Same, Text, Part, Cells, Pair'}

-- the value for row j
abbrev pub lane_at : Lanes → ℕ → Value
lane_at (Num xs) j = NumV (get_or xs.value.items j (pos 0))
lane_at (Truth bs) j = truth (get_or bs.value.items j false)
lane_at (Same z) j = NumV z
lane_at (Text s) j = TextV s.value.items
lane_at (Part t f k) j = value_of (from_column k (row_at t.value (f + j)))
lane_at (Cells t f k) j = value_of (cell_at k (row_at t.value (f + j)))
lane_at (Pair' p a b) j = PairV (lane_at a j) (lane_at b j)

-- n rows from row f on have a column k
pub record AreThere (rows : List Flat) (f n k : ℕ) : Type 0 where
  pub rows_there : f + n ≤ length rows
  pub below : f + n < 2 ^ 32
  pub narrow : k < columns_below
  pub column : (j : ℕ) → j < n → k < columns_in (row_at rows (f + j))

-- values for n rows
abbrev pub IsLong : ℕ → Lanes → Type 0
IsLong n (Num xs) = length xs.value.items ≡ n
IsLong n (Truth bs) = length bs.value.items ≡ n
IsLong n (Same z) = ⊤
IsLong n (Text s) = ⊤
IsLong n (Part t f k) = AreThere t.value f n k
IsLong n (Cells t f k) = AreThere t.value f n k
IsLong n (Pair' p a b) = IsLong n a × IsLong n b

abbrev pub AllLong : ℕ → List Frame → Type 0
AllLong n [] = ⊤
AllLong n (f ∷ fs) = IsLong n f.lanes × AllLong n fs

-- the names of row j
abbrev pub env_at : List Frame → Env → ℕ → Env
env_at [] γ j = γ
env_at (f ∷ fs) γ j = Bind (name_of f.name) (lane_at f.lanes j) (env_at fs γ j)

-- what two stand for is the same
pub record IsSameAt (l k : Lanes) : Type 0 where
  pub long : (n : ℕ) → IsLong n k → IsLong n l
  pub each : (j : ℕ) → lane_at l j ≡ lane_at k j

-- for each row the pair of the two
pub record ArePairs (a b l : Lanes) : Type 0 where
  pub long : (n : ℕ) → IsLong n a → IsLong n b → IsLong n l
  pub each : (j : ℕ) → lane_at l j ≡ PairV (lane_at a j) (lane_at b j)

pub record AreHalves (n : ℕ) (l a b : Lanes) : Type 0 where
  pub first : IsLong n a
  pub second : IsLong n b
  pub each : (j : ℕ) → j < n → lane_at l j ≡ PairV (lane_at a j) (lane_at b j)

pub record AreNumbers (n : ℕ) (l : Lanes) (zs : List ℤ) : Type 0 where
  pub long : length zs ≡ n
  pub each : (j : ℕ) → j < n → lane_at l j ≡ NumV (get_or zs j (pos 0))

-- the pair of two values, what a sign gives between two numbers, and `==` between two texts
abbrev pub sign_value : Binary → Value → Value → Value
sign_value Pair u w = PairV u w
sign_value With u w = PairV u w
sign_value Plus u w = NumV (clamp (number_in u +ℤ number_in w))
sign_value Minus u w = NumV (clamp (number_in u -ℤ number_in w))
sign_value AtMost u w = truth (int_le (number_in u) (number_in w))
sign_value Equal (NumV y) (NumV z) = truth (same_number y z)
sign_value Equal (TextV s) (TextV t) = truth (bytes_eq s t)
sign_value o u w = UnitV

abbrev pub IsSign : Binary → Type 0
IsSign Pair = ⊤
IsSign With = ⊤
IsSign Plus = ⊤
IsSign Minus = ⊤
IsSign AtMost = ⊤
IsSign Equal = ⊤
IsSign o = ⊥

pub record AreSigned (o : Binary) (n : ℕ) (a b l : Lanes) : Type 0 where
  pub sign : IsSign o
  pub long : IsLong n l
  pub each : (j : ℕ) → j < n → lane_at l j ≡ sign_value o (lane_at a j) (lane_at b j)

-- whether the texts of each row are the same
pub record AreSameTexts (n : ℕ) (a b : Lanes) (bs : List Bool) : Type 0 where
  pub long : length bs ≡ n
  pub each : (j : ℕ) → j < n → truth (get_or bs j false) ≡ sign_value Equal (lane_at a j) (lane_at b j)

-- what a word gives of a pair
abbrev pub word_value : Unary → Value → Value
word_value Fst u = first_in u
word_value Snd u = second_in u
word_value Least u = NumV (int_min (number_in (first_in u)) (number_in (second_in u)))
word_value Greatest u = NumV (int_max (number_in (first_in u)) (number_in (second_in u)))
word_value Size u = UnitV

abbrev pub IsWord : Unary → Type 0
IsWord Size = ⊥
IsWord o = ⊤

pub record AreWorded (o : Unary) (n : ℕ) (a l : Lanes) : Type 0 where
  pub word : IsWord o
  pub long : IsLong n l
  pub each : (j : ℕ) → j < n → lane_at l j ≡ word_value o (lane_at a j)

-- the smaller or the greater of two numbers for each row
pub record AreCompared (o : Unary) (n : ℕ) (a b l : Lanes) : Type 0 where
  pub word : IsWord o
  pub long : IsLong n l
  pub each : (j : ℕ) → j < n → lane_at l j ≡ word_value o (PairV (lane_at a j) (lane_at b j))

abbrev pub times_value : ℤ → Value → Value
times_value k u = NumV (clamp (k *ℤ number_in u))

abbrev pub clip_value : ℤ → ℤ → Value → Value
clip_value lo hi u = NumV (clip lo hi (number_in u))

-- for each row what F makes of the other's
pub record AreMade (F : Value → Value) (n : ℕ) (a l : Lanes) : Type 0 where
  pub long : IsLong n l
  pub each : (j : ℕ) → j < n → lane_at l j ≡ F (lane_at a j)

abbrev pub literal_value : Side → Value
literal_value Inl = truth true
literal_value Inr = truth false

-- `true`, or `false`, for n rows
pub record AreLiterals (o : Side) (n : ℕ) (l : Lanes) : Type 0 where
  pub long : IsLong n l
  pub each : (j : ℕ) → j < n → lane_at l j ≡ literal_value o

-- for each row the one where the condition is true, else the other
pub record AreChosen (bs : List Bool) (n : ℕ) (a b l : Lanes) : Type 0 where
  pub long : IsLong n l
  pub each : (j : ℕ) → j < n → lane_at l j ≡ cond (get_or bs j false) (lane_at a j) (lane_at b j)

pub record AreNamed (fs : List Frame) (γ : Env) (x : Name) (n : ℕ) (l : Lanes) : Type 0 where
  pub long : IsLong n l
  pub each : (j : ℕ) → find (env_at fs γ j) x ≡ Some (lane_at l j)

-- the name is none of the frames'
abbrev pub IsFree : List Frame → Name → Type 0
IsFree fs x = (γ : Env) (j : ℕ) → find (env_at fs γ j) x ≡ find γ x

-- for each row whatever the term means is its lane
pub record AreMeant (fs : List Frame) (γ : Env) (t : Term) (n : ℕ) (l : Lanes) : Type 0 where
  pub long : IsLong n l
  pub each : (j : ℕ) → j < n → (m : ℕ) (v : Value) → MeansIn m (env_at fs γ j) t v → v ≡ lane_at l j

-- for each row whatever the form has by the rules is its lane
pub record AreGiven (fs : List Frame) (γ : Env) (f : TermForm) (n : ℕ) (l : Lanes) : Type 0 where
  pub long : IsLong n l
  pub each : (j : ℕ) → j < n → (m : ℕ) (v : Value) → Rules (MeansIn m) (env_at fs γ j) f v → v ≡ lane_at l j
