-- What a form's rule makes of its parts' lines: a type, and a number at each name. No row comes of it where a condition fails.
use Rattle.std.specs.Prelude.{Bool, true, false, not, cond, ℤ, Option, Some, None, bytes_eq}
use Rattle.fz_frac.specs.Distance.{Distance, Inf, is_le, one, greater, quotient}
use Rattle.fz_frac.specs.Lowest.{is_out}
use Rattle.fz_ast.specs.Types.{Ty, NumT, TextT, UnitT, TensorT, WithT, SumT, ArrowT, BangT, BagT, BoolT, UnlimitedT}
use Rattle.fz_ast.specs.Types.{Formed, WellFormed, UngroundSum, UnflatBag, is_ground, is_flat, formed, same_type}
use Rattle.fz_ast.specs.Terms.{Name}
use Rattle.term_meanings.specs.Scopes.{Context, Closed, Under, size_of, widest_of}
use Rattle.term_meanings.specs.Sensitivities.{above_zero}
use Rattle.derivation_lines.specs.Lines.{Line}
use Rattle.derivation_rows.specs.Numbers.{Numbers, says_at, without, greater_at, nothing, named, same_as, sums, products, bound_sums, endless_sums, endless_both}

pub record Row : Type 0 where
  pub ty : Ty
  pub number : Numbers

abbrev pub row : Ty → Numbers → Option Row
row A n = Some (record { ty = A; number = n })

-- where a condition holds it goes on
abbrev pub need : Bool → Option Row → Option Row
need b o = cond b o None

abbrev pub well : Formed → Bool
well WellFormed = true
well UngroundSum = false
well UnflatBag = false

-- the type of the innermost x
abbrev pub type_in : Context → Name → Option Ty
type_in Closed x = None
type_in (Under y A Γ) x = cond (bytes_eq y x) (Some A) (type_in Γ x)

-- x
abbrev pub var_row : Name → Option Ty → Option Row
var_row x None = None
var_row x (Some A) = row A (named x)

-- a number, a text, ()
abbrev pub leaf_row : Ty → Option Row
leaf_row A = row A nothing

-- (a, b)
abbrev pub pair_row : Line → Line → Option Row
pair_row a b = row (TensorT a.ty b.ty) (sums (says_at a) (says_at b))

-- <a, b>
abbrev pub with_row : Line → Line → Option Row
with_row a b = row (WithT a.ty b.ty) (same_as (greater_at (says_at a) (says_at b)))

-- fst e
abbrev pub fst_of : Ty → Line → Option Row
fst_of (WithT A B) e = row A (same_as (says_at e))
fst_of T e = None

abbrev pub fst_row : Line → Option Row
fst_row e = fst_of e.ty e

-- snd e
abbrev pub snd_of : Ty → Line → Option Row
snd_of (WithT A B) e = row B (same_as (says_at e))
snd_of T e = None

abbrev pub snd_row : Line → Option Row
snd_row e = snd_of e.ty e

-- let (x, y) = e in b: r is the greater of x and y in b. Where they are one name it is y's
abbrev pub is_tensor : Ty → Bool
is_tensor (TensorT A B) = true
is_tensor T = false

abbrev pub let_pair_row : Name → Name → Line → Line → Option Row
let_pair_row x y e b =
    need (is_tensor e.ty) (row b.ty (bound_sums (without x (without y (says_at b))) (greater (without y (says_at b) x) (says_at b y)) (says_at e)))

-- inl[T] e, inr[T] e: the sum's type is U
abbrev pub side_row : Ty → Ty → Line → Option Row
side_row T U e = need (well (formed T)) (need (is_ground T) (need (is_ground e.ty) (row U (same_as (says_at e)))))

abbrev pub inl_row : Ty → Line → Option Row
inl_row T e = side_row T (SumT e.ty T) e

abbrev pub inr_row : Ty → Line → Option Row
inr_row T e = side_row T (SumT T e.ty) e

-- case e of inl x => a | inr y => b: r is the greater of x in a and y in b, and 1 where that is 0
abbrev pub is_sum : Ty → Bool
is_sum (SumT A B) = true
is_sum T = false

abbrev pub case_row : Name → Name → Line → Line → Line → Option Row
case_row x y e a b =
    need (is_sum e.ty) (need (same_type b.ty a.ty) (need (is_ground a.ty) (row a.ty
    (bound_sums (greater_at (without x (says_at a)) (without y (says_at b))) (above_zero (greater (says_at a x) (says_at b y))) (says_at e)))))

-- if e then a else b
abbrev pub if_row : Line → Line → Line → Option Row
if_row e a b =
    need (same_type e.ty BoolT) (need (same_type b.ty a.ty) (need (is_ground a.ty) (row a.ty (sums (greater_at (says_at a) (says_at b)) (says_at e)))))

-- fun (x : T) => e
abbrev pub fun_row : Name → Ty → Line → Option Row
fun_row x T e = need (well (formed T)) (need (is_le (says_at e x) one) (row (ArrowT T e.ty) (same_as (without x (says_at e)))))

-- fn (x : T) => e
abbrev pub fn_row : Name → Ty → Line → Option Row
fn_row x T e = need (well (formed T)) (row (UnlimitedT T e.ty) (same_as (without x (says_at e))))

-- f a
abbrev pub app_of : Ty → Line → Line → Option Row
app_of (ArrowT A B) f a = need (same_type a.ty A) (row B (sums (says_at f) (says_at a)))
app_of T f a = None

abbrev pub app_row : Line → Line → Option Row
app_row f a = app_of f.ty f a

-- ![r] e
abbrev pub bang_row : Distance → Line → Option Row
bang_row r e = row (BangT r e.ty) (products r (says_at e))

-- let !x = e in b: k is x in b over the bang's number
abbrev pub unbanged : Name → Distance → Line → Line → Option Row
unbanged x k e b = need (not (is_out k)) (row b.ty (bound_sums (without x (says_at b)) k (says_at e)))

abbrev pub let_bang_of : Ty → Name → Line → Line → Option Row
let_bang_of (BangT r A) x e b = unbanged x (quotient (says_at b x) r) e b
let_bang_of T x e b = None

abbrev pub let_bang_row : Name → Line → Line → Option Row
let_bang_row x e b = let_bang_of e.ty x e b

-- let x = e in b
abbrev pub let_row : Name → Line → Line → Option Row
let_row x e b = row b.ty (bound_sums (without x (says_at b)) (says_at b x) (says_at e))

-- a + b, a - b
abbrev pub plus_row : Line → Line → Option Row
plus_row a b = need (same_type a.ty NumT) (need (same_type b.ty NumT) (row NumT (sums (says_at a) (says_at b))))

-- a number of the row itself, in range, times what is said
abbrev pub scaled_row : Distance → Line → Option Row
scaled_row r e = need (not (is_out r)) (row NumT (products r (says_at e)))

-- k * e
abbrev pub times_row : ℤ → Line → Option Row
times_row k e = need (same_type e.ty NumT) (scaled_row (size_of k) e)

-- a <= b
abbrev pub le_row : Line → Line → Option Row
le_row a b = need (same_type a.ty NumT) (need (same_type b.ty NumT) (row BoolT (endless_both (says_at a) (says_at b))))

-- a == b: the type of a decides
abbrev pub eq_of : Ty → Line → Line → Option Row
eq_of NumT a b = need (same_type b.ty NumT) (row BoolT (endless_both (says_at a) (says_at b)))
eq_of TextT a b = need (same_type b.ty TextT) (row BoolT (sums (says_at a) (says_at b)))
eq_of T a b = None

abbrev pub eq_row : Line → Line → Option Row
eq_row a b = eq_of a.ty a b

-- clip[lo,hi] e
abbrev pub clip_row : Line → Option Row
clip_row e = need (same_type e.ty NumT) (row NumT (same_as (says_at e)))

-- least e, greatest e
abbrev pub least_row : Line → Option Row
least_row e = need (same_type e.ty (WithT NumT NumT)) (row NumT (same_as (says_at e)))

-- size e
abbrev pub is_bag : Ty → Bool
is_bag (BagT A) = true
is_bag T = false

abbrev pub size_row : Line → Option Row
size_row e = need (is_bag e.ty) (row NumT (same_as (says_at e)))

-- sum[lo,hi] e
abbrev pub sum_row : ℤ → ℤ → Line → Option Row
sum_row lo hi e = need (same_type e.ty (BagT NumT)) (scaled_row (widest_of lo hi) e)

-- union a b
abbrev pub union_row : Line → Line → Option Row
union_row a b = need (is_bag a.ty) (need (same_type b.ty a.ty) (row a.ty (sums (says_at a) (says_at b))))

-- map f b
abbrev pub map_of : Ty → Line → Line → Option Row
map_of (ArrowT (BangT Inf A) T) f b = need (is_flat T) (need (same_type b.ty (BagT A)) (row (BagT T) (endless_sums (says_at f) (says_at b))))
map_of T f b = None

abbrev pub map_row : Line → Line → Option Row
map_row f b = map_of f.ty f b

-- filter f b, split f b, of the type that U makes of the elements'
abbrev pub test_of : (Ty → Ty) → Ty → Line → Line → Option Row
test_of U (ArrowT (BangT Inf A) C) f b = need (same_type C BoolT) (need (same_type b.ty (BagT A)) (row (U A) (endless_sums (says_at f) (says_at b))))
test_of U T f b = None

abbrev pub halves : Ty → Ty
halves A = TensorT (BagT A) (BagT A)

abbrev pub filter_row : Line → Line → Option Row
filter_row f b = test_of BagT f.ty f b

abbrev pub split_row : Line → Line → Option Row
split_row f b = test_of halves f.ty f b
