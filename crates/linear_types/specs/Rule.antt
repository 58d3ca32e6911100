-- The typing rules as a function: the type and sensitivities of a term, or its first fault.
-- Parts come first, then conditions from left to right, then range; in `case`, `let (x, y)` and `let !x`
-- the condition on e comes before the parts in which the bound names stand.
-- s is the whole term's span; u, v and w are those of its parts or of a written type.
use Rattle.std.specs.Prelude.{ℤ, [], ◌∷◌, cond, bytes_eq}
use Rattle.fz_frac.specs.Distance.{Distance, Inf, is_le, none, one, greater, quotient}
use Rattle.fz_ast.specs.declared.span.Span.{Span}
use Rattle.fz_ast.specs.Types.{Ty, NumT, TextT, UnitT, TensorT, WithT, SumT, ArrowT, BangT, BagT, BoolT, UnlimitedT, is_ground, is_flat, formed, same_type}
use Rattle.fz_ast.specs.Terms.{AppE, BangE, CaseE, ClipE, EqE, FilterE, FnE, FstE, FunE, GreatestE, IfE, InlE, InrE}
use Rattle.fz_ast.specs.Terms.{LeE, LeastE, LetBangE, LetE, LetPairE, MapE, MinusE, Name, NumE, PairE, PlusE, SizeE, SndE}
use Rattle.fz_ast.specs.Terms.{SplitE, SumE, Term, TextE, TimesE, UnionE, UnitE, VarE, WithE, at, span_of}
use Rattle.linear_types.specs.Sensitivities.{Sensitivities, first, rest, plus, join, scale, above_zero}
use Rattle.linear_types.specs.Typing.{Context, Closed, Under, size_of, widest_of}
use Rattle.linear_types.specs.Inferred.{Exactly, AWithPair, ATensor, ASum, AnArrow, ABang, ABag, AnUnlimitedArrow, ANumberOrText, Unbound, Mismatch, NotGround}
use Rattle.linear_types.specs.Inferred.{NotFlat, TooSensitive, Inferred, Has, Untyped, one_part, two_parts, three_parts, need, need_formed, in_range}

-- the type of this part is A
abbrev pub exactly : Span → Ty → Ty → Inferred → Inferred
exactly u found A v = need (same_type found A) (Mismatch u found (Exactly A)) v

-- a type with D, which is in range
abbrev pub has_sum : Span → Ty → Sensitivities → Inferred
has_sum s A D = in_range s D (Has A D)

-- D and r E: what is left of a body, and r times what its bound name stands for
abbrev pub has_bound : Span → Ty → Sensitivities → Distance → Sensitivities → Inferred
has_bound s A D r E = in_range s (scale r E) (has_sum s A (plus D (scale r E)))

-- a number or fraction of the row itself, and then D times it
abbrev pub has_scaled : Span → Ty → Distance → Sensitivities → Inferred
has_scaled s A r D = in_range s (r ∷ []) (has_sum s A (scale r D))

-- x
abbrev pub past : Inferred → Inferred
past v = one_part v (λ A D. Has A (none ∷ D))

abbrev pub var_rule : Span → Context → Name → Inferred
var_rule s Closed x = Untyped (Unbound s)
var_rule s (Under y A Γ) x = cond (bytes_eq y x) (Has A (one ∷ [])) (past (var_rule s Γ x))

-- (a, b)
abbrev pub pair_rule : Span → Ty → Sensitivities → Ty → Sensitivities → Inferred
pair_rule s A D B E = has_sum s (TensorT A B) (plus D E)

-- <a, b>
abbrev pub with_rule : Ty → Sensitivities → Ty → Sensitivities → Inferred
with_rule A D B E = Has (WithT A B) (join D E)

-- fst e
abbrev pub fst_rule : Span → Ty → Sensitivities → Inferred
fst_rule u (WithT A B) D = Has A D
fst_rule u T D = Untyped (Mismatch u T AWithPair)

-- snd e
abbrev pub snd_rule : Span → Ty → Sensitivities → Inferred
snd_rule u (WithT A B) D = Has B D
snd_rule u T D = Untyped (Mismatch u T AWithPair)

-- let (x, y) = e in b
abbrev pub let_pair_rule : Span → Span → Ty → Sensitivities → (Ty → Ty → Inferred) → Inferred
let_pair_rule s u (TensorT A B) E body = one_part (body A B) (λ C D. has_bound s C (rest (rest D)) (greater (first (rest D)) (first D)) E)
let_pair_rule s u T E body = Untyped (Mismatch u T ATensor)

-- the other side's type T of an injection is written at u, and the part stands at v
abbrev pub side_rule : Span → Ty → Span → Ty → Inferred → Inferred
side_rule u T v A o = need_formed u (formed T) (need (is_ground T) (NotGround u) (need (is_ground A) (NotGround v) o))

abbrev pub inl_rule : Span → Ty → Span → Ty → Sensitivities → Inferred
inl_rule u T v A D = side_rule u T v A (Has (SumT A T) D)

abbrev pub inr_rule : Span → Ty → Span → Ty → Sensitivities → Inferred
inr_rule u T v A D = side_rule u T v A (Has (SumT T A) D)

-- case e of inl x => a | inr y => b, with e at u and b at w
abbrev pub branches_rule : Span → Span → Sensitivities → Ty → Sensitivities → Ty → Sensitivities → Inferred
branches_rule s w F A D B E = exactly w B A (need (is_ground A) (NotGround s)
    (has_bound s A (join (rest D) (rest E)) (above_zero (greater (first D) (first E))) F))

abbrev pub case_rule : Span → Span → Span → Ty → Sensitivities → (Ty → Inferred) → (Ty → Inferred) → Inferred
case_rule s u w (SumT A B) F left right = two_parts (left A) (right B) (branches_rule s w F)
case_rule s u w T F left right = Untyped (Mismatch u T ASum)

-- if e then a else b, with e at u and b at w
abbrev pub if_rule : Span → Span → Span → Ty → Sensitivities → Ty → Sensitivities → Ty → Sensitivities → Inferred
if_rule s u w T F A D B E = exactly u T BoolT (exactly w B A (need (is_ground A) (NotGround s) (has_sum s A (plus (join D E) F))))

-- fun (x : T) => e
abbrev pub fun_rule : Span → Name → Span → Ty → Ty → Sensitivities → Inferred
fun_rule s x u T A D = need_formed u (formed T) (need (is_le (first D) one) (TooSensitive s x (first D)) (Has (ArrowT T A) (rest D)))

-- fn (x : T) => e
abbrev pub fn_rule : Span → Ty → Ty → Sensitivities → Inferred
fn_rule u T A D = need_formed u (formed T) (Has (UnlimitedT T A) (rest D))

-- f a
abbrev pub app_rule : Span → Span → Span → Ty → Sensitivities → Ty → Sensitivities → Inferred
app_rule s u v (ArrowT A B) D T E = exactly v T A (has_sum s B (plus D E))
app_rule s u v F D T E = Untyped (Mismatch u F AnArrow)

-- ![r] e
abbrev pub bang_rule : Span → Distance → Ty → Sensitivities → Inferred
bang_rule s r A D = has_sum s (BangT r A) (scale r D)

-- let !x = e in b: k is the sensitivity of x over the bang's number
abbrev pub let_bang_rule : Span → Span → Ty → Sensitivities → (Ty → Inferred) → Inferred
let_bang_rule s u (BangT r A) E body = one_part (body A) (λ B D. in_range s (quotient (first D) r ∷ []) (has_bound s B (rest D) (quotient (first D) r) E))
let_bang_rule s u T E body = Untyped (Mismatch u T ABang)

-- let x = e in b
abbrev pub let_rule : Span → Sensitivities → Ty → Sensitivities → Inferred
let_rule s E B D = has_bound s B (rest D) (first D) E

-- a + b, a - b
abbrev pub plus_rule : Span → Span → Span → Ty → Sensitivities → Ty → Sensitivities → Inferred
plus_rule s u v A D B E = exactly u A NumT (exactly v B NumT (has_sum s NumT (plus D E)))

-- k * e
abbrev pub times_rule : Span → Span → ℤ → Ty → Sensitivities → Inferred
times_rule s u k A D = exactly u A NumT (has_scaled s NumT (size_of k) D)

-- a <= b
abbrev pub le_rule : Span → Span → Span → Ty → Sensitivities → Ty → Sensitivities → Inferred
le_rule s u v A D B E = exactly u A NumT (exactly v B NumT (has_sum s BoolT (plus (scale Inf D) (scale Inf E))))

-- a == b: the type of a decides
abbrev pub eq_rule : Span → Span → Span → Ty → Sensitivities → Ty → Sensitivities → Inferred
eq_rule s u v NumT D B E = exactly v B NumT (has_sum s BoolT (plus (scale Inf D) (scale Inf E)))
eq_rule s u v TextT D B E = exactly v B TextT (has_sum s BoolT (plus D E))
eq_rule s u v A D B E = Untyped (Mismatch u A ANumberOrText)

-- clip[lo,hi] e
abbrev pub clip_rule : Span → Ty → Sensitivities → Inferred
clip_rule u A D = exactly u A NumT (Has NumT D)

-- least e, greatest e
abbrev pub least_rule : Span → Ty → Sensitivities → Inferred
least_rule u A D = exactly u A (WithT NumT NumT) (Has NumT D)

-- size e
abbrev pub size_rule : Span → Ty → Sensitivities → Inferred
size_rule u (BagT A) D = Has NumT D
size_rule u T D = Untyped (Mismatch u T ABag)

-- sum[lo,hi] e
abbrev pub sum_rule : Span → Span → ℤ → ℤ → Ty → Sensitivities → Inferred
sum_rule s u lo hi A D = exactly u A (BagT NumT) (has_scaled s NumT (widest_of lo hi) D)

-- union a b
abbrev pub union_rule : Span → Span → Span → Ty → Sensitivities → Ty → Sensitivities → Inferred
union_rule s u v (BagT A) D B E = exactly v B (BagT A) (has_sum s (BagT A) (plus D E))
union_rule s u v T D B E = Untyped (Mismatch u T ABag)

-- map f b
abbrev pub map_rule : Span → Span → Span → Ty → Sensitivities → Ty → Sensitivities → Inferred
map_rule s u v (ArrowT (BangT Inf A) T) D B E = need (is_flat T) (NotFlat u) (exactly v B (BagT A) (has_sum s (BagT T) (plus (scale Inf D) E)))
map_rule s u v F D B E = Untyped (Mismatch u F AnUnlimitedArrow)

-- filter f b, split f b, of the type that T makes of the elements'
abbrev pub test_rule : (Ty → Ty) → Span → Span → Span → Ty → Sensitivities → Ty → Sensitivities → Inferred
test_rule T s u v (ArrowT (BangT Inf A) C) D B E = exactly u (UnlimitedT A C) (UnlimitedT A BoolT)
    (exactly v B (BagT A) (has_sum s (T A) (plus (scale Inf D) E)))
test_rule T s u v F D B E = Untyped (Mismatch u F AnUnlimitedArrow)

-- the type of both halves of a split
abbrev pub halves : Ty → Ty
halves A = TensorT (BagT A) (BagT A)

abbrev pub rule : Context → Term → Inferred
rule Γ (at s (VarE x)) = var_rule s Γ x
rule Γ (at s (NumE z)) = Has NumT []
rule Γ (at s (TextE t)) = Has TextT []
rule Γ (at s UnitE) = Has UnitT []
rule Γ (at s (PairE a b)) = two_parts (rule Γ a) (rule Γ b) (pair_rule s)
rule Γ (at s (WithE a b)) = two_parts (rule Γ a) (rule Γ b) with_rule
rule Γ (at s (FstE e)) = one_part (rule Γ e) (fst_rule (span_of e))
rule Γ (at s (SndE e)) = one_part (rule Γ e) (snd_rule (span_of e))
rule Γ (at s (LetPairE x y e b)) = one_part (rule Γ e) (λ T E. let_pair_rule s (span_of e) T E (λ A B. rule (Under y B (Under x A Γ)) b))
rule Γ (at s (InlE u T e)) = one_part (rule Γ e) (inl_rule u T (span_of e))
rule Γ (at s (InrE u T e)) = one_part (rule Γ e) (inr_rule u T (span_of e))
rule Γ (at s (CaseE e x a y b)) = one_part (rule Γ e) (λ T F. case_rule s (span_of e) (span_of b) T F (λ A. rule (Under x A Γ) a) (λ B. rule (Under y B Γ) b))
rule Γ (at s (IfE e a b)) = three_parts (rule Γ e) (rule Γ a) (rule Γ b) (if_rule s (span_of e) (span_of b))
rule Γ (at s (FunE x u T e)) = one_part (rule (Under x T Γ) e) (fun_rule s x u T)
rule Γ (at s (FnE x u T e)) = one_part (rule (Under x T Γ) e) (fn_rule u T)
rule Γ (at s (AppE f a)) = two_parts (rule Γ f) (rule Γ a) (app_rule s (span_of f) (span_of a))
rule Γ (at s (BangE r e)) = one_part (rule Γ e) (bang_rule s r)
rule Γ (at s (LetBangE x e b)) = one_part (rule Γ e) (λ T E. let_bang_rule s (span_of e) T E (λ A. rule (Under x A Γ) b))
rule Γ (at s (LetE x e b)) = one_part (rule Γ e) (λ A E. one_part (rule (Under x A Γ) b) (let_rule s E))
rule Γ (at s (PlusE a b)) = two_parts (rule Γ a) (rule Γ b) (plus_rule s (span_of a) (span_of b))
rule Γ (at s (MinusE a b)) = two_parts (rule Γ a) (rule Γ b) (plus_rule s (span_of a) (span_of b))
rule Γ (at s (TimesE k e)) = one_part (rule Γ e) (times_rule s (span_of e) k)
rule Γ (at s (LeE a b)) = two_parts (rule Γ a) (rule Γ b) (le_rule s (span_of a) (span_of b))
rule Γ (at s (EqE a b)) = two_parts (rule Γ a) (rule Γ b) (eq_rule s (span_of a) (span_of b))
rule Γ (at s (ClipE lo hi e)) = one_part (rule Γ e) (clip_rule (span_of e))
rule Γ (at s (LeastE e)) = one_part (rule Γ e) (least_rule (span_of e))
rule Γ (at s (GreatestE e)) = one_part (rule Γ e) (least_rule (span_of e))
rule Γ (at s (SizeE e)) = one_part (rule Γ e) (size_rule (span_of e))
rule Γ (at s (SumE lo hi e)) = one_part (rule Γ e) (sum_rule s (span_of e) lo hi)
rule Γ (at s (UnionE a b)) = two_parts (rule Γ a) (rule Γ b) (union_rule s (span_of a) (span_of b))
rule Γ (at s (MapE f b)) = two_parts (rule Γ f) (rule Γ b) (map_rule s (span_of f) (span_of b))
rule Γ (at s (FilterE f b)) = two_parts (rule Γ f) (rule Γ b) (test_rule BagT s (span_of f) (span_of b))
rule Γ (at s (SplitE f b)) = two_parts (rule Γ f) (rule Γ b) (test_rule halves s (span_of f) (span_of b))
