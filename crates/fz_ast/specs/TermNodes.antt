-- The terms that numbered nodes stand for: each node's parts are nodes before it.
use Rattle.std.specs.Prelude.{◌≡◌, ℕ, ◌+◌, ◌<◌, ◌≤◌, List, [], ◌∷◌, ◌++◌, length, ⊤}
use Rattle.std.proofs.Common.{get_or}
use Rattle.fz_frac.specs.Sens.{distance_of}
use Rattle.fz_ast.specs.declared.span.Span.{Span}
use Rattle.fz_ast.specs.Types.{Ty}
use Rattle.fz_ast.specs.Terms.{Term, TermForm, at, VarE, NumE, TextE, UnitE, PairE, WithE, FstE, SndE, LetPairE}
use Rattle.fz_ast.specs.Terms.{InlE, InrE, CaseE, IfE, FunE, FnE, AppE, BangE, LetBangE, LetE, PlusE, MinusE}
use Rattle.fz_ast.specs.Terms.{TimesE, LeE, EqE, ClipE, LeastE, GreatestE, SizeE, SumE, UnionE, MapE, FilterE, SplitE}
use Rattle.fz_ast.specs.Bare.{nowhere}
use Rattle.fz_ast.specs.Limits.{IsNumber, IsBang, TypeLimits, TermLimits}
use Rattle.fz_ast.specs.Depth.{depth}
use Rattle.fz_ast.specs.Names.{name_of, text_of}
use Rattle.fz_ast.specs.TypeNodes.{type_at}
use Rattle.fz_ast.specs.declared.term.Unary.{Unary}
use Rattle.fz_ast.specs.declared.term.Unary.TheVariants.{Fst, Snd, Least, Greatest, Size}
use Rattle.fz_ast.specs.declared.term.Binary.{Binary}
use Rattle.fz_ast.specs.declared.term.Binary.TheVariants.{Pair, With, App, Plus, Minus, AtMost, Equal, Union, Map, Filter, Split}
use Rattle.fz_ast.specs.declared.term.Ranged.TheVariants.{Sum, Clip}
use Rattle.fz_ast.specs.declared.term.Side.TheVariants.{Inl, Inr}
use Rattle.fz_ast.specs.declared.term.Arrow.TheVariants.{Fun, Fn}
use Rattle.fz_ast.specs.declared.term.Form.{Form}
use Rattle.fz_ast.specs.declared.term.Form.TheVariants.{Var, Num, Text, Unit as One, Unary as Op, Binary as Op2, Times, Ranged as Bounded}
use Rattle.fz_ast.specs.declared.term.Form.TheVariants.{Inject, Bang, Let, LetBang, LetPair, If, Case, Lambda}
use Rattle.fz_ast.specs.declared.term.Node.{Node}

-- term number i of a list
unfoldable pub term_at : List Term → ℕ → Term
term_at N i = get_or N i (at nowhere UnitE)

abbrev pub unary : Unary → Term → TermForm
unary Fst e = FstE e
unary Snd e = SndE e
unary Least e = LeastE e
unary Greatest e = GreatestE e
unary Size e = SizeE e

abbrev pub binary : Binary → Term → Term → TermForm
binary Pair a b = PairE a b
binary With a b = WithE a b
binary App a b = AppE a b
binary Plus a b = PlusE a b
binary Minus a b = MinusE a b
binary AtMost a b = LeE a b
binary Equal a b = EqE a b
binary Union a b = UnionE a b
binary Map a b = MapE a b
binary Filter a b = FilterE a b
binary Split a b = SplitE a b

-- the form that stands for this one, ty(i) being the type number i, and part(i) the term number i
abbrev pub form_of : (ℕ → Ty) → (ℕ → Term) → Form → TermForm
form_of ty part (Var x) = VarE (name_of x)
form_of ty part (Num z) = NumE z
form_of ty part (Text t) = TextE (text_of t)
form_of ty part One = UnitE
form_of ty part (Op o e) = unary o (part e)
form_of ty part (Op2 o a b) = binary o (part a) (part b)
form_of ty part (Times k e) = TimesE k (part e)
form_of ty part (Bounded Sum lo hi e) = SumE lo hi (part e)
form_of ty part (Bounded Clip lo hi e) = ClipE lo hi (part e)
form_of ty part (Inject Inl u t e) = InlE u (ty t) (part e)
form_of ty part (Inject Inr u t e) = InrE u (ty t) (part e)
form_of ty part (Bang r e) = BangE (distance_of r) (part e)
form_of ty part (Let x e b) = LetE (name_of x) (part e) (part b)
form_of ty part (LetBang x e b) = LetBangE (name_of x) (part e) (part b)
form_of ty part (LetPair x y e b) = LetPairE (name_of x) (name_of y) (part e) (part b)
form_of ty part (If e a b) = IfE (part e) (part a) (part b)
form_of ty part (Case e x a y b) = CaseE (part e) (name_of x) (part a) (name_of y) (part b)
form_of ty part (Lambda Fun x u t e) = FunE (name_of x) u (ty t) (part e)
form_of ty part (Lambda Fn x u t e) = FnE (name_of x) u (ty t) (part e)

-- the term of this form at s
abbrev pub term_of : (ℕ → Ty) → (ℕ → Term) → Span → Form → Term
term_of ty part s form = at s (form_of ty part form)

-- its types' numbers are below m, and its parts' below n
abbrev pub IsKnown : ℕ → ℕ → Form → Type 0
IsKnown m n (Var x) = ⊤
IsKnown m n (Num z) = ⊤
IsKnown m n (Text t) = ⊤
IsKnown m n One = ⊤
IsKnown m n (Op o e) = e < n
IsKnown m n (Op2 o a b) = (a < n) × (b < n)
IsKnown m n (Times k e) = e < n
IsKnown m n (Bounded o lo hi e) = e < n
IsKnown m n (Inject o u t e) = (t < m) × (e < n)
IsKnown m n (Bang r e) = e < n
IsKnown m n (Let x e b) = (e < n) × (b < n)
IsKnown m n (LetBang x e b) = (e < n) × (b < n)
IsKnown m n (LetPair x y e b) = (e < n) × (b < n)
IsKnown m n (If e a b) = (e < n) × (a < n) × (b < n)
IsKnown m n (Case e x a y b) = (e < n) × (a < n) × (b < n)
IsKnown m n (Lambda o x u t e) = (t < m) × (e < n)

-- numbers are within -M..M, and bang numbers above 0
abbrev pub FormLimits : Form → Type 0
FormLimits (Num z) = IsNumber z
FormLimits (Times k e) = IsNumber k
FormLimits (Bounded o lo hi e) = IsNumber lo × IsNumber hi
FormLimits (Bang r e) = IsBang (distance_of r)
FormLimits form = ⊤

-- the terms of nodes that come after those of N
abbrev pub terms_after : (ℕ → Ty) → List Term → List Node → List Term
terms_after ty N [] = N
terms_after ty N (n ∷ ns) = terms_after ty (N ++ term_of ty (term_at N) n.span n.form ∷ []) ns

-- what node k keeps of its term e
pub record TermNotes (e : Term) (k : ℕ) (n : Node) : Type 0 where
  pub limits : TermLimits e
  pub depth : n.depth ≡ depth e
  pub shallow : n.depth ≤ k + 4294967296

-- node k stands for term number k of N
pub record StandsForTerm (T : List Ty) (N : List Term) (k : ℕ) (n : Node) : Type 0 where
  pub form : term_at N k ≡ term_of (type_at T) (term_at N) n.span n.form
  pub known : IsKnown (length T) k n.form
  pub notes : TermNotes (term_at N k) k n

pub record AreTerms (T : List Ty) (N : List Term) (ns : List Node) : Type 0 where
  pub types : (k : ℕ) → k < length T → TypeLimits (type_at T k)
  pub size : length N ≡ length ns
  pub each : (k : ℕ) (n : Node) → k < length ns → StandsForTerm T N k (get_or ns k n)
