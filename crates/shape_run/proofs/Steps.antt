-- The outcome of a visit from those of its parts.
use Rattle.std.proofs.Common.{ap, arith, refl, subst, sym, ◌∙◌}
use Rattle.std.proofs.lemmas.Bool.{le-leb, lt-leb}
use Rattle.std.specs.Prelude.{List, Some, false, nat_le, suc, true, zero, ℕ, ◌+◌, ◌-◌, ◌<◌, ◌≡◌, ◌≤◌}
use Rattle.fz_ast.specs.Names.{name_of}
use Rattle.fz_ast.specs.Terms.{CaseE, IfE, LetBangE, LetE, LetPairE, Term, at, span_of}
use Rattle.fz_ast.specs.TermNodes.{IsKnown, binary, term_of, term_at, unary}
use Rattle.fz_ast.specs.Types.{Ty}
use Rattle.fz_ast.specs.declared.name.Name.{Name}
use Rattle.fz_ast.specs.declared.span.Span.{Span}
use Rattle.fz_ast.specs.declared.term.Arrow.TheVariants.{Fn as Unlimited, Fun as Linear}
use Rattle.fz_ast.specs.declared.term.Binary.{Binary}
use Rattle.fz_ast.specs.declared.term.Binary.TheVariants.{App, AtMost, Equal, Filter, Map, Minus, Pair as Both, Plus, Split, Union, With}
use Rattle.fz_ast.specs.declared.term.Form.{Form}
use Rattle.fz_ast.specs.declared.term.Form.TheVariants.{Bang as Banged, Binary as Op2, Case, If, Inject, Lambda, Let, LetBang, LetPair, Num, Ranged as Bounded, Text, Times, Unary as Op, Unit as One, Var}
use Rattle.fz_ast.specs.declared.term.Ranged.TheVariants.{Clip, Sum}
use Rattle.fz_ast.specs.declared.term.Side.TheVariants.{Inl, Inr}
use Rattle.fz_ast.specs.declared.term.Unary.{Unary}
use Rattle.fz_ast.specs.declared.term.Unary.TheVariants.{Fst, Greatest, Least, Size, Snd}
use Rattle.shape_law.specs.Shapes.{Also, Shape, Shapes, Wide, bang_shape, first_half, in_bang, second_half, side_shape, wider}
use Rattle.shape_law.specs.Walk.{WalkOutcome, Shaped, Stops, Tally, TooLong, TooManyWalks, Walk, bag, enters, yields, next, after_part, over, told, turn, turn_limit, after_parts, walk, walk_rules, walks_at, counted_from}
use Rattle.shape_run.proofs.CellFacts.{Reads}
use Rattle.shape_run.specs.Rules.{HasBody, beside, branches, combined, leaf_shape, part_gives, part_in}
use Rattle.shape_run.specs.Tells.{StopsAt, planned, tally_of}
use Rattle.shape_run.specs.declared.plan.Count.{Count}
use Rattle.shape_run.specs.declared.store.Cell.{Cell}
use Rattle.shape_run.specs.declared.store.Cell.TheVariants.{Bang, Fn, Frame, Fun, Ground, Pair}
use Rattle.shape_run.specs.declared.plan.ShapeFault.{ShapeFault}
use Rattle.shape_run.specs.declared.plan.ShapeFault.TheVariants.{NoMemory, TooDeep as Deep, TooLong as Long, TooManyWalks as Walks, TooWide as Broad}

pub to : (P : WalkOutcome → Type 0) (o o' : WalkOutcome) → o ≡ o' → P o' → P o
to P o o' e x = subst P (sym e) x

-- a node's tree

pub node_binary : (ty : ℕ → Ty) (N : List Term) (t : Term) (s : Span) (f : Form) (o : Binary) (a b : ℕ) → t ≡ term_of ty (term_at N) s f → f ≡ Op2 o a b → t ≡ at s (binary o (term_at N a) (term_at N b))
node_binary ty N t s f o a b h e = h ∙ ap (λ f. term_of ty (term_at N) s f) e

pub node_let : (ty : ℕ → Ty) (N : List Term) (t : Term) (s : Span) (f : Form) (x : Name) (a b : ℕ) → t ≡ term_of ty (term_at N) s f → f ≡ Let x a b → t ≡ at s (LetE (name_of x) (term_at N a) (term_at N b))
node_let ty N t s f x a b h e = h ∙ ap (λ f. term_of ty (term_at N) s f) e

pub known_binary : (m i n : ℕ) (f : Form) (o : Binary) (a b : ℕ) → f ≡ Op2 o a b → IsKnown m i f → i < n → (a < n) × (b < n)
known_binary m i n f o a b e h l = let k : IsKnown m i (Op2 o a b) = subst (IsKnown m i) e h in let x = k.0 in let y = k.1 in (omega arith, omega arith)

pub known_let : (m i n : ℕ) (f : Form) (x : Name) (a b : ℕ) → f ≡ Let x a b → IsKnown m i f → i < n → (a < n) × (b < n)
known_let m i n f x a b e h l = let k : IsKnown m i (Let x a b) = subst (IsKnown m i) e h in let y = k.0 in let z = k.1 in (omega arith, omega arith)

pub node_span : (ty : ℕ → Ty) (N : List Term) (t : Term) (s : Span) (f : Form) → t ≡ term_of ty (term_at N) s f → span_of t ≡ s
node_span ty N t s f h = ap span_of h

-- turns

pub past_limit : (left here : ℕ) (σ : Shapes) (t : Term) (s : Span) (k : Tally) → (left ≡ 0 → ⊥) → turn_limit ≤ k.turns → span_of t ≡ s → walk left here σ t k ≡ Stops (TooLong s)
past_limit zero here σ t s k z l e = absurd (z refl)
past_limit (suc left) here σ t s k z l e = let b : nat_le turn_limit k.turns ≡ true = le-leb turn_limit k.turns l in rw (b, e) refl

pub a_turn : (left here : ℕ) (σ : Shapes) (t : Term) (k j : Tally) → (left ≡ 0 → ⊥) → k.turns < turn_limit → j ≡ turn here k → walk left here σ t k ≡ walk_rules (here + 1) (walk (left - 1) (here + 1)) σ t j
a_turn zero here σ t k j z l e = absurd (z refl)
a_turn (suc left) here σ t k j z l e =
    let b : nat_le turn_limit k.turns ≡ false = lt-leb turn_limit k.turns l in
    let m : suc left - 1 ≡ left = omega arith in
    let n : here + 1 ≡ suc here = omega arith in
    rw (b, e, m, n) refl

-- two parts

binary_path : (d : ℕ) (W : Walk) (σ : Shapes) (s : Span) (o : Binary) (a b : Term) (k : Tally) → walk_rules d W σ (at s (binary o a b)) k ≡ after_parts W σ a b k (combined d W s o)
binary_path d W σ s Both a b k = refl
binary_path d W σ s With a b k = refl
binary_path d W σ s App a b k = refl
binary_path d W σ s Plus a b k = refl
binary_path d W σ s Minus a b k = refl
binary_path d W σ s AtMost a b k = refl
binary_path d W σ s Equal a b k = refl
binary_path d W σ s Union a b k = refl
binary_path d W σ s Map a b k = refl
binary_path d W σ s Filter a b k = refl
binary_path d W σ s Split a b k = refl

next_shaped : (o : WalkOutcome) (f : Shape → Tally → WalkOutcome) (p : Shape) (j : Tally) → o ≡ Shaped p j → next o f ≡ f p j
next_shaped o f p j h = ap (λ o. next o f) h

-- what a node of two parts makes of them
pub binary_then : (d : ℕ) (W : Walk) (σ : Shapes) (s : Span) (o : Binary) (a b t : Term) (k j l : Tally) (p q : Shape) → t ≡ at s (binary o a b) → W σ a k ≡ Shaped p j → W σ b j ≡ Shaped q l
    → walk_rules d W σ t k ≡ combined d W s o p q l
binary_then d W σ s o a b t k j l p q e h g =
    ap (λ t. walk_rules d W σ t k) e ∙ binary_path d W σ s o a b k ∙ next_shaped (W σ a k) (λ p k. next (W σ b k) (combined d W s o p)) p j h ∙ next_shaped (W σ b j) (combined d W s o p) q l g

pub stopped : (x : ShapeFault) (o : WalkOutcome) (f : Shape → Tally → WalkOutcome) → StopsAt x o → StopsAt x (next o f)
stopped (Deep s) o f h = ap (λ o. next o f) h
stopped (Long s) o f h = ap (λ o. next o f) h
stopped (Broad s w) o f h = ap (λ o. next o f) h
stopped Walks o f h = ap (λ o. next o f) h
stopped NoMemory o f h = tt

pub second_stops : (d : ℕ) (W : Walk) (σ : Shapes) (s : Span) (o : Binary) (a b t : Term) (k j : Tally) (p : Shape) (x : ShapeFault) → t ≡ at s (binary o a b) → W σ a k ≡ Shaped p j → StopsAt x (W σ b j) → StopsAt x (walk_rules d W σ t k)
second_stops d W σ s o a b t k j p x e h g =
    to (StopsAt x) (walk_rules d W σ t k) (next (W σ b j) (combined d W s o p))
    (ap (λ t. walk_rules d W σ t k) e ∙ binary_path d W σ s o a b k ∙ next_shaped (W σ a k) (λ p k. next (W σ b k) (combined d W s o p)) p j h)
    (stopped x (W σ b j) (combined d W s o p) g)

-- let

pub let_then : (d : ℕ) (W : Walk) (σ : Shapes) (s : Span) (x : List ℕ) (a b t : Term) (k j : Tally) (p : Shape) → t ≡ at s (LetE x a b) → W σ a k ≡ Shaped p j → walk_rules d W σ t k ≡ W (Also x p σ) b j
let_then d W σ s x a b t k j p e h = ap (λ t. walk_rules d W σ t k) e ∙ next_shaped (W σ a k) (λ p. W (Also x p σ) b) p j h

-- a shape that is no function's

pub no_function : (N : List Term) (cs : List Cell) (c : Cell) (W : Walk) (p q : Shape) (k : Tally) → ((x : Name) (e s : ℕ) → c ≡ Fun x e s → ⊥) → ((x : Name) (e s : ℕ) → c ≡ Fn x e s → ⊥) → Reads N cs c p
    → enters W p q k ≡ yields (Wide 0 0 0) k
no_function N cs (Ground w j v) W p q k f g h = ap (λ p. enters W p q k) h
no_function N cs (Pair a b) W p q k f g h = ap (λ p. enters W p q k) h.4
no_function N cs (Bang a) W p q k f g h = ap (λ p. enters W p q k) h.2
no_function N cs (Fun x e s) W p q k f g h = absurd (f x e s refl)
no_function N cs (Fn x e s) W p q k f g h = absurd (g x e s refl)
no_function N cs (Frame x s r) W p q k f g h = absurd h

-- one part

unary_path : (d : ℕ) (W : Walk) (σ : Shapes) (s : Span) (o : Unary) (e : ℕ) (a : Term) (k : Tally) → walk_rules d W σ (at s (unary o a)) k ≡ after_part W σ a k (part_gives d (Op o e))
unary_path d W σ s Fst e a k = refl
unary_path d W σ s Snd e a k = refl
unary_path d W σ s Least e a k = refl
unary_path d W σ s Greatest e a k = refl
unary_path d W σ s Size e a k = refl

-- a form of one part visits it
pub part_path : (d : ℕ) (W : Walk) (σ : Shapes) (ty : ℕ → Ty) (part : ℕ → Term) (s : Span) (f : Form) (e : ℕ) (k : Tally) → part_in f ≡ Some e → walk_rules d W σ (term_of ty part s f) k ≡ after_part W σ (part e) k (part_gives d f)
part_path d W σ ty part s (Op o e') e k h = let i : e' ≡ e = cc h in unary_path d W σ s o e' (part e') k ∙ ap (λ e. after_part W σ (part e) k (part_gives d (Op o e'))) i
part_path d W σ ty part s (Times n e') e k h = let i : e' ≡ e = cc h in ap (λ e. after_part W σ (part e) k (λ p. yields (Wide 0 0 0))) i
part_path d W σ ty part s (Bounded Sum lo hi e') e k h = let i : e' ≡ e = cc h in ap (λ e. after_part W σ (part e) k (walks_at d)) i
part_path d W σ ty part s (Bounded Clip lo hi e') e k h = let i : e' ≡ e = cc h in ap (λ e. after_part W σ (part e) k (λ p. yields (Wide 0 0 0))) i
part_path d W σ ty part s (Inject Inl u t e') e k h = let i : e' ≡ e = cc h in ap (λ e. after_part W σ (part e) k (λ p. yields (side_shape p))) i
part_path d W σ ty part s (Inject Inr u t e') e k h = let i : e' ≡ e = cc h in ap (λ e. after_part W σ (part e) k (λ p. yields (side_shape p))) i
part_path d W σ ty part s (Banged r e') e k h = let i : e' ≡ e = cc h in ap (λ e. after_part W σ (part e) k (λ p. yields (bang_shape p))) i
part_path d W σ ty part s (Var x) e k h = cc
part_path d W σ ty part s (Num z) e k h = cc
part_path d W σ ty part s (Text t) e k h = cc
part_path d W σ ty part s One e k h = cc
part_path d W σ ty part s (Op2 o a b) e k h = cc
part_path d W σ ty part s (Let x a b) e k h = cc
part_path d W σ ty part s (LetBang x a b) e k h = cc
part_path d W σ ty part s (LetPair x y a b) e k h = cc
part_path d W σ ty part s (If c a b) e k h = cc
part_path d W σ ty part s (Case c x a y b) e k h = cc
part_path d W σ ty part s (Lambda o x u t b) e k h = cc

pub part_known : (m i n : ℕ) (f : Form) (e : ℕ) → part_in f ≡ Some e → IsKnown m i f → i < n → e < n
part_known m i n (Op o e') e h k l = let j : e' ≡ e = cc h in omega (arith, j, k)
part_known m i n (Times z e') e h k l = let j : e' ≡ e = cc h in omega (arith, j, k)
part_known m i n (Bounded o lo hi e') e h k l = let j : e' ≡ e = cc h in omega (arith, j, k)
part_known m i n (Inject o u t e') e h k l = let j : e' ≡ e = cc h in let y = k.1 in omega (arith, j, y)
part_known m i n (Banged r e') e h k l = let j : e' ≡ e = cc h in omega (arith, j, k)
part_known m i n (Var x) e h k l = cc
part_known m i n (Num z) e h k l = cc
part_known m i n (Text t) e h k l = cc
part_known m i n One e h k l = cc
part_known m i n (Op2 o a b) e h k l = cc
part_known m i n (Let x a b) e h k l = cc
part_known m i n (LetBang x a b) e h k l = cc
part_known m i n (LetPair x y a b) e h k l = cc
part_known m i n (If c a b) e h k l = cc
part_known m i n (Case c x a y b) e h k l = cc
part_known m i n (Lambda o x u t b) e h k l = cc

pub part_then : (d : ℕ) (W : Walk) (σ : Shapes) (ty : ℕ → Ty) (N : List Term) (t : Term) (s : Span) (f : Form) (e : ℕ) (k j : Tally) (p : Shape) → t ≡ term_of ty (term_at N) s f → part_in f ≡ Some e → W σ (term_at N e) k ≡ Shaped p j
    → walk_rules d W σ t k ≡ part_gives d f p j
part_then d W σ ty N t s f e k j p h i g = ap (λ t. walk_rules d W σ t k) h ∙ part_path d W σ ty (term_at N) s f e k i ∙ next_shaped (W σ (term_at N e) k) (part_gives d f) p j g

pub part_stops : (d : ℕ) (W : Walk) (σ : Shapes) (ty : ℕ → Ty) (N : List Term) (t : Term) (s : Span) (f : Form) (e : ℕ) (k : Tally) (x : ShapeFault) → t ≡ term_of ty (term_at N) s f → part_in f ≡ Some e → StopsAt x (W σ (term_at N e) k) → StopsAt x (walk_rules d W σ t k)
part_stops d W σ ty N t s f e k x h i g =
    to (StopsAt x) (walk_rules d W σ t k) (after_part W σ (term_at N e) k (part_gives d f)) (ap (λ t. walk_rules d W σ t k) h ∙ part_path d W σ ty (term_at N) s f e k i) (stopped x (W σ (term_at N e) k) (part_gives d f) g)

-- a bag primitive

pub over_then : (d : ℕ) (W : Walk) (c q r : Shape) (k j : Tally) → enters W c (Wide 0 0 0) (counted_from d k) ≡ Shaped r j → over d W c q k ≡ bag d q k j
over_then d W c q r k j h = next_shaped (enters W c (Wide 0 0 0) (counted_from d k)) (λ r. bag d q k) r j h

pub over_stops : (d : ℕ) (W : Walk) (c q : Shape) (k : Tally) (x : ShapeFault) → StopsAt x (enters W c (Wide 0 0 0) (counted_from d k)) → StopsAt x (over d W c q k)
over_stops d W c q k x h = stopped x (enters W c (Wide 0 0 0) (counted_from d k)) (λ r. bag d q k) h

-- let !x

pub node_let_bang : (ty : ℕ → Ty) (N : List Term) (t : Term) (s : Span) (f : Form) (x : Name) (a b : ℕ) → t ≡ term_of ty (term_at N) s f → f ≡ LetBang x a b → t ≡ at s (LetBangE (name_of x) (term_at N a) (term_at N b))
node_let_bang ty N t s f x a b h e = h ∙ ap (λ f. term_of ty (term_at N) s f) e

pub known_let_bang : (m i n : ℕ) (f : Form) (x : Name) (a b : ℕ) → f ≡ LetBang x a b → IsKnown m i f → i < n → (a < n) × (b < n)
known_let_bang m i n f x a b e h l = let k : IsKnown m i (LetBang x a b) = subst (IsKnown m i) e h in let y = k.0 in let z = k.1 in (omega arith, omega arith)

pub let_bang_then : (d : ℕ) (W : Walk) (σ : Shapes) (s : Span) (x : List ℕ) (a b t : Term) (k j : Tally) (p : Shape) → t ≡ at s (LetBangE x a b) → W σ a k ≡ Shaped p j → walk_rules d W σ t k ≡ W (Also x (in_bang p) σ) b j
let_bang_then d W σ s x a b t k j p e h = ap (λ t. walk_rules d W σ t k) e ∙ next_shaped (W σ a k) (λ p. W (Also x (in_bang p) σ) b) p j h

-- let (x, y)

pub node_let_pair : (ty : ℕ → Ty) (N : List Term) (t : Term) (s : Span) (f : Form) (x y : Name) (a b : ℕ) → t ≡ term_of ty (term_at N) s f → f ≡ LetPair x y a b → t ≡ at s (LetPairE (name_of x) (name_of y) (term_at N a) (term_at N b))
node_let_pair ty N t s f x y a b h e = h ∙ ap (λ f. term_of ty (term_at N) s f) e

pub known_let_pair : (m i n : ℕ) (f : Form) (x y : Name) (a b : ℕ) → f ≡ LetPair x y a b → IsKnown m i f → i < n → (a < n) × (b < n)
known_let_pair m i n f x y a b e h l = let k : IsKnown m i (LetPair x y a b) = subst (IsKnown m i) e h in let z = k.0 in let w = k.1 in (omega arith, omega arith)

pub let_pair_then : (d : ℕ) (W : Walk) (σ : Shapes) (s : Span) (x y : List ℕ) (a b t : Term) (k j : Tally) (p : Shape) → t ≡ at s (LetPairE x y a b) → W σ a k ≡ Shaped p j
    → walk_rules d W σ t k ≡ W (Also y (second_half p) (Also x (first_half p) σ)) b j
let_pair_then d W σ s x y a b t k j p e h = ap (λ t. walk_rules d W σ t k) e ∙ next_shaped (W σ a k) (λ p. W (Also y (second_half p) (Also x (first_half p) σ)) b) p j h

-- if

pub node_if : (ty : ℕ → Ty) (N : List Term) (t : Term) (s : Span) (f : Form) (c a b : ℕ) → t ≡ term_of ty (term_at N) s f → f ≡ If c a b → t ≡ at s (IfE (term_at N c) (term_at N a) (term_at N b))
node_if ty N t s f c a b h e = h ∙ ap (λ f. term_of ty (term_at N) s f) e

pub known_if : (m i n : ℕ) (f : Form) (c a b : ℕ) → f ≡ If c a b → IsKnown m i f → i < n → (c < n) × (a < n) × (b < n)
known_if m i n f c a b e h l = let k : IsKnown m i (If c a b) = subst (IsKnown m i) e h in let y = k.0 in let z = k.1 in let w = k.2 in (omega arith, omega arith, omega arith)

pub if_then : (d : ℕ) (W : Walk) (σ : Shapes) (s : Span) (c a b t : Term) (k j : Tally) (p : Shape) → t ≡ at s (IfE c a b) → W σ c k ≡ Shaped p j → walk_rules d W σ t k ≡ branches W σ a σ b j
if_then d W σ s c a b t k j p e h = ap (λ t. walk_rules d W σ t k) e ∙ next_shaped (W σ c k) (λ p. branches W σ a σ b) p j h

-- case

pub node_case : (ty : ℕ → Ty) (N : List Term) (t : Term) (s : Span) (f : Form) (c : ℕ) (x : Name) (a : ℕ) (y : Name) (b : ℕ) → t ≡ term_of ty (term_at N) s f → f ≡ Case c x a y b
    → t ≡ at s (CaseE (term_at N c) (name_of x) (term_at N a) (name_of y) (term_at N b))
node_case ty N t s f c x a y b h e = h ∙ ap (λ f. term_of ty (term_at N) s f) e

pub known_case : (m i n : ℕ) (f : Form) (c : ℕ) (x : Name) (a : ℕ) (y : Name) (b : ℕ) → f ≡ Case c x a y b → IsKnown m i f → i < n → (c < n) × (a < n) × (b < n)
known_case m i n f c x a y b e h l = let k : IsKnown m i (Case c x a y b) = subst (IsKnown m i) e h in let z = k.0 in let w = k.1 in let v = k.2 in (omega arith, omega arith, omega arith)

pub case_then : (d : ℕ) (W : Walk) (σ : Shapes) (s : Span) (x y : List ℕ) (c a b t : Term) (k j : Tally) (p : Shape) → t ≡ at s (CaseE c x a y b) → W σ c k ≡ Shaped p j
    → walk_rules d W σ t k ≡ branches W (beside x p σ) a (beside y p σ) b j
case_then d W σ s x y c a b t k j p e h = ap (λ t. walk_rules d W σ t k) e ∙ next_shaped (W σ c k) (λ p. branches W (beside x p σ) a (beside y p σ) b) p j h

-- two branches

pub branches_then : (W : Walk) (σ τ : Shapes) (a b : Term) (k j l : Tally) (p q : Shape) → W σ a k ≡ Shaped p j → W τ b j ≡ Shaped q l → branches W σ a τ b k ≡ yields (wider p q) l
branches_then W σ τ a b k j l p q h g =
    next_shaped (W σ a k) (λ p k. next (W τ b k) (λ q. yields (wider p q))) p j h ∙ next_shaped (W τ b j) (λ q. yields (wider p q)) q l g

pub first_branch_stops : (W : Walk) (σ τ : Shapes) (a b : Term) (k : Tally) (x : ShapeFault) → StopsAt x (W σ a k) → StopsAt x (branches W σ a τ b k)
first_branch_stops W σ τ a b k x h = stopped x (W σ a k) (λ p k. next (W τ b k) (λ q. yields (wider p q))) h

pub second_branch_stops : (W : Walk) (σ τ : Shapes) (a b : Term) (k j : Tally) (p : Shape) (x : ShapeFault) → W σ a k ≡ Shaped p j → StopsAt x (W τ b j) → StopsAt x (branches W σ a τ b k)
second_branch_stops W σ τ a b k j p x h g =
    to (StopsAt x) (branches W σ a τ b k) (next (W τ b j) (λ q. yields (wider p q)))
    (next_shaped (W σ a k) (λ p k. next (W τ b k) (λ q. yields (wider p q))) p j h)
    (stopped x (W τ b j) (λ q. yields (wider p q)) g)

-- a form that the walk's other arms leave over visits nothing

pub leaf_known : (m i n : ℕ) (f : Form) → IsKnown m i f → i < n → HasBody n f
leaf_known m i n (Lambda o x u t e) k l = let y = k.1 in omega arith
leaf_known m i n (Op o e) k l = tt
leaf_known m i n (Times k' e) k l = tt
leaf_known m i n (Bounded o lo hi e) k l = tt
leaf_known m i n (Inject o u t e) k l = tt
leaf_known m i n (Banged r e) k l = tt
leaf_known m i n (Var x) k l = tt
leaf_known m i n (Num z) k l = tt
leaf_known m i n (Text t) k l = tt
leaf_known m i n One k l = tt
leaf_known m i n (Op2 o a b) k l = tt
leaf_known m i n (Let x a b) k l = tt
leaf_known m i n (LetBang x a b) k l = tt
leaf_known m i n (LetPair x y a b) k l = tt
leaf_known m i n (If c a b) k l = tt
leaf_known m i n (Case c x a y b) k l = tt

-- no other arm of the walk has the form
pub record IsLeft (f : Form) : Type 0 where
  pub no_part : (e : ℕ) → part_in f ≡ Some e → ⊥
  pub no_binary : (o : Binary) (a b : ℕ) → f ≡ Op2 o a b → ⊥
  pub no_let : (x : Name) (a b : ℕ) → f ≡ Let x a b → ⊥
  pub no_let_bang : (x : Name) (a b : ℕ) → f ≡ LetBang x a b → ⊥
  pub no_let_pair : (x y : Name) (a b : ℕ) → f ≡ LetPair x y a b → ⊥
  pub no_if : (c a b : ℕ) → f ≡ If c a b → ⊥
  pub no_case : (c : ℕ) (x : Name) (a : ℕ) (y : Name) (b : ℕ) → f ≡ Case c x a y b → ⊥

leaf_path : (d : ℕ) (W : Walk) (σ : Shapes) (ty : ℕ → Ty) (N : List Term) (s : Span) (f : Form) (k : Tally) → IsLeft f → walk_rules d W σ (term_of ty (term_at N) s f) k ≡ yields (leaf_shape N σ f) k
leaf_path d W σ ty N s (Var x) k l = refl
leaf_path d W σ ty N s (Num z) k l = refl
leaf_path d W σ ty N s (Text t) k l = refl
leaf_path d W σ ty N s One k l = refl
leaf_path d W σ ty N s (Lambda Linear x u t b) k l = refl
leaf_path d W σ ty N s (Lambda Unlimited x u t b) k l = refl
leaf_path d W σ ty N s (Op o e) k l = absurd (l.no_part e refl)
leaf_path d W σ ty N s (Times z e) k l = absurd (l.no_part e refl)
leaf_path d W σ ty N s (Bounded o lo hi e) k l = absurd (l.no_part e refl)
leaf_path d W σ ty N s (Inject o u t e) k l = absurd (l.no_part e refl)
leaf_path d W σ ty N s (Banged r e) k l = absurd (l.no_part e refl)
leaf_path d W σ ty N s (Op2 o a b) k l = absurd (l.no_binary o a b refl)
leaf_path d W σ ty N s (Let x a b) k l = absurd (l.no_let x a b refl)
leaf_path d W σ ty N s (LetBang x a b) k l = absurd (l.no_let_bang x a b refl)
leaf_path d W σ ty N s (LetPair x y a b) k l = absurd (l.no_let_pair x y a b refl)
leaf_path d W σ ty N s (If c a b) k l = absurd (l.no_if c a b refl)
leaf_path d W σ ty N s (Case c x a y b) k l = absurd (l.no_case c x a y b refl)

pub leaf_then : (d : ℕ) (W : Walk) (σ : Shapes) (ty : ℕ → Ty) (N : List Term) (t : Term) (s : Span) (f : Form) (k : Tally) → t ≡ term_of ty (term_at N) s f → IsLeft f → walk_rules d W σ t k ≡ yields (leaf_shape N σ f) k
leaf_then d W σ ty N t s f k h l = ap (λ t. walk_rules d W σ t k) h ∙ leaf_path d W σ ty N s f k l

-- a whole program

pub told_stops : (x : ShapeFault) (o : WalkOutcome) → StopsAt x o → StopsAt x (told o)
told_stops (Deep s) o h = ap told h
told_stops (Long s) o h = ap told h
told_stops (Broad s w) o h = ap told h
told_stops Walks o h = ap told h
told_stops NoMemory o h = tt

pub too_many_told : (o : WalkOutcome) (p : Shape) (k : Count) → o ≡ Shaped p (tally_of k) → k.too_many ≡ true → told o ≡ TooManyWalks
too_many_told o p k h e = ap told h ∙ ap (λ b. told (Shaped p (tally_of (record { plan = k.plan; too_many = b })))) e

pub planned_told : (o : WalkOutcome) (p : Shape) (k : Count) → o ≡ Shaped p (tally_of k) → k.too_many ≡ false → told o ≡ Shaped p (planned k.plan)
planned_told o p k h e = ap told h ∙ ap (λ b. told (Shaped p (tally_of (record { plan = k.plan; too_many = b })))) e
