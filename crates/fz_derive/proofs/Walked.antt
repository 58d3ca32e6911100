-- A node's least fault, by its form, and where its parts' lines stand.
use Rattle.std.proofs.Common.{◌≡◌, ℕ, suc, ◌+◌, ◌<◌, ◌≤◌, refl, sym, ap, subst, ◌∙◌, arith, Bool, true, false, List, length, IfOk}
use Rattle.std.specs.Prelude.{Option, Some, None, Result, Ok, Err, ℤ, ⊤}
use Rattle.fz_ast.specs.Names.{name_of}
use Rattle.fz_ast.specs.Parts.{Parts}
use Rattle.fz_ast.specs.TermNodes.{term_at}
use Rattle.fz_ast.specs.Terms.{Term, at, VarE, NumE, TextE, UnitE, PairE, WithE, FstE, SndE, LetPairE, InlE, InrE, CaseE, IfE, FunE, FnE, AppE}
use Rattle.fz_ast.specs.Terms.{BangE, LetBangE, LetE, PlusE, MinusE, TimesE, LeE, EqE, ClipE, LeastE, GreatestE, SizeE, SumE, UnionE, MapE, FilterE, SplitE}
use Rattle.fz_ast.specs.TypeNodes.{type_at}
use Rattle.fz_ast.specs.declared.memory.NoMemory.{NoMemory}
use Rattle.fz_ast.specs.declared.span.Span.{Span}
use Rattle.fz_ast.specs.declared.term.Arrow.TheVariants.{Fun, Fn}
use Rattle.fz_ast.specs.declared.term.Binary.TheVariants.{Pair, With, App, Plus, Minus, AtMost, Equal, Union, Map, Filter, Split}
use Rattle.fz_ast.specs.declared.term.Form.{Form}
use Rattle.fz_ast.specs.declared.term.Form.TheVariants.{Var, Num, Text, Unit as One, Unary as Op, Binary as Op2, Times, Ranged as Bounded}
use Rattle.fz_ast.specs.declared.term.Form.TheVariants.{Inject, Bang, Let, LetBang, LetPair, If, Case, Lambda}
use Rattle.fz_ast.specs.declared.term.Ranged.TheVariants.{Sum, Clip}
use Rattle.fz_ast.specs.declared.term.Side.TheVariants.{Inl, Inr}
use Rattle.fz_ast.specs.declared.term.Unary.TheVariants.{Fst, Snd, Least, Greatest, Size}
use Rattle.term_meanings.specs.Scopes.{Context, Under}
use Rattle.derivation_rows.specs.Faults.{fault_in, first_of, first_type, second_type, is_fine, node}
use Rattle.derivation_rows.specs.Formed.{ArePlaced, form_row}
use Rattle.derivation_lines.specs.Lines.{Line, line_at}
use Rattle.derivation_rows.specs.Nodes.{nodes_of}
use Rattle.derivation_rows.specs.Rows.{Row}
use Rattle.fz_derive.specs.Walked.{form_places, node_term}
use Rattle.derivation_rows.specs.declared.rows.Places.{Places}

-- the least fault below a node of this form, its parts' lines standing at p
abbrev pub faults_below : List Line → Parts → Context → Places → Form → Option ℕ
faults_below L N Γ p (Var x) = None
faults_below L N Γ p (Num z) = None
faults_below L N Γ p (Text t) = None
faults_below L N Γ p One = None
faults_below L N Γ p (Op o e) = fault_in L Γ (term_at N.terms e) p.first
faults_below L N Γ p (Op2 o a b) = first_of (fault_in L Γ (term_at N.terms a) p.first) (fault_in L Γ (term_at N.terms b) p.second)
faults_below L N Γ p (Times r e) = fault_in L Γ (term_at N.terms e) p.first
faults_below L N Γ p (Bounded o lo hi e) = fault_in L Γ (term_at N.terms e) p.first
faults_below L N Γ p (Inject o u t e) = fault_in L Γ (term_at N.terms e) p.first
faults_below L N Γ p (Bang r e) = fault_in L Γ (term_at N.terms e) p.first
faults_below L N Γ p (Let x e b) =
    first_of (fault_in L Γ (term_at N.terms e) p.first) (fault_in L (Under (name_of x) (line_at L p.first).ty Γ) (term_at N.terms b) p.second)
faults_below L N Γ p (LetBang x e b) =
    first_of (fault_in L Γ (term_at N.terms e) p.first) (fault_in L (Under (name_of x) (first_type (line_at L p.first).ty) Γ) (term_at N.terms b) p.second)
faults_below L N Γ p (LetPair x y e b) =
    first_of (fault_in L Γ (term_at N.terms e) p.first)
    (fault_in L (Under (name_of y) (second_type (line_at L p.first).ty) (Under (name_of x) (first_type (line_at L p.first).ty) Γ)) (term_at N.terms b) p.second)
faults_below L N Γ p (If e a b) =
    first_of (fault_in L Γ (term_at N.terms e) p.first) (first_of (fault_in L Γ (term_at N.terms a) p.second) (fault_in L Γ (term_at N.terms b) p.third))
faults_below L N Γ p (Case e x a y b) =
    first_of (fault_in L Γ (term_at N.terms e) p.first) (first_of (fault_in L (Under (name_of x) (first_type (line_at L p.first).ty) Γ) (term_at N.terms a) p.second)
    (fault_in L (Under (name_of y) (second_type (line_at L p.first).ty) Γ) (term_at N.terms b) p.third))
faults_below L N Γ p (Lambda o x u t e) = fault_in L (Under (name_of x) (type_at N.types t) Γ) (term_at N.terms e) p.first

-- the row of a node of this form
abbrev pub row_here : List Line → Parts → Context → Places → Form → Option Row
row_here L N Γ p f = form_row (type_at N.types) Γ f (line_at L p.first) (line_at L p.second) (line_at L p.third)

module _ (L : List Line) (N : Parts) (Γ : Context) (s : Span) (k : ℕ) where
  fault_by : Form → Option ℕ
  fault_by f = node L Γ k (row_here L N Γ (form_places (term_at N.terms) f k) f) (faults_below L N Γ (form_places (term_at N.terms) f k) f)

  fault_form : (f : Form) → fault_in L Γ (node_term N s f) k ≡ fault_by f
  unfolding fault_by
  fault_form (Var x) = refl
  fault_form (Num z) = refl
  fault_form (Text t) = refl
  fault_form One = refl
  fault_form (Op Fst e) = refl
  fault_form (Op Snd e) = refl
  fault_form (Op Least e) = refl
  fault_form (Op Greatest e) = refl
  fault_form (Op Size e) = refl
  fault_form (Op2 Pair a b) = refl
  fault_form (Op2 With a b) = refl
  fault_form (Op2 App a b) = refl
  fault_form (Op2 Plus a b) = refl
  fault_form (Op2 Minus a b) = refl
  fault_form (Op2 AtMost a b) = refl
  fault_form (Op2 Equal a b) = refl
  fault_form (Op2 Union a b) = refl
  fault_form (Op2 Map a b) = refl
  fault_form (Op2 Filter a b) = refl
  fault_form (Op2 Split a b) = refl
  fault_form (Times r e) = refl
  fault_form (Bounded Sum lo hi e) = refl
  fault_form (Bounded Clip lo hi e) = refl
  fault_form (Inject Inl u t e) = refl
  fault_form (Inject Inr u t e) = refl
  fault_form (Bang r e) = refl
  fault_form (Let x e b) = refl
  fault_form (LetBang x e b) = refl
  fault_form (LetPair x y e b) = refl
  fault_form (If e a b) = refl
  fault_form (Case e x a y b) = refl
  fault_form (Lambda Fun x u t e) = refl
  fault_form (Lambda Fn x u t e) = refl

  module _ (t : Term) (f : Form) (p : Places) (is : t ≡ node_term N s f) (places : p ≡ form_places (term_at N.terms) f k) where
    fault_here : fault_in L Γ t k ≡ node L Γ k (row_here L N Γ p f) (faults_below L N Γ p f)
    unfolding fault_by
    fault_here = rw (is, places) (fault_form f)

    pub failed : false ≡ is_fine Γ (row_here L N Γ p f) (line_at L k) → Some k ≡ fault_in L Γ t k
    failed h = rw (fault_here, ← h) refl

    -- what is found below is the node's
    pub passed : (r : Result (Option ℕ) NoMemory) (g : Form) → f ≡ g → true ≡ is_fine Γ (row_here L N Γ p f) (line_at L k) → IfOk r (λ o. o ≡ faults_below L N Γ p g) → IfOk r (λ o. o ≡ fault_in L Γ t k)
    passed (Ok o) g e h i = i ∙ sym (ap (faults_below L N Γ p) e) ∙ rw (fault_here, ← h) refl
    passed (Err x) g e h i = tt

-- a term has a node
pub nodes_above : (e : Term) → 0 < nodes_of e
nodes_above (at s (VarE x)) = omega arith
nodes_above (at s (NumE z)) = omega arith
nodes_above (at s (TextE t)) = omega arith
nodes_above (at s UnitE) = omega arith
nodes_above (at s (PairE a b)) = omega arith
nodes_above (at s (WithE a b)) = omega arith
nodes_above (at s (FstE e)) = omega arith
nodes_above (at s (SndE e)) = omega arith
nodes_above (at s (LetPairE x y e b)) = omega arith
nodes_above (at s (InlE u t e)) = omega arith
nodes_above (at s (InrE u t e)) = omega arith
nodes_above (at s (CaseE e x a y b)) = omega arith
nodes_above (at s (IfE e a b)) = omega arith
nodes_above (at s (FunE x u t e)) = omega arith
nodes_above (at s (FnE x u t e)) = omega arith
nodes_above (at s (AppE f a)) = omega arith
nodes_above (at s (BangE r e)) = omega arith
nodes_above (at s (LetBangE x e b)) = omega arith
nodes_above (at s (LetE x e b)) = omega arith
nodes_above (at s (PlusE a b)) = omega arith
nodes_above (at s (MinusE a b)) = omega arith
nodes_above (at s (TimesE k e)) = omega arith
nodes_above (at s (LeE a b)) = omega arith
nodes_above (at s (EqE a b)) = omega arith
nodes_above (at s (ClipE lo hi e)) = omega arith
nodes_above (at s (LeastE e)) = omega arith
nodes_above (at s (GreatestE e)) = omega arith
nodes_above (at s (SizeE e)) = omega arith
nodes_above (at s (SumE lo hi e)) = omega arith
nodes_above (at s (UnionE a b)) = omega arith
nodes_above (at s (MapE f b)) = omega arith
nodes_above (at s (FilterE f b)) = omega arith
nodes_above (at s (SplitE f b)) = omega arith

-- the lines of the parts of a node of this form, which stand at p, are among n
abbrev pub FitBelow : ℕ → Parts → Places → Form → Type 0
FitBelow n N p (Var x) = ⊤
FitBelow n N p (Num z) = ⊤
FitBelow n N p (Text t) = ⊤
FitBelow n N p One = ⊤
FitBelow n N p (Op o e) = p.first + nodes_of (term_at N.terms e) ≤ n
FitBelow n N p (Op2 o a b) = (p.first + nodes_of (term_at N.terms a) ≤ n) × (p.second + nodes_of (term_at N.terms b) ≤ n)
FitBelow n N p (Times r e) = p.first + nodes_of (term_at N.terms e) ≤ n
FitBelow n N p (Bounded o lo hi e) = p.first + nodes_of (term_at N.terms e) ≤ n
FitBelow n N p (Inject o u t e) = p.first + nodes_of (term_at N.terms e) ≤ n
FitBelow n N p (Bang r e) = p.first + nodes_of (term_at N.terms e) ≤ n
FitBelow n N p (Let x e b) = (p.first + nodes_of (term_at N.terms e) ≤ n) × (p.second + nodes_of (term_at N.terms b) ≤ n)
FitBelow n N p (LetBang x e b) = (p.first + nodes_of (term_at N.terms e) ≤ n) × (p.second + nodes_of (term_at N.terms b) ≤ n)
FitBelow n N p (LetPair x y e b) = (p.first + nodes_of (term_at N.terms e) ≤ n) × (p.second + nodes_of (term_at N.terms b) ≤ n)
FitBelow n N p (If e a b) =
    (p.first + nodes_of (term_at N.terms e) ≤ n) × (p.second + nodes_of (term_at N.terms a) ≤ n) × (p.third + nodes_of (term_at N.terms b) ≤ n)
FitBelow n N p (Case e x a y b) =
    (p.first + nodes_of (term_at N.terms e) ≤ n) × (p.second + nodes_of (term_at N.terms a) ≤ n) × (p.third + nodes_of (term_at N.terms b) ≤ n)
FitBelow n N p (Lambda o x u t e) = p.first + nodes_of (term_at N.terms e) ≤ n

module _ (N : Parts) (s : Span) (k n : ℕ) where
  one_fits : (e : ℕ) → k + suc (nodes_of (term_at N.terms e)) ≤ n → k + 1 + nodes_of (term_at N.terms e) ≤ n
  one_fits e h = omega arith

  two_fit : (a b : ℕ) → k + suc (nodes_of (term_at N.terms a) + nodes_of (term_at N.terms b)) ≤ n
      → (k + 1 + nodes_of (term_at N.terms a) ≤ n) × (k + 1 + nodes_of (term_at N.terms a) + nodes_of (term_at N.terms b) ≤ n)
  two_fit a b h = (omega arith, omega arith)

  three_fit : (e a b : ℕ) → k + suc (nodes_of (term_at N.terms e) + (nodes_of (term_at N.terms a) + nodes_of (term_at N.terms b))) ≤ n
      → (k + 1 + nodes_of (term_at N.terms e) ≤ n) × (k + 1 + nodes_of (term_at N.terms e) + nodes_of (term_at N.terms a) ≤ n)
      × (k + 1 + nodes_of (term_at N.terms e) + nodes_of (term_at N.terms a) + nodes_of (term_at N.terms b) ≤ n)
  three_fit e a b h = (omega arith, omega arith, omega arith)

  fit_form : (f : Form) → k + nodes_of (node_term N s f) ≤ n → FitBelow n N (form_places (term_at N.terms) f k) f
  fit_form (Var x) h = tt
  fit_form (Num z) h = tt
  fit_form (Text t) h = tt
  fit_form One h = tt
  fit_form (Op Fst e) h = one_fits e h
  fit_form (Op Snd e) h = one_fits e h
  fit_form (Op Least e) h = one_fits e h
  fit_form (Op Greatest e) h = one_fits e h
  fit_form (Op Size e) h = one_fits e h
  fit_form (Op2 Pair a b) h = two_fit a b h
  fit_form (Op2 With a b) h = two_fit a b h
  fit_form (Op2 App a b) h = two_fit a b h
  fit_form (Op2 Plus a b) h = two_fit a b h
  fit_form (Op2 Minus a b) h = two_fit a b h
  fit_form (Op2 AtMost a b) h = two_fit a b h
  fit_form (Op2 Equal a b) h = two_fit a b h
  fit_form (Op2 Union a b) h = two_fit a b h
  fit_form (Op2 Map a b) h = two_fit a b h
  fit_form (Op2 Filter a b) h = two_fit a b h
  fit_form (Op2 Split a b) h = two_fit a b h
  fit_form (Times r e) h = one_fits e h
  fit_form (Bounded Sum lo hi e) h = one_fits e h
  fit_form (Bounded Clip lo hi e) h = one_fits e h
  fit_form (Inject Inl u t e) h = one_fits e h
  fit_form (Inject Inr u t e) h = one_fits e h
  fit_form (Bang r e) h = one_fits e h
  fit_form (Let x e b) h = two_fit e b h
  fit_form (LetBang x e b) h = two_fit e b h
  fit_form (LetPair x y e b) h = two_fit e b h
  fit_form (If e a b) h = three_fit e a b h
  fit_form (Case e x a y b) h = three_fit e a b h
  fit_form (Lambda Fun x u t e) h = one_fits e h
  fit_form (Lambda Fn x u t e) h = one_fits e h

  -- the parts' lines are there
  pub fit : (t : Term) (f g : Form) (p : Places) → t ≡ node_term N s f → p ≡ form_places (term_at N.terms) f k → f ≡ g → k + nodes_of t ≤ n → FitBelow n N p g
  fit t f g p is places e h = rw (places, ← e) (fit_form f (rw is at h))

below_at : (n k : ℕ) (e : Term) → k + nodes_of e ≤ n → k < n
below_at n k e h = let m = nodes_above e in omega arith

pub placed : (n : ℕ) (N : Parts) (p : Places) (f : Form) → FitBelow n N p f → ArePlaced n f p
placed n N p (Var x) h = tt
placed n N p (Num z) h = tt
placed n N p (Text t) h = tt
placed n N p One h = tt
placed n N p (Op o e) h = below_at n p.first (term_at N.terms e) h
placed n N p (Op2 o a b) h = (below_at n p.first (term_at N.terms a) h.0, below_at n p.second (term_at N.terms b) h.1)
placed n N p (Times r e) h = below_at n p.first (term_at N.terms e) h
placed n N p (Bounded o lo hi e) h = below_at n p.first (term_at N.terms e) h
placed n N p (Inject o u t e) h = below_at n p.first (term_at N.terms e) h
placed n N p (Bang r e) h = below_at n p.first (term_at N.terms e) h
placed n N p (Let x e b) h = (below_at n p.first (term_at N.terms e) h.0, below_at n p.second (term_at N.terms b) h.1)
placed n N p (LetBang x e b) h = (below_at n p.first (term_at N.terms e) h.0, below_at n p.second (term_at N.terms b) h.1)
placed n N p (LetPair x y e b) h = (below_at n p.first (term_at N.terms e) h.0, below_at n p.second (term_at N.terms b) h.1)
placed n N p (If e a b) h = (below_at n p.first (term_at N.terms e) h.0, below_at n p.second (term_at N.terms a) h.1, below_at n p.third (term_at N.terms b) h.2)
placed n N p (Case e x a y b) h = (below_at n p.first (term_at N.terms e) h.0, below_at n p.second (term_at N.terms a) h.1, below_at n p.third (term_at N.terms b) h.2)
placed n N p (Lambda o x u t e) h = below_at n p.first (term_at N.terms e) h
