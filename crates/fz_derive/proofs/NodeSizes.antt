-- How many nodes a node of each form has over its parts, and that they are counted.
use Rattle.std.proofs.Common.{◌≡◌, ℕ, suc, ◌+◌, ◌<◌, ◌≤◌, arith, refl, List, length, ◌⊎◌, inl, inr}
use Rattle.std.specs.Prelude.{ℤ, min, slice_index}
use Rattle.fz_frac.specs.declared.sens.Sens.{Sens}
use Rattle.fz_ast.specs.Parts.{Parts}
use Rattle.fz_ast.specs.TermNodes.{IsKnown, term_at}
use Rattle.fz_ast.specs.Terms.{Term}
use Rattle.fz_ast.specs.declared.name.Name.{Name}
use Rattle.fz_ast.specs.declared.name.Text.{Text as KeptText}
use Rattle.fz_ast.specs.declared.span.Span.{Span}
use Rattle.fz_ast.specs.declared.term.Arrow.{Arrow}
use Rattle.fz_ast.specs.declared.term.Arrow.TheVariants.{Fun, Fn}
use Rattle.fz_ast.specs.declared.term.Binary.{Binary}
use Rattle.fz_ast.specs.declared.term.Binary.TheVariants.{Pair, With, App, Plus, Minus, AtMost, Equal, Union, Map, Filter, Split}
use Rattle.fz_ast.specs.declared.term.Form.{Form}
use Rattle.fz_ast.specs.declared.term.Form.TheVariants.{Var, Num, Text, Unit as One, Unary as Op, Binary as Op2, Times, Ranged as Bounded}
use Rattle.fz_ast.specs.declared.term.Form.TheVariants.{Inject, Bang, Let, LetBang, LetPair, If, Case, Lambda}
use Rattle.fz_ast.specs.declared.term.Ranged.{Ranged}
use Rattle.fz_ast.specs.declared.term.Ranged.TheVariants.{Sum, Clip}
use Rattle.fz_ast.specs.declared.term.Side.{Side}
use Rattle.fz_ast.specs.declared.term.Side.TheVariants.{Inl, Inr}
use Rattle.fz_ast.specs.declared.term.Unary.{Unary}
use Rattle.fz_ast.specs.declared.term.Unary.TheVariants.{Fst, Snd, Least, Greatest, Size}
use Rattle.derivation_rows.specs.Nodes.{nodes_of}
use Rattle.fz_derive.specs.Walked.{AreSizes, form_places, most_counted, node_term, three_places, two_places}

-- a form of no part, of one, of two, of three
abbrev pub OfNone : Form → Type 0
OfNone form = ((x : Name) × (form ≡ Var x)) ⊎ (((z : ℤ) × (form ≡ Num z)) ⊎ (((t : KeptText) × (form ≡ Text t)) ⊎ (form ≡ One)))

abbrev pub OfOne : Form → ℕ → Type 0
OfOne form e =
    ((o : Unary) × (form ≡ Op o e)) ⊎ (((k : ℤ) × (form ≡ Times k e)) ⊎ (((o : Ranged) × (lo : ℤ) × (hi : ℤ) × (form ≡ Bounded o lo hi e)) ⊎ (((o : Side) × (u : Span) × (t : ℕ) × (form ≡ Inject o u t e)) ⊎ (((r : Sens) × (form ≡ Bang r e)) ⊎ ((o : Arrow) × (x : Name) × (u : Span) × (t : ℕ) × (form ≡ Lambda o x u t e))))))

abbrev pub OfTwo : Form → ℕ → ℕ → Type 0
OfTwo form a b = ((o : Binary) × (form ≡ Op2 o a b)) ⊎ (((x : Name) × (form ≡ Let x a b)) ⊎ (((x : Name) × (form ≡ LetBang x a b)) ⊎ ((x : Name) × (y : Name) × (form ≡ LetPair x y a b))))

abbrev pub OfThree : Form → ℕ → ℕ → ℕ → Type 0
OfThree form e a b = (form ≡ If e a b) ⊎ ((x : Name) × (y : Name) × (form ≡ Case e x a y b))

-- its parts are known where the form's are
pub one_below : (m n : ℕ) (form : Form) (e : ℕ) → OfOne form e → IsKnown m n form → e < n
one_below m n form e (inl h) k = rw h.1 at k
one_below m n form e (inr (inl h)) k = rw h.1 at k
one_below m n form e (inr (inr (inl h))) k = rw h.3 at k
one_below m n form e (inr (inr (inr (inl h)))) k = let l = rw h.3 at k in l.1
one_below m n form e (inr (inr (inr (inr (inl h))))) k = rw h.1 at k
one_below m n form e (inr (inr (inr (inr (inr h))))) k = let l = rw h.4 at k in l.1

pub two_below : (m n : ℕ) (form : Form) (a b : ℕ) → OfTwo form a b → IsKnown m n form → (a < n) × (b < n)
two_below m n form a b (inl h) k = rw h.1 at k
two_below m n form a b (inr (inl h)) k = rw h.1 at k
two_below m n form a b (inr (inr (inl h))) k = rw h.1 at k
two_below m n form a b (inr (inr (inr h))) k = rw h.2 at k

pub three_below : (m n : ℕ) (form : Form) (e a b : ℕ) → OfThree form e a b → IsKnown m n form → (e < n) × (a < n) × (b < n)
three_below m n form e a b (inl h) k = rw h at k
three_below m n form e a b (inr h) k = rw h.2 at k

module _ (N : Parts) (s : Span) where
  unary_nodes : (o : Unary) (e : ℕ) → nodes_of (node_term N s (Op o e)) ≡ suc (nodes_of (term_at N.terms e))
  unary_nodes Fst e = refl
  unary_nodes Snd e = refl
  unary_nodes Least e = refl
  unary_nodes Greatest e = refl
  unary_nodes Size e = refl

  binary_nodes : (o : Binary) (a b : ℕ) → nodes_of (node_term N s (Op2 o a b)) ≡ suc (nodes_of (term_at N.terms a) + nodes_of (term_at N.terms b))
  binary_nodes Pair a b = refl
  binary_nodes With a b = refl
  binary_nodes App a b = refl
  binary_nodes Plus a b = refl
  binary_nodes Minus a b = refl
  binary_nodes AtMost a b = refl
  binary_nodes Equal a b = refl
  binary_nodes Union a b = refl
  binary_nodes Map a b = refl
  binary_nodes Filter a b = refl
  binary_nodes Split a b = refl

  ranged_nodes : (o : Ranged) (lo hi : ℤ) (e : ℕ) → nodes_of (node_term N s (Bounded o lo hi e)) ≡ suc (nodes_of (term_at N.terms e))
  ranged_nodes Sum lo hi e = refl
  ranged_nodes Clip lo hi e = refl

  inject_nodes : (o : Side) (u : Span) (t e : ℕ) → nodes_of (node_term N s (Inject o u t e)) ≡ suc (nodes_of (term_at N.terms e))
  inject_nodes Inl u t e = refl
  inject_nodes Inr u t e = refl

  lambda_nodes : (o : Arrow) (x : Name) (u : Span) (t e : ℕ) → nodes_of (node_term N s (Lambda o x u t e)) ≡ suc (nodes_of (term_at N.terms e))
  lambda_nodes Fun x u t e = refl
  lambda_nodes Fn x u t e = refl

  none_nodes : (form : Form) → OfNone form → nodes_of (node_term N s form) ≡ 1
  none_nodes form (inl h) = rw h.1 refl
  none_nodes form (inr (inl h)) = rw h.1 refl
  none_nodes form (inr (inr (inl h))) = rw h.1 refl
  none_nodes form (inr (inr (inr h))) = rw h refl

  one_nodes : (form : Form) (e : ℕ) → OfOne form e → nodes_of (node_term N s form) ≡ suc (nodes_of (term_at N.terms e))
  one_nodes form e (inl h) = rw h.1 (unary_nodes h.0 e)
  one_nodes form e (inr (inl h)) = rw h.1 refl
  one_nodes form e (inr (inr (inl h))) = rw h.3 (ranged_nodes h.0 h.1 h.2 e)
  one_nodes form e (inr (inr (inr (inl h)))) = rw h.3 (inject_nodes h.0 h.1 h.2 e)
  one_nodes form e (inr (inr (inr (inr (inl h))))) = rw h.1 refl
  one_nodes form e (inr (inr (inr (inr (inr h))))) = rw h.4 (lambda_nodes h.0 h.1 h.2 h.3 e)

  two_nodes : (form : Form) (a b : ℕ) → OfTwo form a b → nodes_of (node_term N s form) ≡ suc (nodes_of (term_at N.terms a) + nodes_of (term_at N.terms b))
  two_nodes form a b (inl h) = rw h.1 (binary_nodes h.0 a b)
  two_nodes form a b (inr (inl h)) = rw h.1 refl
  two_nodes form a b (inr (inr (inl h))) = rw h.1 refl
  two_nodes form a b (inr (inr (inr h))) = rw h.2 refl

  three_nodes : (form : Form) (e a b : ℕ) → OfThree form e a b → nodes_of (node_term N s form) ≡ suc (nodes_of (term_at N.terms e) + (nodes_of (term_at N.terms a) + nodes_of (term_at N.terms b)))
  three_nodes form e a b (inl h) = rw h refl
  three_nodes form e a b (inr h) = rw h.2 refl

-- what is counted of one part and the node is what is counted of both, and so on
counted_one : (most x y n t : ℕ) → y ≡ min x most → t ≡ suc x → n ≡ min (suc y) most → n ≡ min t most
counted_one most x y n t e f h = omega (arith, e, f, h)

counted_two : (most x y v w n t : ℕ) → y ≡ min x most → w ≡ min v most → t ≡ suc (x + v) → n ≡ min (suc (y + w)) most → n ≡ min t most
counted_two most x y v w n t e g f h = omega (arith, e, g, f, h)

counted_three : (most x y v w i j n t : ℕ) → y ≡ min x most → w ≡ min v most → j ≡ min i most → t ≡ suc (x + (v + i)) → n ≡ min (suc (y + (w + j))) most → n ≡ min t most
counted_three most x y v w i j n t e g k f h = omega (arith, e, g, k, f, h)

pub none_counted : (N : Parts) (s : Span) (form : Form) → OfNone form → 1 ≡ min (nodes_of (node_term N s form)) most_counted
none_counted N s form of = let e = none_nodes N s form of in rw e refl

module _ (N : Parts) (s : Span) (sizes : List ℕ) (are : AreSizes N.terms sizes) (form : Form) (n : ℕ) where
  pub one_counted : (e : ℕ) → OfOne form e → e < length sizes → n ≡ min (suc (slice_index sizes e)) most_counted → n ≡ min (nodes_of (node_term N s form)) most_counted
  one_counted e of l h = counted_one most_counted (nodes_of (term_at N.terms e)) (slice_index sizes e) n (nodes_of (node_term N s form)) (are.each e l) (one_nodes N s form e of) h

  pub two_counted : (a b : ℕ) → OfTwo form a b → (a < length sizes) × (b < length sizes) → n ≡ min (suc (slice_index sizes a + slice_index sizes b)) most_counted
      → n ≡ min (nodes_of (node_term N s form)) most_counted
  two_counted a b of l h = counted_two most_counted (nodes_of (term_at N.terms a)) (slice_index sizes a) (nodes_of (term_at N.terms b)) (slice_index sizes b) n (nodes_of (node_term N s form))
      (are.each a l.0) (are.each b l.1) (two_nodes N s form a b of) h

  pub three_counted : (e a b : ℕ) → OfThree form e a b → (e < length sizes) × (a < length sizes) × (b < length sizes)
      → n ≡ min (suc (slice_index sizes e + (slice_index sizes a + slice_index sizes b))) most_counted → n ≡ min (nodes_of (node_term N s form)) most_counted
  three_counted e a b of l h = counted_three most_counted (nodes_of (term_at N.terms e)) (slice_index sizes e) (nodes_of (term_at N.terms a)) (slice_index sizes a) (nodes_of (term_at N.terms b)) (slice_index sizes b) n (nodes_of (node_term N s form))
      (are.each e l.0) (are.each a l.1) (are.each b l.2) (three_nodes N s form e a b of) h

-- the same, where the last part isn't named
abbrev pub OfFirst : Form → ℕ → Type 0
OfFirst form a =
    ((o : Binary) × (b : ℕ) × (form ≡ Op2 o a b)) ⊎ (((x : Name) × (b : ℕ) × (form ≡ Let x a b)) ⊎ (((x : Name) × (b : ℕ) × (form ≡ LetBang x a b)) ⊎ ((x : Name) × (y : Name) × (b : ℕ) × (form ≡ LetPair x y a b))))

abbrev pub OfFirstTwo : Form → ℕ → ℕ → Type 0
OfFirstTwo form e a = ((b : ℕ) × (form ≡ If e a b)) ⊎ ((x : Name) × (y : Name) × (b : ℕ) × (form ≡ Case e x a y b))

with_second : (form : Form) (a : ℕ) → OfFirst form a → (b : ℕ) × OfTwo form a b
with_second form a (inl h) = (h.1, inl (h.0, h.2))
with_second form a (inr (inl h)) = (h.1, inr (inl (h.0, h.2)))
with_second form a (inr (inr (inl h))) = (h.1, inr (inr (inl (h.0, h.2))))
with_second form a (inr (inr (inr h))) = (h.2, inr (inr (inr (h.0, h.1, h.3))))

with_third : (form : Form) (e a : ℕ) → OfFirstTwo form e a → (b : ℕ) × OfThree form e a b
with_third form e a (inl h) = (h.0, inl h.1)
with_third form e a (inr h) = (h.2, inr (h.0, h.1, h.3))

pub first_places : (part : ℕ → Term) (form : Form) (a k : ℕ) → OfFirst form a → two_places k (part a) ≡ form_places part form k
first_places part form a k (inl h) = rw h.2 refl
first_places part form a k (inr (inl h)) = rw h.2 refl
first_places part form a k (inr (inr (inl h))) = rw h.2 refl
first_places part form a k (inr (inr (inr h))) = rw h.3 refl

pub first_two_places : (part : ℕ → Term) (form : Form) (e a k : ℕ) → OfFirstTwo form e a → three_places k (part e) (part a) ≡ form_places part form k
first_two_places part form e a k (inl h) = rw h.1 refl
first_two_places part form e a k (inr h) = rw h.3 refl

pub first_below : (m n : ℕ) (form : Form) (a : ℕ) → OfFirst form a → IsKnown m n form → a < n
first_below m n form a of k = let w = with_second form a of in (two_below m n form a w.0 w.1 k).0

pub first_two_below : (m n : ℕ) (form : Form) (e a : ℕ) → OfFirstTwo form e a → IsKnown m n form → (e < n) × (a < n)
first_two_below m n form e a of k = let w = with_third form e a of in let l = three_below m n form e a w.0 w.1 k in (l.0, l.1)

module _ (N : Parts) (s : Span) (form : Form) (k n : ℕ) (fits : k + nodes_of (node_term N s form) ≤ n) where
  pub first_fits : (a : ℕ) → OfFirst form a → k + 1 + nodes_of (term_at N.terms a) ≤ n
  first_fits a of = let w = with_second form a of in let e = two_nodes N s form a w.0 w.1 in omega (arith, e, fits)

  pub first_two_fit : (e a : ℕ) → OfFirstTwo form e a → k + 1 + nodes_of (term_at N.terms e) + nodes_of (term_at N.terms a) ≤ n
  first_two_fit e a of = let w = with_third form e a of in let q = three_nodes N s form e a w.0 w.1 in omega (arith, q, fits)
