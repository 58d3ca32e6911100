-- What a node that is fine tells of its parts' types, and that a leaf has nothing below.
use Rattle.std.proofs.Common.{◌≡◌, refl, sym, subst, Bool, true, false, List, Some, None, ◌⊎◌, inl, inr}
use Rattle.std.specs.Prelude.{IfOk, Option, Result, ℕ}
use Rattle.fz_ast.specs.Names.{name_of}
use Rattle.fz_ast.specs.Parts.{Parts}
use Rattle.fz_ast.specs.Terms.{Name}
use Rattle.fz_ast.specs.Types.{Ty, NumT, TextT, UnitT, TensorT, WithT, SumT, ArrowT, BangT, BagT}
use Rattle.fz_ast.specs.declared.memory.NoMemory.{NoMemory}
use Rattle.fz_ast.specs.declared.name.Name.{Name as KeptName}
use Rattle.fz_ast.specs.declared.term.Form.{Form}
use Rattle.fz_ast.specs.declared.term.Form.TheVariants.{LetBang, LetPair, Case}
use Rattle.term_meanings.specs.Scopes.{Context}
use Rattle.derivation_lines.specs.Lines.{Line, line_at}
use Rattle.derivation_rows.specs.Faults.{first_of, is_fine}
use Rattle.derivation_rows.specs.Rows.{Row, is_sum, is_tensor, let_bang_of, need}
use Rattle.derivation_rows.specs.Shapes.{is_bang}
use Rattle.derivation_rows.specs.declared.rows.Places.{Places}
use Rattle.fz_derive.proofs.NodeSizes.{OfNone}
use Rattle.fz_derive.proofs.Walked.{faults_below, row_here}

pub none_below : (L : List Line) (N : Parts) (Γ : Context) (p : Places) (form : Form) → OfNone form → None ≡ faults_below L N Γ p form
none_below L N Γ p form (inl h) = rw h.1 refl
none_below L N Γ p form (inr (inl h)) = rw h.1 refl
none_below L N Γ p form (inr (inr (inl h))) = rw h.1 refl
none_below L N Γ p form (inr (inr (inr h))) = rw h refl

pub needed : (Γ : Context) (b : Bool) (o : Option Row) (l : Line) → true ≡ is_fine Γ (need b o) l → b ≡ true
needed Γ true o l h = refl
needed Γ false o l h = sym h

pub bang_needed : (Γ : Context) (A : Ty) (x : Name) (a b l : Line) → true ≡ is_fine Γ (let_bang_of A x a b) l → is_bang A ≡ true
bang_needed Γ (BangT r A) x a b l h = refl
bang_needed Γ NumT x a b l h = sym h
bang_needed Γ TextT x a b l h = sym h
bang_needed Γ UnitT x a b l h = sym h
bang_needed Γ (TensorT A B) x a b l h = sym h
bang_needed Γ (WithT A B) x a b l h = sym h
bang_needed Γ (SumT A B) x a b l h = sym h
bang_needed Γ (ArrowT A B) x a b l h = sym h
bang_needed Γ (BagT A) x a b l h = sym h

-- the type of a part whose rule wants a bang, a pair or a sum
module _ (N : Parts) (L : List Line) (Γ : Context) (p : Places) (f : Form) where
  pub bang_form : (x : KeptName) (e b : ℕ) (l : Line) → f ≡ LetBang x e b → true ≡ is_fine Γ (row_here L N Γ p f) l → is_bang (line_at L p.first).ty ≡ true
  bang_form x e b l is h = bang_needed Γ (line_at L p.first).ty (name_of x) (line_at L p.first) (line_at L p.second) l (subst (λ g. true ≡ is_fine Γ (row_here L N Γ p g) l) is h)

  pub pair_form : (x y : KeptName) (e b : ℕ) (l : Line) → f ≡ LetPair x y e b → true ≡ is_fine Γ (row_here L N Γ p f) l → is_tensor (line_at L p.first).ty ≡ true
  pair_form x y e b l is h = needed Γ (is_tensor (line_at L p.first).ty) _ l (subst (λ g. true ≡ is_fine Γ (row_here L N Γ p g) l) is h)

  pub sum_form : (e : ℕ) (x : KeptName) (a : ℕ) (y : KeptName) (b : ℕ) (l : Line) → f ≡ Case e x a y b → true ≡ is_fine Γ (row_here L N Γ p f) l → is_sum (line_at L p.first).ty ≡ true
  sum_form e x a y b l is h = needed Γ (is_sum (line_at L p.first).ty) _ l (subst (λ g. true ≡ is_fine Γ (row_here L N Γ p g) l) is h)

-- the first fault, and that there is none before the next
pub found_first : (o p q : Option ℕ) (at : ℕ) → o ≡ p → o ≡ Some at → Some at ≡ first_of p q
found_first o p q at e h = rw (← e, h) refl

pub found_later : (r : Result (Option ℕ) NoMemory) (o p q : Option ℕ) → o ≡ p → o ≡ None → IfOk r (λ x. x ≡ q) → IfOk r (λ x. x ≡ first_of p q)
found_later r o p q e h k = rw (← e, h) k
