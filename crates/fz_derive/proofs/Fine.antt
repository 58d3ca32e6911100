-- Whether a line has what its node's rule wants.
use Rattle.std.proofs.Common.{◌≡◌, refl, sym, ap, ◌∙◌, Bool, true, false, List}
use Rattle.std.specs.Prelude.{Option, Some, None, ◌&&◌}
use Rattle.fz_frac.specs.Distance.{Distance}
use Rattle.fz_ast.proofs.SameTypes.{same_type_is, same_type_refl}
use Rattle.fz_ast.specs.Terms.{Name}
use Rattle.fz_ast.specs.Types.{Ty, same_type}
use Rattle.term_meanings.specs.Scopes.{Context, Closed, Under}
use Rattle.derivation_rows.specs.Faults.{are_in_scope, is_fine, suffices, suffices_at}
use Rattle.derivation_lines.specs.Lines.{Line, amount_in}
use Rattle.derivation_rows.specs.Numbers.{Amounts, Numbers}
use Rattle.derivation_rows.specs.Placed.{AreOne, number_of}
use Rattle.derivation_rows.specs.Rows.{Row}
use Rattle.derivation_rows.specs.Ruled.{IsRow, IsRuled}
use Rattle.derivation_rows.specs.Shapes.{shape_type}
use Rattle.derivation_rows.specs.declared.row.Row.{Row as Ruled}
use Rattle.derivation_rows.proofs.Scopes.{is_le_alike}

pub same_type_turned : (A B : Ty) → same_type A B ≡ same_type B A
same_type_turned A B = go (same_type A B) refl (same_type B A) refl
  where
    go : (s : Bool) → same_type A B ≡ s → (t : Bool) → same_type B A ≡ t → s ≡ t
    go true d true e = refl
    go false d false e = refl
    go true d false e = let i = same_type_is A B d in let j : same_type B B ≡ false = rw i at e in let l = same_type_refl B in cc
    go false d true e = let i = same_type_is B A e in let j : same_type A A ≡ false = rw i at d in let l = same_type_refl A in cc

suffices_one : (o u : Option Distance) (d : Distance) → AreOne o u → suffices o d ≡ suffices u d
suffices_one (Some a) (Some b) d h = is_le_alike d h
suffices_one None None d h = refl
suffices_one (Some a) None d h = absurd h
suffices_one None (Some b) d h = absurd h

-- numbers that are one suffice alike
suffices_alike : (Γ : Context) (m n : Numbers) (D : Amounts) → ((x : Name) → AreOne (m x) (n x)) → suffices_at Γ m D ≡ suffices_at Γ n D
suffices_alike Closed m n D h = refl
suffices_alike (Under x A Γ) m n D h = rw (suffices_one (m x) (n x) (D x) (h x), suffices_alike Γ m n D h) refl

module _ (T : List Ty) (L : List Line) (Γ : Context) (r : Ruled) (w : Row) (l : Line) (h : IsRuled T L r w) where
  typed : same_type l.ty (shape_type T r.shape) ≡ same_type w.ty l.ty
  typed = same_type_turned l.ty (shape_type T r.shape) ∙ ap (λ A. same_type A l.ty) h.ty

  enough : suffices_at Γ (number_of L r.numbers) (amount_in l.says) ≡ suffices_at Γ w.number (amount_in l.says)
  enough = suffices_alike Γ (number_of L r.numbers) w.number (amount_in l.says) h.numbers

  pub not_typed : false ≡ same_type l.ty (shape_type T r.shape) → false ≡ is_fine Γ (Some w) l
  not_typed e = rw (sym (e ∙ typed)) refl

  pub not_named : true ≡ same_type l.ty (shape_type T r.shape) → false ≡ are_in_scope Γ l.says → false ≡ is_fine Γ (Some w) l
  not_named e f = let t : same_type w.ty l.ty ≡ true = sym (e ∙ typed) in rw (t, ← f) (last (suffices_at Γ w.number (amount_in l.says)))
    where
      last : (b : Bool) → false ≡ b && false
      last true = refl
      last false = refl

  pub named : (b : Bool) → true ≡ same_type l.ty (shape_type T r.shape) → true ≡ are_in_scope Γ l.says → b ≡ suffices_at Γ (number_of L r.numbers) (amount_in l.says) → b ≡ is_fine Γ (Some w) l
  named b e f g = let t : same_type w.ty l.ty ≡ true = sym (e ∙ typed) in rw (t, ← f) (g ∙ enough ∙ last (suffices_at Γ w.number (amount_in l.says)))
    where
      last : (b : Bool) → b ≡ b && true
      last true = refl
      last false = refl

-- the row that the code found is the rule's
pub row_has : (T : List Ty) (L : List Line) (Γ : Context) (l : Line) (r : Ruled) (o : Option Row) (b : Bool) → IsRow T L (Some r) o → ((w : Row) → IsRuled T L r w → b ≡ is_fine Γ (Some w) l) → b ≡ is_fine Γ o l
row_has T L Γ l r (Some w) b h f = f w h
row_has T L Γ l r None b h f = absurd h
