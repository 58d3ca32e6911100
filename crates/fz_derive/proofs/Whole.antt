-- What a derivation of a whole program promises, by the greatest of what its first line says.
use Rattle.std.proofs.Common.{refl, subst, sym}
use Rattle.std.specs.Prelude.{Bool, List, [], bytes_eq, cond, false, true, ℤ, ◌&&◌, ◌∷◌, ◌≡◌}
use Rattle.fz_frac.proofs.Laws.{greater-least, greater-left, greater-right, none-least, ⊑-refl, ◌⊗◌, ◌⨾◌}
use Rattle.fz_frac.specs.Distance.{Distance, Fin, greater, mul, none, ◌⊑◌}
use Rattle.fz_ast.proofs.SameTypes.{both_true, same_type_is}
use Rattle.fz_ast.specs.Limits.{IsNumber, TermLimits}
use Rattle.fz_ast.specs.Signature.{IsSignature, Signature}
use Rattle.fz_ast.specs.Terms.{Name, Term}
use Rattle.fz_ast.specs.Types.{NumT, same_type}
use Rattle.metric_values.specs.Distances.{gap}
use Rattle.metric_values.specs.Tables.{Dataset, IsDataset, apart, rows_of}
use Rattle.metric_values.specs.Values.{NumV}
use Rattle.term_meanings.specs.Means.{Means}
use Rattle.term_meanings.specs.Scopes.{Closed, Context, Under}
use Rattle.fz_derive.proofs.ByNames.{by_names}
use Rattle.fz_derive.proofs.Programs.{bounded, greatest_in, has_value}
use Rattle.fz_derive.specs.ByPlace.{Derivable, by_place}
use Rattle.fz_derive.specs.Derivable.{Derives, IsDerivable}
use Rattle.fz_derive.specs.Judged.{are_finite, greatest_said, is_bounded, names_of}
use Rattle.derivation_lines.specs.Lines.{Line, Said, amount_in, line_at}
use Rattle.derivation_rows.specs.Numbers.{Amounts, says_at, without}

pub said_at_most : (ss : List Said) (x : Name) → amount_in ss x ⊑ greatest_said ss
said_at_most [] x = ⊑-refl none
said_at_most (s ∷ ss) x = go (bytes_eq s.name x) (said_at_most ss x)
  where
    go : (b : Bool) → amount_in ss x ⊑ greatest_said ss → cond b s.amount (amount_in ss x) ⊑ greater s.amount (greatest_said ss)
    go true h = greater-left s.amount (greatest_said ss)
    go false h = h ⨾ greater-right s.amount (greatest_said ss)

others_at_most : (x : Name) (D : Amounts) (d : Distance) → ((y : Name) → D y ⊑ d) → (y : Name) → without x D y ⊑ d
others_at_most x D d h y = go (bytes_eq x y)
  where
    go : (b : Bool) → cond b none (D y) ⊑ d
    go true = none-least d
    go false = h y

places_at_most : (Γ : Context) (D : Amounts) (d : Distance) → ((x : Name) → D x ⊑ d) → greatest_in (by_place Γ D) ⊑ d
places_at_most Closed D d h = none-least d
places_at_most (Under x A Γ) D d h = greater-least _ _ d (h x) (places_at_most Γ (without x D) d (others_at_most x D d h))

-- by places, over the tables
placed : (ts : Signature) (e : Term) (lines : List Line) → TermLimits e → (d : IsDerivable ts e lines) → Derivable (names_of ts) e NumT (by_place (names_of ts) (says_at d.own))
placed ts e lines t d =
    let p = by_names t (subst (λ L. Derives (names_of ts) e L) d.are d.derives) in
    let h = same_type_is d.own.ty NumT (both_true (same_type d.own.ty NumT) (are_finite d.own.says) d.bounded).0 in
    subst (λ T. Derivable (names_of ts) e T (by_place (names_of ts) (says_at d.own))) h p

pub derivable_value : (ts : Signature) (e : Term) (lines : List Line) → IsSignature ts → TermLimits e → IsDerivable ts e lines → (X : Dataset) → IsDataset ts X → (z : ℤ) × Means (rows_of ts X) e (NumV z) × IsNumber z
derivable_value ts e lines s t d X h = has_value ts e _ s (placed ts e lines t d) X h

pub first_line : (lines : List Line) (l : Line) (L : List Line) → lines ≡ l ∷ L → line_at lines 0 ≡ l
unfolding line_at
first_line lines l L h = rw h refl

pub derivable_bounded : (ts : Signature) (e : Term) (lines : List Line) → IsSignature ts → TermLimits e → IsDerivable ts e lines
    → (X Y : Dataset) → IsDataset ts X → IsDataset ts Y → (y z : ℤ) → Means (rows_of ts X) e (NumV y) → Means (rows_of ts Y) e (NumV z)
    → Fin (gap y z) 1 ⊑ mul (greatest_said (line_at lines 0).says) (Fin (apart X Y) 1)
derivable_bounded ts e lines s t d X Y h k y z m n =
    let D = says_at d.own in
    let b = bounded ts e (by_place (names_of ts) D) s (placed ts e lines t d) X Y h k y z m n in
    let c = places_at_most (names_of ts) D (greatest_said d.own.says) (λ x. said_at_most d.own.says x) in
    subst (λ (l : Line). Fin (gap y z) 1 ⊑ mul (greatest_said l.says) (Fin (apart X Y) 1)) (sym (first_line lines d.own d.below d.are)) (b ⨾ (c ⊗ ⊑-refl (Fin (apart X Y) 1)))
