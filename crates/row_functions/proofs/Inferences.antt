-- A term is inferred to be a function of rows exactly where it is one.
use Rattle.std.proofs.Common.{refl}
use Rattle.std.specs.Prelude.{Bool, false, true, ◌≡◌}
use Rattle.fz_ast.proofs.SameTypes.{same_type_is, same_type_refl}
use Rattle.fz_ast.specs.Terms.{Term, span_of}
use Rattle.fz_ast.specs.Types.{TextT, Ty, UnlimitedT, same_type}
use Rattle.fz_ast.specs.declared.span.Span.{Span}
use Rattle.linear_types.specs.Inferred.{Exactly, Has, Inferred, Mismatch, Untyped, need, one_part}
use Rattle.linear_types.specs.Rule.{exactly, rule}
use Rattle.linear_types.specs.Sensitivities.{Sensitivities}
use Rattle.linear_types.specs.Typing.{Closed}
use Rattle.row_functions.specs.Laws.{FunctionsAreInferred}

module _ (s : Span) (W : Ty) where
  -- a term of another type has none
  only : (v : Inferred) (A : Ty) (D : Sensitivities) → one_part v (λ B E. exactly s B W (Has B E)) ≡ Has A D → (A ≡ W) × (v ≡ Has A D)
  only (Untyped f) A D h = absurd (cc h)
  only (Has B E) A D h = go (same_type B W) refl h
    where
      go : (b : Bool) → same_type B W ≡ b → need b (Mismatch s B (Exactly W)) (Has B E) ≡ Has A D → (A ≡ W) × (Has B E ≡ Has A D)
      go true e k = let i : B ≡ W = same_type_is B W e in (cc (i, k), k)
      go false e k = absurd (cc k)

pub inferred : FunctionsAreInferred
inferred row t A D = (only (span_of t) (UnlimitedT row TextT) (rule Closed t) A D, λ h. rw (h.1, h.0, same_type_refl (UnlimitedT row TextT)) refl)
