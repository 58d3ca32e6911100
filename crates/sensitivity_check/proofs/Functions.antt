-- What is answered of a term that is wanted to be a function of rows.
use Rattle.std.proofs.Common.{◌≡◌, ℕ, ◌<◌, ap, refl, sym, ◌∙◌, false, true, List, length}
use Rattle.std.specs.Prelude.{Bool, Ok}
use Rattle.fz_ast.proofs.Arenas.{grows_at, grows_known}
use Rattle.fz_ast.specs.Arena.{Grows}
use Rattle.fz_ast.specs.TypeNodes.{type_at}
use Rattle.fz_ast.specs.Types.{TextT, Ty, UnlimitedT, same_type}
use Rattle.fz_ast.specs.Terms.{Term, span_of}
use Rattle.fz_ast.specs.declared.span.Span.{Span}
use Rattle.linear_types.specs.Inferred.{Has, Inferred, Untyped, one_part}
use Rattle.linear_types.specs.Inferred as rules
use Rattle.linear_types.specs.Places.{AreAlike, distances}
use Rattle.linear_types.specs.Rule.{exactly, rule}
use Rattle.linear_types.specs.Sensitivities.{Sensitivities}
use Rattle.linear_types.specs.Typing.{Closed}
use Rattle.row_functions.proofs.Inferences.{inferred}
use Rattle.row_functions.specs.RowFunctions.{IsRowFunction, function_rule}
use Rattle.typing_rows.specs.Says.{IsFaultOf, Says}
use Rattle.typing_rows.specs.declared.clause.Judged.{Judged}
use Rattle.typing_rows.specs.declared.clause.RowFault.TheVariants.{Mismatch}
use Rattle.typing_rows.specs.declared.clause.Wanted.TheVariants.{Exactly}
use Rattle.sensitivity_check.specs.Written.{IsNumberOf}

-- found by its number in T, and compared in U
module _ (T U : List Ty) (s : Span) (found : Judged) (W : Ty) (n : ℕ) (D : Sensitivities) (l : found.ty < length T) (g : Grows T U) (w : IsNumberOf U n W) where
  is_same : {b c : Bool} → b ≡ c → b ≡ same_type (type_at U found.ty) (type_at U n) → c ≡ same_type (type_at T found.ty) W
  is_same e h = sym e ∙ h ∙ (λ i. same_type (grows_at T U found.ty l g i) (w.is i))

  pub wanted_says : {b : Bool} → b ≡ true → b ≡ same_type (type_at U found.ty) (type_at U n) → AreAlike (distances found.amounts.items) D
      → Says U (Ok found) (exactly s (type_at T found.ty) W (Has (type_at T found.ty) D))
  wanted_says e h a = rw (← is_same e h) (record { known = grows_known T U found.ty l g; is = grows_at T U found.ty l g; alike = a })

  pub other_says : {b : Bool} → b ≡ false → b ≡ same_type (type_at U found.ty) (type_at U n)
      → IsFaultOf U (Mismatch s found.ty (Exactly n)) (exactly s (type_at T found.ty) W (Has (type_at T found.ty) D))
  other_says e h =
      rw (← is_same e h) (rules.Exactly W, grows_known T U found.ty l g, (w.known, ap rules.Exactly (sym w.is)), ap (λ A. rules.Mismatch s A (rules.Exactly W)) (sym (grows_at T U found.ty l g)))

pub is_function : (T : List Ty) (row : Ty) (t : Term) (o : Judged) → Says T (Ok o) (function_rule row t) → IsRowFunction row t
is_function T row t o h = go (function_rule row t) refl h
  where
    go : (v : Inferred) → function_rule row t ≡ v → Says T (Ok o) v → IsRowFunction row t
    go (Has A D) e k = let i = (inferred row t A D).0 e in (D, i.1 ∙ ap (λ B. Has B D) i.0)
    go (Untyped f) e k = absurd k
