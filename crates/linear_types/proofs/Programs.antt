-- What an accepted program is.
use Rattle.std.proofs.Common.{ap, refl, sym, ◌∙◌}
use Rattle.std.specs.Prelude.{Bool, None, Option, Some, cond, false, true, ◌≡◌}
use Rattle.fz_frac.specs.Distance.{Distance}
use Rattle.fz_ast.specs.Signature.{Signature}
use Rattle.fz_ast.specs.Terms.{Name, Term}
use Rattle.fz_ast.specs.Types.{NumT, Ty, same_type}
use Rattle.fz_ast.proofs.SameTypes.{same_type_is}
use Rattle.linear_types.specs.Program.{Accepted, Faulty, context_of, first_unbounded, greatest_of, number_rule, program_rule, sensitivity_of}
use Rattle.linear_types.specs.Rule.{rule}
use Rattle.linear_types.specs.Sensitivities.{Sensitivities}
use Rattle.linear_types.specs.Inferred.{Has, NotNum, Untyped, Inferred}

numbered : (A : Ty) (D : Sensitivities) (o : Option Name) (E : Sensitivities) (r : Distance) → number_rule A D o ≡ Accepted E r → (A ≡ NumT) × (D ≡ E) × (greatest_of D ≡ r)
numbered A D (Some x) E r h = cc
numbered A D None E r h = go (same_type A NumT) refl h
  where
    go : (b : Bool) → same_type A NumT ≡ b → cond b (Accepted D (greatest_of D)) (Faulty (NotNum A)) ≡ Accepted E r → (A ≡ NumT) × (D ≡ E) × (greatest_of D ≡ r)
    go true e k = (same_type_is A NumT e, cc, cc)
    go false e k = cc

bounded_only : (A : Ty) (D : Sensitivities) (o : Option Name) (E : Sensitivities) (r : Distance) → number_rule A D o ≡ Accepted E r → o ≡ None
bounded_only A D (Some x) E r h = cc
bounded_only A D None E r h = refl

has_number : (ts : Signature) (v : Inferred) (D : Sensitivities) (r : Distance) → program_rule ts v ≡ Accepted D r → (v ≡ Has NumT D) × (r ≡ greatest_of D) × (first_unbounded ts D ≡ None)
has_number ts (Has A E) D r h =
    let k = numbered A E (first_unbounded ts E) D r h in
    (cc (k.0, k.1), cc (k.1, k.2), ap (λ E. first_unbounded ts E) (sym k.1) ∙ bounded_only A E (first_unbounded ts E) D r h)
has_number ts (Untyped f) D r h = cc

pub accepted : (ts : Signature) (t : Term) (D : Sensitivities) (r : Distance) → sensitivity_of ts t ≡ Accepted D r → (rule (context_of ts) t ≡ Has NumT D) × (r ≡ greatest_of D) × (first_unbounded ts D ≡ None)
accepted ts t D r h = has_number ts (rule (context_of ts) t) D r h
