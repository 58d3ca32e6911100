-- What is given for sensitivities is given for those that are equal as numbers.
use Rattle.std.proofs.Common.{◌≡◌, refl, sym, false, List, [], ◌∷◌, ◌∙◌}
use Rattle.fz_frac.specs.Distance.{Distance, Fin, Inf, mul}
use Rattle.fz_frac.specs.Lowest.{is_out}
use Rattle.fz_frac.specs.declared.sens.Sens.{Sens}
use Rattle.fz_frac.proofs.Lowest.{endless_fits, inf_fits}
use Rattle.fz_ast.specs.declared.span.Span.{Span}
use Rattle.linear_types.specs.Sensitivities.{Sensitivities, scale}
use Rattle.linear_types.specs.Inferred.{any_out}
use Rattle.linear_types.specs.Places.{AreAlike, IsGiven, IsCause}
use Rattle.linear_types.specs.declared.places.EnvFault.{EnvFault}
use Rattle.linear_types.specs.declared.places.EnvFault.TheVariants.{Range as OutOfRange, NoMemory as Wanting}
use Rattle.linear_types.proofs.Alike.{alike_trans, any_out_alike}
use Rattle.typing_rows.specs.Says.{IsCauseAt, fault_at}
use Rattle.typing_rows.specs.declared.clause.RowFault.{RowFault}

pub given_alike : (v : List Sens) (D E : Sensitivities) → AreAlike D E → IsGiven v D → IsGiven v E
given_alike v D E h g = record { in_range = sym (any_out_alike h) ∙ g.in_range; alike = alike_trans g.alike h }

pub refused_alike : (s : Span) (f : EnvFault) (r : RowFault) (D E : Sensitivities) → r ≡ fault_at s f → AreAlike D E → IsCause f D → IsCauseAt s E r
refused_alike s OutOfRange r D E e h k = rw e (refl, sym (any_out_alike h) ∙ k)
refused_alike s Wanting r D E e h k = rw e tt

mul_endless : (d : Distance) → is_out (mul Inf d) ≡ false
mul_endless Inf = inf_fits
mul_endless (Fin p q) = endless_fits p

-- inf times anything is in range
pub endless_in_range : (D : Sensitivities) → any_out (scale Inf D) ≡ false
endless_in_range [] = refl
endless_in_range (d ∷ D) = let e = mul_endless d in let f = endless_in_range D in rw (e, f) refl
