-- Names in scope, numbers of written types, and what `check` answers, at worked examples.
use Rattle.std.proofs.Common.{ap, arith, refl}
use Rattle.std.specs.Prelude.{List, [], codes, ◌∷◌, ◌≡◌}
use Rattle.fz_frac.specs.Distance.{Inf}
use Rattle.fz_frac.specs.Sens.{distance_of}
use Rattle.fz_frac.specs.declared.sens.Sens.{Sens}
use Rattle.fz_frac.specs.declared.sens.Sens.TheVariants.{Inf as Endless}
use Rattle.fz_ast.specs.Names.{name_of}
use Rattle.fz_ast.specs.Signature.{Signature}
use Rattle.fz_ast.specs.TypeNodes.{type_at}
use Rattle.fz_ast.specs.Types.{BagT, NumT, TextT, Ty}
use Rattle.fz_ast.specs.declared.name.Name.{Name}
use Rattle.fz_ast.specs.declared.span.Span.{Span}
use Rattle.linear_types.specs.Inferred as rules
use Rattle.linear_types.specs.Typing.{Closed, Under}
use Rattle.typing_rows.specs.declared.clause.Wanted.TheVariants.{Bag, Sum}
use Rattle.sensitivity_check.specs.Answered.{IsCheckFault}
use Rattle.sensitivity_check.specs.Scope.{AllInScope, IsInnermost, IsUnbound, context_in}
use Rattle.sensitivity_check.specs.Written.{IsNumberOf}
use Rattle.sensitivity_check.specs.declared.fault.CheckFault.TheVariants.{Unbound, Mismatch, NotGround, NotFlat, TooSensitive, Range, Unbounded, NotNum}
use Rattle.sensitivity_check.specs.declared.scope.Bound.{Bound}

abbrev types : List Ty
types = NumT ∷ TextT ∷ BagT NumT ∷ []

-- x, then y, then x again, the first standing innermost
module _ (x y : Name) (is_x : name_of x ≡ codes "x") (is_y : name_of y ≡ codes "y") where
  abbrev scope : List Bound
  scope = record { name = x; ty = 1 } ∷ record { name = y; ty = 0 } ∷ record { name = x; ty = 2 } ∷ []

  -- an inner name hides an outer one that is spelled alike
  innermost :
      IsInnermost (codes "x") scope 0 × IsInnermost (codes "y") scope 1 × (IsInnermost (codes "x") scope 2 → ⊥) × (IsInnermost (codes "y") scope 0 → ⊥)
      × (IsInnermost (codes "x") scope 3 → ⊥)
  innermost = rw (is_x, is_y) (refl, (refl, refl), (λ h. cc h.0), (λ h. cc h), (λ h. cc h.0))

  unbound : IsUnbound (codes "z") scope × (IsUnbound (codes "y") scope → ⊥) × IsUnbound (codes "x") []
  unbound = rw (is_x, is_y) ((refl, (refl, (refl, tt))), (λ h. cc h.1.0), tt)

  contexts : context_in types scope ≡ Under (codes "x") TextT (Under (codes "y") NumT (Under (codes "x") (BagT NumT) Closed))
  unfolding type_at
  contexts = rw (is_x, is_y) refl

  in_scope : AllInScope types scope × (AllInScope (NumT ∷ TextT ∷ []) scope → ⊥)
  in_scope = ((omega arith, (omega arith, (omega arith, tt))), (λ h. absurd (omega (arith, h.1.1.0))))

numbers_of : IsNumberOf types 2 (BagT NumT) × (IsNumberOf types 1 NumT → ⊥) × (IsNumberOf types 3 NumT → ⊥)
unfolding type_at
numbers_of = (record { known = omega arith; is = refl }, (λ h. cc h.is), (λ h. absurd (omega (arith, h.known))))

abbrev here : Span
here = record { from = 3; to = 5 }

abbrev there : Span
there = record { from = 3; to = 6 }

elsewhere : here ≡ there → ⊥
elsewhere e = let k : 5 ≡ 6 = ap (λ (s : Span). s.to) e in absurd (omega (arith, k))

abbrev tables : Signature
tables = record { name = codes "people"; row = NumT } ∷ record { name = codes "towns"; row = TextT } ∷ []

-- each fault has its own name, and its span
faults :
    IsCheckFault tables (Unbound here) (rules.Unbound here) × IsCheckFault tables (NotGround here) (rules.NotGround here)
    × IsCheckFault tables (NotFlat here) (rules.NotFlat here) × IsCheckFault tables (Range here) (rules.Range here)
    × IsCheckFault tables (Mismatch here types 1 Bag) (rules.Mismatch here TextT rules.ABag) × IsCheckFault tables (NotNum types 2) (rules.NotNum (BagT NumT))
unfolding type_at
faults = (refl, refl, refl, refl, (rules.ABag, omega arith, refl, refl), (omega arith, refl))

-- a table is told by its number in the signature
tables_told :
    IsCheckFault tables (Unbounded 0) (rules.Unbounded (codes "people")) × IsCheckFault tables (Unbounded 1) (rules.Unbounded (codes "towns"))
    × (IsCheckFault tables (Unbounded 1) (rules.Unbounded (codes "people")) → ⊥) × (IsCheckFault tables (Unbounded 2) (rules.Unbounded (codes "people")) → ⊥)
tables_told = ((record { name = codes "people"; row = NumT }, refl, refl), (record { name = codes "towns"; row = TextT }, refl, refl), (λ f. cc (f.1, f.2)), (λ f. cc f.1))

other_faults :
    (IsCheckFault tables (Unbound here) (rules.Unbound there) → ⊥) × (IsCheckFault tables (NotGround here) (rules.NotFlat here) → ⊥)
    × (IsCheckFault tables (Mismatch here types 1 Bag) (rules.Mismatch here NumT rules.ABag) → ⊥)
    × (IsCheckFault tables (Mismatch here types 1 Sum) (rules.Mismatch here TextT rules.ABag) → ⊥) × (IsCheckFault tables (NotNum types 2) (rules.NotNum TextT) → ⊥)
unfolding type_at
other_faults = ((λ e. elsewhere (cc e)), (λ e. cc e), (λ f. cc f.3), (λ f. cc (f.2, f.3)), (λ f. cc f.1))

too_sensitive_at_inf : (x : Name) → IsCheckFault tables (TooSensitive here x Endless) (rules.TooSensitive here (name_of x) Inf)
too_sensitive_at_inf x = (Inf, refl, refl)

too_sensitive_elsewhere : (x : Name) (r : Sens) → IsCheckFault tables (TooSensitive here x r) (rules.TooSensitive there (name_of x) (distance_of r)) → ⊥
too_sensitive_elsewhere x r f = elsewhere (cc f.2)
