-- What rows answer, at worked examples: each fault and each wanted form has its own name, and at other data it is another fault.
use Rattle.std.proofs.Common.{arith, ap, refl, sym, ◌∙◌}
use Rattle.std.specs.Prelude.{List, None, Some, [], ◌∷◌, ◌≡◌}
use Rattle.fz_frac.specs.Distance.{Fin, Inf}
use Rattle.fz_frac.specs.Lowest.{is_out}
use Rattle.fz_frac.specs.Sens.{distance_of}
use Rattle.fz_frac.specs.declared.sens.Sens.{Sens}
use Rattle.fz_frac.specs.declared.sens.Sens.TheVariants.{Inf as Endless}
use Rattle.fz_ast.specs.Names.{name_of}
use Rattle.fz_ast.specs.TypeNodes.{type_at}
use Rattle.fz_ast.specs.Types.{ArrowT, BagT, BangT, NumT, TextT, Ty, UnitT, UnlimitedT}
use Rattle.fz_ast.specs.declared.name.Name.{Name}
use Rattle.fz_ast.specs.declared.span.Span.{Span}
use Rattle.linear_types.specs.Inferred as rules
use Rattle.linear_types.specs.Inferred.{Has, Untyped}
use Rattle.linear_types.specs.declared.places.EnvFault.TheVariants.{Range as OutOfRange, NoMemory as Wanting}
use Rattle.typing_rows.specs.Parts.{AreParts, IsTyped, taken_and_given}
use Rattle.typing_rows.specs.Says.{IsCauseAt, IsFaultOf, IsRowFault, IsWanted, fault_at}
use Rattle.typing_rows.specs.declared.clause.RowFault.TheVariants.{Unbound, Mismatch, NotGround, NotFlat, TooSensitive, Range, NoMemory}
use Rattle.typing_rows.specs.declared.clause.Wanted.TheVariants.{Exactly, WithPair, Tensor, Sum, Arrow, Bang, Bag, UnlimitedArrow, NumberOrText}

-- the types of these examples, by number
abbrev types : List Ty
types = NumT ∷ TextT ∷ BagT NumT ∷ []

abbrev here : Span
here = record { from = 3; to = 5 }

abbrev there : Span
there = record { from = 3; to = 6 }

elsewhere : here ≡ there → ⊥
elsewhere e = let k : 5 ≡ 6 = ap (λ (s : Span). s.to) e in absurd (omega (arith, k))

-- each wanted form has its own name, and an exact type is said by its number
wanted_forms :
    IsWanted types WithPair rules.AWithPair × IsWanted types Tensor rules.ATensor × IsWanted types Sum rules.ASum × IsWanted types Arrow rules.AnArrow
    × IsWanted types Bang rules.ABang × IsWanted types Bag rules.ABag × IsWanted types UnlimitedArrow rules.AnUnlimitedArrow
    × IsWanted types NumberOrText rules.ANumberOrText
wanted_forms = (refl, refl, refl, refl, refl, refl, refl, refl)

wanted_types : IsWanted types (Exactly 2) (rules.Exactly (BagT NumT)) × (IsWanted types (Exactly 2) (rules.Exactly NumT) → ⊥) × (IsWanted types (Exactly 3) (rules.Exactly NumT) → ⊥)
unfolding type_at
wanted_types = ((omega arith, refl), (λ w. cc w.1), (λ w. absurd (omega (arith, w.0))))

-- each fault has its own name, and its span
faults :
    IsRowFault types (Unbound here) (rules.Unbound here) × IsRowFault types (NotGround here) (rules.NotGround here)
    × IsRowFault types (NotFlat here) (rules.NotFlat here) × IsRowFault types (Range here) (rules.Range here)
faults = (refl, refl, refl, refl)

other_spans : (IsRowFault types (Unbound here) (rules.Unbound there) → ⊥) × (IsRowFault types (NotFlat here) (rules.NotFlat there) → ⊥)
other_spans = ((λ e. elsewhere (cc e)), (λ e. elsewhere (cc e)))

-- a mismatch is said with the type that was found and what was wanted, at its span
mismatches :
    IsRowFault types (Mismatch here 1 (Exactly 0)) (rules.Mismatch here TextT (rules.Exactly NumT))
    × (IsRowFault types (Mismatch here 1 (Exactly 0)) (rules.Mismatch there TextT (rules.Exactly NumT)) → ⊥)
    × (IsRowFault types (Mismatch here 1 (Exactly 0)) (rules.Mismatch here NumT (rules.Exactly NumT)) → ⊥)
    × (IsRowFault types (Mismatch here 1 Bag) (rules.Mismatch here TextT rules.ABang) → ⊥)
unfolding type_at
mismatches = ((rules.Exactly NumT, omega arith, (omega arith, refl), refl), (λ f. elsewhere (cc f.3)), (λ f. cc f.3), (λ f. cc (f.2, f.3)))

-- a sensitivity in a fault is that of the rules, in lowest terms
too_sensitive_at_inf : (x : Name) → IsRowFault types (TooSensitive here x Endless) (rules.TooSensitive here (name_of x) Inf)
too_sensitive_at_inf x = (Inf, refl, refl)

too_sensitive_elsewhere : (x : Name) (r : Sens) → IsRowFault types (TooSensitive here x r) (rules.TooSensitive there (name_of x) (distance_of r)) → ⊥
too_sensitive_elsewhere x r f = elsewhere (cc f.2)

-- a fault isn't said of a term that has a type, and memory may always be wanting
no_fault : (IsFaultOf types (Unbound here) (Has NumT []) → ⊥) × IsFaultOf types (Unbound here) (Untyped (rules.Unbound here)) × IsFaultOf types NoMemory (Has NumT [])
no_fault = ((λ f. f), refl, tt)

-- range is told at the term, where some of its sensitivities are out of range
ranges : (fault_at here OutOfRange ≡ Range here) × (fault_at here Wanting ≡ NoMemory) × (IsCauseAt here (Inf ∷ []) (Range here) → ⊥) × (IsCauseAt here [] (Unbound here) → ⊥)
unfolding is_out
ranges = (refl, refl, (λ f. cc f.1), (λ f. f))

numbers_of_types : IsTyped types 2 (BagT NumT) × (IsTyped types 1 NumT → ⊥) × (IsTyped types 3 NumT → ⊥)
unfolding type_at
numbers_of_types = ((omega arith, refl), (λ t. cc t.1), (λ t. absurd (omega (arith, t.0))))

-- an unlimited function is a linear one from a bang at inf: what it takes is inside the bang
unlimited_functions :
    (taken_and_given (UnlimitedT NumT TextT) ≡ Some (NumT, TextT)) × (taken_and_given (ArrowT (BangT Inf NumT) TextT) ≡ Some (NumT, TextT))
    × (taken_and_given (ArrowT (BangT (Fin 2 1) NumT) TextT) ≡ None) × (taken_and_given (ArrowT NumT TextT) ≡ None) × (taken_and_given (BangT Inf NumT) ≡ None)
unlimited_functions = (refl, refl, refl, refl, refl)

parts_by_number : AreParts types (Some (0, 1)) (UnlimitedT NumT TextT) × (AreParts types (Some (1, 0)) (UnlimitedT NumT TextT) → ⊥) × AreParts types None UnitT
unfolding type_at
parts_by_number = ((omega arith, omega arith, refl), (λ p. cc p.2), refl)
