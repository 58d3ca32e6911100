-- Sensitivities by name, and tables at inf, at worked examples.
use Rattle.std.proofs.Common.{arith, refl}
use Rattle.std.specs.Prelude.{[], codes, suc, zero, ◌∷◌, ◌≡◌}
use Rattle.fz_ast.specs.Signature.{Signature}
use Rattle.fz_ast.specs.Types.{NumT, TextT}
use Rattle.fz_frac.specs.Distance.{Fin, Inf, none, one}
use Rattle.linear_types.proofs.ExampleTerms.{n, x, y}
use Rattle.linear_types.specs.Environment.{Amounts, IsAbsent, IsEnvironment, amount_of, greater_of, product_of, sum_of}
use Rattle.linear_types.specs.Laws.{FiniteBelow, IsFirstUnbounded, names_in, sensitivity_at}
use Rattle.linear_types.specs.Places.{AllAlike}
use Rattle.linear_types.specs.Typing.{Closed, Under}

-- x at 1/2, and y at inf
abbrev both : Amounts
both = record { name = x; r = Fin 1 2 } ∷ record { name = y; r = Inf } ∷ []

-- x at 1/3
abbrev third : Amounts
third = record { name = x; r = Fin 1 3 } ∷ []

by_names :
    (amount_of both x ≡ Fin 1 2)
    × (amount_of both y ≡ Inf)
    × (amount_of both n ≡ none)
    × (sum_of both third x ≡ Fin 5 6)
    × (sum_of third both y ≡ Inf)
    × (greater_of both third x ≡ Fin 1 2)
    × (greater_of third both x ≡ Fin 1 2)
    × (product_of (Fin 3 1) both x ≡ Fin 3 2)
    × (product_of Inf both n ≡ none)
by_names = (refl, refl, refl, refl, refl, refl, refl, refl, refl)

absent : IsAbsent n both × (IsAbsent y both → ⊥)
absent = ((refl, (refl, tt)), λ h. cc h.1.0)

-- names are distinct, and none is at 0
an_environment : IsEnvironment both
an_environment = (omega arith, (refl, tt), refl, (omega arith, tt, refl, tt))

no_name_at_none : IsEnvironment (record { name = x; r = none } ∷ []) → ⊥
no_name_at_none h = cc h.2

no_name_twice : IsEnvironment (record { name = x; r = one } ∷ record { name = x; r = one } ∷ []) → ⊥
no_name_twice h = cc h.1.0

-- as many, and equal as numbers
alike_numbers : AllAlike (Fin 1 2 ∷ Inf ∷ []) (Fin 2 4 ∷ Inf ∷ [])
alike_numbers = (record { le = record { le = omega arith }; ge = record { le = omega arith } }, (record { le = record { le = tt }; ge = record { le = tt } }, tt))

not_as_many : AllAlike (none ∷ []) [] → ⊥
not_as_many h = h

not_the_same : AllAlike (Fin 1 2 ∷ []) (Fin 1 3 ∷ []) → ⊥
not_the_same h = let l = h.0.le.le in absurd (omega (arith, l))

scope : names_in (Under x NumT (Under y TextT Closed)) ≡ 2
scope = refl

by_place : (sensitivity_at (one ∷ Inf ∷ []) 1 ≡ Inf) × (sensitivity_at (one ∷ Inf ∷ []) 2 ≡ none)
by_place = (refl, refl)

abbrev tables : Signature
tables = record { name = codes "people"; row = NumT } ∷ record { name = codes "places"; row = TextT } ∷ []

places_alone : FiniteBelow (one ∷ Inf ∷ []) 1
places_alone zero l e = cc e
places_alone (suc i) l e = absurd (omega (arith, l))

places_first : IsFirstUnbounded tables (one ∷ Inf ∷ []) (codes "places")
places_first = (1, record { name = codes "places"; row = TextT }, refl, refl, refl, places_alone)
