-- Names in scope, types that can be written and lists of sensitivities, at worked examples.
use Rattle.std.proofs.Common.{arith, refl}
use Rattle.std.specs.Prelude.{[], codes, negsuc, pos, ◌∷◌, ◌≡◌}
use Rattle.fz_ast.specs.Types.{ArrowT, BagT, BangT, BoolT, NumT, SumT, TextT, Ty}
use Rattle.fz_frac.specs.Distance.{Fin, Inf, none, one}
use Rattle.term_meanings.specs.Scopes.{Closed, Context, IsBound, IsType, Under, here, size_of, there, widest_of}
use Rattle.term_meanings.specs.Sensitivities.{Sensitivities, above_zero, first, join, plus, rest, scale}

-- x is a number inside, and a text outside; y stands between
abbrev scope : Context
scope = Under (codes "x") NumT (Under (codes "y") (BagT NumT) (Under (codes "x") TextT Closed))

innermost : IsBound scope (codes "x") NumT (one ∷ [])
innermost = here refl

further_out : IsBound scope (codes "y") (BagT NumT) (none ∷ one ∷ [])
further_out = there refl (here refl)

hidden : (D : Sensitivities) → IsBound scope (codes "x") TextT D → ⊥
hidden D (there n s) = cc n

not_in_scope : (A : Ty) (D : Sensitivities) → IsBound scope (codes "z") A D → ⊥
not_in_scope A D (here e) = cc e
not_in_scope A D (there n (here e)) = cc e
not_in_scope A D (there n (there m (here e))) = cc e
not_in_scope A D (there n (there m (there k s))) = elim s [ ]

-- bools can be written, and bags of bags, sums of functions and bangs at 0 can't
a_type : IsType (BagT BoolT)
a_type = record { well_formed = refl; limits = (tt, tt) }

no_bags_of_bags : IsType (BagT (BagT NumT)) → ⊥
no_bags_of_bags h = cc h.well_formed

no_sums_of_functions : IsType (SumT NumT (ArrowT NumT NumT)) → ⊥
no_sums_of_functions h = cc h.well_formed

no_bang_at_none : IsType (BangT none NumT) → ⊥
no_bang_at_none h = let l = h.limits.0.0 in absurd (omega (arith, l))

-- what is past the end is 0
first_and_rest :
    (first (Fin 2 1 ∷ Fin 3 1 ∷ []) ≡ Fin 2 1)
    × (first [] ≡ none)
    × (rest (Fin 2 1 ∷ Fin 3 1 ∷ []) ≡ Fin 3 1 ∷ [])
    × (rest [] ≡ [])
first_and_rest = (refl, refl, refl, refl)

by_places :
    (plus (Fin 1 2 ∷ []) (Fin 1 3 ∷ Inf ∷ []) ≡ Fin 5 6 ∷ Inf ∷ [])
    × (plus (Fin 1 2 ∷ Inf ∷ []) (Fin 1 3 ∷ []) ≡ Fin 5 6 ∷ Inf ∷ [])
    × (join (Fin 1 2 ∷ []) (Fin 1 3 ∷ Inf ∷ []) ≡ Fin 1 2 ∷ Inf ∷ [])
    × (join (Fin 1 3 ∷ Inf ∷ []) (Fin 1 2 ∷ []) ≡ Fin 1 2 ∷ Inf ∷ [])
    × (scale (Fin 3 1) (Fin 1 2 ∷ Inf ∷ []) ≡ Fin 3 2 ∷ Inf ∷ [])
    × (scale Inf (none ∷ Fin 1 2 ∷ []) ≡ none ∷ Inf ∷ [])
    × (scale none (Fin 1 2 ∷ Inf ∷ []) ≡ Fin 0 2 ∷ none ∷ [])
by_places = (refl, refl, refl, refl, refl, refl, refl)

scalars :
    (above_zero none ≡ one)
    × (above_zero (Fin 0 2) ≡ one)
    × (above_zero (Fin 1 4294967295) ≡ Fin 1 4294967295)
    × (above_zero Inf ≡ Inf)
    × (size_of (negsuc 2) ≡ Fin 3 1)
    × (size_of (pos 3) ≡ Fin 3 1)
    × (widest_of (negsuc 4) (pos 3) ≡ Fin 5 1)
    × (widest_of (pos 4) (negsuc 2) ≡ Fin 4 1)
scalars = (refl, refl, refl, refl, refl, refl, refl, refl)
