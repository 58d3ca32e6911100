-- What a connection gives and takes, worked out on small ones.
use Rattle.std.proofs.Common.{◌≡◌, ℕ, List, [], ◌∷◌, get_or, Option, Some, None, refl, ap, arith}
use Rattle.outside_links.specs.Links.{HasGiven, HasTaken}

abbrev first_in : Option (List ℕ) → ℕ
first_in None = 0
first_in (Some xs) = get_or xs 0 0

-- two bytes of three were given, and the third is left
gave_two : HasGiven (Some (7 ∷ 8 ∷ 9 ∷ [])) (7 ∷ 8 ∷ []) (Some (9 ∷ []))
gave_two = refl

-- none were given
gave_none : HasGiven (Some (7 ∷ [])) [] (Some (7 ∷ []))
gave_none = refl

-- bytes come from the front
not_the_last : HasGiven (Some (7 ∷ 8 ∷ [])) (8 ∷ []) (Some (7 ∷ [])) → ⊥
not_the_last given = let h : ◌≡◌ {A = ℕ} 7 8 = ap first_in given in omega (arith, h)

-- where nothing is told, nothing becomes told, whatever was given
untold : HasGiven None (7 ∷ []) None
untold = refl

-- a byte that was written stands behind those before
took_one : HasTaken (Some (7 ∷ [])) (8 ∷ []) (Some (7 ∷ 8 ∷ []))
took_one = refl

not_in_front : HasTaken (Some (7 ∷ [])) (8 ∷ []) (Some (8 ∷ 7 ∷ [])) → ⊥
not_in_front taken = let h : ◌≡◌ {A = ℕ} 8 7 = ap first_in taken in omega (arith, h)

took_untold : HasTaken None (8 ∷ []) None
took_untold = refl
