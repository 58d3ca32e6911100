-- Which connections come and were handed back, worked out on small lists.
use Rattle.std.proofs.Common.{◌≡◌, ℕ, List, [], ◌∷◌, length, Option, Some, None, refl, ap, arith}
use Rattle.outside_links.specs.Links.{Connection, shown}
use Rattle.outside_doors.specs.Doors.{HasCome, HasServed}

-- connections that differ in what is left to read
abbrev one : Connection
one = shown (Some (7 ∷ [])) (Some []) 0

abbrev two : Connection
two = shown (Some (8 ∷ 9 ∷ [])) (Some []) 0

abbrev left_of : Option (List ℕ) → ℕ
left_of None = 0
left_of (Some bytes) = length bytes

-- how many bytes the first connection has left
abbrev first_of : Option (List Connection) → ℕ
first_of None = 0
first_of (Some []) = 0
first_of (Some (c ∷ cs)) = left_of c.left

-- the first of two has come, and the other is left
first_came : HasCome (Some (one ∷ two ∷ [])) one (Some (two ∷ []))
first_came = refl

last_came : HasCome (Some (two ∷ [])) two (Some [])
last_came = refl

not_the_last : HasCome (Some (one ∷ two ∷ [])) two (Some (one ∷ [])) → ⊥
not_the_last came = let h : ◌≡◌ {A = ℕ} 1 2 = ap first_of came in omega (arith, h)

-- where none is to come, none comes
none_came : HasCome (Some []) one (Some []) → ⊥
none_came came = let h : ◌≡◌ {A = ℕ} 0 1 = ap first_of came in omega (arith, h)

-- where nothing is told, nothing becomes told
untold : HasCome None one None
untold = refl

-- what is handed back stands behind those before
handed_back : HasServed (Some (one ∷ [])) two (Some (one ∷ two ∷ []))
handed_back = refl

not_in_front : HasServed (Some (one ∷ [])) two (Some (two ∷ one ∷ [])) → ⊥
not_in_front served = let h : ◌≡◌ {A = ℕ} 2 1 = ap first_of served in omega (arith, h)

-- it isn't forgotten
not_forgotten : HasServed (Some []) one (Some []) → ⊥
not_forgotten served = let h : ◌≡◌ {A = ℕ} 0 1 = ap first_of served in omega (arith, h)

handed_back_untold : HasServed None one None
handed_back_untold = refl
