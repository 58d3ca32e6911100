-- Meanings as a function, and rows behind stages, at worked values, on both sides of each choice.
use Rattle.std.proofs.Common.{refl}
use Rattle.std.specs.Prelude.{Bool, List, None, Option, Some, [], codes, false, pos, true, ℕ, ◌∷◌, ◌≡◌}
use Rattle.fz_ast.specs.Terms.{LeE, NumE, PlusE, SizeE, SumE, Term, VarE, at}
use Rattle.fz_ast.specs.declared.span.Span.{Span}
use Rattle.metric_values.specs.Values.{BagV, Bind, Empty, Env, Flat, FnV, NumF, NumV, PairV, TextF, UnitV, Value, truth}
use Rattle.flow_values.specs.Computed.{agree, computed, is_true}
use Rattle.flow_values.specs.Founds.{AreHalvesNamed, plain_found, rebound}
use Rattle.flow_values.specs.Steps.{Step, all_through, outcome, stepped, through}

module _ (s : Span) where
  abbrev x : Term
  x = at s (VarE (codes "x"))

  abbrev numeral : ℕ → Term
  numeral k = at s (NumE (pos k))

  abbrev one_more : Value
  one_more = FnV (codes "x") (at s (PlusE x (numeral 1))) Empty

  abbrev at_most_30 : Value
  at_most_30 = FnV (codes "x") (at s (LeE x (numeral 30))) Empty

  abbrev by : Value → Option Bool → Step
  by c k = record { function = c; left = 2; keeps = k }

  abbrev ages : List Flat
  ages = NumF (pos 20) ∷ NumF (pos 30) ∷ NumF (pos 40) ∷ []

  -- a map, and its clamp
  mapped : stepped (by one_more None) (NumF (pos 30)) ≡ Some (NumF (pos 31))
  unfolding computed
  mapped = refl

  clamped : stepped (by one_more None) (NumF (pos 1125899906842624)) ≡ Some (NumF (pos 1125899906842624))
  unfolding computed
  clamped = refl

  -- those that are kept, and the others
  kept : all_through (by at_most_30 (Some true) ∷ []) ages ≡ NumF (pos 20) ∷ NumF (pos 30) ∷ []
  unfolding computed
  kept = refl

  others : all_through (by at_most_30 (Some false) ∷ []) ages ≡ NumF (pos 40) ∷ []
  unfolding computed
  others = refl

  -- the first stage first
  in_order : all_through (by one_more None ∷ by at_most_30 (Some true) ∷ []) ages ≡ NumF (pos 21) ∷ []
  unfolding computed
  in_order = refl

  other_order : all_through (by at_most_30 (Some true) ∷ by one_more None ∷ []) ages ≡ NumF (pos 21) ∷ NumF (pos 31) ∷ []
  unfolding computed
  other_order = refl

  no_stages : all_through [] ages ≡ ages
  no_stages = refl

  left_out : through (by one_more None ∷ []) None ≡ None
  left_out = refl

  -- what isn't high enough has no value here
  too_high : computed 1 Empty (at s (PlusE (numeral 1) (numeral 2))) ≡ NumV (pos 0)
  unfolding computed
  too_high = refl

  high_enough : computed 2 Empty (at s (PlusE (numeral 1) (numeral 2))) ≡ NumV (pos 3)
  unfolding computed
  high_enough = refl

  abbrev bound : Env
  bound = Bind (codes "x") (BagV ages) Empty

  counted : computed 2 bound (at s (SizeE x)) ≡ NumV (pos 3)
  unfolding computed
  counted = refl

  each_clipped : computed 2 bound (at s (SumE (pos 0) (pos 25) x)) ≡ NumV (pos 70)
  unfolding computed
  each_clipped = refl

-- which of them is wanted
wanted : agree true true ≡ true
wanted = refl

not_wanted : agree true false ≡ false
not_wanted = refl

other_wanted : agree false false ≡ true
other_wanted = refl

left_is_true : is_true (truth true) ≡ true
left_is_true = refl

right_is_false : is_true (truth false) ≡ false
right_is_false = refl

image_kept : outcome None (NumV (pos 5)) (TextF (codes "a")) ≡ Some (NumF (pos 5))
image_kept = refl

element_kept : outcome (Some true) (truth true) (TextF (codes "a")) ≡ Some (TextF (codes "a"))
element_kept = refl

element_left_out : outcome (Some false) (truth true) (TextF (codes "a")) ≡ None
element_left_out = refl

-- numbers and texts are found, other values aren't
number_plain : plain_found (Some (NumV (pos 5))) ≡ Some (NumV (pos 5))
number_plain = refl

pair_not_plain : plain_found (Some (PairV (NumV (pos 5)) UnitV)) ≡ None
pair_not_plain = refl

-- the second name is the innermost, also where both are one
second_innermost : AreHalvesNamed (Bind (codes "r") (PairV (NumV (pos 1)) UnitV) Empty) (codes "r") (codes "x") (codes "x")
    (Bind (codes "x") UnitV (Bind (codes "x") (NumV (pos 1)) (Bind (codes "r") (PairV (NumV (pos 1)) UnitV) Empty)))
second_innermost = (PairV (NumV (pos 1)) UnitV, refl, refl)

-- only the innermost name, and no name
innermost_bound : rebound (Bind (codes "x") UnitV (Bind (codes "x") UnitV Empty)) (NumV (pos 1)) ≡ Bind (codes "x") (NumV (pos 1)) (Bind (codes "x") UnitV Empty)
innermost_bound = refl

no_name_bound : rebound Empty UnitV ≡ Empty
no_name_bound = refl
