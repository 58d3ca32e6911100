-- The definitions at worked values.
use Rattle.std.proofs.Common.{refl}
use Rattle.std.specs.Prelude.{None, Some, [], codes, false, pos, true, ◌∷◌, ◌≡◌}
use Rattle.metric_values.specs.Values.{BagV, BangF, BangV, InlF, InlV, InrV, NumF, NumV, PairF, PairV, TextF, TextV, UnitF, UnitV, truth}
use Rattle.run_values.specs.Flats.{IsFlat, flat_of, flats_of}
use Rattle.run_values.specs.Parts.{elements, number_or_none, side_in}
use Rattle.run_values.specs.Sizes.{value_size}
use Rattle.run_values.specs.Views.{form_view}
use Rattle.run_values.specs.declared.value.Form.TheVariants.{Num, Truth, Unit as One}

-- an element as a value, and back
pair_flat : flat_of (PairV (NumV (pos 1)) (TextV (codes "a"))) ≡ PairF (NumF (pos 1)) (TextF (codes "a"))
pair_flat = refl

flats_in_order : flats_of (truth true ∷ BangV UnitV ∷ []) ≡ InlF UnitF ∷ BangF UnitF ∷ []
flats_in_order = refl

nested_is_flat : IsFlat (PairV (truth false) (BangV (TextV (codes "b"))))
nested_is_flat = refl

bag_not_flat : IsFlat (BagV []) → ⊥
bag_not_flat e = absurd (cc e)

bag_inside_not_flat : IsFlat (BangV (BagV [])) → ⊥
bag_inside_not_flat e = absurd (cc e)

-- what stands inside
number_there : number_or_none (NumV (pos 5)) ≡ Some (pos 5)
number_there = refl

number_not_there : number_or_none (BangV (NumV (pos 5))) ≡ None
number_not_there = refl

side_of_true : side_in (truth true) ≡ UnitV
side_of_true = refl

elements_of_bag : elements (BagV (UnitF ∷ [])) ≡ UnitF ∷ []
elements_of_bag = refl

-- a pair is one deeper than the deeper of its halves
deeper_half : value_size (PairV UnitV (BangV (InlV UnitV))) ≡ 3
deeper_half = refl

-- what forms stand for

number_form : form_view (Num (pos 5)) ≡ NumV (pos 5)
number_form = refl

unit_form : form_view One ≡ UnitV
unit_form = refl

truth_forms : (form_view (Truth true) ≡ InlV UnitV) × (form_view (Truth false) ≡ InrV UnitV)
truth_forms = (refl, refl)
