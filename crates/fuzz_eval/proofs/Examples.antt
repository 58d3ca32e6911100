-- The rules over values at worked values, on both sides of each choice.
use Rattle.std.proofs.Common.{inl, inr, refl}
use Rattle.std.specs.Prelude.{[], codes, false, neg_ℤ, pos, true, ◌∷◌, ◌≡◌}
use Rattle.fz_ast.specs.Terms.{Term}
use Rattle.fz_ast.specs.declared.term.Arrow.TheVariants.{Fn, Fun}
use Rattle.fz_ast.specs.declared.term.Binary.TheVariants.{Equal, Union}
use Rattle.fz_ast.specs.declared.term.Ranged.TheVariants.{Clip, Sum}
use Rattle.fz_ast.specs.declared.term.Unary.TheVariants.{Greatest, Least, Size, Snd}
use Rattle.metric_law.specs.Means.{Meaning}
use Rattle.metric_values.specs.Values.{BagV, BangV, Bind, Env, FnV, NumF, NumV, PairV, TextV, UnitF, UnitV, truth}
use Rattle.fuzz_eval.specs.Loops.{bound_element, function_inside}
use Rattle.fuzz_eval.specs.Steps.{Gives1, Gives2, GivesRanged, GivesTimes}

module _ (R : Meaning) where
  same_numbers : Gives2 R Equal (NumV (pos 7)) (NumV (pos 7)) (truth true)
  same_numbers = inl (pos 7, pos 7, refl, refl, refl)

  other_numbers : Gives2 R Equal (NumV (pos 7)) (NumV (neg_ℤ (pos 7))) (truth false)
  other_numbers = inl (pos 7, neg_ℤ (pos 7), refl, refl, refl)

  same_texts : Gives2 R Equal (TextV (codes "ab")) (TextV (codes "ab")) (truth true)
  same_texts = inr (codes "ab", codes "ab", refl, refl, refl)

  longer_text : Gives2 R Equal (TextV (codes "ab")) (TextV (codes "abc")) (truth false)
  longer_text = inr (codes "ab", codes "abc", refl, refl, refl)

  both_bags : Gives2 R Union (BagV (UnitF ∷ [])) (BagV (NumF (pos 1) ∷ [])) (BagV (UnitF ∷ NumF (pos 1) ∷ []))
  both_bags = (UnitF ∷ [], NumF (pos 1) ∷ [], refl, refl, refl)

second_half : Gives1 Snd (PairV UnitV (NumV (pos 2))) (NumV (pos 2))
second_half = (UnitV, refl)

lesser : Gives1 Least (PairV (NumV (pos 2)) (NumV (neg_ℤ (pos 3)))) (NumV (neg_ℤ (pos 3)))
lesser = (pos 2, neg_ℤ (pos 3), refl, refl)

greater : Gives1 Greatest (PairV (NumV (pos 2)) (NumV (neg_ℤ (pos 3)))) (NumV (pos 2))
greater = (pos 2, neg_ℤ (pos 3), refl, refl)

size_of_two : Gives1 Size (BagV (UnitF ∷ UnitF ∷ [])) (NumV (pos 2))
size_of_two = (UnitF ∷ UnitF ∷ [], refl, refl)

multiple_clamped : GivesTimes (pos 2) (NumV (pos 1125899906842624)) (NumV (pos 1125899906842624))
multiple_clamped = (pos 1125899906842624, refl, refl)

clipped_above : GivesRanged Clip (pos 0) (pos 10) (NumV (pos 11)) (NumV (pos 10))
clipped_above = (pos 11, refl, refl)

each_clipped : GivesRanged Sum (pos 0) (pos 10) (BagV (NumF (pos 11) ∷ NumF (neg_ℤ (pos 5)) ∷ NumF (pos 3) ∷ [])) (NumV (pos 13))
each_clipped = (pos 11 ∷ neg_ℤ (pos 5) ∷ pos 3 ∷ [], refl, refl)

-- the bang of an element is a Fun's argument, and the element is what an Fn's name stands for
element_of_fun : bound_element Fun UnitV ≡ BangV UnitV
element_of_fun = refl

element_of_fn : bound_element Fn UnitV ≡ UnitV
element_of_fn = refl

-- whatever its name stands for
function_around : (γ : Env) (e : Term) → function_inside Fn (Bind (codes "x") UnitV γ) e ≡ FnV (codes "x") e γ
function_around γ e = refl
