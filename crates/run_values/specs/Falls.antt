-- The elements of a list are smaller than its bag.
use Rattle.std.specs.Prelude.{◌≡◌, ◌+◌, ◌≤◌, max, List, [], ◌∷◌, refl}
use Rattle.std.proofs.Common.{arith, subst}
use denote.Param.Weighed.{most}
use Rattle.metric_values.specs.Values.{Flat, NumF, TextF, UnitF, PairF, InlF, InrF, BangF, Value, value_of}
use Rattle.run_values.specs.Views.{form_view, IsValueForm}
use Rattle.run_values.specs.declared.value.Form.{Form}
use Rattle.run_values.specs.declared.value.Form.TheVariants.{Num, Text, Unit as One, Truth, Pair, Inl, Inr, Bang, List as Items}
use Rattle.run_values.specs.declared.value.Value.TheDeep.{deep-Form}
use Rattle.run_values.specs.Flats.{flat_of, flats_of, AllFlat}
use Rattle.run_values.specs.Sizes.{flat_size, flats_size, value_size}

pub flat_sized : (x : Flat) → value_size (value_of x) ≡ flat_size x
flat_sized (NumF z) = refl
flat_sized (TextF s) = refl
flat_sized UnitF = refl
flat_sized (PairF a b) = omega (arith, flat_sized a, flat_sized b)
flat_sized (InlF a) = omega (arith, flat_sized a)
flat_sized (InrF a) = omega (arith, flat_sized a)
flat_sized (BangF a) = omega (arith, flat_sized a)

pub items_fall : (vs : List Value) → AllFlat vs → most (λ v. value_size v + 1) vs ≤ flats_size (flats_of vs) + 1
items_fall [] h = omega arith
items_fall (v ∷ vs) h =
    let e : value_size v ≡ flat_size (flat_of v) = subst (λ w. value_size w ≡ flat_size (flat_of v)) h.0 (flat_sized (flat_of v)) in
    omega (arith, items_fall vs h.1, e)

-- no child of a form is as deep as what it stands for
pub form_falls : (f : Form) → IsValueForm f → max (deep-Form f) 0 ≤ value_size (form_view f)
form_falls (Num z) h = omega arith
form_falls (Text s) h = omega arith
form_falls One h = omega arith
form_falls (Truth b) h = omega arith
form_falls (Pair p) h = omega arith
form_falls (Inl p) h = omega arith
form_falls (Inr p) h = omega arith
form_falls (Bang p) h = omega arith
form_falls (Items p) h = omega (arith, items_fall p.value.items h)
