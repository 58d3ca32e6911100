-- Types that can be written, by their parts.
use Rattle.std.proofs.Common.{refl}
use Rattle.std.specs.Prelude.{Bool, false, true, ◌&&◌, ◌≡◌}
use Rattle.fz_frac.specs.Distance.{Distance}
use Rattle.fz_ast.specs.Limits.{IsBang}
use Rattle.fz_ast.specs.Terms.{Name}
use Rattle.fz_ast.specs.Types.{ArrowT, BagT, BangT, BoolT, Formed, NumT, SumT, TensorT, TextT, Ty, UnflatBag, UngroundSum, UnitT, WellFormed, WithT, both, formed, is_flat, is_ground, unless}
use Rattle.term_meanings.specs.Sensitivities.{Sensitivities}
use Rattle.term_meanings.specs.Scopes.{AllTypes, Context, IsBound, IsType, here, there}

pub both_well : (f g : Formed) → both f g ≡ WellFormed → (f ≡ WellFormed) × (g ≡ WellFormed)
both_well WellFormed g h = (refl, h)
both_well UngroundSum g h = cc
both_well UnflatBag g h = cc

sum_well : (b : Bool) (g : Formed) → unless b UngroundSum g ≡ WellFormed → (b ≡ true) × (g ≡ WellFormed)
sum_well true g h = (refl, h)
sum_well false g h = cc

bag_well : (b : Bool) (g : Formed) → unless b UnflatBag g ≡ WellFormed → (b ≡ true) × (g ≡ WellFormed)
bag_well true g h = (refl, h)
bag_well false g h = cc

pub and_is : (a b : Bool) → (a && b) ≡ true → (a ≡ true) × (b ≡ true)
and_is true b h = (refl, h)
and_is false b h = cc

pub num_type : IsType NumT
num_type = record { well_formed = refl; limits = tt }

pub text_type : IsType TextT
text_type = record { well_formed = refl; limits = tt }

pub unit_type : IsType UnitT
unit_type = record { well_formed = refl; limits = tt }

pub bool_type : IsType BoolT
bool_type = record { well_formed = refl; limits = (tt, tt) }

pub tensor_type : {A B : Ty} → IsType A → IsType B → IsType (TensorT A B)
tensor_type a b = record { well_formed = rw (a.well_formed, b.well_formed) refl; limits = (a.limits, b.limits) }

pub with_type : {A B : Ty} → IsType A → IsType B → IsType (WithT A B)
with_type a b = record { well_formed = rw (a.well_formed, b.well_formed) refl; limits = (a.limits, b.limits) }

pub arrow_type : {A B : Ty} → IsType A → IsType B → IsType (ArrowT A B)
arrow_type a b = record { well_formed = rw (a.well_formed, b.well_formed) refl; limits = (a.limits, b.limits) }

pub sum_type : {A B : Ty} → is_ground A ≡ true → is_ground B ≡ true → IsType A → IsType B → IsType (SumT A B)
sum_type g h a b = record { well_formed = rw (g, h, a.well_formed, b.well_formed) refl; limits = (a.limits, b.limits) }

pub bang_type : {r : Distance} {A : Ty} → IsBang r → IsType A → IsType (BangT r A)
bang_type r a = record { well_formed = a.well_formed; limits = (r, a.limits) }

pub bag_type : {A : Ty} → is_flat A ≡ true → IsType A → IsType (BagT A)
bag_type f a = record { well_formed = rw (f, a.well_formed) refl; limits = a.limits }

pub tensor_parts : (A B : Ty) → IsType (TensorT A B) → IsType A × IsType B
tensor_parts A B t = let w = both_well (formed A) (formed B) t.well_formed in (record { well_formed = w.0; limits = t.limits.0 }, record { well_formed = w.1; limits = t.limits.1 })

pub with_parts : (A B : Ty) → IsType (WithT A B) → IsType A × IsType B
with_parts A B t = let w = both_well (formed A) (formed B) t.well_formed in (record { well_formed = w.0; limits = t.limits.0 }, record { well_formed = w.1; limits = t.limits.1 })

pub arrow_parts : (A B : Ty) → IsType (ArrowT A B) → IsType A × IsType B
arrow_parts A B t = let w = both_well (formed A) (formed B) t.well_formed in (record { well_formed = w.0; limits = t.limits.0 }, record { well_formed = w.1; limits = t.limits.1 })

pub sum_parts : (A B : Ty) → IsType (SumT A B) → IsType A × IsType B
sum_parts A B t =
    let u = sum_well (is_ground A && is_ground B) (both (formed A) (formed B)) t.well_formed in
    let w = both_well (formed A) (formed B) u.1 in
    (record { well_formed = w.0; limits = t.limits.0 }, record { well_formed = w.1; limits = t.limits.1 })

pub bang_parts : (r : Distance) (A : Ty) → IsType (BangT r A) → IsBang r × IsType A
bang_parts r A t = (t.limits.0, record { well_formed = t.well_formed; limits = t.limits.1 })

pub bag_parts : (A : Ty) → IsType (BagT A) → (is_flat A ≡ true) × IsType A
bag_parts A t = let w = bag_well (is_flat A) (formed A) t.well_formed in (w.0, record { well_formed = w.1; limits = t.limits })

pub bound : {Γ : Context} {x : Name} {A : Ty} {D : Sensitivities} → AllTypes Γ → IsBound Γ x A D → IsType A
bound t (here e) = t.0
bound t (there e s) = bound t.1 s
