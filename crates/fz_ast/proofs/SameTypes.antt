-- The test for one tree answers yes for equal types alone.
use Rattle.std.proofs.Common.{◌≡◌, ap, refl, arith, Bool, true, false, nat_eq}
use Rattle.std.specs.Prelude.{◌&&◌}
use Rattle.std.proofs.lemmas.Bool.Decides.{nat_tests}
use Rattle.fz_frac.specs.Distance.{Distance, Fin, Inf}
use Rattle.fz_ast.specs.Types.{Ty, NumT, TextT, UnitT, TensorT, WithT, SumT, ArrowT, BangT, BagT, same_bang, same_type}

pub both_true : (a b : Bool) → (a && b) ≡ true → (a ≡ true) × (b ≡ true)
both_true true b h = (refl, h)
both_true false b h = cc

pub and_true : (a b : Bool) → a ≡ true → b ≡ true → (a && b) ≡ true
and_true a b e f = rw (e, f) refl

pub same_bang_is : (r s : Distance) → same_bang r s ≡ true → r ≡ s
same_bang_is (Fin p q) (Fin r s) h =
    let k = both_true (nat_eq p r) (nat_eq q s) h in
    let e : p ≡ r = grind (arith, nat_tests, k.0) in
    let f : q ≡ s = grind (arith, nat_tests, k.1) in
    cc
same_bang_is Inf Inf h = refl
same_bang_is (Fin p q) Inf h = cc
same_bang_is Inf (Fin p q) h = cc

pub same_bang_refl : (r : Distance) → same_bang r r ≡ true
same_bang_refl (Fin p q) = grind (arith, nat_tests)
same_bang_refl Inf = refl

pub same_type_is : (A B : Ty) → same_type A B ≡ true → A ≡ B
same_type_is NumT NumT h = refl
same_type_is TextT TextT h = refl
same_type_is UnitT UnitT h = refl
same_type_is (TensorT A B) (TensorT C D) h = let k = both_true (same_type A C) (same_type B D) h in let e = same_type_is A C k.0 in let f = same_type_is B D k.1 in cc
same_type_is (WithT A B) (WithT C D) h = let k = both_true (same_type A C) (same_type B D) h in let e = same_type_is A C k.0 in let f = same_type_is B D k.1 in cc
same_type_is (SumT A B) (SumT C D) h = let k = both_true (same_type A C) (same_type B D) h in let e = same_type_is A C k.0 in let f = same_type_is B D k.1 in cc
same_type_is (ArrowT A B) (ArrowT C D) h = let k = both_true (same_type A C) (same_type B D) h in let e = same_type_is A C k.0 in let f = same_type_is B D k.1 in cc
same_type_is (BangT r A) (BangT s B) h = let k = both_true (same_bang r s) (same_type A B) h in let e = same_bang_is r s k.0 in let f = same_type_is A B k.1 in cc
same_type_is (BagT A) (BagT B) h = ap BagT (same_type_is A B h)
same_type_is A B h = cc

pub same_type_refl : (A : Ty) → same_type A A ≡ true
same_type_refl NumT = refl
same_type_refl TextT = refl
same_type_refl UnitT = refl
same_type_refl (TensorT A B) = and_true (same_type A A) (same_type B B) (same_type_refl A) (same_type_refl B)
same_type_refl (WithT A B) = and_true (same_type A A) (same_type B B) (same_type_refl A) (same_type_refl B)
same_type_refl (SumT A B) = and_true (same_type A A) (same_type B B) (same_type_refl A) (same_type_refl B)
same_type_refl (ArrowT A B) = and_true (same_type A A) (same_type B B) (same_type_refl A) (same_type_refl B)
same_type_refl (BangT r A) = and_true (same_bang r r) (same_type A A) (same_bang_refl r) (same_type_refl A)
same_type_refl (BagT A) = same_type_refl A

pub same_type_iff : (A B : Ty) (t : Bool) → t ≡ same_type A B → (t ≡ true → A ≡ B) × (A ≡ B → t ≡ true)
same_type_iff A B t e = ((λ h. let k : same_type A B ≡ true = cc in same_type_is A B k), (λ h. rw (e, h) (same_type_refl B)))
