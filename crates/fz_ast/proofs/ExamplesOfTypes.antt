-- Types at worked examples: ground, flat, well formed, the same, and how deep.
use Rattle.std.proofs.Common.{false, refl, true, ◌≡◌}
use Rattle.fz_ast.specs.Depth.{type_depth}
use Rattle.fz_ast.specs.Types.{ArrowT, BagT, BangT, BoolT, NumT, SumT, TensorT, TextT, Ty, UnflatBag, UngroundSum, UnitT, UnlimitedT, WellFormed, WithT, formed, is_flat, is_ground, same_type}
use Rattle.fz_frac.specs.Distance.{Fin, Inf}

-- num -o num
abbrev arrow : Ty
arrow = ArrowT NumT NumT

-- a bag whose element isn't flat
abbrev bags : Ty
bags = BagT (BagT NumT)

-- a sum whose side isn't ground
abbrev sum : Ty
sum = SumT arrow NumT

bools_and_unlimited : (BoolT ≡ SumT UnitT UnitT) × (UnlimitedT NumT TextT ≡ ArrowT (BangT Inf NumT) TextT)
bools_and_unlimited = (refl, refl)

-- a function on either side of each form is a function inside
ground :
    (is_ground NumT ≡ true) × (is_ground TextT ≡ true) × (is_ground UnitT ≡ true) × (is_ground (BagT NumT) ≡ true) × (is_ground (BangT Inf NumT) ≡ true)
    × (is_ground (TensorT NumT (WithT TextT (SumT UnitT NumT))) ≡ true)
    × (is_ground (TensorT arrow NumT) ≡ false) × (is_ground (TensorT NumT arrow) ≡ false)
    × (is_ground (WithT arrow NumT) ≡ false) × (is_ground (WithT NumT arrow) ≡ false)
    × (is_ground (SumT arrow NumT) ≡ false) × (is_ground (SumT NumT arrow) ≡ false)
    × (is_ground arrow ≡ false) × (is_ground (BangT Inf arrow) ≡ false) × (is_ground (BagT arrow) ≡ false)
ground = (refl, refl, refl, refl, refl, refl, refl, refl, refl, refl, refl, refl, refl, refl, refl)

-- a bag on either side of each form is a bag inside
flat :
    (is_flat NumT ≡ true) × (is_flat TextT ≡ true) × (is_flat UnitT ≡ true) × (is_flat (BagT NumT) ≡ false) × (is_flat (BangT Inf NumT) ≡ true)
    × (is_flat (TensorT NumT (WithT TextT (SumT UnitT NumT))) ≡ true)
    × (is_flat (TensorT (BagT NumT) NumT) ≡ false) × (is_flat (TensorT NumT (BagT NumT)) ≡ false)
    × (is_flat (WithT (BagT NumT) NumT) ≡ false) × (is_flat (WithT NumT (BagT NumT)) ≡ false)
    × (is_flat (SumT (BagT NumT) NumT) ≡ false) × (is_flat (SumT NumT (BagT NumT)) ≡ false)
    × (is_flat arrow ≡ false) × (is_flat (TensorT NumT arrow) ≡ false) × (is_flat (BangT (Fin 2 1) (BagT NumT)) ≡ false)
flat = (refl, refl, refl, refl, refl, refl, refl, refl, refl, refl, refl, refl, refl, refl, refl)

-- what may stand where: sides of sums are ground, and elements flat
well_formed :
    (formed (SumT (BagT NumT) (BagT NumT)) ≡ WellFormed)
    × (formed (BagT (WithT NumT (BangT Inf TextT))) ≡ WellFormed)
    × (formed (ArrowT arrow (TensorT arrow (BagT NumT))) ≡ WellFormed)
    × (formed (BangT Inf arrow) ≡ WellFormed)
    × (formed sum ≡ UngroundSum) × (formed (SumT NumT arrow) ≡ UngroundSum)
    × (formed bags ≡ UnflatBag) × (formed (BagT arrow) ≡ UnflatBag)
well_formed = (refl, refl, refl, refl, refl, refl, refl, refl)

-- the outermost fault first, and then in written order
first_fault :
    (formed (SumT arrow bags) ≡ UngroundSum)
    × (formed (BagT sum) ≡ UnflatBag)
    × (formed (SumT NumT bags) ≡ UnflatBag)
    × (formed (TensorT bags sum) ≡ UnflatBag) × (formed (TensorT sum bags) ≡ UngroundSum)
    × (formed (WithT bags sum) ≡ UnflatBag) × (formed (WithT sum bags) ≡ UngroundSum)
    × (formed (ArrowT bags sum) ≡ UnflatBag) × (formed (ArrowT sum bags) ≡ UngroundSum)
    × (formed (ArrowT NumT sum) ≡ UngroundSum)
    × (formed (BangT Inf bags) ≡ UnflatBag)
first_fault = (refl, refl, refl, refl, refl, refl, refl, refl, refl, refl, refl)

-- one tree, with its bang numbers
same :
    (same_type (ArrowT (BangT (Fin 1 2) NumT) BoolT) (ArrowT (BangT (Fin 1 2) NumT) BoolT) ≡ true)
    × (same_type (BangT Inf NumT) (BangT Inf NumT) ≡ true)
    × (same_type (BangT (Fin 1 2) NumT) (BangT (Fin 1 3) NumT) ≡ false)
    × (same_type (BangT (Fin 1 2) NumT) (BangT (Fin 2 4) NumT) ≡ false)
    × (same_type (BangT Inf NumT) (BangT (Fin 1 1) NumT) ≡ false)
    × (same_type (TensorT NumT TextT) (WithT NumT TextT) ≡ false)
    × (same_type (TensorT NumT TextT) (TensorT TextT NumT) ≡ false)
    × (same_type (SumT NumT TextT) (SumT NumT NumT) ≡ false)
    × (same_type (BagT NumT) NumT ≡ false)
same = (refl, refl, refl, refl, refl, refl, refl, refl, refl)

-- a leaf has depth 1, and another form is one deeper than its deepest part
deep :
    (type_depth NumT ≡ 1) × (type_depth TextT ≡ 1) × (type_depth UnitT ≡ 1) × (type_depth BoolT ≡ 2) × (type_depth (BangT (Fin 1 2) NumT) ≡ 2)
    × (type_depth (BagT (BagT NumT)) ≡ 3)
    × (type_depth (TensorT NumT bags) ≡ 4) × (type_depth (TensorT bags NumT) ≡ 4)
    × (type_depth (WithT NumT bags) ≡ 4) × (type_depth (WithT bags NumT) ≡ 4)
    × (type_depth (SumT NumT bags) ≡ 4) × (type_depth (SumT bags NumT) ≡ 4)
    × (type_depth (ArrowT NumT bags) ≡ 4) × (type_depth (ArrowT bags NumT) ≡ 4)
    × (type_depth (UnlimitedT NumT TextT) ≡ 3)
deep = (refl, refl, refl, refl, refl, refl, refl, refl, refl, refl, refl, refl, refl, refl, refl)
