-- Which values a type has, where no function is inside.
use Rattle.std.specs.Prelude.{All, ⊤}
use Rattle.fz_ast.specs.Limits.{IsNumber, IsText}
use Rattle.fz_ast.specs.Types.{BagT, BangT, NumT, SumT, TensorT, TextT, Ty, UnitT, WithT}
use Rattle.metric_values.specs.Values.{BagV, BangF, BangV, Flat, InlF, InlV, InrF, InrV, NumF, NumV, PairF, PairV, TextF, TextV, UnitF, UnitV, Value}

-- the elements that a bag of this type may have
abbrev pub TypedFlat : Ty → Flat → Type 0
TypedFlat NumT (NumF z) = IsNumber z
TypedFlat TextT (TextF s) = IsText s
TypedFlat UnitT UnitF = ⊤
TypedFlat (TensorT A B) (PairF a b) = TypedFlat A a × TypedFlat B b
TypedFlat (WithT A B) (PairF a b) = TypedFlat A a × TypedFlat B b
TypedFlat (SumT A B) (InlF a) = TypedFlat A a
TypedFlat (SumT A B) (InrF a) = TypedFlat B a
TypedFlat (BangT r A) (BangF a) = TypedFlat A a
TypedFlat A x = ⊥

-- the values of a ground type
abbrev pub TypedGround : Ty → Value → Type 0
TypedGround NumT (NumV z) = IsNumber z
TypedGround TextT (TextV s) = IsText s
TypedGround UnitT UnitV = ⊤
TypedGround (TensorT A B) (PairV a b) = TypedGround A a × TypedGround B b
TypedGround (WithT A B) (PairV a b) = TypedGround A a × TypedGround B b
TypedGround (SumT A B) (InlV a) = TypedGround A a
TypedGround (SumT A B) (InrV a) = TypedGround B a
TypedGround (BangT r A) (BangV a) = TypedGround A a
TypedGround (BagT A) (BagV xs) = All (TypedFlat A) xs
TypedGround A v = ⊥
