-- What the typing rules answer for a term: its type and sensitivities, or its first fault.
use Rattle.std.specs.Prelude.{Bool, true, false, cond, ◌||◌, [], ◌∷◌}
use Rattle.fz_frac.specs.Distance.{Distance}
use Rattle.fz_frac.specs.Lowest.{is_out}
use Rattle.fz_ast.specs.declared.span.Span.{Span}
use Rattle.fz_ast.specs.Types.{Ty, Formed, WellFormed, UngroundSum, UnflatBag}
use Rattle.fz_ast.specs.Terms.{Name}
use Rattle.linear_types.specs.Sensitivities.{Sensitivities}

-- what a part's type was wanted to be
pub data Wanted : Type 0 where
  Exactly : (A : Ty) → Wanted
  AWithPair : Wanted
  ATensor : Wanted
  ASum : Wanted
  AnArrow : Wanted
  ABang : Wanted
  ABag : Wanted
  AnUnlimitedArrow : Wanted
  ANumberOrText : Wanted

pub data Fault : Type 0 where
  Unbound : (s : Span) → Fault
  Mismatch : (s : Span) (found : Ty) (wanted : Wanted) → Fault
  NotGround : (s : Span) → Fault
  NotFlat : (s : Span) → Fault
  -- a linear function uses its argument x at r, which is above 1
  TooSensitive : (s : Span) (x : Name) (r : Distance) → Fault
  -- a fraction at this term is out of range
  Range : (s : Span) → Fault
  -- the whole program has sensitivity inf in this table
  Unbounded : (table : Name) → Fault
  -- the whole program is no number
  NotNum : (found : Ty) → Fault

pub data Inferred : Type 0 where
  Has : (A : Ty) (D : Sensitivities) → Inferred
  Untyped : (f : Fault) → Inferred

-- parts come first, in written order, and then what their types and sensitivities make of the whole
abbrev pub one_part : Inferred → (Ty → Sensitivities → Inferred) → Inferred
one_part (Has A D) k = k A D
one_part (Untyped f) k = Untyped f

abbrev pub two_parts : Inferred → Inferred → (Ty → Sensitivities → Ty → Sensitivities → Inferred) → Inferred
two_parts (Has A D) (Has B E) k = k A D B E
two_parts (Has A D) (Untyped f) k = Untyped f
two_parts (Untyped f) o k = Untyped f

abbrev pub three_parts : Inferred → Inferred → Inferred → (Ty → Sensitivities → Ty → Sensitivities → Ty → Sensitivities → Inferred) → Inferred
three_parts (Has A D) (Has B E) (Has C F) k = k A D B E C F
three_parts (Has A D) (Has B E) (Untyped f) k = Untyped f
three_parts (Has A D) (Untyped f) o k = Untyped f
three_parts (Untyped f) o p k = Untyped f

-- where a condition holds it goes on, and else that is the fault
abbrev pub need : Bool → Fault → Inferred → Inferred
need true f v = v
need false f v = Untyped f

-- a written type is well formed, or its first fault is the term's
abbrev pub need_formed : Span → Formed → Inferred → Inferred
need_formed u WellFormed v = v
need_formed u UngroundSum v = Untyped (NotGround u)
need_formed u UnflatBag v = Untyped (NotFlat u)

-- one of them is out of range
abbrev pub any_out : Sensitivities → Bool
any_out [] = false
any_out (t ∷ D) = is_out t || any_out D

abbrev pub in_range : Span → Sensitivities → Inferred → Inferred
in_range s D v = cond (any_out D) (Untyped (Range s)) v
