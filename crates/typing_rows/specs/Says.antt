-- What the rows answer, in the words of the typing rules. T is the arena's types, and a type in an answer is its number there.
use Rattle.std.specs.Prelude.{◌≡◌, ◌<◌, List, length, Result, Ok, Err, true, false, ⊤}
use Rattle.std.proofs.Common.{Vec, Global}
use Rattle.fz_frac.specs.Distance.{Distance, ◌≈◌}
use Rattle.fz_frac.specs.Lowest.{lowest, is_out}
use Rattle.fz_frac.specs.Sens.{distance_of}
use Rattle.fz_frac.specs.declared.sens.Sens.{Sens}
use Rattle.fz_ast.specs.declared.span.Span.{Span}
use Rattle.fz_ast.specs.Names.{name_of}
use Rattle.fz_ast.specs.Types.{Ty}
use Rattle.fz_ast.specs.TypeNodes.{type_at}
use Rattle.linear_types.specs.Places.{AreAlike, IsGiven, distances}
use Rattle.linear_types.specs.declared.places.EnvFault.{EnvFault}
use Rattle.linear_types.specs.declared.places.EnvFault.TheVariants.{Range as OutOfRange, NoMemory as Wanting}
use Rattle.linear_types.specs.Sensitivities.{Sensitivities}
use Rattle.linear_types.specs.Inferred.{Fault, Inferred, Has, Untyped, any_out}
use Rattle.linear_types.specs.Inferred as rules
use Rattle.typing_rows.specs.declared.clause.Wanted.{Wanted}
use Rattle.typing_rows.specs.declared.clause.Wanted.TheVariants.{Exactly, WithPair, Tensor, Sum, Arrow, Bang, Bag, UnlimitedArrow, NumberOrText}
use Rattle.typing_rows.specs.declared.clause.Judged.{Judged}
use Rattle.typing_rows.specs.declared.clause.RowFault.{RowFault}
use Rattle.typing_rows.specs.declared.clause.RowFault.TheVariants.{Unbound, Mismatch, NotGround, NotFlat, TooSensitive, Range, NoMemory}

-- what was wanted, a type being its number in T
abbrev pub IsWanted : List Ty → Wanted → rules.Wanted → Type 0
IsWanted T (Exactly t) w = (t < length T) × (w ≡ rules.Exactly (type_at T t))
IsWanted T WithPair w = w ≡ rules.AWithPair
IsWanted T Tensor w = w ≡ rules.ATensor
IsWanted T Sum w = w ≡ rules.ASum
IsWanted T Arrow w = w ≡ rules.AnArrow
IsWanted T Bang w = w ≡ rules.ABang
IsWanted T Bag w = w ≡ rules.ABag
IsWanted T UnlimitedArrow w = w ≡ rules.AnUnlimitedArrow
IsWanted T NumberOrText w = w ≡ rules.ANumberOrText

-- the code's type and sensitivities are these
pub record IsFine (T : List Ty) (j : Judged) (A : Ty) (D : Sensitivities) : Type 0 where
  pub known : j.ty < length T
  pub is : type_at T j.ty ≡ A
  pub alike : AreAlike (distances j.amounts.items) D

-- the code's refusal is this fault, with all its data
abbrev pub IsRowFault : List Ty → RowFault → Fault → Type 0
IsRowFault T (Unbound s) f = f ≡ rules.Unbound s
IsRowFault T (Mismatch s t w) f = (wanted : rules.Wanted) × (t < length T) × IsWanted T w wanted × (f ≡ rules.Mismatch s (type_at T t) wanted)
IsRowFault T (NotGround s) f = f ≡ rules.NotGround s
IsRowFault T (NotFlat s) f = f ≡ rules.NotFlat s
IsRowFault T (TooSensitive s x r) f = (d : Distance) × (distance_of r ≡ lowest d) × (f ≡ rules.TooSensitive s (name_of x) d)
IsRowFault T (Range s) f = f ≡ rules.Range s
IsRowFault T NoMemory f = ⊤

-- the verdict is this refusal, unless memory is wanted
abbrev pub IsFaultOf : List Ty → RowFault → Inferred → Type 0
IsFaultOf T NoMemory v = ⊤
IsFaultOf T r (Untyped f) = IsRowFault T r f
IsFaultOf T r (Has A D) = ⊥

-- the code's answer is the verdict, or memory is wanted
abbrev pub Says : List Ty → Result Judged RowFault → Inferred → Type 0
Says T (Ok j) (Has A D) = IsFine T j A D
Says T (Ok j) (Untyped f) = ⊥
Says T (Err r) v = IsFaultOf T r v

-- sensitivities that are given, or out of range at the term s, or memory is wanted
abbrev pub IsCauseAt : Span → Sensitivities → RowFault → Type 0
IsCauseAt s D (Range u) = (u ≡ s) × (any_out D ≡ true)
IsCauseAt s D NoMemory = ⊤
IsCauseAt s D r = ⊥

abbrev pub GivesAll : Result (Vec Sens Global) RowFault → Span → Sensitivities → Type 0
GivesAll (Ok v) s D = IsGiven v.items D
GivesAll (Err r) s D = IsCauseAt s D r

-- d, or it is out of range at the term s
abbrev pub GivesOne : Result Sens RowFault → Span → Distance → Type 0
GivesOne (Ok k) s d = (is_out d ≡ false) × (distance_of k ≈ d)
GivesOne (Err r) s d = (r ≡ Range s) × (is_out d ≡ true)

abbrev pub fault_at : Span → EnvFault → RowFault
fault_at s OutOfRange = Range s
fault_at s Wanting = NoMemory
