-- What the checker answers, in the words of the typing rules.
use Rattle.std.specs.Prelude.{◌≡◌, ℤ, ◌<◌, length, slice_get, Some, [], ⊤}
use Rattle.fz_frac.specs.Distance.{Distance, Fin, mul, ◌⊑◌, ◌≈◌}
use Rattle.fz_frac.specs.Lowest.{lowest}
use Rattle.fz_frac.specs.Sens.{distance_of}
use Rattle.fz_frac.specs.declared.sens.Sens.{Sens}
use Rattle.fz_ast.specs.Names.{name_of}
use Rattle.fz_ast.specs.Signature.{Signature, TableType}
use Rattle.fz_ast.specs.Limits.{IsNumber, TermLimits}
use Rattle.fz_ast.specs.Terms.{Name, Term}
use Rattle.fz_ast.specs.TypeNodes.{type_at}
use Rattle.fz_ast.specs.Types.{Ty}
use Rattle.linear_types.specs.Environment.{amount_of}
use Rattle.linear_types.specs.Program.{Accepted, Faulty, sensitivity_of, sensitivity_to}
use Rattle.linear_types.specs.Sensitivities.{Sensitivities}
use Rattle.linear_types.specs.Inferred.{Fault, Inferred}
use Rattle.linear_types.specs.Inferred as rules
use Rattle.metric_values.specs.Distances.{gap}
use Rattle.metric_values.specs.Tables.{Dataset, IsDataset, apart, rows_of}
use Rattle.metric_values.specs.Values.{NumV}
use Rattle.metric_law.specs.Means.{Means}
use Rattle.row_functions.specs.RowFunctions.{IsRowFunction, function_rule}
use Rattle.typing_rows.specs.Says.{IsWanted}
use Rattle.sensitivity_check.specs.declared.checker.Checked.{Checked}
use Rattle.sensitivity_check.specs.declared.function.CheckedFun.{CheckedFun}
use Rattle.sensitivity_check.specs.declared.fault.CheckFault.{CheckFault}
use Rattle.sensitivity_check.specs.declared.fault.CheckFault.TheVariants.{Unbound, Mismatch, NotGround, NotFlat, TooSensitive}
use Rattle.sensitivity_check.specs.declared.fault.CheckFault.TheVariants.{Range, Unbounded, NotNum, NoMemory}

-- the code's fault is this one of the rules, with all its data
abbrev pub IsCheckFault : Signature → CheckFault → Fault → Type 0
IsCheckFault ts (Unbound s) f = f ≡ rules.Unbound s
IsCheckFault ts (Mismatch s T t w) f = (wanted : rules.Wanted) × (t < length T) × IsWanted T w wanted × (f ≡ rules.Mismatch s (type_at T t) wanted)
IsCheckFault ts (NotGround s) f = f ≡ rules.NotGround s
IsCheckFault ts (NotFlat s) f = f ≡ rules.NotFlat s
IsCheckFault ts (TooSensitive s x r) f = (d : Distance) × (distance_of r ≡ lowest d) × (f ≡ rules.TooSensitive s (name_of x) d)
IsCheckFault ts (Range s) f = f ≡ rules.Range s
IsCheckFault ts (Unbounded i) f = (table : TableType) × (slice_get ts i ≡ Some table) × (f ≡ rules.Unbounded table.name)
IsCheckFault ts (NotNum T t) f = (t < length T) × (f ≡ rules.NotNum (type_at T t))
IsCheckFault ts NoMemory f = ⊥

-- a term of which this is inferred has this fault, unless memory ran out
abbrev pub IsFaultIn : Signature → Inferred → CheckFault → Type 0
IsFaultIn ts v NoMemory = ⊤
IsFaultIn ts v fault = (f : Fault) × (v ≡ rules.Untyped f) × IsCheckFault ts fault f

-- the program's first fault is this one, unless memory ran out
abbrev pub IsFirstFault : Signature → Term → CheckFault → Type 0
IsFirstFault ts e NoMemory = ⊤
IsFirstFault ts e fault = (f : Fault) × (sensitivity_of ts e ≡ Faulty f) × IsCheckFault ts fault f

-- the first fault of a term that is wanted to be a function of rows is this one, unless memory ran out; no table has a name there
abbrev pub IsFirstFunctionFault : Ty → Term → CheckFault → Type 0
IsFirstFunctionFault row t fault = IsFaultIn [] (function_rule row t) fault

-- the term is a function of rows of this type
pub record IsCheckedFun (row : Ty) (t : Term) (checked : CheckedFun) : Type 0 where
  pub term : checked.term.now ≡ t
  pub function : IsRowFunction row t
  pub limits : TermLimits t

-- the program is accepted over this signature, and these are its greatest sensitivity over the tables and the one for each name
pub record IsChecked (ts : Signature) (e : Term) (checked : Checked) : Type 0 where
  pub sig : checked.sig.now ≡ ts
  pub term : checked.term.now ≡ e
  pub D : Sensitivities
  pub r : Distance
  pub accepted : sensitivity_of ts e ≡ Accepted D r
  pub sens : distance_of checked.sens ≡ lowest r
  pub env : (x : Name) → amount_of checked.env x ≈ sensitivity_to ts D x

-- The program has a number on each dataset of the signature, and its numbers on two differ by at most r times how far the
-- datasets are apart.
pub record HasBound (ts : Signature) (e : Term) (r : Sens) : Type 0 where
  pub value : (X : Dataset) → IsDataset ts X → (z : ℤ) × Means (rows_of ts X) e (NumV z) × IsNumber z
  pub bound : (X Y : Dataset) → IsDataset ts X → IsDataset ts Y → (y z : ℤ)
      → Means (rows_of ts X) e (NumV y) → Means (rows_of ts Y) e (NumV z)
      → Fin (gap y z) 1 ⊑ mul (distance_of r) (Fin (apart X Y) 1)
