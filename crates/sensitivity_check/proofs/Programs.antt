-- A whole program's answer from its type and sensitivities, or from its fault.
use Rattle.std.proofs.Common.{◌≡◌, ℕ, ◌<◌, refl, sym, ap, ◌∙◌, List, [], length, get_or}
use Rattle.std.specs.Prelude.{Ok, Some, slice_get, ◌≢◌}
use Rattle.std.proofs.lemmas.Option.{slice_get-get_or}
use Rattle.fz_frac.proofs.Laws.{⊑-refl, ◌⊗◌, ◌⨾◌}
use Rattle.fz_frac.proofs.Lowest.{sens_lowest}
use Rattle.fz_frac.specs.Distance.{Inf, ◌≈◌}
use Rattle.fz_frac.specs.Sens.{distance_of}
use Rattle.fz_frac.specs.declared.sens.Sens.{Sens}
use Rattle.fz_ast.specs.Limits.{TermLimits}
use Rattle.fz_ast.specs.Signature.{IsSignature, Signature, TableType}
use Rattle.fz_ast.specs.Terms.{Name, Term}
use Rattle.fz_ast.specs.TypeNodes.{type_at, type_of}
use Rattle.fz_ast.specs.Types.{NumT, Ty}
use Rattle.fz_ast.specs.declared.types.TypeForm.{TypeForm}
use Rattle.fz_ast.specs.declared.types.TypeForm.TheVariants.{Num as NumF, Text as TextF, Unit as UnitF, Tensor as TensorF, With as WithF, Sum as SumF, Arrow as ArrowF, Bang as BangF, Bag as BagF}
use Rattle.linear_types.proofs.Answered.{accepted_exactly, faults_are_kept, not_num_exactly, unbounded_exactly}
use Rattle.linear_types.specs.Environment.{amount_of}
use Rattle.linear_types.specs.Laws.{FiniteBelow, sensitivity_at}
use Rattle.linear_types.specs.Places.{AreAlike, distances}
use Rattle.linear_types.specs.Program.{Accepted, Faulty, context_of, greatest_of, sensitivity_of, sensitivity_to}
use Rattle.linear_types.specs.Rule.{rule}
use Rattle.linear_types.specs.Sensitivities.{Sensitivities}
use Rattle.linear_types.specs.Inferred.{Fault, Inferred, Has, Untyped}
use Rattle.linear_types.specs.Inferred as rules
use Rattle.metric_law.proofs.Programs.{program_value, program_bound}
use Rattle.sensitivity_check.specs.Answered.{HasBound, IsChecked, IsFaultIn, IsFirstFault}
use Rattle.typing_rows.specs.Says.{IsRowFault, IsFine, IsFaultOf, Says}
use Rattle.sensitivity_check.specs.declared.checker.Checked.{Checked}
use Rattle.typing_rows.specs.declared.clause.Judged.{Judged}
use Rattle.typing_rows.specs.declared.clause.RowFault.{RowFault}
use Rattle.typing_rows.specs.declared.clause.RowFault.TheVariants.{Unbound, Mismatch, NotGround, NotFlat, TooSensitive, Range, NoMemory}
use Rattle.sensitivity_check.specs.declared.fault.CheckFault.{CheckFault}
use Rattle.sensitivity_check.specs.declared.fault.CheckFault.TheVariants.{Unbounded, NotNum}
use Rattle.sensitivity_check.specs.declared.fault.CheckFault.TheVariants.{Unbound as UnboundC, Mismatch as MismatchC, NotGround as NotGroundC, NotFlat as NotFlatC, TooSensitive as TooSensitiveC, Range as RangeC, NoMemory as NoMemoryC}
use Rattle.sensitivity_check.proofs.TableAmounts.{finite_alike, greatest_alike, inf_alike, to_alike}

-- what isn't want of memory is a fault of what is inferred
pub fault_found : (T : List Ty) (r : RowFault) (v : Inferred) → (r ≡ NoMemory → ⊥) → IsFaultOf T r v → (f : Fault) × (v ≡ Untyped f) × IsRowFault T r f
fault_found T NoMemory v n h = absurd (n refl)
fault_found T (Unbound s) (Untyped f) n h = (f, refl, h)
fault_found T (Unbound s) (Has A D) n h = absurd h
fault_found T (Mismatch s t w) (Untyped f) n h = (f, refl, h)
fault_found T (Mismatch s t w) (Has A D) n h = absurd h
fault_found T (NotGround s) (Untyped f) n h = (f, refl, h)
fault_found T (NotGround s) (Has A D) n h = absurd h
fault_found T (NotFlat s) (Untyped f) n h = (f, refl, h)
fault_found T (NotFlat s) (Has A D) n h = absurd h
fault_found T (TooSensitive s x q) (Untyped f) n h = (f, refl, h)
fault_found T (TooSensitive s x q) (Has A D) n h = absurd h
fault_found T (Range s) (Untyped f) n h = (f, refl, h)
fault_found T (Range s) (Has A D) n h = absurd h

-- a term's fault is the program's
pub first_fault : (ts : Signature) (e : Term) (fault : CheckFault) → IsFaultIn ts (rule (context_of ts) e) fault → IsFirstFault ts e fault
first_fault ts e NoMemoryC h = tt
first_fault ts e (UnboundC s) h = (h.0, faults_are_kept ts e h.0 h.1, h.2)
first_fault ts e (MismatchC s T t w) h = (h.0, faults_are_kept ts e h.0 h.1, h.2)
first_fault ts e (NotGroundC s) h = (h.0, faults_are_kept ts e h.0 h.1, h.2)
first_fault ts e (NotFlatC s) h = (h.0, faults_are_kept ts e h.0 h.1, h.2)
first_fault ts e (TooSensitiveC s x r) h = (h.0, faults_are_kept ts e h.0 h.1, h.2)
first_fault ts e (RangeC s) h = (h.0, faults_are_kept ts e h.0 h.1, h.2)
first_fault ts e (Unbounded i) h = (h.0, faults_are_kept ts e h.0 h.1, h.2)
first_fault ts e (NotNum T t) h = (h.0, faults_are_kept ts e h.0 h.1, h.2)

has : (T : List Ty) (o : Judged) (v : Inferred) → Says T (Ok o) v → (A : Ty) × (D : Sensitivities) × (v ≡ Has A D) × IsFine T o A D
has T o (Has A D) h = (A, D, refl, h)
has T o (Untyped f) h = absurd h

no_num : (at : ℕ → Ty) (h : TypeForm) → (h ≡ NumF → ⊥) → type_of at h ≢ NumT
no_num at NumF n = absurd (n refl)
no_num at TextF n = λ e. cc
no_num at UnitF n = λ e. cc
no_num at (TensorF a b) n = λ e. cc
no_num at (WithF a b) n = λ e. cc
no_num at (SumF a b) n = λ e. cc
no_num at (ArrowF a b) n = λ e. cc
no_num at (BangF r a) n = λ e. cc
no_num at (BagF a) n = λ e. cc

nothing : TableType
nothing = record { name = []; row = NumT }

module _ (ts : Signature) (e : Term) (T : List Ty) (o : Judged) (h : Says T (Ok o) (rule (context_of ts) e)) where
  pub unbounded : (i : ℕ) → i < length ts → sensitivity_at (distances o.amounts.items) i ≡ Inf → FiniteBelow (distances o.amounts.items) i → IsFirstFault ts e (Unbounded i)
  unbounded i l q below =
      let k = has T o (rule (context_of ts) e) h in
      let D = k.1 in
      let t : TableType = get_or ts i nothing in
      let s : slice_get ts i ≡ Some t = slice_get-get_or ts i nothing l in
      let inf = inf_alike (distances o.amounts.items) D i k.3.alike q in
      let fin = finite_alike (distances o.amounts.items) D i k.3.alike below in
      (rules.Unbounded t.name, (unbounded_exactly ts e t.name).1 (k.0, D, k.2, (i, t, s, refl, inf, fin)), (t, s, refl))

  pub not_num : (f : TypeForm) → type_at T o.ty ≡ type_of (type_at T) f → (f ≡ NumF → ⊥) → FiniteBelow (distances o.amounts.items) (length ts) → IsFirstFault ts e (NotNum T o.ty)
  not_num f q n below =
      let k = has T o (rule (context_of ts) e) h in
      let D = k.1 in
      let fin = finite_alike (distances o.amounts.items) D (length ts) k.3.alike below in
      let other : k.0 ≢ NumT = λ i. no_num (type_at T) f n (sym q ∙ k.3.is ∙ i) in
      (rules.NotNum (type_at T o.ty), (not_num_exactly ts e (type_at T o.ty)).1 (D, rw k.3.is k.2, fin, rw k.3.is other), (k.3.known, refl))

  pub accepted_as : (r : Sens) → type_at T o.ty ≡ NumT → FiniteBelow (distances o.amounts.items) (length ts) → distance_of r ≡ greatest_of (distances o.amounts.items)
      → (D : Sensitivities) × (sensitivity_of ts e ≡ Accepted D (greatest_of D)) × (distance_of r ≈ greatest_of D) × AreAlike (distances o.amounts.items) D
  accepted_as r q below g =
      let k = has T o (rule (context_of ts) e) h in
      let D = k.1 in
      let fin = finite_alike (distances o.amounts.items) D (length ts) k.3.alike below in
      let num : rule (context_of ts) e ≡ Has NumT D = k.2 ∙ ap (λ A. Has A D) (sym k.3.is ∙ q) in
      (D, (accepted_exactly ts e D (greatest_of D)).1 (num, fin, refl), rw g (greatest_alike (distances o.amounts.items) D k.3.alike), k.3.alike)

  pub checked : (c : Checked) → c.sig.now ≡ ts → c.term.now ≡ e → type_at T o.ty ≡ NumT → FiniteBelow (distances o.amounts.items) (length ts) → distance_of c.sens ≡ greatest_of (distances o.amounts.items)
      → ((x : Name) → amount_of c.env x ≡ sensitivity_to ts (distances o.amounts.items) x) → IsChecked ts e c
  checked c i t q below g m =
      let k = accepted_as c.sens q below g in
      record { sig = i; term = t; D = k.0; r = greatest_of k.0; accepted = k.1; sens = sens_lowest c.sens (greatest_of k.0) k.2; env = λ x. rw (m x) (to_alike ts (distances o.amounts.items) k.0 x k.3) }

  pub bound_holds : (r : Sens) → IsSignature ts → TermLimits e → type_at T o.ty ≡ NumT → FiniteBelow (distances o.amounts.items) (length ts) → distance_of r ≡ greatest_of (distances o.amounts.items) → HasBound ts e r
  bound_holds r s l q below g =
      let k = accepted_as r q below g in
      let d = greatest_of k.0 in
      record {
        value = λ X i. program_value ts e k.0 d s l k.1 X i;
        bound = λ X Y i j y z m n. program_bound ts e k.0 d s l k.1 X Y i j y z m n ⨾ (k.2.ge ⊗ ⊑-refl _);
      }
