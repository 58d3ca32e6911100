-- What a program comes to over tables: it is refused, takes too many walks, or is accepted with a sensitivity.
use Rattle.std.specs.Prelude.{◌≡◌, ℕ, ℤ, List, Option, Some, None}
use Rattle.fz_frac.specs.Distance.{Distance}
use Rattle.fz_frac.specs.Lowest.{lowest}
use Rattle.fz_ast.specs.Signature.{Signature}
use Rattle.fz_ast.specs.Terms.{Term}
use Rattle.linear_types.specs.Program.{Acceptance, Accepted, Faulty, sensitivity_of}
use Rattle.linear_types.specs.Sensitivities.{Sensitivities}
use Rattle.linear_types.specs.Inferred.{Fault, Unbound, Mismatch, NotGround, NotFlat, TooSensitive, Range, Unbounded, NotNum}
use Rattle.metric_values.specs.Tables.{Dataset, rows_of}
use Rattle.metric_values.specs.Values.{NumV}
use Rattle.metric_law.specs.Means.{Means}
use Rattle.shape_law.specs.Walk.{WalkOutcome, Shaped, Stops, TooManyWalks, ShapeFault, TooDeep, TooLong, TooWide, shape}
use Rattle.wire_lines.specs.Refusal.{ProgramRefusal, no_token, no_term, too_nested, ill_typed, too_sensitive, out_of_range, unbounded, no_number}
use Rattle.wire_lines.specs.Refusal.{too_deep, too_long, too_wide}
use Rattle.wire_lines.specs.declared.refusal.TypeFault.TheVariants.{Unbound as unbound, Mismatch as mismatch, NotGround as notground, NotFlat as notflat}
use Rattle.answer_path.specs.Reading.{Reading, unlexed, stuck, nested, read, IsReading}

pub data Admission : Type 0 where
  refused_for : ProgramRefusal → Admission
  -- it passes no limit, and its bags take too many walks
  walks_too_much : Admission
  -- the term, and its sensitivity in lowest terms
  accepted : Term → Distance → Admission

-- 20 to 22: why some bytes are no term
abbrev pub unread_for : Reading → Option ProgramRefusal
unread_for (unlexed place) = Some (no_token place)
unread_for (stuck token) = Some (no_term token)
unread_for (nested depth) = Some (too_nested depth)
unread_for (read e) = None

-- 30 to 34
abbrev pub fault_refusal : Fault → ProgramRefusal
fault_refusal (Unbound s) = ill_typed unbound s.from s.to
fault_refusal (Mismatch s found wanted) = ill_typed mismatch s.from s.to
fault_refusal (NotGround s) = ill_typed notground s.from s.to
fault_refusal (NotFlat s) = ill_typed notflat s.from s.to
fault_refusal (TooSensitive s x r) = too_sensitive s.from s.to (lowest r)
fault_refusal (Range s) = out_of_range s.from s.to
fault_refusal (Unbounded table) = unbounded table
fault_refusal (NotNum found) = no_number

-- 35 to 37
abbrev pub shape_refusal : ShapeFault → ProgramRefusal
shape_refusal (TooDeep s) = too_deep s.from s.to
shape_refusal (TooLong s) = too_long s.from s.to
shape_refusal (TooWide s width) = too_wide s.from s.to width

-- A term that the typing rules accept is run without data: it is accepted where that passes no limit and doesn't take too many walks.
abbrev pub shaped_by : Term → Distance → WalkOutcome → Admission
shaped_by e r (Shaped s k) = accepted e r
shaped_by e r (Stops fault) = refused_for (shape_refusal fault)
shaped_by e r TooManyWalks = walks_too_much

-- the typing rules accept the term, it passes no limit, and the functions of one of its bags take too many walks for a row
abbrev pub TakesTooManyWalks : Signature → Term → Type 0
TakesTooManyWalks ts e = (D : Sensitivities) × (r : Distance) × (sensitivity_of ts e ≡ Accepted D r) × (shape ts e ≡ TooManyWalks)

abbrev pub admitted_by : Signature → Term → Acceptance → Admission
admitted_by ts e (Accepted D r) = shaped_by e (lowest r) (shape ts e)
admitted_by ts e (Faulty fault) = refused_for (fault_refusal fault)

-- What a program comes to: first by its reading, then by the typing rules, and then by its run without data.
unfoldable pub admission_of : Signature → Reading → Admission
admission_of ts (unlexed place) = refused_for (no_token place)
admission_of ts (stuck token) = refused_for (no_term token)
admission_of ts (nested depth) = refused_for (too_nested depth)
admission_of ts (read e) = admitted_by ts e (sensitivity_of ts e)

-- the program's value on some rows of the tables
unfoldable pub HasValue : Signature → Dataset → List ℕ → ℤ → Type 0
HasValue ts X program z = (e : Term) × IsReading program (read e) × Means (rows_of ts X) e (NumV z)

-- the program takes too many walks over the tables
abbrev pub HasTooManyWalks : Signature → List ℕ → Type 0
HasTooManyWalks ts program = (e : Term) × IsReading program (read e) × TakesTooManyWalks ts e
