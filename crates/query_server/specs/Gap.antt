-- `gap`: a program's values on two datasets are compared.
use Rattle.std.specs.Prelude.{◌≡◌, ◌⊎◌, true, false, ℕ, ℤ, List, ◌++◌, Some, codes, decimal}
use Rattle.std.specs.Fmt.{signed_decimal}
use Rattle.fz_ast.specs.Signature.{Signature, IsSignature}
use Rattle.fz_frac.specs.Distance.{Distance, Fin, mul, ◌⊑◌}
use Rattle.metric_values.specs.Distances.{gap as difference}
use Rattle.metric_values.specs.Tables.{Dataset, IsDataset, apart}
use Rattle.wire_lines.specs.Refusal.{by_program}
use Rattle.wire_lines.specs.Reply.{refused as refused_reply, sensitivity_text, reply_text}
use Rattle.generated_run.specs.AnswerPath.Reading.{Reading, IsReading}
use Rattle.generated_run.specs.AnswerPath.Admission.{HasTooManyWalks, Admission, HasValue, refused_for, walks_too_much, accepted, admission_of}
use Rattle.owner_catalog.specs.Entries.{Catalog, OwnerEntry}
use Rattle.outside_bays.specs.Bays.{Same}
use Rattle.catalog_loading.specs.Steps.{FileStep, ◌>>=◌, done, file_read, from}
use Rattle.catalog_loading.specs.Loaded.{catalog_read, entry_named, owner_loaded}
use Rattle.catalog_loading.specs.Fit.{fitting}
use Rattle.query_server.specs.Work.{Work, to_compare}
use Rattle.query_server.specs.Duty.{Duty, Kind}
use Rattle.query_server.specs.declared.end.Status.{Status}
use Rattle.query_server.specs.declared.end.Status.TheVariants.{Done, ProgramRefused}

-- CATALOG, then OWNER in it, then CATALOG2, then OWNER in it with the same tables, then the tables of all owners of CATALOG, then
-- those of CATALOG2, then FILE
abbrev pub gap_steps : (catalog owner second_catalog file : List ℕ) → FileStep Work
gap_steps catalog owner second_catalog file = do
  house ← catalog_read catalog
  entry ← from (entry_named house owner)
  second_house ← catalog_read second_catalog
  second_entry ← from (fitting entry second_house owner)
  holding ← owner_loaded house owner
  second_holding ← owner_loaded second_house owner
  program ← file_read file
  done (to_compare holding.tables holding.rows second_holding.rows program)

abbrev pub gap_kind : (catalog owner second_catalog file : List ℕ) → Kind
gap_kind catalog owner second_catalog file = record {
  steps = gap_steps catalog owner second_catalog file;
  source = false;
  disks = false;
  doors = false;
  program = true;
}

-- the work that is left where the owner is found in both catalogs
abbrev pub loading_steps : (house second_house : Catalog) → (owner file : List ℕ) → FileStep Work
loading_steps house second_house owner file = do
  holding ← owner_loaded house owner
  second_holding ← owner_loaded second_house owner
  program ← file_read file
  done (to_compare holding.tables holding.rows second_holding.rows program)

-- and where it is found in the first one
abbrev pub second_steps : (house : Catalog) → OwnerEntry → (owner second_catalog file : List ℕ) → FileStep Work
second_steps house entry owner second_catalog file = do
  second_house ← catalog_read second_catalog
  second_entry ← from (fitting entry second_house owner)
  loading_steps house second_house owner file

-- the four lines of an accepted program: how far the datasets are apart, its sensitivity, its values, and their difference
abbrev pub gap_text : (distance : ℕ) → Distance → (first second : ℤ) → List ℕ
gap_text distance r first second =
    codes "distance " ++ decimal distance
    ++ codes "\nsensitivity " ++ sensitivity_text r
    ++ codes "\nvalues " ++ signed_decimal first ++ codes " " ++ signed_decimal second
    ++ codes "\ngap " ++ decimal (difference first second) ++ codes "\n"

-- what an admission of the program comes to on two datasets of these tables
abbrev pub IsGapBy : Admission → (tables : Signature) → (X Y : Dataset) → (program : List ℕ) → (status : Status) → (text : List ℕ) → Type 0
IsGapBy (refused_for refusal) tables X Y program status text =
    (status ≡ ProgramRefused) × (text ≡ reply_text (refused_reply (by_program refusal)))
IsGapBy walks_too_much tables X Y program status text = ⊥
IsGapBy (accepted e r) tables X Y program status text =
    (y : ℤ) × (z : ℤ) × HasValue tables X program y × HasValue tables Y program z
    × (status ≡ Done) × (text ≡ gap_text (apart X Y) r y z)

-- What is due to a program on two datasets: its bytes have a reading, and by the typing rules, the run without data and its
-- values on both that comes to this status and this text. To a program that takes too many walks nothing is due, as in a `check`.
pub record IsGapDue (tables : Signature) (X Y : Dataset) (program : List ℕ) (status : Status) (text : List ℕ) : Type 0 where
  pub reading : Reading
  pub reads : IsReading program reading
  pub due : IsGapBy (admission_of tables reading) tables X Y program status text
  pub walks : HasTooManyWalks tables program → ⊥

abbrev pub gap_duty : (tables : Signature) (X Y : Dataset) (program : List ℕ) → Duty
gap_duty tables X Y program = record {
  due = λ old new script. IsGapDue tables X Y program;
  may_stop = Same;
  names_disk = λ old new text. ⊥;
  statuses = λ status. (status ≡ Done) ⊎ (status ≡ ProgramRefused);
  admits = Some (tables, program);
}

-- The values of an accepted program differ by at most its sensitivity times how far the datasets are apart.
abbrev pub GapsAreBounded : Type 0
GapsAreBounded =
    (tables : Signature) (X Y : Dataset) (program text : List ℕ) → IsSignature tables → IsDataset tables X → IsDataset tables Y
    → IsGapDue tables X Y program Done text
    → (r : Distance) × (y : ℤ) × (z : ℤ) × (text ≡ gap_text (apart X Y) r y z) × (Fin (difference y z) 1 ⊑ mul r (Fin (apart X Y) 1))
