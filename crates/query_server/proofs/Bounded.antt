-- the values of an accepted program are near each other
use Rattle.std.proofs.Common.{◌≡◌, ℕ, List, refl}
use Rattle.std.specs.Prelude.{ℤ}
use Rattle.fz_frac.specs.Distance.{Distance, Fin, mul, ◌⊑◌}
use Rattle.fz_ast.specs.Signature.{Signature, IsSignature}
use Rattle.fz_ast.specs.Terms.{Term}
use Rattle.metric_values.specs.Distances.{gap as difference}
use Rattle.metric_values.specs.Tables.{Dataset, IsDataset, apart}
use Rattle.generated_run.specs.AnswerPath.Reading.{Reading, unlexed, stuck, nested, read, IsReading}
use Rattle.generated_run.specs.AnswerPath.Admission.{HasValue, Admission, refused_for, walks_too_much, accepted, admission_of}
use Rattle.generated_run.proofs.AnswerPath.Programs.{accepted_are_bounded}
use Rattle.query_server.specs.Gap.{GapsAreBounded, IsGapBy, gap_text}
use Rattle.query_server.specs.declared.end.Status.TheVariants.{Done}

near : (tables : Signature) → IsSignature tables → (X Y : Dataset) (program : List ℕ) (reading : Reading) (e : Term) (r : Distance) (y z : ℤ) → IsDataset tables X → IsDataset tables Y → IsReading program reading
    → admission_of tables reading ≡ accepted e r → HasValue tables X program y → HasValue tables Y program z → Fin (difference y z) 1 ⊑ mul r (Fin (apart X Y) 1)
unfolding admission_of
near tables signed X Y program (unlexed place) e r y z x x' reads is v w = cc
near tables signed X Y program (stuck token) e r y z x x' reads is v w = cc
near tables signed X Y program (nested depth) e r y z x x' reads is v w = cc
near tables signed X Y program (read t) e r y z x x' reads is v w = accepted_are_bounded tables program t e r signed reads is X Y x x' y z v w

found : (tables : Signature) → IsSignature tables → (X Y : Dataset) (program text : List ℕ) (reading : Reading) (admission : Admission) → IsDataset tables X → IsDataset tables Y → IsReading program reading
    → admission_of tables reading ≡ admission → IsGapBy admission tables X Y program Done text
    → (r : Distance) × (y : ℤ) × (z : ℤ) × (text ≡ gap_text (apart X Y) r y z) × (Fin (difference y z) 1 ⊑ mul r (Fin (apart X Y) 1))
found tables signed X Y program text reading (refused_for refusal) x x' reads is (wrong, same) = cc
found tables signed X Y program text reading walks_too_much x x' reads is due = absurd due
found tables signed X Y program text reading (accepted e r) x x' reads is (y, z, v, w, done, same) = (r, y, z, same, near tables signed X Y program reading e r y z x x' reads is v w)

pub gaps_bounded : GapsAreBounded
gaps_bounded tables X Y program text signed x x' due = found tables signed X Y program text due.reading (admission_of tables due.reading) x x' due.reads refl due.due
