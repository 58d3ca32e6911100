-- What the program `size people` comes to over the table of three rows.
use Rattle.std.proofs.Common.{◌≡◌, [], ◌∷◌, refl}
use Rattle.std.specs.Prelude.{ℤ, pos}
use Rattle.fz_frac.specs.Distance.{Fin}
use Rattle.fz_frac.specs.Lowest.{gcd, gcd_in}
use Rattle.shape_law.specs.Walk.{depth_limit}
use Rattle.query_server.specs.AnswerPath.Reading.{read}
use Rattle.query_server.specs.AnswerPath.Admission.{accepted, admission_of, HasValue}
use Rattle.query_server.proofs.AnswerPath.Programs.{one_value}
use Rattle.query_server.proofs.AnswerPath.SizePeople.{size_people, size_term, size_reads}
use Rattle.fz_ast.specs.Signature.{Signature}
use Rattle.metric_values.specs.Tables.{Dataset}
use Rattle.owner_catalog.specs.Catalog.{owner_signature}
use Rattle.worked_row.specs.Held.{census, rows}

abbrev pub tables : Signature
tables = owner_signature census

abbrev pub dataset : Dataset
dataset = rows ∷ []

-- it is accepted at 1, and its run without data is within the limits
pub admission : admission_of tables (read size_term) ≡ accepted size_term (Fin 1 1)
unfolding admission_of gcd gcd_in depth_limit
admission = refl

-- it means how many rows there are ..
is_three : HasValue tables dataset size_people (pos 3)
unfolding HasValue
is_three = (size_term, size_reads, (2, (rows, refl, refl)))

-- .. and nothing else
pub size_is_three : (z : ℤ) → HasValue tables dataset size_people z → z ≡ pos 3
size_is_three z has = one_value tables dataset size_people z (pos 3) has is_three
