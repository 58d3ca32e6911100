use Rattle.std.proofs.Common.{ap, refl}
use Rattle.std.specs.Prelude.{Err}
use Rattle.catalog_loading.proofs.FileReads.{file_given, file_refused, none_to_read, read_of, refused_no_fault}
use Rattle.catalog_loading.proofs.reading.read_file.Goals as goal

pub returns-in-Bytes-clause-step : goal.returns-in-Bytes-clause-step
returns-in-Bytes-clause-step g c = file_given _ _ _ _ _ _ c.in_ok-bytes.ensures.found c.in_ok-bytes.ensures.bound (ap read_of c.in-Bytes.is) c.in_ok-bytes.ensures.named

pub returns-in-Absent : goal.returns-in-Absent
returns-in-Absent g c =
    record {
      step = file_refused _ _ _ _ _ _ c.in_ok-bytes.ensures.found c.in_ok-bytes.ensures.bound (none_to_read c.in_ok-bytes.field-0 c.in-Absent.is) c.in_ok-bytes.ensures.named c.refuse.ensures;
      same = c.in_ok-bytes.ensures.same;
      cause = record { later = c.in_ok-bytes.ensures.cause.later; failed = λ fault. absurd (refused_no_fault c.args.name.now c.refuse.result (Err c.refuse.result) c.refuse.ensures refl fault) };
      passed = tt;
    }
