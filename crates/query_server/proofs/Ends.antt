-- what stops a command, and what it ends with
use Rattle.std.proofs.Common.{◌≡◌, ℕ, ◌<◌, List, [], ◌++◌, length, Option, Some, None, refl, sym, ap, subst, ◌∙◌, arith, string_bytes, length-append, append-nil}
use Rattle.std.specs.Prelude.{Ok, Err, IsErrAnd}
use Rattle.std.specs.Io.KnownBytes.{prepend_known, IsAtEnd}
use mathlib.Core.Logic.{inl, inr}
use Rattle.query_server.specs.Work.{Work, ended}
use Rattle.catalog_loading.specs.Files.{Contents}
use Rattle.catalog_loading.specs.Steps.{StepOutcome, FileStep}
use Rattle.owner_books.specs.Shelves.{Shelf}
use Rattle.query_server.specs.Run.{script_limit}
use Rattle.query_server.specs.Due.{AreRead, ForContents, IsDue, IsLeftToRead}
use Rattle.query_server.specs.Status.{refused_text}
use Rattle.catalog_loading.specs.Given.{IsStopAt}
use Rattle.query_server.specs.Ends.{Ended, IsEndOf, IsStepEnd, status_at, stop_status}
use Rattle.query_server.specs.Taken.{IsTaken}
use Rattle.query_server.specs.declared.end.Status.TheVariants as code
use Rattle.catalog_loading.specs.declared.stops.Stop.{Stop}
use Rattle.catalog_loading.specs.declared.stops.Stop.TheVariants.{Usage, Refused, Fault, NoMemory}
use Rattle.query_server.proofs.Disks.{may_stop_same}
use Rattle.catalog_loading.proofs.Reached.{IsDone, IsStopped, any_reads}
use Rattle.query_server.proofs.Contents.{any_left}

-- What stops a command is due, and its files were read. No disk was taken.
pub stop_end : (o : StepOutcome Work) (old new : List (List ℕ)) (shelf : Shelf) (script : List ℕ) (stop : Stop) → IsStopAt o old new stop
    → IsEndOf (ended o.given) shelf shelf script (Err stop) × AreRead (stop_status stop) o.names old new
stop_end o old new shelf script (Refused name) (given, read) = (
  inl (subst (λ (e : Work). IsDue e shelf shelf script code.Refused (refused_text (string_bytes name))) (sym (ap ended given)) (refl, refl, λ n. refl)),
  record { names = o.names; is = read; some = ([], sym (append-nil o.names)); all = inr (inr (inr refl)) },
)
stop_end o old new shelf script Fault (some, more, is, both) =
    (inr (inl refl, may_stop_same (ended o.given) shelf), record { names = some; is = is; some = (more, both); all = inl refl })
stop_end o old new shelf script NoMemory (some, more, is, both) =
    (inr (inr (inl refl), may_stop_same (ended o.given) shelf), record { names = some; is = is; some = (more, both); all = inr (inl refl) })
stop_end o old new shelf script stop is = absurd is

pub stopped_end : (held : Option Contents) (left : Option (List ℕ)) (old new : List (List ℕ)) (shelf : Shelf) (steps : FileStep Work) (stop : Stop) → IsStopped held old new steps stop
    → ForContents held left (IsStepEnd old new shelf shelf steps (Err stop))
stopped_end held left old new shelf steps stop is =
    let some = any_reads held in
    let one = is some.0 some.1 in
    let script = any_left left in
    (one.0, script.0, one.1, script.1, stop_end (steps one.0) old new shelf script.0 stop one.2)

-- a stop that is passed on
pub end_passed : (stop : Stop) (result : Ended) → IsErrAnd result (λ e. e ≡ stop) → result ≡ Err stop
end_passed stop (Ok end) wrong = absurd wrong
end_passed stop (Err other) same = ap Err same

pub passed_end : (held : Option Contents) (left : Option (List ℕ)) (old new : List (List ℕ)) (shelf : Shelf) (steps : FileStep Work) (stop : Stop) (result : Ended) → IsStopped held old new steps stop
    → IsErrAnd result (λ e. e ≡ stop) → ForContents held left (IsStepEnd old new shelf shelf steps result)
passed_end held left old new shelf steps stop result is passed =
    subst (λ (end : Ended). ForContents held left (IsStepEnd old new shelf shelf steps end)) (sym (end_passed stop result passed)) (stopped_end held left old new shelf steps stop is)

-- What ends the work that the steps gave ends the command.
pub done_end : (held : Option Contents) (left : Option (List ℕ)) (old new : List (List ℕ)) (before after : Shelf) (steps : FileStep Work) (ending : Work) (script : List ℕ) (end : Ended)
    → IsDone held old new steps ending → IsLeftToRead left script → IsEndOf ending before after script end → ForContents held left (IsStepEnd old new before after steps end)
done_end held left old new before after steps ending script end is told due =
    let some = any_reads held in
    let one = is some.0 some.1 in (
      one.0,
      script,
      one.1,
      told,
      (
        subst (λ (e : Work). IsEndOf e before after script end) (sym (ap ended one.2.given)) due,
        record { names = (steps one.0).names; is = one.2.names; some = ([], sym (append-nil (steps one.0).names)); all = inr (inr (inr refl)) },
      ),
    )

-- Work that fails is no end of its own.
pub failed_end : (held : Option Contents) (left : Option (List ℕ)) (old new : List (List ℕ)) (before after : Shelf) (steps : FileStep Work) (ending : Work) (end : Ended) → IsDone held old new steps ending
    → ((script : List ℕ) → IsEndOf ending before after script end) → ForContents held left (IsStepEnd old new before after steps end)
failed_end held left old new before after steps ending end is due = let script = any_left left in done_end held left old new before after steps ending script.0 end is script.1 (due script.0)

pub prepend_nothing : (left : Option (List ℕ)) → left ≡ prepend_known [] left
prepend_nothing None = refl
prepend_nothing (Some bytes) = refl

-- where nothing is taken of the source
pub took_nothing : (left : Option (List ℕ)) (stop : Stop) → IsTaken left left (stop_status stop)
took_nothing left Usage = record { taken = []; is = prepend_nothing left; few = omega arith; refused = λ same. refl; unopened = λ same. refl; too_long = λ same. cc; done = λ same. cc }
took_nothing left stop = record { taken = []; is = prepend_nothing left; few = omega arith; refused = λ same. refl; unopened = λ same. refl; too_long = λ same. cc; done = λ same. cc }

pub took_passed : (left : Option (List ℕ)) (stop : Stop) (result : Ended) → IsErrAnd result (λ e. e ≡ stop) → IsTaken left left (status_at result)
took_passed left stop (Ok end) wrong = absurd wrong
took_passed left stop (Err other) same = took_nothing left other

-- a source that was read to its end held what was read
pub left_at_end : (before after : Option (List ℕ)) (script : List ℕ) → before ≡ prepend_known script after → IsAtEnd after → IsLeftToRead before script
left_at_end before None script is end = subst (λ (left : Option (List ℕ)). IsLeftToRead left script) (sym is) tt
left_at_end before (Some rest) script is end = subst (λ (left : Option (List ℕ)). IsLeftToRead left script) (sym is) (sym (ap (λ xs. script ++ xs) end ∙ append-nil script))

-- a source of which too much was read held too much
pub left_too_long : (before after : Option (List ℕ)) (taken : List ℕ) → before ≡ prepend_known taken after → script_limit < length taken
    → (script : List ℕ) × IsLeftToRead before script × (script_limit < length script)
left_too_long before None taken is long = (taken, subst (λ (left : Option (List ℕ)). IsLeftToRead left taken) (sym is) tt, long)
left_too_long before (Some rest) taken is long =
    (taken ++ rest, subst (λ (left : Option (List ℕ)). IsLeftToRead left (taken ++ rest)) (sym is) refl, omega (arith, long, length-append taken rest))
