-- how `derive` and `judge` end
use Rattle.std.proofs.Common.{◌≡◌, ℕ, List, [], ◌++◌, Option, refl, sym, ◌∙◌, ap, subst, append-nil}
use Rattle.std.specs.Prelude.{Result, Ok, Err, IsErrOf}
use mathlib.Core.Logic.{inl, inr}
use Rattle.catalog_loading.specs.Files.{Contents, ReadsToCome}
use Rattle.catalog_loading.specs.Steps.{FileStep, ◌>>=◌, continued, done}
use Rattle.catalog_loading.specs.Given.{IsStopAt}
use Rattle.catalog_loading.specs.declared.stops.Stop.{Stop}
use Rattle.catalog_loading.specs.declared.stops.Stop.TheVariants.{Refused, Fault, NoMemory}
use Rattle.derivation_commands.specs.Task.{Task}
use Rattle.derivation_commands.specs.Outcome.{IsOutcomeOf}
use Rattle.derivation_commands.specs.Held.{outcome_of}
use Rattle.derivation_commands.specs.Ends.{EndsSo}
use Rattle.derivation_commands.specs.declared.ending.Ending.{Ending}
use Rattle.derivation_commands.specs.declared.ending.Ending.TheVariants.{Refused as RefusedOne, TooLong, Written}
use Rattle.owner_books.specs.Shelves.{Shelf}
use Rattle.query_server.specs.Work.{Work, ended, of_derivation}
use Rattle.query_server.specs.Derivation.{IsOutcomeDue, task_steps}
use Rattle.query_server.specs.Due.{ForContents, IsDue}
use Rattle.query_server.specs.Ends.{Ended, IsStepEnd, end_status, end_text}
use Rattle.query_server.specs.Ended.{end_as, ended_as}
use Rattle.query_server.proofs.Contents.{any_left}
use Rattle.query_server.proofs.Ends.{stop_end}

-- the work of a task is given where the task is
worked : (steps : FileStep Task) (reads : ReadsToCome) (task : Task) → (steps reads).given ≡ Ok task
    → (ended (task_steps steps reads).given ≡ of_derivation task) × ((task_steps steps reads).names ≡ (steps reads).names)
unfolding ◌>>=◌
worked steps reads task is = (
  ap (λ given. ended (continued given (steps reads).names (steps reads).rest (λ (t : Task). done (of_derivation t))).given) is,
  ap (λ given. (continued given (steps reads).names (steps reads).rest (λ (t : Task). done (of_derivation t))).names) is ∙ append-nil (steps reads).names,
)

-- and what stops the one stops the other
stopped_work : (given : Result Task (List ℕ)) (names : List (List ℕ)) (rest : ReadsToCome) (old new : List (List ℕ)) (stop : Stop)
    → IsStopAt (record { given = given; names = names; rest = rest }) old new stop
    → IsStopAt (continued given names rest (λ (t : Task). done (of_derivation t))) old new stop
stopped_work (Ok task) names rest old new (Refused name) (wrong, read) = cc wrong
stopped_work (Err other) names rest old new (Refused name) (is, read) = (let same : other ≡ _ = cc is in ap Err same, read)
stopped_work (Ok task) names rest old new Fault (some, more, is, both) = (some, more, is, append-nil names ∙ both)
stopped_work (Ok task) names rest old new NoMemory (some, more, is, both) = (some, more, is, append-nil names ∙ both)
stopped_work (Err other) names rest old new Fault is = is
stopped_work (Err other) names rest old new NoMemory is = is
stopped_work given names rest old new stop is = absurd is

outcome_due : (task : Task) (ending : Ending) → IsOutcomeOf task (outcome_of ending) → IsOutcomeDue task (end_status (end_as ending)) (end_text (end_as ending))
outcome_due task (Written text) of = (outcome_of (Written text), of, refl, refl)
outcome_due task (RefusedOne line) of = (outcome_of (RefusedOne line), of, refl, refl)
outcome_due task TooLong of = (outcome_of TooLong, of, refl, refl)

given_end : (held : Option Contents) (left : Option (List ℕ)) (old new : List (List ℕ)) (shelf : Shelf) (steps : FileStep Task) (given : Result Ending Stop)
    → EndsSo held old new steps given → ForContents held left (IsStepEnd old new shelf shelf (task_steps steps) (ended_as given))
unfolding ◌>>=◌
given_end held left old new shelf steps (Ok ending) (reads, told, (task, is, read, due)) =
    let script = any_left left in
    let work = worked steps reads task is in (
      reads,
      script.0,
      told,
      script.1,
      (
        inl (subst (λ (w : Work). IsDue w shelf shelf script.0 (end_status (end_as ending)) (end_text (end_as ending))) (sym work.0) (outcome_due task ending due)),
        record {
          names = (task_steps steps reads).names;
          is = read ∙ ap (λ ns. old ++ ns) (sym work.1);
          some = ([], sym (append-nil (task_steps steps reads).names));
          all = inr (inr (inr refl));
        },
      ),
    )
given_end held left old new shelf steps (Err stop) (reads, told, is) =
    let script = any_left left in (
      reads,
      script.0,
      told,
      script.1,
      stop_end (task_steps steps reads) old new shelf script.0 stop (stopped_work (steps reads).given (steps reads).names (steps reads).rest old new stop is),
    )

pub derived_end : (held : Option Contents) (left : Option (List ℕ)) (old new : List (List ℕ)) (shelf : Shelf) (steps : FileStep Task) (given : Result Ending Stop) (end : Ended)
    → end ≡ ended_as given → EndsSo held old new steps given → ForContents held left (IsStepEnd old new shelf shelf (task_steps steps) end)
derived_end held left old new shelf steps given end same is =
    subst (λ (e : Ended). ForContents held left (IsStepEnd old new shelf shelf (task_steps steps) e)) (sym same) (given_end held left old new shelf steps given is)

-- a fault that is passed on
fault_of : (given : Result Ending Stop) → ended_as given ≡ Err Fault → IsErrOf given Fault
fault_of (Ok ending) is = cc is
fault_of (Err stop) is = let same : stop ≡ Fault = cc is in ap Err same

pub derived_fault : (given : Result Ending Stop) (end : Ended) → end ≡ ended_as given → end ≡ Err Fault → IsErrOf given Fault
derived_fault given end same is = fault_of given (sym same ∙ is)
