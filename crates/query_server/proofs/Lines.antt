-- the laws that follow from the clauses of the top call
use Rattle.std.proofs.Common.{◌≡◌, ℕ, List, ◌++◌, Option, None, Some, refl, sym, ◌∙◌, ap, subst, arith}
use Rattle.std.specs.Io.KnownBytes.{append_known}
use mathlib.Core.Logic.{◌⊎◌, inl, inr}
use Rattle.fz_outside.specs.Faults.{HasRisen}
use Rattle.command_words.specs.Command.{Command, command_of, run}
use Rattle.catalog_loading.specs.Files.{Contents, ReadsToCome, always}
use Rattle.catalog_loading.specs.Loaded.{Loading, owners_in}
use Rattle.query_server.specs.Work.{Work, to_answer, usage}
use Rattle.owner_books.specs.Shelves.{EachDisk, IsOnlySynced, Shelf}
use Rattle.query_server.specs.Outside.{Outside}
use Rattle.query_server.specs.Due.{AreRead, ForContents, IsBeginning, IsFaultyWordsEnd, IsOfRun, IsWrittenAt, MayStop, SomeFailed, files_of, work_of}
use Rattle.query_server.specs.Promise.{IsAnsweredScript, IsRunLeft}
use Rattle.query_server.specs.Service.{IsServiceLeft}
use Rattle.query_server.specs.Laws.{DerivationsAreExact, FaultyWordsAreTold, LinesAreExact, LinesAreHeadlines, LinesAreServices, OneWorkerTranscribes, OutsideStays, ProgramsAreExact, RefusalsAreExact, RunsAreAnswered, StatusesAreOfCommands, VerdictsAreExact, WhatIsLoadedIsLawful}
use Rattle.query_server.specs.declared.end.Status.{Status}
use Rattle.query_server.specs.declared.end.Status.TheVariants as code
use Rattle.word_streams.specs.Draws.{draws_of}
use Rattle.owner_house.specs.House.{house_of}
use Rattle.generated_run.specs.SessionCore.Gathered.{IsGatheredScript}
use Rattle.generated_run.proofs.Scripts.{transcript_of}
use Rattle.query_server.proofs.Doors.{doors_stay, doors_stay_on}
use Rattle.query_server.proofs.Contents.{at_held, at_told, for_contents}
use Rattle.query_server.proofs.Endings.{counted_lawful, house_by, house_served_by, made_lawful, work_by, work_comes}
use Rattle.query_server.proofs.Outcomes.{Comes, comparison_by, derive_of, disks_of, grant_of, finished_due, finished_map, left_by_run, name_by, program_by, program_of, run_of, status_written, task_by, usage_of, verdict_by, walks_by}

pub lines_exact : LinesAreExact
lines_exact words before after status text line held files =
    let comes = Comes words before.files.names after.files.names before.bay.shelf after.bay.shelf status text in
    let some = at_held held before.files.held before.source.left comes files line.1 in (
      some.1.1,
      λ script source. (at_told held script before.files.held before.source.left comes files source line.1).0,
      λ written sink. line.0 ∙ ap (λ known. append_known known text) sink,
    )

pub lines_services : LinesAreServices
lines_services words before after status text line service held files =
    let comes = Comes words before.files.names after.files.names before.bay.shelf after.bay.shelf status text in
    let left : ReadsToCome → List ℕ → Type 0 = λ reads script. IsServiceLeft words reads before.bay.shelf after.bay.shelf before.doors after.doors status before.sink.faults after.sink.faults in
    let some = at_held held before.files.held before.source.left comes files line.1 in
    let served = at_held held before.files.held before.source.left left files service in
    (some.0, some.1.0, some.1.1, served.1)

-- the same, as the clauses of a call say it
pub line_told : (words : List (List ℕ)) (told : Contents) (script written : List ℕ) (held : Option Contents) (left contents now : Option (List ℕ)) (old new : List (List ℕ)) (b a : Shelf) (status : Status) (text : List ℕ)
    → now ≡ append_known contents text → ForContents held left (Comes words old new b a status text) → held ≡ Some told → left ≡ Some script → contents ≡ Some written
    → (now ≡ Some (written ++ text)) × IsWrittenAt (work_of words (always told)) b a script status text
line_told words told script written held left contents now old new b a status text is comes files source sink = (
  is ∙ ap (λ known. append_known known text) sink,
  (at_told told script held left (Comes words old new b a status text) files source comes).0,
)

pub refusals_exact : RefusalsAreExact
refusals_exact words before after status text line held files =
    let comes = Comes words before.files.names after.files.names before.bay.shelf after.bay.shelf status text in
    let some = at_held held before.files.held before.source.left comes files line.1 in
    let work = work_of words (always held) in (
      finished_map status _ _ (λ due. (some.0, due)) (finished_due work before.bay.shelf after.bay.shelf some.0 status text some.1.0),
      λ is. name_by work before.bay.shelf after.bay.shelf some.0 status text is some.1.0,
    )

pub programs_exact : ProgramsAreExact
programs_exact words before after status text line held tables program files =
    let comes = Comes words before.files.names after.files.names before.bay.shelf after.bay.shelf status text in
    let some = at_held held before.files.held before.source.left comes files line.1 in
    let work = work_of words (always held) in (
      λ is. program_by work before.bay.shelf after.bay.shelf tables program some.0 status text is some.1.0,
      λ X Y is. comparison_by work before.bay.shelf after.bay.shelf tables X Y program some.0 status text is some.1.0,
    )

pub verdicts_exact : VerdictsAreExact
verdicts_exact words before after status text line held tables program reading files is reads =
    let comes = Comes words before.files.names after.files.names before.bay.shelf after.bay.shelf status text in
    let some = at_held held before.files.held before.source.left comes files line.1 in (
      verdict_by (work_of words (always held)) before.bay.shelf after.bay.shelf tables program some.0 reading status text is reads some.1.0,
      λ walks. walks_by (work_of words (always held)) before.bay.shelf after.bay.shelf tables program some.0 status text is walks some.1.0,
    )

pub derivations_exact : DerivationsAreExact
derivations_exact words before after status text line held task outcome files is of =
    let comes = Comes words before.files.names after.files.names before.bay.shelf after.bay.shelf status text in
    let some = at_held held before.files.held before.source.left comes files line.1 in
    task_by (work_of words (always held)) before.bay.shelf after.bay.shelf task outcome some.0 status text is of some.1.0

pub statuses_of_commands : StatusesAreOfCommands
statuses_of_commands words before after status text (written, (reads, script, told, is, (due, read))) =
    let work = work_of words reads in
    let comes = work_comes words reads in
    let has = status_written work before.bay.shelf after.bay.shelf script status in (
      λ same. usage_of (command_of words) work comes (has code.Usage text due same (λ w. cc) (λ w. cc) (λ w. cc)),
      λ same. program_of (command_of words) work comes (has code.ProgramRefused text due same (λ w. cc) (λ w. cc) (λ w. cc)),
      λ same. run_of (command_of words) work comes (has code.ScriptTooLong text due same (λ w. cc) (λ w. cc) (λ w. cc)),
      λ either. grant_of (command_of words) work comes (elim either [
        | inl same ↦ inl (has code.TooLarge text due same (λ w. cc) (λ w. cc) (λ w. cc))
        | inr same ↦ inr (has code.JournalFull text due same (λ w. cc) (λ w. cc) (λ w. cc))
      ]),
      λ same. derive_of (command_of words) work comes (has code.DerivationTooLong text due same (λ w. cc) (λ w. cc) (λ w. cc)),
      λ same. disks_of (command_of words) work comes (has code.JournalRefused text due same (λ w. cc) (λ w. cc) (λ w. cc)),
    )

-- at faulty words only the sink fails
sink_failed : (command : Option Command) (before after : Outside) → command ≡ None → SomeFailed command before after → HasRisen before.sink.faults after.sink.faults
sink_failed command before after none failed = here (subst (λ (c : Option Command). SomeFailed c before after) none failed)
  where
    here : SomeFailed None before after → HasRisen before.sink.faults after.sink.faults
    here (inl (some, rose)) = cc some
    here (inr (inl (takes, rose))) = cc takes
    here (inr (inr (inl (listens, rose)))) = cc listens
    here (inr (inr (inr rose))) = rose

usage_end : (before after : Outside) (script : List ℕ) (status : Status) (text : List ℕ) → (status ≡ code.Fault → HasRisen before.sink.faults after.sink.faults)
    → IsWrittenAt usage before.bay.shelf after.bay.shelf script status text → IsFaultyWordsEnd status text (HasRisen before.sink.faults after.sink.faults)
usage_end before after script status text cause (inl (inl (is, line, same))) = inl (is, line)
usage_end before after script status text cause (inl (inr (inl (memory, line), may))) = inr (inl (memory, line))
usage_end before after script status text cause (inl (inr (inr (disk, wrong), may))) = absurd wrong
usage_end before after script status text cause (inr (fault, (whole, due, inl (is, line, same), prefix))) =
    inr (inr (fault, inl (subst (λ (t : List ℕ). IsBeginning text t) line prefix), cause fault))
usage_end before after script status text cause (inr (fault, (whole, due, inr (inl (memory, line), may), prefix))) =
    inr (inr (fault, inr (subst (λ (t : List ℕ). IsBeginning text t) line prefix), cause fault))
usage_end before after script status text cause (inr (fault, (whole, due, inr (inr (disk, wrong), may), prefix))) = absurd wrong

pub faulty_words_told : FaultyWordsAreTold
faulty_words_told words before after status text (written, (reads, script, told, is, (due, read))) cause none =
    usage_end before after script status text (λ fault. sink_failed (command_of words) before after none (cause fault))
    (subst (λ (w : Work). IsWrittenAt w before.bay.shelf after.bay.shelf script status text) (work_by words reads None none) due)

-- what is to be answered is of a run
run_takes : (command : Option Command) (catalog key : List ℕ) (workers : ℕ) → command ≡ Some (run catalog key workers) → IsOfRun command
run_takes command catalog key workers is = subst IsOfRun (sym is) refl

-- what `line` says of a run is what `headline` says
pub lines_headlines : LinesAreHeadlines
lines_headlines words before after status text line takes =
    let comes = Comes words before.files.names after.files.names before.bay.shelf after.bay.shelf status text in
    let Also : ReadsToCome → List ℕ → Type 0 = λ reads script. IsWrittenAt (work_of words reads) before.bay.shelf after.bay.shelf script status text
    × AreRead status (files_of words reads) before.files.names after.files.names × IsRunLeft words reads before.bay.shelf after.bay.shelf script status text in (
      for_contents before.files.held before.source.left comes Also
          (λ reads script (due, read). (due, read, left_by_run words reads before.bay.shelf after.bay.shelf script text status takes due)) line.1,
      λ held script files source. left_by_run words (always held) before.bay.shelf after.bay.shelf script text status takes
          (at_told held script before.files.held before.source.left comes files source line.1).0,
    )

pub runs_answered : RunsAreAnswered
runs_answered words reads old new script status written left = (λ takes done. whole (left takes) done, λ workers loading key is. some workers loading key is (left (taken workers loading key is)))
  where
    taken : (workers : ℕ) (loading : Loading) (key : List ℕ) → work_of words reads ≡ to_answer workers loading key → IsOfRun (command_of words)
    taken workers loading key is =
        let house = house_by words reads workers loading key is in
        run_takes (command_of words) house.catalog house.key_name workers house.commanded

    whole : IsRunLeft words reads old new script status written → status ≡ code.Done → IsAnsweredScript words reads old new script written
    whole (inl (due, answered, begins, same)) done = subst (λ (t : List ℕ). IsAnsweredScript words reads old new script t) (sym (same done)) answered
    whole (inr (isnt, may)) done = absurd (isnt done)

    some : (workers : ℕ) (loading : Loading) (key : List ℕ) → work_of words reads ≡ to_answer workers loading key → IsRunLeft words reads old new script status written
        → EachDisk (owners_in loading) (λ _. IsOnlySynced) old new ⊎ ((due : List ℕ) × IsAnsweredScript words reads old new script due × IsBeginning written due)
    some workers loading key is (inl (due, answered, begins, same)) = inr (due, answered, begins)
    some workers loading key is (inr (isnt, may)) = inl (subst (λ (w : Work). MayStop w old new) is may)

-- what is loaded is lawful
pub loaded_lawful : WhatIsLoadedIsLawful
loaded_lawful words reads loading key (inl (workers, is)) = let house = (house_by words reads workers loading key is).lawful in (house.lawful, house.whole_key)
loaded_lawful words reads loading key (inr (inl is)) = let house = made_lawful words reads loading key is in (house.lawful, house.whole_key)
loaded_lawful words reads loading key (inr (inr (inr (workers, each, is)))) = let house = (house_served_by words reads workers each loading key is).lawful in (house.lawful, house.whole_key)
loaded_lawful words reads loading key (inr (inr (inl is))) = let house = counted_lawful words reads loading key is in (house.lawful, house.whole_key)

pub outside_stays : OutsideStays
outside_stays = (
  λ before. ((refl, omega arith), (refl, omega arith), omega arith, omega arith, doors_stay before.doors),
  λ before mid after first second. (
    (second.0.0 ∙ first.0.0, omega (arith, first.0.1, second.0.1)),
    (second.1.0 ∙ first.1.0, omega (arith, first.1.1, second.1.1)),
    omega (arith, first.2, second.2),
    omega (arith, first.3, second.3),
    doors_stay_on before.doors mid.doors after.doors first.4 second.4,
  ),
)

pub transcribed : OneWorkerTranscribes
transcribed loading key workers old new found script text answered one =
    transcript_of (house_of loading.register) (draws_of key) found script answered.crew answered.exchanges answered.records
    (subst (λ (n : ℕ). IsGatheredScript (house_of loading.register) (draws_of key) n answered.crew found script answered.exchanges answered.records) one answered.gathered)
