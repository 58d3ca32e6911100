-- worked examples of what is put together of a run and of a service
use Rattle.std.proofs.Common.{◌≡◌, ℕ, ◌<◌, ◌≤◌, List, [], ◌∷◌, map, Some, None, refl, subst, arith}
use Rattle.std.specs.List.{flat_map}
use mathlib.Core.Logic.{◌⊎◌, inl, inr}
use Rattle.fz_outside.specs.Faults.{HasRisen, last_count}
use Rattle.outside_disks.specs.Disks.{IsImageOf, Trace, seen_of}
use Rattle.outside_disks.specs.Stored.{Stored, Twins}
use Rattle.journal_records.specs.declared.records.Header.{Header}
use Rattle.journal_records.specs.declared.records.Record.{Record}
use Rattle.budget_core.specs.Entries.{Entry}
use Rattle.budget_core.specs.Legal.{MayFollow}
use Rattle.budget_journal.specs.Journals.{Stands}
use Rattle.budget_journal.proofs.Fills.{journal-long}
use Rattle.budget_journal.proofs.One.{stands-one}
use Rattle.budget_ledger.specs.declared.failure.Failure.{Failure}
use Rattle.wire_lines.specs.Lines.{lines_of}
use Rattle.wire_lines.specs.Reply.{reply_text}
use Rattle.generated_run.specs.SessionCore.Exchanges.{Exchange}
use Rattle.generated_run.specs.SessionCore.Transcript.{Journals}
use Rattle.service_workers.specs.Services.{Door}
use Rattle.service_workers.specs.declared.posting.Service.{Service}
use Rattle.service_workers.specs.declared.posting.Service.TheVariants.{Served, DoorFault, NoMemory}
use Rattle.catalog_loading.specs.Files.{ReadsToCome}
use Rattle.catalog_loading.specs.Loaded.{Loading}
use Rattle.owner_books.specs.Shelves.{AreLost, Shelf}
use Rattle.query_server.specs.Run.{IsScriptAnswered, WentOn}
use Rattle.query_server.specs.Service.{IsServiceDone, service_status}
use Rattle.query_server.specs.declared.end.Status.{Status}
use Rattle.query_server.specs.declared.end.Status.TheVariants as code

-- ---- an owner's disk through a run

-- a disk that tells nothing but its count of faults
abbrev untold : (faults : ℕ) → Stored
untold faults = record { trace = None; faults = faults; twins = None }

module _ (entry : Entry) (header : Header) (r : Record) where
  -- a record was added, and nothing failed
  one_more : WentOn entry header [] (r ∷ []) None (untold 2) (untold 2)
  one_more = record {
    begins = (r ∷ [], refl);
    moments = tt;
    kept = tt;
    counts = omega arith;
    steady = λ none. refl;
    failed = λ failure is. absurd (cc (is));
    follows = λ failure is. absurd (cc (is));
    twins = tt;
  }

  -- a record that was found is lost
  one_lost : WentOn entry header (r ∷ []) [] None (untold 2) (untold 2) → ⊥
  one_lost w = lost w.begins.0 w.begins.1
    where
      lost : (more : List Record) → r ∷ more ≡ [] → ⊥
      lost more is = cc (is)

  -- The count of faults rose, though no append failed; or fell.
  rose_for_nothing : WentOn entry header [] [] None (untold 2) (untold 3) → ⊥
  rose_for_nothing w = let same : 3 ≡ 2 = w.steady refl in omega (arith, same)

  count_fell : WentOn entry header [] [] None (untold 2) (untold 1) → ⊥
  count_fell w = let more : 2 ≤ 1 = w.counts in omega (arith, more)

  abbrev failure : Failure
  failure = record { failed_at = 3; pending = r }

  -- An append failed, of a record that may follow, and its count rose; without that nothing failed.
  append_failed : MayFollow entry [] r → WentOn entry header [] [] (Some failure) (untold 2) (untold 3)
  append_failed may = record {
    begins = ([], refl);
    moments = tt;
    kept = tt;
    counts = omega arith;
    steady = λ none. absurd (cc (none));
    failed = λ other is.
        let same : failure ≡ other = cc (is) in
        (inl (refl, λ low. (let more : 2 < 3 = omega arith in more)), λ alone. subst (λ (f : Failure). f.failed_at ≡ 3) same refl);
    follows = λ other is. let same : failure ≡ other = cc (is) in subst (λ (f : Failure). MayFollow entry [] f.pending) same may;
    twins = tt;
  }

  unseen_failure : WentOn entry header [] [] (Some failure) (untold 2) (untold 2) → ⊥
  unseen_failure w = risen (w.failed failure refl).0
    where
      risen : AreLost (untold 2) (untold 2) → ⊥
      risen (inl (alone, rose)) =
          let below : 2 < last_count = omega arith in
          let h : 2 < 2 = rose below in
          omega (arith, h)
      risen (inr rose) = rose

  -- One disk stays one.
  second_disk : (faults : ℕ) (twins : Twins) → WentOn entry header [] [] None (untold faults) (record { trace = None; faults = faults; twins = Some twins }) → ⊥
  second_disk faults twins w = w.twins

  -- A disk that tells an empty file has kept no journal; and one of which a stop may leave a file without the record has not kept that.
  no_journal : WentOn entry header [] [] None (untold 2) (record { trace = Some (record { start = []; steps = [] }); faults = 2; twins = None }) → ⊥
  no_journal w = let long : 128 ≤ 0 = journal-long header [] [] w.kept.stands in omega (arith, long)

  unsynced : (before : Stored) (t : Trace) (faults : ℕ) (file : List ℕ) → IsImageOf t file → Stands header [] file
      → WentOn entry header [] (r ∷ []) None before (record { trace = Some t; faults = faults; twins = None }) → ⊥
  unsynced before t faults file image none w =
      let same : file ≡ seen_of t = w.kept.stable file image in
      let both : r ∷ [] ≡ [] = stands-one header (r ∷ []) [] (seen_of t) w.kept.stands (subst (Stands header []) same none) in
      cc (both)

-- ---- a script

-- a house without owners, and no disks
abbrev nobody : Loading
nobody = record { register = record { catalog = record { analysts = []; owners = []; text = [] }; holdings = []; versions = [] }; hashes = [] }

abbrev no_disks : Shelf
no_disks o = None

abbrev nothing_found : Journals
nothing_found o = []

-- An empty script is answered by nothing ..
empty_script : (key : List ℕ) → IsScriptAnswered nobody key 1 no_disks no_disks nothing_found [] []
unfolding lines_of
empty_script key = record {
  crew = λ at. 0;
  dealt = λ at. refl;
  exchanges = [];
  records = nothing_found;
  gathered = record { crews = λ at. omega arith; turns = refl; plain = tt; owners = λ o owner here. absurd (cc (here)) };
  written = refl;
  closed = λ o. None;
  shut = λ o owner here. absurd (cc (here));
  disks = record { owned = λ o before within was. absurd (omega (arith, within)); others = λ o past. refl };
}

-- .. and by nothing else.
no_reply : (xs : List Exchange) (text : List ℕ) → map (λ (x : Exchange). x.turn) xs ≡ [] → 120 ∷ text ≡ flat_map reply_text (map (λ (x : Exchange). x.reply) xs) → ⊥
no_reply [] text turns is = cc (is)
no_reply (x ∷ xs) text turns is = cc (turns)

not_more : (key : List ℕ) → IsScriptAnswered nobody key 1 no_disks no_disks nothing_found [] (120 ∷ []) → ⊥
unfolding lines_of
not_more key answered = no_reply answered.exchanges [] answered.gathered.turns answered.written

-- a disk that comes or goes meanwhile
not_a_disk_more : (key : List ℕ) → IsScriptAnswered nobody key 1 no_disks (λ o. Some (untold 0)) nothing_found [] [] → ⊥
not_a_disk_more key answered = cc (answered.disks.others 0 (omega arith))

-- ---- a service

-- Whatever its workers came to, a service of which sessions were held never ends as a script that is too long.
no_such_end : (end : Service) → (code.ScriptTooLong ≡ service_status end) ⊎ ((code.ScriptTooLong ≡ code.Fault) × HasRisen 0 0) → ⊥
no_such_end Served (inl is) = cc (is)
no_such_end DoorFault (inl is) = cc (is)
no_such_end NoMemory (inl is) = cc (is)
no_such_end end (inr (is, rose)) = cc (is)

no_script_of_a_service : (words : List (List ℕ)) (reads : ReadsToCome) (old new : Shelf) (before after : List Door) → IsServiceDone words reads old new before after code.ScriptTooLong 0 0 → ⊥
no_script_of_a_service words reads old new before after done = no_such_end done.end done.told

-- A service whose workers have ended well ends with 5 only where its line couldn't be written.
sink_stands_still : (status : Status) → (status ≡ service_status Served) ⊎ ((status ≡ code.Fault) × HasRisen 3 3) → status ≡ code.Done
sink_stands_still status (inl is) = is
sink_stands_still status (inr (is, rose)) =
    let below : 3 < last_count = omega arith in
    let h : 3 < 3 = rose below in
    absurd (omega (arith, h))
