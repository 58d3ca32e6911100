-- What becomes of two disks, worked out on empty ones and on ones of a byte.
use Rattle.std.proofs.Common.{◌≡◌, ℕ, ◌<◌, ◌≤◌, List, [], ◌∷◌, Option, Some, None, true, false, refl, ap, arith, lit<}
use Rattle.std.specs.Prelude.{codes, ⊤}
use Rattle.std.specs.Fmt.{digits}
use mathlib.Core.Logic.{◌⊎◌, inl, inr}
use Rattle.outside_disks.specs.Disks.{Shown, Step, Trace}
use Rattle.outside_disks.specs.Disks.Step.{Wrote, Synced}
use Rattle.outside_disks.specs.Stored.{Stored, Twins, one_stored, two_stored}
use Rattle.journal_records.specs.declared.records.Header.{Header}
use Rattle.journal_records.specs.declared.records.Record.{Record}
use Rattle.budget_journal.specs.Journals.{MayHaveSynced}
use Rattle.budget_journal.specs.declared.opening.OpenFault.TheVariants as open_fault
use Rattle.budget_journal.specs.declared.making.InitFault.TheVariants.{AlreadyThere}
use Rattle.budget_journal.proofs.Fills.{journal-long}
use Rattle.budget_core.specs.Entries.{Entry}
use Rattle.budget_ledger.specs.Both.{AreUnfit, IsBothFault, IsReading, Make, MakeNone, Reading}
use Rattle.budget_ledger.specs.Both.Reading.{Holding, Missing, Unfit}
use Rattle.budget_ledger.specs.declared.both.BothFault.{BothFault}
use Rattle.budget_ledger.specs.declared.both.BothFault.TheVariants.{Forked as Forks, Refused, VersionsDiffer}
use Rattle.owner_books.specs.Shelves.{AreLost, IsLevelled, IsOnlySynced, IsStanding, IsTwinSynced, IsUnwritten, Shelf, TellBytes, both_on, bytes_on}
use Rattle.owner_books.specs.Opened.{IsUnopened}
use Rattle.owner_books.specs.Making.{IsMade, IsNotMade, IsThere, IsUnmade, MayHaveFailed}
use Rattle.owner_books.specs.Refusals.{journal_text}
use Rattle.owner_books.specs.declared.refusals.JournalRefusal.TheVariants.{Changed, Exists, Forked, Uninitialised}

-- ---- the line

forked_at : journal_text (codes "census") (Forked 0) ≡ codes "journal census forked 0\n"
unfolding digits
forked_at = refl

-- ---- what two disks show

-- a disk of these bytes whose calls have failed so often, and one that tells nothing
abbrev disk : List ℕ → (faults : ℕ) → Shown
disk bytes faults = record { trace = Some (record { start = bytes; steps = [] }); faults = faults }

abbrev untold : Shown
untold = record { trace = None; faults = 0 }

abbrev pair : (first second : Shown) → Twins
pair first second = record { first = first; second = second }

abbrev two : (first second : Shown) → Stored
two first second = two_stored (pair first second)

-- every owner has these two
abbrev all_two : (first second : Shown) → Shelf
all_two first second o = Some (two first second)

bytes_of_two : bytes_on (all_two (disk [] 0) (disk (7 ∷ []) 0)) 0 ≡ None
bytes_of_two = refl

both_of_two : both_on (all_two (disk [] 0) (disk (7 ∷ []) 0)) 0 ≡ Some (pair (disk [] 0) (disk (7 ∷ []) 0))
both_of_two = refl

both_tell : TellBytes 1 (all_two (disk [] 0) (disk (7 ∷ []) 0))
both_tell o lt = inr (refl, refl)

one_tells : TellBytes 1 (all_two (disk [] 0) untold) → ⊥
one_tells tell = no (tell 0 (omega arith))
  where
    no : (false ≡ true) ⊎ ((true ≡ true) × (false ≡ true)) → ⊥
    no (inl is) = cc is
    no (inr (is, isnt)) = cc isnt

-- ---- counts of faults

one_of_two_stands : IsStanding (two (disk [] 0) (disk [] 0)) (two (disk [] 1) (disk [] 0))
one_of_two_stands = (refl, inr refl)

neither_stands : IsStanding (two (disk [] 0) (disk [] 0)) (two (disk [] 1) (disk [] 1)) → ⊥
neither_stands (same, inl is) = let wrong : 1 ≡ 0 = is in omega (arith, wrong)
neither_stands (same, inr is) = let wrong : 1 ≡ 0 = is in omega (arith, wrong)

-- two disks don't become one
not_one_of_two : IsStanding (two (disk [] 0) (disk [] 0)) (one_stored (disk [] 0)) → ⊥
not_one_of_two (same, stay) = stay

-- Both failed; or one did, whose other is empty. One alone, where the other isn't, is none of these.
both_lost : AreLost (two (disk (7 ∷ []) 0) (disk (7 ∷ []) 0)) (two (disk (7 ∷ []) 1) (disk (7 ∷ []) 1))
both_lost = inr (inl (λ low. omega arith, λ low. omega arith))

beside_an_empty_one : AreLost (two (disk (7 ∷ []) 0) (disk [] 0)) (two (disk (7 ∷ []) 1) (disk [] 0))
beside_an_empty_one = inr (inr (inl (λ low. omega arith, refl)))

the_other_is_left : AreLost (two (disk (7 ∷ []) 0) (disk (7 ∷ []) 0)) (two (disk (7 ∷ []) 1) (disk (7 ∷ []) 0)) → ⊥
the_other_is_left (inl (none, rose)) = cc none
the_other_is_left (inr (inl (first, second))) = let wrong : 0 < 0 = second (lit< tt) in omega (arith, wrong)
the_other_is_left (inr (inr (inl (first, empty)))) = cc empty
the_other_is_left (inr (inr (inr (empty, second)))) = cc empty

one_disk_lost : AreLost (one_stored (disk [] 0)) (one_stored (disk [] 1))
one_disk_lost = inl (refl, λ low. omega arith)

-- ---- nothing was written

abbrev synced : List ℕ → Shown
synced bytes = record { trace = Some (record { start = bytes; steps = Synced ∷ [] }); faults = 0 }

abbrev wrote : List ℕ → Shown
wrote bytes = record { trace = Some (record { start = bytes; steps = Wrote 0 (7 ∷ []) ∷ [] }); faults = 0 }

one_synced : IsOnlySynced (two (disk [] 0) (disk [] 0)) (two (synced []) (disk [] 1))
one_synced = record { synced = inl refl; counts = omega arith; twins = (inl (record { synced = inr refl; counts = omega arith }), inl (record { synced = inl refl; counts = omega arith })) }

abbrev steps_of : Option Trace → List Step
steps_of None = []
steps_of (Some t) = t.steps

not_synced : MayHaveSynced (Some (record { start = []; steps = [] })) (wrote []).trace → ⊥
not_synced (inl is) = let wrong : Wrote 0 (7 ∷ []) ∷ [] ≡ [] = ap steps_of is in cc wrong
not_synced (inr is) = let wrong : Wrote 0 (7 ∷ []) ∷ [] ≡ Synced ∷ [] = ap steps_of is in cc wrong

-- an empty disk lacks nothing: no journal stands there that could be brought up to the other
not_levelled : (other : Shown) → IsLevelled other (disk [] 0) (wrote []) → ⊥
not_levelled other is = let long : 128 ≤ 0 = journal-long is.header is.has [] is.stood in omega (arith, long)

written : IsOnlySynced (two (disk [] 0) (disk [] 0)) (two (wrote []) (disk [] 0)) → ⊥
written is = no is.twins.0
  where
    no : IsTwinSynced (disk [] 0) (disk [] 0) (wrote []) → ⊥
    no (inl left) = not_synced left.synced
    no (inr level) = not_levelled (disk [] 0) level

not_unwritten : IsUnwritten (two (disk [] 0) (disk [] 0)) (two (wrote []) (disk [] 0)) → ⊥
not_unwritten is = not_synced is.twins.0.synced

-- ---- two that are empty

module _ (entry : Entry) (header : Header) where
  -- They are not made: their length is told.
  both_empty : IsUnopened entry header (Some (two (disk [] 0) (disk [] 0))) (Some (two (synced []) (synced []))) (Uninitialised 0)
  both_empty = record { first = Missing true; second = Missing true; on_first = refl; on_second = refl; refused = inl refl }

  -- That is found on an empty disk of which no call failed: nothing, or memory ran out.
  abbrev IsNothing : Reading → Type 0
  IsNothing (Missing true) = ⊤
  IsNothing (Unfit open_fault.NoMemory) = ⊤
  IsNothing reading = ⊥

  nothing_on : (reading : Reading) → IsReading header (disk [] 0) (synced []) reading → IsNothing reading
  nothing_on (Missing true) is = tt
  nothing_on (Missing false) is = let rose : 0 < 0 = is (lit< tt) in absurd (omega (arith, rose))
  nothing_on (Holding v records) is = let long : 128 ≤ 0 = journal-long (record header { version = v }) records [] is in absurd (omega (arith, long))
  nothing_on (Unfit open_fault.DiskFault) is = absurd is.0
  nothing_on (Unfit open_fault.NoMemory) is = tt
  nothing_on (Unfit (open_fault.NotInitialised n)) is = let none : n ≡ 0 = is.1.0 in absurd (is.0 none)
  nothing_on (Unfit (open_fault.Changed kept found)) is = let long : 128 ≤ 0 = is.1.0 in absurd (omega (arith, long))
  nothing_on (Unfit (open_fault.Damaged slot)) is = let long : 128 ≤ 0 = is.1.0 in absurd (omega (arith, long))

  abbrev IsOfEmpty : BothFault → Type 0
  IsOfEmpty fault = (fault ≡ Refused (open_fault.NotInitialised 0)) ⊎ (fault ≡ Refused open_fault.NoMemory)

  abbrev AreRefusedBy : (first second : Reading) → BothFault → Type 0
  AreRefusedBy first second fault = MakeNone first second fault
      ⊎ ((version : ℕ) × (records : List Record) × Make first second version records × AreUnfit (record entry { version = version }) records fault)

  second_none : (second : Reading) (fault : BothFault) → IsNothing second → AreRefusedBy (Missing true) second fault → IsOfEmpty fault
  second_none (Missing true) fault none (inl is) = inl is
  second_none (Missing true) fault none (inr (version, records, made, unfit)) = absurd made
  second_none (Missing false) fault none is = absurd none
  second_none (Holding v records) fault none is = absurd none
  second_none (Unfit open_fault.NoMemory) fault none (inl is) = inr is
  second_none (Unfit open_fault.NoMemory) fault none (inr (version, records, made, unfit)) = absurd made
  second_none (Unfit open_fault.DiskFault) fault none is = absurd none
  second_none (Unfit (open_fault.NotInitialised n)) fault none is = absurd none
  second_none (Unfit (open_fault.Changed kept found)) fault none is = absurd none
  second_none (Unfit (open_fault.Damaged slot)) fault none is = absurd none

  first_none : (first second : Reading) (fault : BothFault) → IsNothing first → IsNothing second → AreRefusedBy first second fault → IsOfEmpty fault
  first_none (Missing true) second fault none too is = second_none second fault too is
  first_none (Missing false) second fault none too is = absurd none
  first_none (Holding v records) second fault none too is = absurd none
  first_none (Unfit open_fault.NoMemory) second fault none too (inl is) = inr is
  first_none (Unfit open_fault.NoMemory) second fault none too (inr (version, records, made, unfit)) = absurd made
  first_none (Unfit open_fault.DiskFault) second fault none too is = absurd none
  first_none (Unfit (open_fault.NotInitialised n)) second fault none too is = absurd none
  first_none (Unfit (open_fault.Changed kept found)) second fault none too is = absurd none
  first_none (Unfit (open_fault.Damaged slot)) second fault none too is = absurd none

  of_empty : (fault : BothFault) → IsBothFault entry header (pair (disk [] 0) (disk [] 0)) (pair (synced []) (synced [])) fault → IsOfEmpty fault
  of_empty fault is = first_none is.first is.second fault (nothing_on is.first is.on_first) (nothing_on is.second is.on_second) is.refused

  -- so they are not said to be changed, nor to have forked
  not_changed : IsUnopened entry header (Some (two (disk [] 0) (disk [] 0))) (Some (two (synced []) (synced []))) Changed → ⊥
  not_changed (inl (kept, found, is)) = no (of_empty (Refused (open_fault.Changed kept found)) is)
    where
      no : IsOfEmpty (Refused (open_fault.Changed kept found)) → ⊥
      no (inl wrong) = cc wrong
      no (inr wrong) = cc wrong
  not_changed (inr is) = no (of_empty VersionsDiffer is)
    where
      no : IsOfEmpty VersionsDiffer → ⊥
      no (inl wrong) = cc wrong
      no (inr wrong) = cc wrong

  not_forked : IsUnopened entry header (Some (two (disk [] 0) (disk [] 0))) (Some (two (synced []) (synced []))) (Forked 0) → ⊥
  not_forked is = no (of_empty (Forks 0) is)
    where
      no : IsOfEmpty (Forks 0) → ⊥
      no (inl wrong) = cc wrong
      no (inr wrong) = cc wrong

  -- One disk doesn't fork, whatever it tells, and a disk isn't there already when journals are opened.
  one_forks : IsUnopened entry header (Some (one_stored untold)) (Some (one_stored untold)) (Forked 0) → ⊥
  one_forks is = is

  two_exist : IsUnopened entry header (Some (two (disk [] 0) (disk [] 0))) (Some (two (synced []) (synced []))) (Exists 1) → ⊥
  two_exist is = is

-- ---- journals that are made

-- the length of the first disk that isn't empty
first_there : IsThere 1 (Some (two (disk (7 ∷ []) 0) (disk (7 ∷ 7 ∷ []) 0)))
first_there = (tt, inl refl)

second_there : IsThere 2 (Some (two (disk [] 0) (disk (7 ∷ 7 ∷ []) 0)))
second_there = (tt, inr (refl, refl))

not_the_second : IsThere 2 (Some (two (disk (7 ∷ []) 0) (disk (7 ∷ 7 ∷ []) 0))) → ⊥
not_the_second (tell, inl is) = let wrong : 1 ≡ 2 = is in omega (arith, wrong)
not_the_second (tell, inr (empty, is)) = cc empty

there_unmade : IsUnmade (AlreadyThere 1) (two (disk (7 ∷ []) 0) (disk [] 0)) (two (disk (7 ∷ []) 0) (disk [] 0))
there_unmade = (
  omega arith,
  (tt, inl refl),
  record {
    synced = inl refl;
    counts = omega arith;
    twins = (record { same = refl; later = omega arith }, record { same = refl; later = omega arith });
  },
)

-- A disk to which a byte was written isn't left so, unless a count rose.
second_written : IsNotMade (two (disk (7 ∷ []) 0) (disk [] 0)) (two (disk (7 ∷ []) 0) (wrote [])) → ⊥
second_written is = let wrong : Wrote 0 (7 ∷ []) ∷ [] ≡ [] = ap steps_of is.twins.0.same in cc wrong

first_failed : MayHaveFailed (two (disk [] 0) (disk [] 0)) (two (record (wrote []) { faults = 1 }) (disk [] 0))
first_failed = (omega arith, inr (inr (inl (λ low. omega arith))), tt)

none_failed : MayHaveFailed (two (disk [] 0) (disk [] 0)) (two (disk [] 0) (wrote [])) → ⊥
none_failed (counts, inl is, stay) = let wrong : Wrote 0 (7 ∷ []) ∷ [] ≡ [] = ap steps_of is.twins.0.same in cc wrong
none_failed (counts, inr (inl (none, rose)), stay) = cc none
none_failed (counts, inr (inr (inl rose)), stay) = let wrong : 0 < 0 = rose (lit< tt) in omega (arith, wrong)
none_failed (counts, inr (inr (inr rose)), stay) = let wrong : 0 < 0 = rose (lit< tt) in omega (arith, wrong)

-- on both, and on none of the two alone
one_made : (header : Header) (after : Shown) → IsMade header (two (disk [] 0) (disk (7 ∷ []) 0)) (two after (disk (7 ∷ []) 0)) → ⊥
one_made header after is = let none : 7 ∷ [] ≡ [] = (is.twins.1.made (record { start = 7 ∷ []; steps = [] }) refl).0 in cc none
