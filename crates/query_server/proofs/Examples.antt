-- worked examples of the definitions, from the written rules, on both sides of each choice and at each limit
use Rattle.std.proofs.Common.{◌≡◌, ℕ, ◌+◌, ◌<◌, ◌≤◌, Bool, true, false, cond, List, [], ◌∷◌, ◌++◌, ◌∙◌, length, Option, Some, None, refl, sym, ap, replicate, subst, arith}
use Rattle.std.specs.Prelude.{◌^◌, Result, Ok, Err, codes, pos, negsuc}
use Rattle.std.proofs.lemmas.Bool.{le-leb, lt-leb}
use Rattle.std.specs.Fmt.{digits}
use Rattle.std.specs.Io.KnownBytes.{prepend_known}
use mathlib.Core.Logic.{◌⊎◌, inl, inr}
use Rattle.fz_frac.specs.Distance.{Fin}
use Rattle.fz_ast.specs.Signature.{Signature}
use Rattle.metric_values.specs.Tables.{Dataset}
use Rattle.metric_law.specs.Worked.{worked_tables}
use Rattle.wire_lines.specs.Refusal.{no_token}
use Rattle.wire_lines.specs.Reply.{reply_text}
use Rattle.generated_run.specs.AnswerPath.Reading.{IsReading, read, unlexed}
use Rattle.generated_run.specs.AnswerPath.Admission.{admission_of, refused_for}
use Rattle.generated_run.proofs.AnswerPath.Limits.{seven_walk_too_much, six_are_admitted, six_have_a_plan, unweighed}
use Rattle.generated_run.proofs.AnswerPath.Told.{planned_walks_little, refused_walks_little}
use Rattle.query_server.specs.Status.{status_code, refused_text, usage_text}
use Rattle.command_words.specs.Command.{Command, audit, check, gap, init, run}
use Rattle.query_server.specs.Work.{usage, refused, to_check}
use Rattle.owner_books.specs.Bays.{BayStays}
use Rattle.query_server.specs.Outside.{FilesStay}
use Rattle.catalog_loading.specs.Steps.{◌>>=◌}
use Rattle.catalog_loading.specs.Files.{always, readable}
use Rattle.catalog_loading.specs.Loaded.{Loading, key_read, owners_in}
use Rattle.owner_books.specs.Shelves.{Shelf, EachDisk, IsOnlySynced}
use Rattle.query_server.specs.Run.{script_limit, IsAnswerDue, IsScriptDue}
use Rattle.generated_run.specs.SessionCore.Transcript.{Journals}
use Rattle.query_server.specs.Check.{IsProgramDue, accepted_text, status_by, text_by}
use Rattle.query_server.specs.Gap.{IsGapBy, IsGapDue, gap_text}
use Rattle.query_server.specs.Due.{AreRead, IfFinished, IsFaultyWordsEnd, IsBeginning, IsForProgram, IsWrittenAt, command_kind}
use Rattle.query_server.specs.Taken.{IsTaken}
use Rattle.query_server.specs.declared.end.Status.{Status}
use Rattle.query_server.specs.declared.end.Status.TheVariants.{Done, ProgramRefused, Usage, Refused, JournalRefused, Fault, DiskFault, NoMemory, ScriptTooLong}

-- ---- statuses and lines

-- the number of each status
numbers : status_code Done ∷ status_code ProgramRefused ∷ status_code Usage ∷ status_code Refused ∷ status_code JournalRefused ∷ status_code Fault ∷ status_code DiskFault ∷ status_code NoMemory ∷ status_code ScriptTooLong ∷ []
    ≡ 0 ∷ 1 ∷ 2 ∷ 3 ∷ 4 ∷ 5 ∷ 6 ∷ 7 ∷ 8 ∷ []
numbers = refl

refused_line : refused_text (codes "cat.json") ≡ codes "refused cat.json\n"
refused_line = refl

nameless_line : refused_text [] ≡ codes "refused \n"
nameless_line = refl

whole_line : accepted_text (Fin 2 1) ≡ codes "ok 2\n"
unfolding digits
whole_line = refl

zero_line : codes "ok 0\n" ≡ accepted_text (Fin 0 1)
unfolding digits
zero_line = refl

fraction_line : accepted_text (Fin 3 2) ≡ codes "ok 3/2\n"
unfolding digits
fraction_line = refl

four_lines : gap_text 3 (Fin 1 1) (pos 2) (pos 3) ≡ codes "distance 3\nsensitivity 1\nvalues 2 3\ngap 1\n"
unfolding digits
four_lines = refl

lines_below_zero : gap_text 2 (Fin 3 2) (pos 5) (negsuc 6) ≡ codes "distance 2\nsensitivity 3/2\nvalues 5 -7\ngap 12\n"
unfolding digits
lines_below_zero = refl

-- ---- limits

-- files of 2^26 bytes and of one more
longest_file : (bytes : List ℕ) → length bytes ≡ 67108864 → readable (Some bytes) ≡ Some bytes
longest_file bytes is = ap (λ b. cond b (Some bytes) None) (le-leb (length bytes) (2 ^ 26) (omega (arith, is)))

longer_file : (bytes : List ℕ) → length bytes ≡ 67108865 → readable (Some bytes) ≡ None
longer_file bytes is = ap (λ b. cond b (Some bytes) None) (lt-leb (length bytes) (2 ^ 26) (omega (arith, is)))

-- keys of 31, 32 and 33 bytes
abbrev key_given : (n : ℕ) → Result (List ℕ) (List ℕ)
key_given n = (key_read (codes "key") (always (λ name. Some (replicate n 0)))).given

short_key : key_given 31 ≡ Err (codes "key")
unfolding ◌>>=◌
short_key = refl

right_key : key_given 32 ≡ Ok (replicate 32 0)
unfolding ◌>>=◌
right_key = refl

long_key : key_given 33 ≡ Err (codes "key")
unfolding ◌>>=◌
long_key = refl

-- scripts of 2^24 bytes and of one more, where all journals are opened
module _ (loading : Loading) (key : List ℕ) (old new : Shelf) (found : Journals) (script : List ℕ) where
  longest_script : (text : List ℕ) → length script ≡ 16777216 → IsAnswerDue loading key 1 old new found script ScriptTooLong text → ⊥
  longest_script text is (inl (wrong, short, due)) = cc
  longest_script text is (inr (over, long, due, disks)) = let more : script_limit < length script = long in omega (arith, more, is)

  longer_script : length script ≡ 16777217 → EachDisk (owners_in loading) (λ o. IsOnlySynced) old new
      → IsAnswerDue loading key 1 old new found script ScriptTooLong (codes "script too long\n")
  longer_script is disks = inr (refl, omega (arith, is), refl, disks)

  longer_unanswered : (text : List ℕ) → length script ≡ 16777217 → IsAnswerDue loading key 1 old new found script Done text → ⊥
  longer_unanswered text is (inl (over, short, due)) = let few : length script ≤ script_limit = short in omega (arith, few, is)
  longer_unanswered text is (inr (wrong, long, due, disks)) = cc

  -- A script is neither answered nor too long where a journal is refused, and comes to no other status than these.
  unusable : (text : List ℕ) → IsScriptDue loading key 1 old new script Refused text → ⊥
  unusable text (inl due) = let wrong = due.is_status in cc
  unusable text (inr (versions, records, opened, inl (wrong, short, due))) = cc
  unusable text (inr (versions, records, opened, inr (wrong, long, due, disks))) = cc

-- ---- what is written, read and taken

-- the disks are as they were
module _ (shelf : Shelf) where
  usage_whole : IsWrittenAt usage shelf shelf [] Usage (codes "usage\n")
  usage_whole = inl (inl (refl, refl, λ o. refl))

  usage_cut : IsWrittenAt usage shelf shelf [] Fault (codes "usa")
  usage_cut = inr (refl, (Usage, usage_text, inl (refl, refl, λ o. refl), (codes "ge\n", refl)))

  memory_whole : IsWrittenAt usage shelf shelf [] NoMemory (codes "memory\n")
  memory_whole = inl (inr (inl (refl, refl), λ o. refl))

  memory_cut : IsWrittenAt usage shelf shelf [] Fault (codes "mem")
  memory_cut = inr (refl, (NoMemory, codes "memory\n", inr (inl (refl, refl), λ o. refl), (codes "ory\n", refl)))

  name_written : IsWrittenAt (refused (codes "a")) shelf shelf [] Refused (codes "refused a\n")
  name_written = inl (inl (refl, refl, λ o. refl))

-- and whatever they are
module _ (old new : Shelf) where
  nothing_done : (text : List ℕ) → IsWrittenAt usage old new [] Done text → ⊥
  nothing_done text (inl (inl (wrong, is, same))) = cc
  nothing_done text (inl (inr (inl (wrong, is), may))) = cc
  nothing_done text (inl (inr (inr (wrong, line), may))) = cc
  nothing_done text (inr (wrong, is)) = cc

  no_disk_failed : (text : List ℕ) → IsWrittenAt usage old new [] DiskFault text → ⊥
  no_disk_failed text (inl (inl (wrong, is, same))) = cc
  no_disk_failed text (inl (inr (inl (wrong, is), may))) = cc
  no_disk_failed text (inl (inr (inr (is, line), may))) = line
  no_disk_failed text (inr (wrong, is)) = cc

  name_unwritten : IsWrittenAt (refused (codes "a")) old new [] Refused [] → ⊥
  name_unwritten (inl (inl (is, wrong, same))) = cc
  name_unwritten (inl (inr (inl (wrong, is), may))) = cc
  name_unwritten (inl (inr (inr (wrong, line), may))) = cc
  name_unwritten (inr (wrong, is)) = cc

-- what a command takes: a `run` the source and the disks, an `init` and an `audit` the disks, a `check` and a `gap` a program
abbrev Takes : Option Command → (source disks program : Bool) → Type 0
Takes command source disks program =
    ((command_kind command).source ≡ source) × ((command_kind command).disks ≡ disks) × ((command_kind command).program ≡ program)

run_takes : Takes (Some (run (codes "c") (codes "k") 2)) true true false
run_takes = (refl, refl, refl)

init_takes : Takes (Some (init (codes "c") (codes "k"))) false true false
init_takes = (refl, refl, refl)

audit_takes : Takes (Some (audit (codes "c") (codes "k"))) false true false
audit_takes = (refl, refl, refl)

check_takes : Takes (Some (check (codes "c") (codes "o") (codes "f"))) false false true
check_takes = (refl, refl, refl)

gap_takes : Takes (Some (gap (codes "c") (codes "o") (codes "d") (codes "f"))) false false true
gap_takes = (refl, refl, refl)

nothing_taken : Takes None false false false
nothing_taken = (refl, refl, refl)

-- of the work that is left some has a program to admit, and some has none
admitted_program : IsForProgram [] (codes "1") (to_check [] (codes "1"))
admitted_program = refl

-- how long the program is that is to be admitted
length_admitted : Option (Signature × List ℕ) → ℕ
length_admitted None = 0
length_admitted (Some admitted) = length admitted.1

admitted_other : IsForProgram [] (codes "1") (to_check [] (codes "22")) → ⊥
unfolding length_admitted
admitted_other is = let two : 2 ≡ 1 = ap length_admitted is in omega (arith, two)

admitted_none : IsForProgram [] (codes "1") (refused (codes "f")) → ⊥
admitted_none is = cc is

-- what stays: a count may rise and not fall, a bay has its owners, and files hold what they held
count_rises : FilesStay (record { held = None; names = []; faults = 1 }) (record { held = None; names = codes "f" ∷ []; faults = 2 })
count_rises = (refl, omega arith)

count_falls : FilesStay (record { held = None; names = []; faults = 2 }) (record { held = None; names = []; faults = 1 }) → ⊥
count_falls (same, less) = absurd (omega (arith, less))

fewer_owners : (shelf : Shelf) → BayStays (record { shelf = shelf; owners = 64; faults = 0 }) (record { shelf = shelf; owners = 63; faults = 0 }) → ⊥
fewer_owners shelf (same, less) = absurd (omega (arith, same))

-- a text begins with its first byte and not with its second
first_byte : IsBeginning (1 ∷ []) (1 ∷ 2 ∷ [])
first_byte = (2 ∷ [], refl)

second_byte : IsBeginning (2 ∷ []) (1 ∷ 2 ∷ []) → ⊥
second_byte (rest, is) = cc

-- faulty words: their line, or that memory ran out; a prefix of either only where the sink failed
faulty_words_told : IsFaultyWordsEnd Usage (codes "usage\n") ⊥
faulty_words_told = inl (refl, refl)

faulty_words_need_a_failure : (text : List ℕ) → IsFaultyWordsEnd Fault text ⊥ → ⊥
faulty_words_need_a_failure text (inl (wrong, is)) = cc
faulty_words_need_a_failure text (inr (inl (wrong, is))) = cc
faulty_words_need_a_failure text (inr (inr (is, prefix, failed))) = absurd failed

-- a program that begins no token is refused, whatever the datasets are, and nothing else is due
no_token_refused : (X Y : Dataset) (program : List ℕ) → IsReading program (unlexed 0) → IsGapDue [] X Y program ProgramRefused (codes "no 20 0\n")
unfolding admission_of reply_text digits
no_token_refused X Y program reads =
    record { reading = unlexed 0; reads = reads; due = (refl, refl); walks = refused_walks_little [] program (no_token 0) (unlexed 0, reads, refl) }

no_token_undone : (X Y : Dataset) (program text : List ℕ) → IsGapBy (refused_for (no_token 0)) [] X Y program Done text → ⊥
no_token_undone X Y program text (wrong, is) = cc

-- six maps that each sum the bag before for each row are just few enough walks, and to seven nothing is due
six_maps_accepted : (program : List ℕ) → IsReading program (read (unweighed 6)) → IsProgramDue worked_tables program Done (codes "ok 0\n")
six_maps_accepted program reads = record {
  reading = read (unweighed 6);
  reads = reads;
  is_status = sym (ap status_by six_are_admitted);
  is_text = zero_line ∙ sym (ap text_by six_are_admitted);
  walks = planned_walks_little worked_tables program (unweighed 6) _ reads six_have_a_plan;
}

seven_maps_undue : (X Y : Dataset) (program text : List ℕ) (status : Status) → IsReading program (read (unweighed 7))
    → IsProgramDue worked_tables program status text ⊎ IsGapDue worked_tables X Y program status text → ⊥
seven_maps_undue X Y program text status reads (inl due) = due.walks (unweighed 7, reads, seven_walk_too_much)
seven_maps_undue X Y program text status reads (inr due) = due.walks (unweighed 7, reads, seven_walk_too_much)

-- of two files that are due both are read, or one where something failed, and never the second first
module _ (a b c : List ℕ) where
  both_read : AreRead Refused (a ∷ b ∷ []) (c ∷ []) (c ∷ a ∷ b ∷ [])
  both_read = record { names = a ∷ b ∷ []; is = refl; some = ([], refl); all = inr (inr (inr refl)) }

  one_read : AreRead Fault (a ∷ b ∷ []) (c ∷ []) (c ∷ a ∷ [])
  one_read = record { names = a ∷ []; is = refl; some = (b ∷ [], refl); all = inl refl }

  unread_at : (names : List (List ℕ)) → [] ≡ [] ++ names → IfFinished Refused (names ≡ a ∷ []) → ⊥
  unread_at [] is (inl wrong) = cc
  unread_at [] is (inr (inl wrong)) = cc
  unread_at [] is (inr (inr (inl wrong))) = cc
  unread_at [] is (inr (inr (inr wrong))) = cc
  unread_at (name ∷ names) is all = cc

  one_unread : AreRead Refused (a ∷ []) [] [] → ⊥
  one_unread r = unread_at r.names r.is r.all

wrong_at : (names rest : List (List ℕ)) → (1 ∷ []) ∷ [] ≡ [] ++ names → (2 ∷ []) ∷ [] ≡ names ++ rest → ⊥
wrong_at [] rest is some = cc
wrong_at (name ∷ names) rest is some = cc

other_read : AreRead Fault ((2 ∷ []) ∷ []) [] ((1 ∷ []) ∷ []) → ⊥
other_read r = wrong_at r.names r.some.0 r.is r.some.1

-- What is taken of two bytes: both where they are answered; none where a file is refused; not enough to be too long.
both_taken : IsTaken (Some (1 ∷ 2 ∷ [])) (Some []) Done
both_taken = record {
  taken = 1 ∷ 2 ∷ [];
  is = refl;
  few = omega arith;
  refused = λ wrong. absurd (cc wrong);
  unopened = λ wrong. elim wrong [ inl is ↦ absurd (cc is) | inr is ↦ absurd (cc is) ];
  too_long = λ wrong. absurd (cc wrong);
  done = λ is. (omega arith, refl);
}

one_left : IsTaken (Some (1 ∷ 2 ∷ [])) (Some (2 ∷ [])) Done → ⊥
one_left t = let none : 2 ∷ [] ≡ [] = (t.done refl).1 in cc none

one_taken : IsTaken (Some (1 ∷ [])) (Some []) Refused → ⊥
one_taken t = let left : Some (1 ∷ []) ≡ prepend_known [] (Some []) = subst (λ xs. Some (1 ∷ []) ≡ prepend_known xs (Some [])) (t.refused refl) t.is in cc left

one_taken_unopened : IsTaken (Some (1 ∷ [])) (Some []) JournalRefused → ⊥
one_taken_unopened t =
    let left : Some (1 ∷ []) ≡ prepend_known [] (Some []) = subst (λ xs. Some (1 ∷ []) ≡ prepend_known xs (Some [])) (t.unopened (inl refl)) t.is in cc left

one_taken_of_a_disk : IsTaken (Some (1 ∷ [])) (Some []) DiskFault → ⊥
one_taken_of_a_disk t =
    let left : Some (1 ∷ []) ≡ prepend_known [] (Some []) = subst (λ xs. Some (1 ∷ []) ≡ prepend_known xs (Some [])) (t.unopened (inr refl)) t.is in cc left

too_few_taken : (before after : Option (List ℕ)) (t : IsTaken before after ScriptTooLong) → length t.taken ≡ 16777216 → ⊥
too_few_taken before after t is = let more : script_limit < length t.taken = t.too_long refl in omega (arith, more, is)

too_many_taken : (before after : Option (List ℕ)) (t : IsTaken before after Fault) → length t.taken ≡ 16777218 → ⊥
too_many_taken before after t is = let few : length t.taken ≤ script_limit + 1 = t.few in omega (arith, few, is)
