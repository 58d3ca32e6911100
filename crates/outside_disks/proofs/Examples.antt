-- The model of a disk, worked out on small files.
use Rattle.std.proofs.Common.{◌≡◌, ℕ, zero, suc, ◌≤◌, ◌<◌, List, [], ◌∷◌, length, slice_index, true, false, refl, ap, inl, inr, arith, Option, Some, None}
use Rattle.outside_disks.specs.Shown.{calls_of, failing_of, limits_of, written_of, is_refused, IsPastLimits}
use Rattle.outside_disks.specs.declared.memory.MemDisk.{MemDisk}
use Rattle.outside_disks.specs.Disks.{Step, Trace, moment, after, noted, overlaid, seen_of, Gives, Torn, IsImageOf, WasImageOf, WhereTold, MayHaveWritten}
use Rattle.outside_disks.specs.Disks.Step.{Wrote, Synced}
use Rattle.outside_disks.proofs.Overlaid.{torn-same}

-- ---- what is read after a write

within : overlaid (1 ∷ 2 ∷ 3 ∷ []) 1 (9 ∷ []) ≡ 1 ∷ 9 ∷ 3 ∷ []
unfolding overlaid
within = refl

over_the_end : overlaid (1 ∷ 2 ∷ 3 ∷ []) 2 (8 ∷ 9 ∷ []) ≡ 1 ∷ 2 ∷ 8 ∷ 9 ∷ []
unfolding overlaid
over_the_end = refl

at_the_end : overlaid (1 ∷ 2 ∷ []) 2 (9 ∷ []) ≡ 1 ∷ 2 ∷ 9 ∷ []
unfolding overlaid
at_the_end = refl

-- behind the end, zeros come first
behind_the_end : overlaid (1 ∷ []) 3 (9 ∷ []) ≡ 1 ∷ 0 ∷ 0 ∷ 9 ∷ []
unfolding overlaid
behind_the_end = refl

onto_nothing : overlaid [] 0 (9 ∷ []) ≡ 9 ∷ []
unfolding overlaid
onto_nothing = refl

nothing_written : overlaid (1 ∷ 2 ∷ []) 1 [] ≡ 1 ∷ 2 ∷ []
unfolding overlaid
nothing_written = refl

-- a disk of two stable bytes, whose first byte was written and then its second and third
abbrev start : Trace
start = record { start = 1 ∷ 2 ∷ []; steps = [] }

abbrev once : Trace
once = after (Wrote 0 (7 ∷ [])) start

abbrev twice : Trace
twice = after (Wrote 1 (8 ∷ 9 ∷ [])) once

abbrev synced : Trace
synced = after Synced twice

seen_twice : seen_of twice ≡ 7 ∷ 8 ∷ 9 ∷ []
unfolding overlaid
seen_twice = refl

-- a sync changes nothing that is read
seen_synced : seen_of synced ≡ 7 ∷ 8 ∷ 9 ∷ []
unfolding overlaid
seen_synced = refl

-- a read past the end gives zeros there, and nothing else
past_the_end : Gives (1 ∷ 2 ∷ []) 1 (2 ∷ 0 ∷ [])
past_the_end zero lt = refl
past_the_end (suc zero) lt = refl
past_the_end (suc (suc i)) lt = absurd (omega arith)

not_past_the_end : Gives (1 ∷ 2 ∷ []) 1 (2 ∷ 5 ∷ []) → ⊥
not_past_the_end gives = let h : 5 ≡ 0 = gives 1 (omega arith) in omega (arith, h)

another_place : Gives (1 ∷ 2 ∷ []) 1 (1 ∷ []) → ⊥
another_place gives = let h : 1 ≡ 2 = gives 0 (omega arith) in omega (arith, h)

-- ---- what a stop in a write leaves

-- a file of two bytes, and two bytes written at place 1
abbrev TornOne : List ℕ → Type 0
TornOne new = Torn 1 2 (1 ∷ 2 ∷ []) new

first : (xs ys : List ℕ) (i : ℕ) → i < 1 → slice_index (1 ∷ xs) i ≡ slice_index (1 ∷ ys) i
first xs ys zero lt = refl
first xs ys (suc i) lt = absurd (omega arith)

-- neither what was there nor what was written, and the old end still
any_bytes : TornOne (1 ∷ 77 ∷ [])
any_bytes = record {
  no_shorter = omega arith;
  no_longer = omega arith;
  before = λ i within lt. first (77 ∷ [])
      (2 ∷ []) i lt;
  behind = λ i within le. absurd (omega arith);
}

to_the_new_end : TornOne (1 ∷ 2 ∷ 66 ∷ [])
to_the_new_end = record {
  no_shorter = omega arith;
  no_longer = omega arith;
  before = λ i within lt. first (2 ∷ 66 ∷ [])
      (2 ∷ []) i lt;
  behind = λ i within le. absurd (omega arith);
}

past_the_new_end : TornOne (1 ∷ 2 ∷ 66 ∷ 66 ∷ []) → ⊥
past_the_new_end torn = let h : 4 ≤ 3 = torn.no_longer in omega (arith, h)

cut_off : TornOne (1 ∷ []) → ⊥
cut_off torn = let h : 2 ≤ 1 = torn.no_shorter in omega (arith, h)

before_its_range : TornOne (5 ∷ 2 ∷ []) → ⊥
before_its_range torn = let h : 5 ≡ 1 = torn.before 0 (omega arith) (omega arith) in omega (arith, h)

behind_its_range : Torn 0 1 (1 ∷ 2 ∷ []) (9 ∷ 5 ∷ []) → ⊥
behind_its_range torn = let h : 5 ≡ 2 = torn.behind 1 (omega arith) (omega arith) in omega (arith, h)

-- between the old end and a place behind it any bytes may stand
in_the_gap : Torn 3 1 (1 ∷ []) (1 ∷ 66 ∷ [])
in_the_gap = record {
  no_shorter = omega arith;
  no_longer = omega arith;
  before = λ i within lt. first (66 ∷ []) [] i within;
  behind = λ i within le. absurd
      (omega arith);
}

-- ---- images

-- Before a sync the old file is one, and after it what is read alone.
old_file : IsImageOf once (1 ∷ 2 ∷ [])
old_file = (1 ∷ 2 ∷ [], refl, torn-same 0 1 (1 ∷ 2 ∷ []))

old_file_synced : IsImageOf synced (1 ∷ 2 ∷ []) → ⊥
unfolding overlaid
old_file_synced image = let h : 2 ≡ 3 = ap length image in omega (arith, h)

new_file_synced : IsImageOf synced (7 ∷ 8 ∷ 9 ∷ [])
unfolding overlaid
new_file_synced = refl

-- of two writes that are not synced, the second may be there and not the first
second_alone : IsImageOf twice (1 ∷ 8 ∷ 9 ∷ [])
second_alone = (
  1 ∷ 2 ∷ [],
  old_file,
  record {
    no_shorter = omega arith;
    no_longer = omega arith;
    before = λ i within lt. first (8 ∷ 9 ∷ [])
        (2 ∷ []) i lt;
    behind = λ i within le. absurd (omega arith);
  },
)

-- At an earlier moment the old file was one, and since the sync it was not.
was_old_file : WasImageOf 1 synced (1 ∷ 2 ∷ [])
was_old_file = inr (omega arith, inr (omega arith, inl old_file))

not_since_the_sync : WasImageOf 3 synced (1 ∷ 2 ∷ []) → ⊥
not_since_the_sync (inl now) = old_file_synced now
not_since_the_sync (inr earlier) = let h : 3 ≤ 2 = earlier.0 in omega (arith, h)

moments : moment synced ≡ 3
moments = refl

-- ---- told or not

not_told : noted Synced None ≡ None
not_told = refl

told : noted Synced (Some twice) ≡ Some synced
told = refl

-- what is told stays told, and what isn't doesn't become so
told_then_not : WhereTold (λ t u. t ≡ u) (Some start) None → ⊥
told_then_not h = h

not_told_then_told : WhereTold (λ t u. t ≡ u) None (Some start) → ⊥
not_told_then_told h = h

-- a write that failed may have written nothing, or as many bytes, and not more
nothing_tried : MayHaveWritten 0 1 (Some start) (Some start)
nothing_tried = inl refl

as_many_tried : MayHaveWritten 0 1 (Some start) (Some once)
as_many_tried = inr (7 ∷ [], omega arith, refl)

abbrev moments_of : Option Trace → ℕ
moments_of None = 0
moments_of (Some t) = moment t

abbrev size_of : List Step → ℕ
size_of (Wrote place bytes ∷ steps) = length bytes
size_of (Synced ∷ steps) = 0
size_of [] = 0

abbrev last_size : Option Trace → ℕ
last_size (Some t) = size_of t.steps
last_size None = 0

more_tried : MayHaveWritten 1 1 (Some once) (Some twice) → ⊥
more_tried (inl same) = let h : 2 ≡ 1 = ap (moments_of) same in omega (arith, h)
more_tried (inr wrote) = let h : 2 ≡ length wrote.0 = ap last_size wrote.2 in let le = wrote.1 in omega (arith, h)

-- ---- which calls of a disk in memory fail

-- calls 1 and 3 are listed, of at most 9
listed : (disk : MemDisk) → failing_of disk ≡ 1 ∷ 3 ∷ [] → calls_of disk ≡ 3 → (limits_of disk).calls ≡ 9 → is_refused disk ≡ true
listed disk failing calls most = simp (failing, calls, most) refl

not_listed : (disk : MemDisk) → failing_of disk ≡ 1 ∷ 3 ∷ [] → calls_of disk ≡ 2 → (limits_of disk).calls ≡ 9 → is_refused disk ≡ false
not_listed disk failing calls most = simp (failing, calls, most) refl

ninth_call : (disk : MemDisk) → failing_of disk ≡ [] → calls_of disk ≡ 8 → (limits_of disk).calls ≡ 9 → is_refused disk ≡ false
ninth_call disk failing calls most = simp (failing, calls, most) refl

tenth_call : (disk : MemDisk) → failing_of disk ≡ [] → calls_of disk ≡ 9 → (limits_of disk).calls ≡ 9 → is_refused disk ≡ true
tenth_call disk failing calls most = simp (failing, calls, most) refl

-- at most 8 bytes long, and 10 bytes written, of which there were 7
past_the_length : (disk : MemDisk) → (limits_of disk).length ≡ 8 → IsPastLimits disk 6 3
past_the_length disk long = inl (omega arith)

past_the_sum : (disk : MemDisk) → (limits_of disk).written ≡ 10 → written_of disk ≡ 7 → IsPastLimits disk 0 4
past_the_sum disk most before = inr (omega arith)

within_both : (disk : MemDisk) → (limits_of disk).length ≡ 8 → (limits_of disk).written ≡ 10 → written_of disk ≡ 7 → IsPastLimits disk 5 3 → ⊥
within_both disk long most before (inl past) = omega arith
within_both disk long most before (inr past) = omega arith
