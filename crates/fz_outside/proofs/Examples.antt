-- The definitions, worked out on small values.
use Rattle.std.specs.Prelude.{◌≡◌, ℕ, ◌^◌, ◌-◌, List, [], ◌∷◌, length, Some, None, Ok, Err, true, false, refl, ⊤}
use Rattle.std.proofs.Common.{arith, ◌<◌, ap, sym, ◌∙◌, get_or, inl, inr, Vec, Global}
use Rattle.fz_outside.specs.Draws.{draws_after, first_draws, HasDrawn, padded}
use Rattle.fz_outside.specs.Faults.{HasRisen, HasCause, both_counts, count_after}
use Rattle.fz_outside.specs.Files.{IsRead, IsBounded, AddsName, bytes_of}
use Rattle.fz_outside.specs.Schedule.{is_listed, began}
use Rattle.fz_outside.specs.declared.FileFault.TheVariants.{NoMemory}
use Rattle.fz_outside.specs.declared.files.FileRead.TheVariants.{Absent, TooLong, Bytes}
use Rattle.fz_outside.specs.declared.files.MemFile.{MemFile}
use Rattle.fz_outside.specs.declared.flaky.Schedule.{Schedule}

-- a list gives its draws in order, and then zeros
three_of_two : first_draws 3 (padded (7 ∷ 8 ∷ [])) ≡ 7 ∷ 8 ∷ 0 ∷ []
three_of_two = refl

-- behind its first draw stands the second
behind_the_first : first_draws 2 (draws_after 1 (padded (7 ∷ 8 ∷ []))) ≡ 8 ∷ 0 ∷ []
behind_the_first = refl

-- none are the first none, and behind none stands the whole
none_of_two : first_draws 0 (padded (7 ∷ 8 ∷ [])) ≡ []
none_of_two = refl

behind_two : first_draws 2 (draws_after 2 (padded (7 ∷ 8 ∷ 9 ∷ []))) ≡ 9 ∷ 0 ∷ []
behind_two = refl

all_zeros : first_draws 2 (padded []) ≡ 0 ∷ 0 ∷ []
all_zeros = refl

-- a stream that is its draws and its place: from place 3 two draws were taken, and not one
abbrev Stream : Type 0
Stream = (ℕ → ℕ) × ℕ

two_drawn : HasDrawn (λ (s : Stream). s.0) (λ s. s.1) 2 (padded (7 ∷ 8 ∷ 9 ∷ []), 3) (draws_after 2 (padded (7 ∷ 8 ∷ 9 ∷ [])), 5)
two_drawn = record { rest = refl; counted = refl }

one_too_few : HasDrawn (λ (s : Stream). s.0) (λ s. s.1) 1 (padded (7 ∷ 8 ∷ 9 ∷ []), 3) (draws_after 2 (padded (7 ∷ 8 ∷ 9 ∷ [])), 4) → ⊥
one_too_few drawn = let h : 9 ≡ 8 = ap (λ draws. draws 0) drawn.rest in omega (arith, h)

not_counted : HasDrawn (λ (s : Stream). s.0) (λ s. s.1) 1 (padded [], 3) (padded [], 3) → ⊥
not_counted drawn = let h : 3 ≡ 4 = drawn.counted in omega (arith, h)

-- the place stands still at its last value
place_at_the_end : HasDrawn (λ (s : Stream). s.0) (λ s. s.1) 1 (padded [], 2 ^ 64 - 1) (draws_after 1 (padded []), 2 ^ 64 - 1)
place_at_the_end = record { rest = refl; counted = refl }

-- a count rises by one, and stands still at its last value
fifth : count_after true 4 ≡ 5
fifth = refl

last : count_after true (2 ^ 64 - 1) ≡ 2 ^ 64 - 1
last = refl

last_but_one : count_after true (2 ^ 64 - 2) ≡ 2 ^ 64 - 1
last_but_one = refl

no_fault : count_after false 4 ≡ 4
no_fault = refl

both : both_counts 3 4 ≡ 7
both = refl

both_at_the_end : both_counts (2 ^ 64 - 2) 2 ≡ 2 ^ 64 - 1
both_at_the_end = refl

-- a count of 4 that stays has not risen, and one of 5 has
stayed : HasRisen 4 4 → ⊥
stayed risen = let h : 4 < 4 = risen (omega arith) in omega (arith, h)

rose : HasRisen 4 5
rose _ = omega arith

-- nothing is said of a count at its last value
at_the_end : HasRisen (2 ^ 64 - 1) (2 ^ 64 - 1)
at_the_end below = absurd (omega (arith, below))

before_the_end : HasRisen (2 ^ 64 - 2) (2 ^ 64 - 2) → ⊥
before_the_end risen = let h : 2 ^ 64 - 2 < 2 ^ 64 - 2 = risen (omega arith) in omega (arith, h)

-- a count never falls, also at an Ok, and a fault has a cause
fell : HasCause 4 3 ⊥ → ⊥
fell cause = omega (arith, cause.later)

no_cause : HasCause 4 4 ⊤ → ⊥
no_cause cause = let h : 4 < 4 = cause.failed tt (omega arith) in omega (arith, h)

no_fault_needs_none : HasCause 4 4 ⊥
no_fault_needs_none = record { later = omega arith; failed = λ no. absurd no }

-- the second and the fourth call are to fail
listed : (s : Schedule) → s.failing.now ≡ 1 ∷ 3 ∷ [] → s.calls ≡ 3 → s.faults ≡ 1 → (is_listed s ≡ true) × ((began s).calls ≡ 4) × ((began s).faults ≡ 2)
listed s failing calls faults = (simp (failing, calls) refl, simp calls refl, simp (failing, calls, faults) refl)

not_listed : (s : Schedule) → s.failing.now ≡ 1 ∷ 3 ∷ [] → s.calls ≡ 2 → s.faults ≡ 1 → (is_listed s ≡ false) × ((began s).calls ≡ 3) × ((began s).faults ≡ 1)
not_listed s failing calls faults = (simp (failing, calls) refl, simp calls refl, simp (failing, calls, faults) refl)

-- a file that isn't there, and an empty one
missing : IsRead None Absent
missing = tt

empty : IsRead (Some []) TooLong → ⊥
empty long = omega (arith, long)

-- a file that isn't there has no bytes, and one that is there isn't absent
missing_bytes : (read : Vec ℕ Global) → IsRead None (Bytes read) → ⊥
missing_bytes read is = is

missing_too_long : IsRead None TooLong → ⊥
missing_too_long is = is

there : IsRead (Some []) Absent → ⊥
there is = is

-- 2^26 bytes are read, and one more are too long
longest : (read : Vec ℕ Global) → length read.items ≡ 67108864 → IsRead (Some read.items) (Bytes read)
longest read is = (refl, omega (arith, is))

longest_is_short : (bytes : List ℕ) → length bytes ≡ 67108864 → IsRead (Some bytes) TooLong → ⊥
longest_is_short bytes is long = omega (arith, is, long)

one_longer : (bytes : List ℕ) → length bytes ≡ 67108865 → IsRead (Some bytes) TooLong
one_longer bytes is = omega (arith, is)

one_longer_is_not_read : (read : Vec ℕ Global) → length read.items ≡ 67108865 → IsRead (Some read.items) (Bytes read) → ⊥
one_longer_is_not_read read is read_is = omega (arith, is, read_is.1)

other_bytes : (read : Vec ℕ Global) → read.items ≡ [] → IsRead (Some (7 ∷ [])) (Bytes read) → ⊥
other_bytes read is read_is = let h : [] ≡ 7 ∷ [] = sym is ∙ read_is.0 in cc

longest_is_bounded : (read : Vec ℕ Global) → length read.items ≡ 67108864 → IsBounded (Bytes read)
longest_is_bounded read is = omega (arith, is)

one_longer_is_unbounded : (read : Vec ℕ Global) → length read.items ≡ 67108865 → IsBounded (Bytes read) → ⊥
one_longer_is_unbounded read is bounded = omega (arith, is, bounded)

-- a read adds its own name behind the others; one that fails adds it or none
adds_its_name : AddsName (Ok Absent) (98 ∷ []) ((97 ∷ []) ∷ []) ((97 ∷ []) ∷ (98 ∷ []) ∷ [])
adds_its_name = refl

forgets_its_name : AddsName (Ok Absent) (98 ∷ []) ((97 ∷ []) ∷ []) ((97 ∷ []) ∷ []) → ⊥
forgets_its_name adds = let lengths : 1 ≡ 2 = ap length adds in omega (arith, lengths)

fails_before : AddsName (Err NoMemory) (98 ∷ []) ((97 ∷ []) ∷ []) ((97 ∷ []) ∷ [])
fails_before = inr refl

adds_another : AddsName (Err NoMemory) (98 ∷ []) [] ((97 ∷ []) ∷ []) → ⊥
adds_another (inl same) = let byte : 97 ≡ 98 = ap (λ names. get_or (get_or names 0 []) 0 0) same in omega (arith, byte)
adds_another (inr same) = let lengths : 1 ≡ 0 = ap length same in omega (arith, lengths)

-- no files hold nothing
nothing : bytes_of [] (97 ∷ []) ≡ None
nothing = refl

-- a file is found behind one of another name
second : (a b : MemFile) → a.name.now ≡ 97 ∷ [] → b.name.now ≡ 98 ∷ [] → bytes_of (a ∷ b ∷ []) (98 ∷ []) ≡ Some b.bytes.now
second a b is_a is_b = simp (is_a, is_b) refl

-- of two files with one name the first is read
first_of_two : (a b : MemFile) → a.name.now ≡ 97 ∷ [] → b.name.now ≡ 97 ∷ [] → bytes_of (a ∷ b ∷ []) (97 ∷ []) ≡ Some a.bytes.now
first_of_two a b is_a is_b = simp (is_a, is_b) refl

neither : (a b : MemFile) → a.name.now ≡ 97 ∷ [] → b.name.now ≡ 98 ∷ [] → bytes_of (a ∷ b ∷ []) (97 ∷ 98 ∷ []) ≡ None
neither a b is_a is_b = simp (is_a, is_b) refl
