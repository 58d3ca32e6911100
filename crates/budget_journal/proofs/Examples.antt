-- Versions, areas, gates, and what bytes of version 2 stand for, worked out.
use Rattle.std.proofs.Common.{◌≡◌, ◌≢◌, ℕ, zero, suc, ◌+◌, ◌-◌, ◌*◌, ◌<◌, ◌≤◌, List, [], ◌∷◌, ◌++◌, length, take, drop, replicate, slice_index, refl, sym, ◌∙◌, ap, subst, arith, inl, inr, Some}
use Rattle.std.specs.Prelude.{slice_get}
use Rattle.std.proofs.lemmas.Option.{same_Some}
use Rattle.std.proofs.lemmas.List.{length-append, length-replicate, get_or-append_right, get_or-take, get_or-drop, get_or-replicate}
use Rattle.outside_disks.specs.Disks.{Step}
use Rattle.outside_disks.specs.Disks.Step.{Wrote, Synced}
use Rattle.journal_records.specs.Encoding.{gate, encoded, encoded_header, IsValid}
use Rattle.journal_records.specs.declared.records.Outcome.TheVariants.{Exhausted}
use Rattle.journal_records.specs.declared.records.Record.{Record}
use Rattle.journal_records.specs.declared.records.Header.{Header}
use Rattle.journal_records.specs.Records.{settling}
use Rattle.budget_journal.specs.declared.opening.OpenFault.TheVariants.{NotInitialised, Changed}
use Rattle.budget_journal.specs.declared.form.Form.TheVariants.{One, Many}
use Rattle.budget_journal.specs.Journals.{slot_place, slot, gate_of, Holds, slots_in, Stands, IsHeaderFault}
use Rattle.budget_journal.specs.Areas.{version_by, form_by, form_in, area_slots, area_begin, IsArea, IsLastArea, area_in, area_gate, live_area, HasGates, IsStray}
use Rattle.budget_journal.specs.Growth.{HasFront, HasCopy}
use Rattle.budget_journal.specs.Making.{AreZeros, first_bytes, MakesJournal, AreFirst, Begins}
use Rattle.budget_journal.proofs.Geometry.{area-by}
use Rattle.budget_journal.proofs.Gates.{all-zero}
use Rattle.budget_journal.proofs.One.{stands-one}

-- ---- versions

first_version : version_by 1 ≡ 1
first_version = refl

second_version : version_by 2 ≡ 2
second_version = refl

third_version : version_by 3 ≡ 3
third_version = refl

-- an unknown one is judged as the newest
no_version : version_by 0 ≡ 3
no_version = refl

later_version : version_by 4 ≡ 3
later_version = refl

one_area : form_by 1 ≡ One
one_area = refl

many_areas : form_by 2 ≡ Many
many_areas = refl

as_many : form_by 3 ≡ Many
as_many = refl

-- version 1 has one area for all records, of any capacity
all_in_one : area_slots One 262144 0 ≡ 262144
all_in_one = refl

one_area_alone : IsArea One 262144 1 → ⊥
one_area_alone is = let h : 262144 < 262144 = is 0 (omega arith) in omega (arith, h)

its_last : IsLastArea One 100 0
its_last = (λ n lt. absurd (omega arith), refl)

-- ---- how many areas there are

one_slot : IsLastArea Many 1 0
one_slot = (λ n lt. absurd (omega arith), refl)

sixty_three : IsLastArea Many 63 0
sixty_three = (λ n lt. absurd (omega arith), refl)

sixty_four : IsLastArea Many 64 0
sixty_four = (λ n lt. absurd (omega arith), refl)

none_behind : IsArea Many 64 1 → ⊥
none_behind is = let h : 64 < 64 = is 0 (omega arith) in omega (arith, h)

sixty_five : IsLastArea Many 65 1
sixty_five = (area-by 65 0 (omega arith), refl)

a_hundred : IsLastArea Many 100 1
a_hundred = (area-by 100 0 (omega arith), refl)

not_the_first : IsLastArea Many 100 0 → ⊥
not_the_first last = let h : 64 ≡ 100 = last.1 in omega (arith, h)

twice : IsLastArea Many 128 1
twice = (area-by 128 0 (omega arith), refl)

one_more_than_twice : IsLastArea Many 129 2
one_more_than_twice = (area-by 129 1 (omega arith), refl)

the_most : IsLastArea Many 262144 12
the_most = (area-by 262144 11 (omega arith), refl)

not_the_one_before : area_slots Many 262144 11 ≡ 131072
not_the_one_before = refl

-- ---- where they begin, and where the last one ends

first_begins : area_begin Many 100 0 ≡ 128
first_begins = refl

of_one_slot : area_begin Many 1 1 ≡ 192
of_one_slot = refl

of_sixty_three : area_begin Many 63 1 ≡ 4160
of_sixty_three = refl

of_sixty_four : area_begin Many 64 1 ≡ 4224
of_sixty_four = refl

of_sixty_five : area_begin Many 65 2 ≡ 8384
of_sixty_five = refl

second_of_a_hundred : area_begin Many 100 1 ≡ 4224
second_of_a_hundred = refl

of_a_hundred : area_begin Many 100 2 ≡ 10624
of_a_hundred = refl

of_twice : area_begin Many 128 2 ≡ 12416
of_twice = refl

last_of_the_most : area_begin Many 262144 12 ≡ 16773248
last_of_the_most = refl

of_the_most : area_begin Many 262144 13 ≡ 33550464
of_the_most = refl

-- the 65th record of a journal for a hundred stands in area 1, in a file that ends with it
where_it_stands : slot_place (area_in Many 100 1 10624) 64 ≡ 8320
where_it_stands = refl

all_of_it : (area_in Many 100 1 10624).size ≡ 10624
all_of_it = refl

-- a file may go on behind an area, and not end in it
goes_on : (area_in Many 100 0 5000).size ≡ 5000
goes_on = refl

ends_in_it : (area_in Many 100 0 4223).size ≡ 4224
ends_in_it = refl

-- ---- gates

-- a header whose bytes from 97 on are these
abbrev gated : List ℕ → List ℕ
gated gates = replicate 97 0 ++ gates

none_open : live_area (gated (0 ∷ 0 ∷ [])) ≡ 0
none_open = refl

first_open : live_area (gated (165 ∷ 0 ∷ [])) ≡ 1
first_open = refl

two_open : live_area (gated (165 ∷ 165 ∷ 164 ∷ [])) ≡ 2
two_open = refl

behind_a_shut_one : live_area (gated (0 ∷ 165 ∷ [])) ≡ 0
behind_a_shut_one = refl

-- neither byte 96 nor 128 is a gate
before_the_first : live_area (replicate 96 0 ++ 165 ∷ 0 ∷ []) ≡ 0
before_the_first = refl

past_the_last : live_area (gated (replicate 31 165 ++ 165 ∷ [])) ≡ 31
past_the_last = refl

zero_is_shut : 0 ≢ gate
zero_is_shut is = let h : 0 ≡ 165 = is in omega (arith, h)

stray_behind : IsStray 262144 (gated (0 ∷ 165 ∷ [])) 2
stray_behind = (omega arith, omega arith, refl, inl (1, omega arith, omega arith, zero_is_shut))

stray_past : IsStray 64 (gated (165 ∷ [])) 1
stray_past = (omega arith, omega arith, refl, inr none_behind)

not_stray : IsStray 65 (gated (165 ∷ [])) 1 → ⊥
not_stray (low, high, is, inl (m, some, lt, shut)) = omega arith
not_stray (low, high, is, inr none) = none (area-by 65 0 (omega arith))

not_stray_where_shut : IsStray 64 (gated (164 ∷ [])) 1 → ⊥
not_stray_where_shut stray = let h : 164 ≡ 165 = stray.2 in omega (arith, h)

-- ---- what stands for what

-- journals for two records
abbrev header : Header
header = record { owner = 1; budget = 10; capacity = 2; digest = replicate 32 7; version = 2 }

abbrev settled : Record
settled = settling 7 Exhausted

valid : IsValid settled
valid = record { numbered = omega arith; settled = tt; bounded = omega arith; gives_back = tt }

-- no record; one; one, with a slot's bytes behind the area
abbrev none : List ℕ
none = encoded_header header ++ replicate 128 0

abbrev one : List ℕ
one = encoded_header header ++ encoded settled ++ replicate 64 0

abbrev with_more : List ℕ
with_more = one ++ 165 ∷ 9 ∷ []

its_version : slice_index none 9 ≡ 2
its_version = refl

as_long_as_that : first_bytes header ≡ 256
as_long_as_that = refl

both : (P : ℕ → Type 0) → P 0 → P 1 → (k : ℕ) → k < 2 → P k
both P first second zero lt = first
both P first second (suc zero) lt = second
both P first second (suc (suc k)) lt = absurd (omega arith)

-- area 0 alone, where bytes 97 to 127 are zeros
shut_gates : (bytes : List ℕ) → take 31 (drop 97 bytes) ≡ replicate 31 0 → HasGates 2 0 bytes
shut_gates bytes are = record {
  there = λ n lt. absurd (omega arith);
  opened = λ n low high. absurd (omega arith);
  shut = λ n low high is. no_gate n low high is;
}
  where
    no_gate : (n : ℕ) → 0 < n → n ≤ 31 → area_gate bytes n ≢ gate
    no_gate zero low high is = omega arith
    no_gate (suc n) low high is =
        let here : 97 + n ≡ 96 + suc n = omega arith in
        let byte : slice_index (take 31 (drop 97 bytes)) n ≡ 165 = get_or-take 31 (drop 97 bytes) n 0 (omega arith)
        ∙ get_or-drop 97 bytes n 0 ∙ ap (slice_index bytes) here ∙ is in
        let h : 0 ≡ 165 = sym (get_or-replicate 31 n 0 0 (omega arith)) ∙ ap (λ (l : List ℕ). slice_index l n) (sym are) ∙ byte in
        omega (arith, h)

at_first : (k : ℕ) (r : Record) → slice_get (settled ∷ []) k ≡ Some r → Holds (slot (slots_in header one) one k) r
at_first zero r is = subst (λ (s : Record). Holds (slot (slots_in header one) one 0) s) (same_Some settled r is) (record { valid = valid; bytes = refl })
at_first (suc k) r is = absurd cc

one_stands : Stands header (settled ∷ []) one
one_stands = record {
  head = record { fields = refl; known = refl; gates = shut_gates one refl };
  fills = record {
    whole = refl;
    room = omega arith;
    kept = at_first;
    shut = λ k le lt. both (λ n. 1 ≤ n → gate_of (slots_in header one) one n ≢ gate) (λ late. absurd (omega arith)) (λ late. zero_is_shut) k lt le;
  };
}

in_more : (k : ℕ) (r : Record) → slice_get (settled ∷ []) k ≡ Some r → Holds (slot (slots_in header with_more) with_more k) r
in_more zero r is = subst (λ (s : Record). Holds (slot (slots_in header with_more) with_more 0) s) (same_Some settled r is)
    (record { valid = valid; bytes = refl })
in_more (suc k) r is = absurd cc

-- what stands behind the live area isn't looked at
more_stands : Stands header (settled ∷ []) with_more
more_stands = record {
  head = record { fields = refl; known = refl; gates = shut_gates with_more refl };
  fills = record {
    whole = refl;
    room = omega arith;
    kept = in_more;
    shut = λ k le lt. both (λ n. 1 ≤ n → gate_of (slots_in header with_more) with_more n ≢ gate) (λ late. absurd (omega arith))
        (λ late. zero_is_shut) k lt le;
  };
}

too_short : Stands header [] (take 255 none) → ⊥
too_short stands = let h : 255 ≡ 256 = stands.fills.whole in omega (arith, h)

an_open_slot_counts : Stands header [] one → ⊥
an_open_slot_counts stands = stands.fills.shut 0 (omega arith) (omega arith) refl

-- a byte of another version names no version's header
of_version_three : Stands header [] (take 9 none ++ 3 ∷ drop 10 none) → ⊥
of_version_three stands = let h : 3 ≡ 2 = ap (λ (b : List ℕ). slice_index b 9) stands.head.fields in omega (arith, h)

-- one of version 1 isn't read by the rules of version 2, though it would fill the area
as_version_one : Stands (record header { version = 1 }) [] (take 9 none ++ 1 ∷ drop 10 none)
as_version_one = record {
  head = refl;
  fills = record {
    whole = refl;
    room = omega arith;
    kept = λ k r is. absurd cc;
    shut = λ k le lt. both (λ n. gate_of (slots_in header (take 9 none ++ 1 ∷ drop 10 none)) (take 9 none ++ 1 ∷ drop 10 none) n ≢ gate)
        zero_is_shut zero_is_shut k lt;
  };
}

-- byte 96 counts, and of the bytes behind it gates alone
byte_96 : Stands header [] (take 96 none ++ 1 ∷ drop 97 none) → ⊥
byte_96 stands = let h : 1 ≡ 0 = ap (λ (b : List ℕ). slice_index b 96) stands.head.fields in omega (arith, h)

byte_97 : take 97 (take 97 none ++ 1 ∷ drop 98 none) ≡ take 97 (encoded_header header)
byte_97 = refl

a_gate_for_no_area : Stands header [] (take 97 none ++ 165 ∷ drop 98 none) → ⊥
a_gate_for_no_area stands = let h : 2 < 2 = stands.head.gates.there 0 (omega arith) in omega (arith, h)

-- ---- which area counts

abbrev wide : Header
wide = record header { capacity = 65 }

-- Areas 0 and 1 of 64 and 65 slots, with a record in area 0 and none in area 1, and this byte as area 1's gate.
abbrev front : ℕ → List ℕ
front byte = (take 97 (encoded_header wide) ++ byte ∷ replicate 30 0) ++ encoded settled

abbrev two_areas : ℕ → List ℕ
two_areas byte = front byte ++ replicate 8192 0

its_length : (byte : ℕ) → length (two_areas byte) ≡ 8384
its_length byte = omega (arith, length-append (front byte) (replicate 8192 0), length-replicate {A = ℕ} 8192 0)

zero_from : (byte i : ℕ) → 192 ≤ i → slice_index (two_areas byte) i ≡ 0
zero_from byte i le = get_or-append_right (front byte) (replicate 8192 0) 192 i 0 refl le ∙ all-zero 8192 (i - 192)

-- of the gates past the first none is open
shut_past : (byte n : ℕ) → 1 < n → n ≤ 31 → area_gate (two_areas byte) n ≢ gate
shut_past byte zero low high is = omega arith
shut_past byte (suc zero) low high is = omega arith
shut_past byte (suc (suc n)) low high is =
    let here : 98 + n ≡ 96 + suc (suc n) = omega arith in
    let zeros_there : take 30 (drop 98 (two_areas byte)) ≡ replicate 30 0 = refl in
    let open_there : slice_index (take 30 (drop 98 (two_areas byte))) n ≡ 165 = get_or-take 30 (drop 98 (two_areas byte)) n 0 (omega arith)
    ∙ get_or-drop 98 (two_areas byte) n 0 ∙ ap (slice_index (two_areas byte)) here ∙ is in
    let h : 0 ≡ 165 = sym (get_or-replicate 30 n 0 0 (omega arith)) ∙ ap (λ (l : List ℕ). slice_index l n) (sym zeros_there) ∙ open_there in
    omega (arith, h)

first_gate : (n : ℕ) → 1 ≤ n → n ≤ 1 → area_gate (two_areas 165) n ≡ gate
first_gate zero low high = absurd (omega arith)
first_gate (suc zero) low high = refl
first_gate (suc (suc n)) low high = absurd (omega arith)

-- An open gate: area 1 is live, and the record in area 0 isn't looked at.
next_area_counts : Stands wide [] (two_areas 165)
next_area_counts = record {
  head = record { fields = refl; known = refl; gates = record { there = area-by 65 0 (omega arith); opened = first_gate; shut = shut_past 165 } };
  fills = record {
    whole = omega (arith, its_length 165);
    room = omega arith;
    kept = λ k r is. absurd cc;
    shut = λ k le lt is. zero_is_shut (sym (zero_from 165 (4224 + 64 * k) (omega arith)) ∙ is);
  };
}

that_alone : Stands wide (settled ∷ []) (two_areas 165) → ⊥
that_alone stands = let h = stands-one wide [] (settled ∷ []) (two_areas 165) next_area_counts stands in absurd cc

torn_gate : (n : ℕ) → 0 < n → n ≤ 31 → area_gate (two_areas 37) n ≢ gate
torn_gate zero low high is = omega arith
torn_gate (suc zero) low high is = let h : 37 ≡ 165 = is in omega (arith, h)
torn_gate (suc (suc n)) low high is = shut_past 37 (suc (suc n)) (omega arith) high is

in_first : (k : ℕ) (r : Record) → slice_get (settled ∷ []) k ≡ Some r → Holds (slot (slots_in wide (two_areas 37)) (two_areas 37) k) r
in_first zero r is = subst (λ (s : Record). Holds (slot (slots_in wide (two_areas 37)) (two_areas 37) 0) s) (same_Some settled r is)
    (record { valid = valid; bytes = refl })
in_first (suc k) r is = absurd cc

-- Another byte: area 0 is, and has its record, whatever was written behind it.
first_area_counts : Stands wide (settled ∷ []) (two_areas 37)
first_area_counts = record {
  head = record { fields = refl; known = refl; gates = record { there = λ n lt. absurd (omega arith); opened = λ n low high. absurd (omega arith); shut = torn_gate } };
  fills = record {
    whole = omega (arith, its_length 37);
    room = omega arith;
    kept = in_first;
    shut = λ k le lt is. zero_is_shut (sym (zero_from 37 (128 + 64 * k) (omega arith)) ∙ is);
  };
}

-- ---- why a header isn't taken

under_a_header : IsHeaderFault header (replicate 127 0) (NotInitialised 127)
under_a_header = (refl, inl (omega arith))

abbrev unknown : List ℕ
unknown = take 9 none ++ 4 ∷ drop 10 none

unknown_version : IsHeaderFault header unknown (Changed (take 128 unknown) (encoded_header (record header { version = 3 })))
unknown_version = (omega arith, refl, refl, refl, inl (λ same. let h : 4 ≡ 3 = ap (λ (b : List ℕ). slice_index b 9) same in omega (arith, h)))

abbrev strayed : List ℕ
strayed = take 97 none ++ 165 ∷ drop 98 none

a_stray_gate : IsHeaderFault header strayed (Changed (take 128 strayed) (encoded_header header))
a_stray_gate = (
  omega arith,
  refl,
  refl,
  refl,
  inr (
    1,
    (
      omega arith,
      omega arith,
      refl,
      inr (λ there. let h : 2 < 2 = there 0 (omega arith) in omega (arith, h)),
    ),
  ),
)

-- ---- an area that is written

kept_front : HasFront 2 (1 ∷ 2 ∷ 3 ∷ []) (1 ∷ 2 ∷ 9 ∷ 9 ∷ [])
kept_front = record { long = omega arith; same = both (λ i. slice_index (1 ∷ 2 ∷ 9 ∷ 9 ∷ []) i ≡ slice_index (1 ∷ 2 ∷ 3 ∷ []) i) refl refl }

changed_front : HasFront 3 (1 ∷ 2 ∷ 3 ∷ []) (1 ∷ 2 ∷ 9 ∷ 9 ∷ []) → ⊥
changed_front front = let h : 9 ≡ 3 = front.same 2 (omega arith) in omega (arith, h)

cut_front : HasFront 2 (1 ∷ 2 ∷ 3 ∷ []) (1 ∷ []) → ⊥
cut_front front = let h : 2 ≤ 1 = front.long in omega (arith, h)

-- one slot, and two behind it
shut_copy : HasCopy 0 1 2 (165 ∷ replicate 63 1) ((165 ∷ replicate 63 1) ++ (0 ∷ replicate 63 1) ++ replicate 64 0) → ⊥
shut_copy copy = let h : 0 ≡ 165 = copy.copied 0 0 (omega arith) (omega arith) (omega arith) in omega (arith, h)

no_zeros : HasCopy 0 1 2 (165 ∷ replicate 63 1) ((165 ∷ replicate 63 1) ++ (165 ∷ replicate 63 1) ++ replicate 64 3) → ⊥
no_zeros copy = let h : 3 ≡ 0 = copy.zeros 1 0 (omega arith) (omega arith) (omega arith) in omega (arith, h)

half_a_slot : HasCopy 0 1 2 (replicate 64 1) (replicate 191 1) → ⊥
half_a_slot copy = let h : 192 ≤ 191 = copy.long in omega (arith, h)

-- ---- the steps in which a journal is made

abbrev zeros : List Step
zeros = Wrote 64 (replicate 192 0) ∷ Wrote 0 (replicate 64 0) ∷ []

zeros_over_the_whole : AreZeros zeros 256
zeros_over_the_whole = (refl, refl, (refl, refl, refl))

one_zero_left_out : AreZeros (Wrote 65 (replicate 191 0) ∷ Wrote 0 (replicate 64 0) ∷ []) 256 → ⊥
one_zero_left_out are = let h : 65 ≡ 64 = are.2.1 in omega (arith, h)

another_byte : AreZeros (Wrote 0 (0 ∷ 1 ∷ []) ∷ []) 2 → ⊥
another_byte are = let h : 1 ≡ 0 = ap (λ (b : List ℕ). slice_index b 1) are.0 in omega (arith, h)

abbrev header_behind_gate : Step
header_behind_gate = Wrote 1 (drop 1 (encoded_header header))

abbrev making : List Step
making = Synced ∷ Wrote 0 (165 ∷ []) ∷ Synced ∷ header_behind_gate ∷ Synced ∷ zeros

made_in_turn : MakesJournal header making
made_in_turn = (zeros, zeros_over_the_whole, refl)

synced_once : MakesJournal header (Synced ∷ Wrote 0 (165 ∷ []) ∷ header_behind_gate ∷ zeros) → ⊥
synced_once makes = let h = makes.2 in absurd cc

gate_with_the_header : MakesJournal header (Synced ∷ Wrote 0 (encoded_header header) ∷ Synced ∷ zeros) → ⊥
gate_with_the_header makes = let h = makes.2 in absurd cc

not_synced_at_the_end : MakesJournal header (Wrote 0 (165 ∷ []) ∷ Synced ∷ header_behind_gate ∷ Synced ∷ zeros) → ⊥
not_synced_at_the_end makes = let h = makes.2 in absurd cc

-- a fault at first, of the gate, and of the sync behind it
nothing_done : Begins making []
nothing_done = tt

another_gate : Begins making (Wrote 0 (37 ∷ []) ∷ Synced ∷ header_behind_gate ∷ Synced ∷ zeros)
another_gate = (165 ∷ [], omega arith, (Synced ∷ [], refl))

all_but_a_sync : Begins making (Wrote 0 (165 ∷ []) ∷ Synced ∷ header_behind_gate ∷ Synced ∷ zeros)
all_but_a_sync = (165 ∷ [], omega arith, (Synced ∷ [], refl))

-- a sync that isn't among the steps
no_such_sync : (bytes : List ℕ) → AreFirst (Wrote 0 bytes ∷ []) (Synced ∷ []) → ⊥
no_such_sync bytes ([], same) = absurd cc
no_such_sync bytes (x ∷ [], same) = absurd cc
no_such_sync bytes (x ∷ y ∷ later, same) = absurd cc

-- more bytes than were to be written
one_byte_too_many : Begins (Wrote 0 (165 ∷ []) ∷ []) (Wrote 0 (165 ∷ 1 ∷ []) ∷ []) → ⊥
one_byte_too_many (whole, le, ([], same)) =
    let e : Wrote 0 (165 ∷ []) ∷ [] ≡ Wrote 0 whole ∷ [] = same in
    let w : 165 ∷ [] ≡ whole = cc in
    let h : 1 ≡ length whole = ap length w in
    omega arith
one_byte_too_many (whole, le, (x ∷ [], same)) = absurd cc
one_byte_too_many (whole, le, (x ∷ y ∷ later, same)) = absurd cc

-- of a journal for a hundred, the header and 64 slots
of_a_hundred_at_first : first_bytes (record header { capacity = 100 }) ≡ 4224
of_a_hundred_at_first = refl
