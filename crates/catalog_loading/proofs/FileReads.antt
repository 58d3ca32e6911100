-- one file is read
use Rattle.std.proofs.Common.{◌≡◌, ℕ, zero, suc, ◌≤◌, cond, List, [], ◌∷◌, ◌++◌, Option, Some, None, refl, sym, ◌∙◌, ap, subst, length}
use mathlib.Core.Logic.{◌⊎◌, inl, inr}
use Rattle.std.specs.Prelude.{◌^◌, IfSome, Result, Ok, Err, ok_or, nat_eq}
use Rattle.std.proofs.lemmas.Bool.{le-leb, lt-leb, eq-eqb, ne_eqb}
use Rattle.fz_outside.specs.Files.{IsRead, IsBounded}
use Rattle.fz_outside.specs.declared.files.FileRead.{FileRead}
use Rattle.fz_outside.specs.declared.files.FileRead.TheVariants.{Absent, TooLong, Bytes}
use Rattle.catalog_loading.specs.Files.{Contents, ReadsToCome, AreTold, always, readable}
use Rattle.catalog_loading.specs.Steps.{file_read}
use Rattle.catalog_loading.specs.Given.{IsStepGiven, IsRefusalOf, IsRefusedBy, IsStopAt}
use Rattle.catalog_loading.specs.declared.stops.Stop.{Stop}
use Rattle.catalog_loading.specs.declared.stops.Stop.TheVariants.{Usage, Refused, Journal, Disk, Fault, NoMemory}

readable_short : (bytes : List ℕ) → length bytes ≤ 2 ^ 26 → readable (Some bytes) ≡ Some bytes
readable_short bytes short = ap (λ b. cond b (Some bytes) None) (le-leb (length bytes) (2 ^ 26) short)

-- the bytes that a read gives
abbrev pub read_of : FileRead → Option (List ℕ)
read_of Absent = None
read_of TooLong = None
read_of (Bytes bytes) = Some bytes.items

read_told : (contents : Option (List ℕ)) (read : FileRead) → IsRead contents read → readable contents ≡ read_of read
read_told None Absent is = refl
read_told None TooLong is = absurd is
read_told None (Bytes bytes) is = absurd is
read_told (Some all) Absent is = absurd is
read_told (Some all) TooLong long = ap (λ b. cond b (Some all) None) (lt-leb (length all) (2 ^ 26) long)
read_told (Some all) (Bytes bytes) (same, short) = readable_short all short ∙ ap Some (sym same)

untold : (read : FileRead) → IsBounded read → readable (read_of read) ≡ read_of read
untold Absent bound = refl
untold TooLong bound = refl
untold (Bytes bytes) bound = readable_short bytes.items bound

-- these contents at first, and then the others
first_then : Option (List ℕ) → ReadsToCome → ReadsToCome
first_then contents rest zero = λ name. contents
first_then contents rest (suc n) = rest n

-- A read found some contents: those that are told.
pub found_first : (held : Option Contents) (name : List ℕ) (read : FileRead) → IfSome held (λ told. IsRead (told name) read) → IsBounded read
    → (rest : ReadsToCome) → AreTold held rest → (reads : ReadsToCome) × AreTold held reads × (readable (reads 0 name) ≡ read_of read) × ((λ n. reads (suc n)) ≡ rest)
unfolding first_then
found_first None name read found bound rest told = (first_then (read_of read) rest, tt, untold read bound, refl)
found_first (Some held) name read found bound rest told = (always held, refl, read_told (held name) read found, sym told)

-- a file that is there and not too long
pub file_given : (held : Option Contents) (name bytes : List ℕ) (read : FileRead) (old new : List (List ℕ)) → IfSome held (λ told. IsRead (told name) read) → IsBounded read
    → read_of read ≡ Some bytes → new ≡ old ++ name ∷ [] → (rest : ReadsToCome) → AreTold held rest → (reads : ReadsToCome) × AreTold held reads × IsStepGiven (file_read name reads) rest old new bytes
file_given held name bytes read old new found bound is named rest told =
    let first = found_first held name read found bound rest told in
    (first.0, first.1, record { given = ap (λ contents. ok_or contents name) (first.2 ∙ is); rests = first.3; names = named })

-- and one that isn't
refused_at : (name : List ℕ) (reads : ReadsToCome) (old new : List (List ℕ)) (stop : Stop) → readable (reads 0 name) ≡ None → new ≡ old ++ name ∷ [] → IsRefusalOf name stop → IsStopAt (file_read name reads) old new stop
refused_at name reads old new Usage none named is = absurd is
refused_at name reads old new (Refused other) none named is = (ap (λ contents. ok_or contents name) none ∙ ap Err (sym is), named)
refused_at name reads old new (Journal line) none named is = absurd is
refused_at name reads old new (Disk line) none named is = absurd is
refused_at name reads old new Fault none named is = absurd is
refused_at name reads old new NoMemory none named is = (name ∷ [], [], named, refl)

-- a file that isn't there, or is too long
pub none_to_read : (read : FileRead) → (read ≡ Absent) ⊎ (read ≡ TooLong) → read_of read ≡ None
none_to_read read (inl absent) = ap read_of absent
none_to_read read (inr long) = ap read_of long

pub refused_no_fault : {T : Type 0} (name : List ℕ) (stop : Stop) (result : Result T Stop) → IsRefusalOf name stop → result ≡ Err stop → result ≡ Err Fault → ⊥
refused_no_fault name stop result refuses is fault = let same : stop ≡ Fault = cc (is, fault) in subst (IsRefusalOf name) same refuses

pub file_refused : (held : Option Contents) (name : List ℕ) (read : FileRead) (old new : List (List ℕ)) (stop : Stop) → IfSome held (λ told. IsRead (told name) read) → IsBounded read
    → read_of read ≡ None → new ≡ old ++ name ∷ [] → IsRefusalOf name stop → (rest : ReadsToCome) → AreTold held rest → (reads : ReadsToCome) × AreTold held reads × IsStopAt (file_read name reads) old new stop
file_refused held name read old new stop found bound is named refuses rest told =
    let first = found_first held name read found bound rest told in
    (first.0, first.1, refused_at name first.0 old new stop (first.2 ∙ is) named refuses)

-- a key of 32 bytes, and one of another length
abbrev pub key_or : (name bytes : List ℕ) → Result (List ℕ) (List ℕ)
key_or name bytes = cond (nat_eq (length bytes) 32) (Ok bytes) (Err name)

pub key_decided : (name bytes key given : List ℕ) → bytes ≡ given → length given ≡ 32 → key ≡ given → key_or name bytes ≡ Ok key
key_decided name bytes key given same long is =
    ap (λ b. cond b (Ok bytes) (Err name)) (eq-eqb (length bytes) 32 (ap length same ∙ long)) ∙ ap Ok (same ∙ sym is)

pub refusal_decided : {A : Type 0} (name : List ℕ) (given : Result A (List ℕ)) (stop : Stop) → given ≡ Err name → IsRefusalOf name stop → IsRefusedBy given stop
refusal_decided name given Usage is refuses = absurd refuses
refusal_decided name given (Refused other) is refuses = is ∙ ap Err (sym refuses)
refusal_decided name given (Journal line) is refuses = absurd refuses
refusal_decided name given (Disk line) is refuses = absurd refuses
refusal_decided name given Fault is refuses = absurd refuses
refusal_decided name given NoMemory is refuses = tt

pub key_undecided : (name bytes given : List ℕ) (stop : Stop) → bytes ≡ given → (length given ≡ 32 → ⊥) → IsRefusalOf name stop → IsRefusedBy (key_or name bytes) stop
key_undecided name bytes given stop same long refuses =
    refusal_decided name (key_or name bytes) stop (ap (λ b. cond b (Ok bytes) (Err name)) (ne_eqb (length bytes) 32 (λ is. long (sym (ap length same) ∙ is)))) refuses
