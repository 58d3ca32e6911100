-- What files hold, and what a read of one answers.
use Rattle.std.specs.Prelude.{◌≡◌, ℕ, ◌^◌, ◌<◌, ◌≤◌, List, [], ◌∷◌, ◌++◌, length, Result, Ok, Err, ◌⊎◌, Option, None, Some, if◌then◌else◌, ⊤, bytes_eq}
use Rattle.fz_outside.specs.declared.FileFault.{FileFault}
use Rattle.fz_outside.specs.declared.files.FileRead.{FileRead}
use Rattle.fz_outside.specs.declared.files.FileRead.TheVariants.{Absent, TooLong, Bytes}
use Rattle.fz_outside.specs.declared.files.MemFile.{MemFile}

-- What is read of a file that isn't there, or that has these bytes. Over 2 ^ 26 of them are too long.
abbrev pub IsRead : Option (List ℕ) → FileRead → Type 0
IsRead None Absent = ⊤
IsRead None TooLong = ⊥
IsRead None (Bytes read) = ⊥
IsRead (Some bytes) Absent = ⊥
IsRead (Some bytes) TooLong = 2 ^ 26 < length bytes
IsRead (Some bytes) (Bytes read) = (read.items ≡ bytes) × (length bytes ≤ 2 ^ 26)

-- a read gives at most 2 ^ 26 bytes
abbrev pub IsBounded : FileRead → Type 0
IsBounded Absent = ⊤
IsBounded TooLong = ⊤
IsBounded (Bytes read) = length read.items ≤ 2 ^ 26

-- A read adds its name to the names that were read. One that fails may have stopped before.
abbrev pub AddsName : Result FileRead FileFault → (name : List ℕ) → (old new : List (List ℕ)) → Type 0
AddsName (Ok read) name old new = new ≡ old ++ name ∷ []
AddsName (Err fault) name old new = (new ≡ old ++ name ∷ []) ⊎ (new ≡ old)

-- the bytes of the first of these files that has this name
abbrev pub bytes_of : List MemFile → List ℕ → Option (List ℕ)
bytes_of [] name = None
bytes_of (file ∷ files) name = if bytes_eq file.name.now name then Some file.bytes.now else bytes_of files name
