-- What was said over a connection, where it is told.
use Rattle.std.specs.Prelude.{◌≡◌, ℕ, List, Option}
use Rattle.std.specs.Io.KnownBytes.{prepend_known, append_known}

-- From the bytes that were left to those that are left now, a connection gave these bytes.
abbrev pub HasGiven : (old : Option (List ℕ)) → List ℕ → (new : Option (List ℕ)) → Type 0
HasGiven old given new = old ≡ prepend_known given new

-- From the bytes that were written to those that are written now, a connection took these bytes.
abbrev pub HasTaken : (old : Option (List ℕ)) → List ℕ → (new : Option (List ℕ)) → Type 0
HasTaken old taken new = new ≡ append_known old taken

-- What a connection shows: the bytes that are left to read and those that were written, where they are told, and how many calls
-- have failed.
pub record Connection : Type 0 where
  pub left : Option (List ℕ)
  pub written : Option (List ℕ)
  pub faults : ℕ

abbrev pub shown : Option (List ℕ) → Option (List ℕ) → ℕ → Connection
shown left written faults = record { left = left; written = written; faults = faults }
