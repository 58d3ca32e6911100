-- What `derive` and `judge` are to do, and the steps of their reading.
use Rattle.std.specs.Prelude.{ℕ, List}
use Rattle.fz_ast.specs.Signature.{Signature}
use Rattle.owner_catalog.specs.Entries.{owner_signature}
use Rattle.catalog_loading.specs.Steps.{FileStep, ◌>>=◌, done, file_read, from}
use Rattle.catalog_loading.specs.Loaded.{catalog_read, entry_named}

-- a program's bytes, and the tables that it may name
pub record Subject : Type 0 where
  pub tables : Signature
  pub program : List ℕ

pub data Task : Type 0 where
  -- by `derive`: the program's derivation is to be written
  to_derive : Subject → Task
  -- by `judge`: these bytes are to be judged as a derivation of the program
  to_judge : Subject → (derivation : List ℕ) → Task

-- CATALOG, then OWNER in it, then FILE. No table is read: the catalog has their names and columns, and a program of a part is one of the whole
-- here.
abbrev pub subject_read : (catalog owner file : List ℕ) → FileStep Subject
subject_read catalog owner file = do
  house ← catalog_read catalog
  entry ← from (entry_named house owner)
  program ← file_read file
  done (record { tables = owner_signature entry; program = program })

abbrev pub derive_steps : (catalog owner file : List ℕ) → FileStep Task
derive_steps catalog owner file = do
  subject ← subject_read catalog owner file
  done (to_derive subject)

-- and then DERIVATION
abbrev pub judge_steps : (catalog owner file derivation : List ℕ) → FileStep Task
judge_steps catalog owner file derivation = do
  subject ← subject_read catalog owner file
  bytes ← file_read derivation
  done (to_judge subject bytes)
