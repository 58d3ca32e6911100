-- What a command comes to by its words and its files.
use Rattle.std.specs.Prelude.{ℕ, List, Result, Ok, Err}
use Rattle.fz_ast.specs.Signature.{Signature}
use Rattle.metric_values.specs.Tables.{Dataset}
use Rattle.catalog_loading.specs.Loaded.{KeyedOwner, Loading}
use Rattle.derivation_commands.specs.Task.{Task}

-- Faulty words; a name that is refused; or work to be done, a case a command.
pub data Work : Type 0 where
  usage : Work
  refused : (name : List ℕ) → Work
  -- by `run`: a script is to be answered by so many workers, in the house of a catalog and of what its owners hold, and under this key
  to_answer : (workers : ℕ) → Loading → (key : List ℕ) → Work
  -- by `init`: the journals of these owners are to be made
  to_make : Loading → (key : List ℕ) → Work
  -- by `audit`: the records in these owners' journals are to be counted
  to_count : Loading → (key : List ℕ) → Work
  -- by `serve`: so many workers are to serve so many connections each, in the house of a catalog and under this key
  to_serve : (workers each : ℕ) → Loading → (key : List ℕ) → Work
  -- by `gen`: so many asks are to be answered in memory, in a house and under a key that follow from this seed
  to_generate : (seed asks : ℕ) → Work
  -- by `check`: a program is to be checked over these tables
  to_check : (tables : Signature) (program : List ℕ) → Work
  -- by `grant`: so much is to be granted to one owner's budget, under this key
  to_grant : (amount : ℕ) → KeyedOwner → Work
  -- by `gap`: a program is to be run over two datasets of these tables
  to_compare : (tables : Signature) (X Y : Dataset) (program : List ℕ) → Work
  -- by `derive` and `judge`: a program's derivation is to be written, or judged
  of_derivation : Task → Work

-- what the steps of a command give, or the name that one refused
abbrev pub ended : Result Work (List ℕ) → Work
ended (Ok ending) = ending
ended (Err name) = refused name
