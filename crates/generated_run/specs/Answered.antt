-- A script that was answered over a house, the journal of whose first owner was empty.
use Rattle.std.specs.Prelude.{ℕ, List, []}
use Rattle.journal_records.specs.declared.records.Record.{Record}
use Rattle.owner_house.specs.House.{House}
use Rattle.session_laws.specs.SessionCore.Blocks.{crew_of, script_blocks}
use Rattle.session_laws.specs.SessionCore.Exchanges.{Exchange, AreOfScript}
use Rattle.session_laws.specs.SessionCore.Gathered.{AreGathered}

-- So many workers answered the script, each its own blocks, in any order, and these are the owner's records.
pub record IsAnsweredOver (house : House) (draws : ℕ → ℕ → ℕ → ℕ) (workers : ℕ) (script : List ℕ) (records : List Record) : Type 0 where
  pub exchanges : List Exchange
  pub turns : AreOfScript house script exchanges
  pub gathered : AreGathered house draws workers (crew_of workers 0 (script_blocks script)) 0 [] exchanges records
