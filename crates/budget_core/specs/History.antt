-- An owner's entry, and the records so far.
use Rattle.std.specs.Prelude.{List}
use Rattle.journal_records.specs.declared.records.Record.{Record}
use Rattle.budget_core.specs.Entries.{Entry}

pub record History : Type 0 where
  pub entry : Entry
  pub records : List Record
