-- Records without their answers.
use Rattle.std.specs.Prelude.{pos, List, map, option_map, unwrap_or}
use Rattle.journal_records.specs.declared.records.Outcome.{Outcome}
use Rattle.journal_records.specs.declared.records.Outcome.TheVariants.{Answered, Exhausted, Lost}
use Rattle.journal_records.specs.declared.records.Record.{Record}
use Rattle.journal_records.specs.declared.records.Settlement.{Settlement}
use Rattle.journal_records.specs.declared.records.Record.TheVariants.{Settle}
use Rattle.journal_records.specs.Records.{settlement_in}

abbrev pub bare_outcome : Outcome → Outcome
bare_outcome (Answered answer) = Answered (pos 0)
bare_outcome Exhausted = Exhausted
bare_outcome Lost = Lost

-- the record, with the answer set to 0 where it settles with one
abbrev pub bare_record : Record → Record
bare_record next = unwrap_or
    (option_map (λ (settlement : Settlement). Settle (record settlement { outcome = bare_outcome settlement.outcome })) (settlement_in next)) next

-- the records with every answer set to 0
abbrev pub without_answers : List Record → List Record
without_answers records = map bare_record records
