-- The laws of the encoding.
use Rattle.std.specs.Prelude.{◌≡◌, length, slice_index}
use Rattle.journal_records.specs.declared.records.Record.{Record}
use Rattle.journal_records.specs.Encoding.{gate, encoded, IsValid}

-- No two records have the same encoding.
abbrev pub OneRecord : Type 0
OneRecord = (r s : Record) → IsValid r → IsValid s → encoded r ≡ encoded s → r ≡ s

-- A record's encoding has 64 bytes, and begins with the gate.
abbrev pub FillsASlot : Type 0
FillsASlot = (r : Record) → IsValid r → (length (encoded r) ≡ 64) × (slice_index (encoded r) 0 ≡ gate)
