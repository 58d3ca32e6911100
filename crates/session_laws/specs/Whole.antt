-- Replies to which memory sufficed.
use Rattle.std.specs.Prelude.{⊤}
use Rattle.wire_lines.specs.Reply.{Replied, refused}
use Rattle.wire_lines.specs.Refusal.{by_number, no_memory}
use Rattle.wire_lines.specs.declared.refusal.NumberRefusal.TheVariants.{Lost}

-- The reply doesn't say that memory ran out, before a reservation (90) or after it (51).
abbrev pub HadMemory : Replied → Type 0
HadMemory (refused no_memory) = ⊥
HadMemory (refused (by_number (Lost n))) = ⊥
HadMemory reply = ⊤

-- The same of a line that may be of a program that takes too many walks: that one is told 90 however much memory there is.
abbrev pub HadMemoryFor : (takes_too_many : Type 0) → Replied → Type 0
HadMemoryFor takes_too_many (refused no_memory) = takes_too_many
HadMemoryFor takes_too_many reply = HadMemory reply
