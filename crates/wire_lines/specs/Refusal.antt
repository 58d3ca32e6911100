-- Refusals, by who says them.
use Rattle.std.specs.Prelude.{ℕ, List, ◌≤◌, ⊤}
use Rattle.fz_frac.specs.Distance.{Distance}
use Rattle.fz_frac.specs.Sens.{distance_of}
use Rattle.wire_lines.specs.declared.refusal.TypeFault.{TypeFault}
use Rattle.wire_lines.specs.declared.refusal.LineRefusal.{LineRefusal}
use Rattle.wire_lines.specs.declared.refusal.LineRefusal.TheVariants.{Malformed, TooLong}
use Rattle.wire_lines.specs.declared.refusal.ProgramRefusal.{ProgramRefusal as ProgramRefusalAt}
use Rattle.wire_lines.specs.declared.refusal.ProgramRefusal.TheVariants.{NoToken, NoTerm, TooNested, IllTyped, TooSensitive, OutOfRange}
use Rattle.wire_lines.specs.declared.refusal.ProgramRefusal.TheVariants.{Unbounded, NoNumber, TooDeep, TooLong as ProgramTooLong, TooWide}
use Rattle.wire_lines.specs.declared.refusal.MoneyRefusal.{MoneyRefusal}
use Rattle.wire_lines.specs.declared.refusal.DiskRefusal.{DiskRefusal}
use Rattle.wire_lines.specs.declared.refusal.NumberRefusal.{NumberRefusal}
use Rattle.wire_lines.specs.declared.refusal.Refusal.{Refusal as RefusalAt}
use Rattle.wire_lines.specs.declared.refusal.Refusal.TheVariants.{Line, Program, Money, Disk, Number, NoMemory}

-- of a program, without where a table's name lies in memory; spans are from a byte to the one behind the last
pub data ProgramRefusal : Type 0 where
  no_token : (place : ℕ) → ProgramRefusal
  no_term : (token : ℕ) → ProgramRefusal
  too_nested : (depth : ℕ) → ProgramRefusal
  ill_typed : TypeFault → (from to : ℕ) → ProgramRefusal
  too_sensitive : (from to : ℕ) → Distance → ProgramRefusal
  out_of_range : (from to : ℕ) → ProgramRefusal
  unbounded : (table : List ℕ) → ProgramRefusal
  no_number : ProgramRefusal
  too_deep : (from to : ℕ) → ProgramRefusal
  too_long : (from to : ℕ) → ProgramRefusal
  too_wide : (from to width : ℕ) → ProgramRefusal

-- said by the line itself, of the program, by the budget, for the owner's disk, of a number, or for want of memory
pub data Refusal : Type 0 where
  by_line : LineRefusal → Refusal
  by_program : ProgramRefusal → Refusal
  by_money : MoneyRefusal → Refusal
  by_disk : DiskRefusal → Refusal
  by_number : NumberRefusal → Refusal
  no_memory : Refusal

-- what the form of a line alone is refused for: one of its first six words, or its length
abbrev pub IsFormRefusal : LineRefusal → Type 0
IsFormRefusal (Malformed word) = word ≤ 5
IsFormRefusal TooLong = ⊤
IsFormRefusal refusal = ⊥

-- what a refusal in the program's memory says
abbrev pub program_refusal_at : ProgramRefusalAt → ProgramRefusal
program_refusal_at (NoToken place) = no_token place
program_refusal_at (NoTerm token) = no_term token
program_refusal_at (TooNested depth) = too_nested depth
program_refusal_at (IllTyped fault from to) = ill_typed fault from to
program_refusal_at (TooSensitive from to sens) = too_sensitive from to (distance_of sens)
program_refusal_at (OutOfRange from to) = out_of_range from to
program_refusal_at (Unbounded table) = unbounded table.bytes.now
program_refusal_at NoNumber = no_number
program_refusal_at (TooDeep from to) = too_deep from to
program_refusal_at (ProgramTooLong from to) = too_long from to
program_refusal_at (TooWide from to width) = too_wide from to width

abbrev pub refusal_at : RefusalAt → Refusal
refusal_at (Line refusal) = by_line refusal
refusal_at (Program refusal) = by_program (program_refusal_at refusal)
refusal_at (Money refusal) = by_money refusal
refusal_at (Disk refusal) = by_disk refusal
refusal_at (Number refusal) = by_number refusal
refusal_at NoMemory = no_memory
