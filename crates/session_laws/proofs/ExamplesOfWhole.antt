-- examples of replies to which memory sufficed
use Rattle.wire_lines.specs.Reply.{refused}
use Rattle.wire_lines.specs.Refusal.{by_disk, by_number, no_memory}
use Rattle.wire_lines.specs.declared.refusal.DiskRefusal.TheVariants.{Fault}
use Rattle.wire_lines.specs.declared.refusal.NumberRefusal.TheVariants.{Exhausted as NoNoise, Lost as NoAnswer}
use Rattle.session_core.specs.Said.{NothingFailed}
use Rattle.session_laws.specs.Whole.{HadMemory}

-- 50 is no fault; 51 and 90 say that memory ran out
no_noise : HadMemory (refused (by_number (NoNoise 0)))
no_noise = tt

ran_out_after : HadMemory (refused (by_number (NoAnswer 0))) → ⊥
ran_out_after had = had

ran_out_before : HadMemory (refused no_memory) → ⊥
ran_out_before had = had

-- of a disk that fails memory says nothing
disk_failed : HadMemory (refused (by_disk Fault))
disk_failed = tt

disk_failed_too : NothingFailed (refused (by_disk Fault)) → ⊥
disk_failed_too none = none
