-- The numbers of statuses, and their lines.
use Rattle.std.specs.Prelude.{ℕ, List, ◌++◌, codes}
use Rattle.query_server.specs.declared.end.Status.{Status}
use Rattle.query_server.specs.declared.end.Status.TheVariants.{Done, ProgramRefused, Usage, Refused, JournalRefused, Fault}
use Rattle.query_server.specs.declared.end.Status.TheVariants.{DiskFault, NoMemory, ScriptTooLong, TooLarge, JournalFull, DerivationTooLong}

abbrev pub status_code : Status → ℕ
status_code Done = 0
status_code ProgramRefused = 1
status_code Usage = 2
status_code Refused = 3
status_code JournalRefused = 4
status_code Fault = 5
status_code DiskFault = 6
status_code NoMemory = 7
status_code ScriptTooLong = 8
status_code TooLarge = 9
status_code JournalFull = 10
status_code DerivationTooLong = 11

abbrev pub usage_text : List ℕ
usage_text = codes "usage\n"

abbrev pub refused_text : (name : List ℕ) → List ℕ
refused_text name = codes "refused " ++ name ++ codes "\n"

abbrev pub memory_text : List ℕ
memory_text = codes "memory\n"

abbrev pub too_long_text : List ℕ
too_long_text = codes "script too long\n"

abbrev pub derivation_too_long_text : List ℕ
derivation_too_long_text = codes "derivation too long\n"
