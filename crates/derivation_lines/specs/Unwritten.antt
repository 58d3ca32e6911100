-- Why a derivation isn't written.
use Rattle.std.specs.Prelude.{◌<◌, List, length, ⊤}
use Rattle.derivation_lines.specs.Lines.{Line}
use Rattle.derivation_lines.specs.Written.{derivation_text, longest}
use Rattle.derivation_lines.specs.declared.write.WriteFault.{WriteFault}
use Rattle.derivation_lines.specs.declared.write.WriteFault.TheVariants.{TooLong, NoMemory}

abbrev pub ExplainsWrite : List Line → WriteFault → Type 0
ExplainsWrite lines TooLong = longest < length (derivation_text lines)
ExplainsWrite lines NoMemory = ⊤
