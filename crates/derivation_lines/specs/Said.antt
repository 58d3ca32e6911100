-- What the code's lines say, their types being numbers in an arena.
use Rattle.std.specs.Prelude.{List, map}
use Rattle.fz_frac.specs.Sens.{distance_of}
use Rattle.fz_ast.specs.Names.{name_of}
use Rattle.derivation_lines.specs.Lines.{Said}
use Rattle.derivation_lines.specs.declared.line.Said.{Said as Kept}

abbrev pub said_of : Kept → Said
said_of s = record { name = name_of s.name; amount = distance_of s.amount }

abbrev pub says_of : List Kept → List Said
says_of = map said_of
