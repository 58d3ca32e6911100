use Rattle.std.proofs.Common.{◌≡◌, List, drop}
use Rattle.fz_ast.specs.Terms.{Name}
use Rattle.fz_ast.specs.Types.{Ty}
use Rattle.derivation_lines.specs.Held.{lines_in}
use Rattle.fz_derive.specs.Least.{said_of_each}
use Rattle.fz_derive.specs.Putting.{names_in}
use Rattle.derivation_rows.specs.Numbers.{Numbers}
use Rattle.derivation_rows.specs.Placed.{AreOne, number_of}
use Rattle.derivation_lines.specs.Said.{says_of}
use Rattle.fz_derive.proofs.Putting.{said_behind}
use Rattle.fz_derive.proofs.least_line.said_of_each.Given as goal

abbrev pub invariant-loop-name : goal.invariant-loop-name
invariant-loop-name l =
    (T : List Ty) (n : Numbers) → ((x : Name) → AreOne (number_of (lines_in T l.lines) l.numbers x) (n x))
    → said_of_each (names_in l.names) n ≡ said_behind (says_of l.says.items) (said_of_each (drop l.name-index (names_in l.names)) n)
