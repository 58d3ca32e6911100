use Rattle.std.proofs.Common.{◌≡◌, ◌++◌, take}
use Rattle.std.specs.List.{flat_map}
use Rattle.fz_ast.specs.TypeNodes.{type_at}
use Rattle.derivation_lines.specs.Said.{says_of}
use Rattle.derivation_lines.specs.Written.{said_text, type_text}
use Rattle.derivation_lines.proofs.write.put_line.Given as goal

abbrev pub invariant-loop-said : goal.invariant-loop-said
invariant-loop-said l = l.out.items ≡ l.fn.out.items ++ (type_text (type_at l.types l.line.ty) ++ flat_map said_text (says_of (take l.said-index l.said-items)))
