use Rattle.std.proofs.Common.{List, [], ◌∷◌, ◌++◌, take}
use Rattle.std.specs.List.{flat_map}
use Rattle.fz_ast.specs.Types.{Ty}
use Rattle.fz_ast.specs.TypeNodes.{type_at}
use Rattle.derivation_lines.specs.Counted.{AreCounts, IsCount}
use Rattle.derivation_lines.specs.Said.{says_of}
use Rattle.derivation_lines.specs.Texts.{line_feed}
use Rattle.derivation_lines.specs.Written.{said_text, type_text}
use Rattle.derivation_lines.proofs.count.line_length.Given as goal

abbrev pub invariant-loop-said : goal.invariant-loop-said
invariant-loop-said l = (T : List Ty) → AreCounts T l.lengths → IsCount (type_text (type_at T l.line.ty) ++ (flat_map said_text (says_of (take l.said-index l.said-items)) ++ (line_feed ∷ []))) l.length
