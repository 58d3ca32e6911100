-- What is still to be written of a type.
use Rattle.std.specs.Prelude.{◌≡◌, ℕ, ◌<◌, List, [], ◌∷◌, ◌++◌, codes, length, ⊤}
use Rattle.fz_ast.specs.Types.{Ty}
use Rattle.fz_ast.specs.TypeNodes.{type_at}
use Rattle.derivation_lines.specs.Written.{type_text}
use Rattle.derivation_lines.specs.declared.write.Piece.{Piece}
use Rattle.derivation_lines.specs.declared.write.Piece.TheVariants.{Part, Star, Ampersand, Plus, Lollipop, Close}

abbrev pub piece_text : List Ty → Piece → List ℕ
piece_text T (Part n) = type_text (type_at T n)
piece_text T Star = codes " * "
piece_text T Ampersand = codes " & "
piece_text T Plus = codes " + "
piece_text T Lollipop = codes " -o "
piece_text T Close = codes ")"

-- the pieces' texts, the last piece's first
abbrev pub pending : List Ty → List Piece → List ℕ → List ℕ
pending T [] rest = rest
pending T (p ∷ ps) rest = pending T ps (piece_text T p ++ rest)

abbrev pub IsHeldPiece : List Ty → Piece → Type 0
IsHeldPiece T (Part n) = n < length T
IsHeldPiece T p = ⊤

abbrev pub AreHeldPieces : List Ty → List Piece → Type 0
AreHeldPieces T [] = ⊤
AreHeldPieces T (p ∷ ps) = IsHeldPiece T p × AreHeldPieces T ps

-- the bytes `before` and the pieces were all that there is to write, and the bytes `after` and these pieces are the same, with more bytes written
pub record Writes (T : List Ty) (before : List ℕ) (text : List ℕ) (left : List Piece) (after : List ℕ) (more : List Piece) : Type 0 where
  pub same : after ++ pending T more [] ≡ before ++ (text ++ pending T left [])
  pub longer : length before < length after
  pub held : AreHeldPieces T more
