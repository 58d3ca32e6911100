-- How a derivation is written: one pair of parentheses and one space round the sign of an infix type, no abbreviation.
use Rattle.std.specs.Prelude.{ℕ, ◌^◌, ◌==◌, if◌then◌else◌, List, [], ◌∷◌, ◌++◌, codes, decimal}
use Rattle.std.specs.List.{flat_map}
use Rattle.fz_frac.specs.Distance.{Distance, Fin, Inf}
use Rattle.fz_ast.specs.Types.{Ty, NumT, TextT, UnitT, TensorT, WithT, SumT, ArrowT, BangT, BagT}
use Rattle.derivation_lines.specs.Lines.{Said, Line}
use Rattle.derivation_lines.specs.Texts.{line_feed}

-- the most bytes that a derivation has
abbrev pub longest : ℕ
longest = 2 ^ 26

-- a whole number without a denominator, another fraction with one
abbrev pub amount_text : Distance → List ℕ
amount_text (Fin p q) = if q == 1 then decimal p else decimal p ++ (47 ∷ decimal q)
amount_text Inf = codes "inf"

-- `(a s b)`
abbrev pub infix_text : List ℕ → List ℕ → List ℕ → List ℕ
infix_text s a b = 40 ∷ (a ++ (32 ∷ (s ++ (32 ∷ (b ++ (41 ∷ []))))))

abbrev pub type_text : Ty → List ℕ
type_text NumT = codes "num"
type_text TextT = codes "text"
type_text UnitT = codes "unit"
type_text (TensorT A B) = infix_text (codes "*") (type_text A) (type_text B)
type_text (WithT A B) = infix_text (codes "&") (type_text A) (type_text B)
type_text (SumT A B) = infix_text (codes "+") (type_text A) (type_text B)
type_text (ArrowT A B) = infix_text (codes "-o") (type_text A) (type_text B)
type_text (BangT r A) = codes "![" ++ (amount_text r ++ (codes "] " ++ type_text A))
type_text (BagT A) = codes "bag " ++ type_text A

-- ` | x 1`
abbrev pub said_text : Said → List ℕ
said_text s = codes " | " ++ (s.name ++ (32 ∷ amount_text s.amount))

abbrev pub line_text : Line → List ℕ
line_text l = type_text l.ty ++ (flat_map said_text l.says ++ (line_feed ∷ []))

abbrev pub derivation_text : List Line → List ℕ
derivation_text lines = flat_map line_text lines
