-- Why bytes are no line, or no piece of one.
use Rattle.std.specs.Prelude.{ℕ, List, [], Option, Some, None, ⊤}
use Rattle.std.specs.Borrow.{Bor}
use Rattle.std.specs.List.{slice_split}
use Rattle.std.specs.Prelude.{◌==◌}
use Rattle.fz_ast.specs.Types.{Ty}
use Rattle.fz_lexer.specs.declared.token.LexFault.{LexFault}
use Rattle.fz_lexer.specs.declared.token.LexFault.TheVariants.{Bad, TooManyTokens, NoMemory as NoLexMemory}
use Rattle.fz_parser.specs.declared.fault.ParseFault.{ParseFault}
use Rattle.fz_parser.specs.declared.fault.ParseFault.TheVariants.{Stuck, TooNested, NoMemory as NoParseMemory}
use Rattle.derivation_lines.specs.Lines.{Said, Line, AreInOrder}
use Rattle.derivation_lines.specs.Texts.{bar, IsTypeText, IsSaidText, AreSaidTexts, IsLineText, IsFaultyLine}
use Rattle.derivation_lines.specs.declared.line.JudgeFault.{JudgeFault}
use Rattle.derivation_lines.specs.declared.line.JudgeFault.TheVariants.{Line as AtLine, NoMemory as NoJudgeMemory}
use Rattle.derivation_lines.specs.declared.lines.TextFault.{TextFault}
use Rattle.derivation_lines.specs.declared.lines.TextFault.TheVariants.{Form, NoMemory}

-- a fault of form says P, want of memory nothing
abbrev pub Explains : Type 0 → TextFault → Type 0
Explains P Form = P
Explains P NoMemory = ⊤

abbrev pub of_lexer : LexFault → TextFault
of_lexer (Bad place) = Form
of_lexer (TooManyTokens place) = Form
of_lexer NoLexMemory = NoMemory

abbrev pub of_parser : ParseFault → TextFault
of_parser (Stuck token) = Form
of_parser (TooNested depth) = Form
of_parser NoParseMemory = NoMemory

-- the bytes are no type, nothing said of a name, no line
abbrev pub NoTypeText : List ℕ → Type 0
NoTypeText text = (A : Ty) → IsTypeText text A → ⊥

abbrev pub NoSaidText : List ℕ → Type 0
NoSaidText text = (s : Said) → IsSaidText text s → ⊥

abbrev pub NoLineText : List ℕ → Type 0
NoLineText text = (l : Line) → IsLineText text l → ⊥

-- the pieces of a text between its bars
abbrev pub pieces_of : List ℕ → List (List ℕ)
pieces_of = slice_split (λ b. b == bar)

-- and of what is left behind a bar, if there is one
abbrev pub pieces_behind : Option (Bor (List ℕ)) → List (List ℕ)
pieces_behind None = []
pieces_behind (Some rest) = pieces_of rest.now

-- what is said in each piece, in byte order
pub record AreSaid (pieces : List (List ℕ)) (says : List Said) : Type 0 where
  pub are : AreSaidTexts pieces says
  pub order : AreInOrder says

abbrev pub NoneSaid : List (List ℕ) → Type 0
NoneSaid pieces = (says : List Said) → AreSaid pieces says → ⊥

-- of n lines that are wanted
abbrev pub ExplainsLines : List ℕ → ℕ → JudgeFault → Type 0
ExplainsLines bytes n (AtLine k) = IsFaultyLine bytes n k
ExplainsLines bytes n NoJudgeMemory = ⊤
