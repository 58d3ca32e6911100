-- The bytes of a derivation: lines, each ended by LF; a line is cut at each bar into a type and names with amounts.
use Rattle.std.specs.Prelude.{◌≡◌, ◌≢◌, ◌<◌, ℕ, List, [], ◌∷◌, ◌++◌, length, Bool, true, not, ◌==◌, ◌⊎◌, ⊤}
use Rattle.std.specs.List.{slice_split}
use Rattle.fz_ast.specs.Types.{Ty}
use Rattle.fz_lexer.specs.Bytes.{every_byte}
use Rattle.fz_lexer.specs.Tokens.{AreTokens}
use Rattle.fz_lexer.specs.declared.token.Token.{Token}
use Rattle.fz_lexer.specs.declared.token.Kind.TheVariants.{Name as NameKind}
use Rattle.fz_parser.specs.Grammar.{IsTypeOf, IsSensitivityOf}
use Rattle.derivation_lines.specs.Lines.{Said, Line, AreInOrder}

-- LF
abbrev pub line_feed : ℕ
line_feed = 10

-- `|`
abbrev pub bar : ℕ
bar = 124

-- no byte is c
abbrev pub lacks : ℕ → List ℕ → Bool
lacks c text = every_byte (λ b. not (b == c)) text

-- the bytes are the type A
abbrev pub IsTypeText : List ℕ → Ty → Type 0
IsTypeText text A = (ts : List Token) × AreTokens text ts × IsTypeOf ts A

-- the bytes are a name and an amount, which is above 0
abbrev pub IsSaidText : List ℕ → Said → Type 0
IsSaidText text s = (t : Token) × (ts : List Token) × AreTokens text (t ∷ ts) × (t.kind ≡ NameKind s.name) × IsSensitivityOf ts s.amount

abbrev pub AreSaidTexts : List (List ℕ) → List Said → Type 0
AreSaidTexts [] [] = ⊤
AreSaidTexts (text ∷ texts) (s ∷ ss) = IsSaidText text s × AreSaidTexts texts ss
AreSaidTexts texts ss = ⊥

-- a type, and then what is said of names
abbrev pub ArePieces : List (List ℕ) → Line → Type 0
ArePieces [] l = ⊥
ArePieces (text ∷ texts) l = IsTypeText text l.ty × AreSaidTexts texts l.says

-- the bytes, without LF, are this line: its pieces stand between bars, and its names in byte order
pub record IsLineText (text : List ℕ) (l : Line) : Type 0 where
  pub pieces : ArePieces (slice_split (λ b. b == bar) text) l
  pub order : AreInOrder l.says

-- the bytes begin with these lines, each ended by LF, and then comes the rest
abbrev pub BeginWith : List ℕ → List Line → List ℕ → Type 0
BeginWith bytes [] rest = bytes ≡ rest
BeginWith bytes (l ∷ lines) rest =
    (text : List ℕ) × (more : List ℕ) × (bytes ≡ text ++ line_feed ∷ more) × (lacks line_feed text ≡ true) × IsLineText text l × BeginWith more lines rest

-- the bytes are these lines
abbrev pub AreLines : List ℕ → List Line → Type 0
AreLines bytes lines = BeginWith bytes lines []

-- no line begins the bytes: none is ended, or the first isn't of the form
abbrev pub NoLine : List ℕ → Type 0
NoLine bytes = (text more : List ℕ) (l : Line) → bytes ≡ text ++ line_feed ∷ more → lacks line_feed text ≡ true → IsLineText text l → ⊥

-- of n lines that are wanted, line k is missing, not ended or not of the form; or line n is too many
abbrev pub IsFaultyLine : List ℕ → ℕ → ℕ → Type 0
IsFaultyLine bytes n k =
    (lines : List Line) × (rest : List ℕ) × BeginWith bytes lines rest × (length lines ≡ k) × (((k < n) × NoLine rest) ⊎ ((k ≡ n) × (rest ≢ [])))
